use Rattle.std.proofs.Common.{List, ◌≡◌, true, drop}
use Rattle.clap.specs.Words.{found_of}
use Rattle.pg_words.specs.Found.{IsOfUses}
use Rattle.pg_words.specs.Line.{Use}
use Rattle.pg_words.specs.Options.{are_flags}
use Rattle.pg_words.proofs.Modes.{IsBehind}
use Rattle.pg_words.proofs.matches.modes_among.Given as goal

abbrev pub invariant-loop-option : goal.invariant-loop-option
invariant-loop-option l =
    (us : List Use) → IsOfUses us (found_of l.found) → are_flags l.options ≡ true
    → IsBehind l.only (drop l.option-index l.options) l.options us
