use Rattle.std.proofs.Common.{◌≡◌, drop}
use Rattle.pg_words.specs.App.{opts_of}
use Rattle.pg_words.specs.Joined.{takes_value}
use Rattle.pg_words.specs.Line.{by_letter}
use Rattle.pg_words.proofs.command.row_of_letter_has_value.Given as goal

abbrev pub invariant-loop-row : goal.invariant-loop-row
invariant-loop-row l =
    takes_value (by_letter (opts_of (drop l.row-index l.rows)) l.letter)
    ≡ takes_value (by_letter (opts_of l.rows) l.letter)
