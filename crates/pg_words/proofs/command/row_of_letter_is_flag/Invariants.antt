use Rattle.std.proofs.Common.{◌≡◌, drop}
use Rattle.pg_words.specs.App.{opts_of}
use Rattle.pg_words.specs.Line.{by_letter}
use Rattle.pg_words.specs.Spelled.{is_flag}
use Rattle.pg_words.proofs.command.row_of_letter_is_flag.Given as goal

abbrev pub invariant-loop-row : goal.invariant-loop-row
invariant-loop-row l =
    is_flag (by_letter (opts_of (drop l.row-index l.rows)) l.letter)
    ≡ is_flag (by_letter (opts_of l.rows) l.letter)
