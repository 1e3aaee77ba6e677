use Rattle.std.proofs.Common.{◌≡◌, drop, is_some}
use Rattle.pg_words.specs.App.{opts_of}
use Rattle.pg_words.specs.Line.{by_name}
use Rattle.pg_words.proofs.command.row_is_called.Given as goal

abbrev pub invariant-loop-row : goal.invariant-loop-row
invariant-loop-row l =
    is_some (by_name (opts_of (drop l.row-index l.rows)) l.name) ≡ is_some (by_name (opts_of l.rows) l.name)
