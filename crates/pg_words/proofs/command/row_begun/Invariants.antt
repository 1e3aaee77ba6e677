use Rattle.std.proofs.Common.{◌≡◌, ◌++◌, drop}
use Rattle.pg_words.specs.App.{opts_of}
use Rattle.pg_words.specs.Spelled.{names_begun}
use Rattle.pg_words.proofs.Table.{so_far}
use Rattle.pg_words.proofs.command.row_begun.Given as goal

abbrev pub invariant-loop-row : goal.invariant-loop-row
invariant-loop-row l =
    so_far l.only ++ names_begun (opts_of (drop l.row-index l.rows)) l.start ≡ names_begun (opts_of l.rows) l.start
