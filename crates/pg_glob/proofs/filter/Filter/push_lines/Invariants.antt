use Rattle.std.proofs.Common.{length}
use Rattle.pg_glob.specs.GlobFiles.{rules_in}
use Rattle.pg_glob.specs.Views.{rules}
use Rattle.pg_glob.proofs.GlobFileLemmas.{rules_behind, HasAdded}
use Rattle.pg_glob.proofs.filter.Filter.push_lines.Given as goal

abbrev pub invariant-loop-byte : goal.invariant-loop-byte
invariant-loop-byte g l =
    HasAdded (rules_in l.fn.text) (rules l.fn.self) (rules l.self) (rules_behind l.line.items l.left)

abbrev pub decreases-loop-byte : goal.decreases-loop-byte
decreases-loop-byte g l = length l.left
