use Rattle.std.proofs.Common.{◌≡◌, length}
use Rattle.pg_glob.specs.Filters.{matches_behind_slash}
use Rattle.pg_glob.specs.Views.{pieces}
use Rattle.pg_glob.proofs.filter.matches_behind_slash.Given as goal

abbrev pub invariant-loop-byte : goal.invariant-loop-byte
invariant-loop-byte g l =
    matches_behind_slash (pieces l.glob) l.left ≡ matches_behind_slash (pieces l.glob) l.fn.path

abbrev pub decreases-loop-byte : goal.decreases-loop-byte
decreases-loop-byte g l = length l.left
