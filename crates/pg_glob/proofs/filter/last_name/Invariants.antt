use Rattle.std.proofs.Common.{◌≡◌, length}
use Rattle.pg_glob.specs.Filters.{last_name}
use Rattle.pg_glob.proofs.filter.last_name.Given as goal

abbrev pub invariant-loop-byte : goal.invariant-loop-byte
invariant-loop-byte l = last_name l.name l.left ≡ last_name l.fn.path l.fn.path

abbrev pub decreases-loop-byte : goal.decreases-loop-byte
decreases-loop-byte l = length l.left
