use Rattle.std.proofs.Common.{◌≡◌, map, take}
use Rattle.pg_bytes.specs.ByteSets.{bytes}
use Rattle.pg_literal.specs.Needed.{without}
use Rattle.pg_literal.proofs.row_finder.within_lines.Given as goal

-- the sets so far are those of the row
abbrev pub invariant-loop-set : goal.invariant-loop-set
invariant-loop-set g l = map bytes l.sets.items ≡ map (without l.end) (map bytes (take l.set-index l.row))
