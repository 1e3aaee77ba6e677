use Rattle.std.proofs.Common.{◌-◌, ◌≤◌, length}
use Rattle.memchr.specs.Find.{Nowhere}
use Rattle.pg_literal.specs.Rows.{row_along, StandsAt}
use Rattle.pg_literal.proofs.row_finder.RowFinder.find.Given as goal

-- the row stands nowhere before the place
abbrev pub invariant-loop-at : goal.invariant-loop-at
invariant-loop-at g l = record {
  behind : l.tries ≤ l.at;
  within : l.at ≤ length l.bytes;
  nowhere : Nowhere (StandsAt l.bytes (row_along l.self.sets.items)) 0 l.at;
}

abbrev pub decreases-loop-at : goal.decreases-loop-at
decreases-loop-at g l = length l.bytes - l.at
