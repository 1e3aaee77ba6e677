use Rattle.memchr.specs.Find.{Nowhere}
use Rattle.pg_literal.specs.Rows.{row_along, StandsAt}
use Rattle.pg_literal.proofs.row_finder.RowFinder.find_by_trying.Given as goal

-- the row stands nowhere before the place
abbrev pub invariant-loop-at : goal.invariant-loop-at
invariant-loop-at g l = Nowhere (StandsAt l.bytes (row_along l.self.sets.items)) l.from l.at
