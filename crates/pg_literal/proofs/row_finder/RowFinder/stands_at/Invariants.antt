use Rattle.std.proofs.Common.{◌≡◌, ◌+◌, ◌<◌, ℕ, true, get_or}
use Rattle.pg_bytes.specs.Sets.{empty}
use Rattle.pg_literal.specs.Rows.{row_along}
use Rattle.pg_literal.proofs.row_finder.RowFinder.stands_at.Given as goal

-- the first k sets stand
abbrev pub invariant-loop-k : goal.invariant-loop-k
invariant-loop-k g l =
    (j : ℕ) → j < l.k → get_or (row_along l.self.sets.items) j empty (get_or l.bytes (l.at + j) 0) ≡ true
