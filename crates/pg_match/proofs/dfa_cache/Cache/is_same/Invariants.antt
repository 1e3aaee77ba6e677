use Rattle.std.proofs.Common.{◌≡◌, ◌<◌, ◌+◌, ℕ, get_or}
use Rattle.pg_match.proofs.dfa_cache.Cache.is_same.Given as goal

abbrev pub invariant-loop-k : goal.invariant-loop-k
invariant-loop-k g l = (j : ℕ) → j < l.k → get_or l.self.pool.items (l.start + j) 0 ≡ get_or l.set.order.items j 0
