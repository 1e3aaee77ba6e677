use Rattle.std.proofs.Common.{◌≡◌, ◌≢◌, ℕ, ◌<◌, length}
use Rattle.pg_match.specs.StateSets.{mark, listed}
use Rattle.pg_match.specs.Views.{members}
use Rattle.pg_match.proofs.sparse_set.StateSet.clear.Given as goal

abbrev pub invariant-loop-k : goal.invariant-loop-k
invariant-loop-k g l = record {
  order : l.self.order.items ≡ l.initial.self.order.items;
  same_len : l.self.len ≡ l.initial.self.len;
  same_added : (members l.self).added ≡ (members l.initial.self).added;
  size : length l.self.marks.items ≡ length l.initial.self.marks.items;
  left : (q : ℕ) → 0 < mark (members l.self) q
      → (0 < mark (members l.initial.self) q) × ((j : ℕ) → j < l.k → listed (members l.initial.self) j ≢ q);
}
