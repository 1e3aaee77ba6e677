-- A line has at most one next part.
use Rattle.std.proofs.Common.{◌≡◌, ℕ, ◌≤◌, inl, inr, List, sym, subst, arith}
use Rattle.std.proofs.lemmas.Bool.{cases_lt}
use Rattle.pg_pattern.specs.Patterns.{Pattern}
use Rattle.pg_pattern.specs.Hits.{Hit, IsNext}
use Rattle.pg_pattern.specs.declared.bounds.Bounds.{Bounds}

module _ (patterns : List Pattern) (bounds : Bounds) (line : List ℕ) (place : ℕ) where
  -- none starts before another
  not_before : (i j i' j' : ℕ) → IsNext patterns bounds line place i j → IsNext patterns bounds line place i' j'
      → i ≤ i'
  not_before i j i' j' a b = elim (cases_lt i' i) [
    | inl less ↦ absurd (a.first i' j' b.later less b.some b.hit)
    | inr le ↦ le
  ]

  pub next_is_one : (i j i' j' : ℕ) → IsNext patterns bounds line place i j
      → IsNext patterns bounds line place i' j' → (i ≡ i') × (j ≡ j')
  next_is_one i j i' j' a b =
      let le = not_before i j i' j' a b in
      let ge = not_before i' j' i j b a in
      let same : i ≡ i' = omega arith in
      let up = a.longest j' (subst (λ v. Hit patterns bounds line v j') (sym same) b.hit) in
      let down = b.longest j (subst (λ v. Hit patterns bounds line v j) same a.hit) in
      (same, omega arith)
