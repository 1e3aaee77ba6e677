-- What a table that implements a tree does: its runs are the tree's matches, in both directions.
use Rattle.std.proofs.Common.{◌≡◌, ◌≢◌, ℕ, zero, suc, ◌+◌, ◌-◌, ◌≤◌, inl, inr, List, Option, Some, None, refl, sym, ap}
use Rattle.std.proofs.Common.{◌∙◌, subst, arith}
use Rattle.std.specs.Prelude.{slice_get, IfSome}
use Rattle.pg_pattern.specs.Matches.{Chain, Match}
use Rattle.pg_pattern.specs.Patterns.{IsProper, Pattern, Empty, Set, Begin, End, Cat, Alt, Rep}
use Rattle.pg_match.specs.Automata.{Edge, Runs}
use Rattle.pg_match.specs.Tables.{Optional, Loop, AfterCopies, Implements}
use Rattle.pg_match.specs.declared.state.State.{State}
use Rattle.pg_match.specs.declared.state.State.TheVariants.{Accept, Jump, Read, AtBegin, AtEnd, Split}

-- the counts of a repetition are in order
abbrev InOrder : ℕ → Option ℕ → Type 0
InOrder m b = IfSome b (λ n. m ≤ n)

-- no more than the greatest count, if there is one
abbrev AtMost : Option ℕ → ℕ → Type 0
AtMost b c = IfSome b (λ n. c ≤ n)

chain_append : (M : ℕ → ℕ → Type 0) (c d i k j : ℕ) → Chain M c i k → Chain M d k j → Chain M (c + d) i j
chain_append M zero d i k j a b =
    let n : zero + d ≡ d = omega arith in
    rw n (subst (λ v. Chain M d v j) (sym a) b)
chain_append M (suc c) d i k j a b =
    let n : suc c + d ≡ suc (c + d) = omega arith in
    rw n (a.0, a.1, chain_append M c d a.0 k j a.2 b)

chain_split : (M : ℕ → ℕ → Type 0) (c d i j : ℕ) → Chain M (c + d) i j → (k : ℕ) × Chain M c i k × Chain M d k j
chain_split M zero d i j h =
    let n : zero + d ≡ d = omega arith in
    (i, refl, subst (λ v. Chain M v i j) n h)
chain_split M (suc c) d i j h =
    let n : suc c + d ≡ suc (c + d) = omega arith in
    let h' : Chain M (suc (c + d)) i j = subst (λ v. Chain M v i j) n h in
    let r = chain_split M c d h'.0 j h'.2 in
    (r.0, (h'.0, h'.1, r.1), r.2)

module _ (t : List State) (l : List ℕ) where
  -- each run from e is a match and a run from x that is no longer
  abbrev Sound : (ℕ → ℕ → Type 0) → (ℕ → ℕ → Type 0) → Type 0
  Sound R M = (e x n i j : ℕ) → R e x → Runs t l n e i j
      → (k : ℕ) × (m : ℕ) × (m ≤ n) × M i k × Runs t l m x k j

  -- each match before a run from x is a run from e
  abbrev Complete : (ℕ → ℕ → Type 0) → (ℕ → ℕ → Type 0) → Type 0
  Complete R M = (e x i k m j : ℕ) → R e x → M i k → Runs t l m x k j → (n : ℕ) × Runs t l n e i j

  pub on_state : (q n i j : ℕ) (s : State) → slice_get t q ≡ Some s → Runs t l (suc n) q i j
      → (r : ℕ) × (k : ℕ) × Edge (Some s) l i r k × Runs t l n r k j
  on_state q n i j s is run = (run.0, run.1, subst (λ o. Edge o l i run.0 run.1) is run.2, run.3)

  pub by_edge : (q n i j r k : ℕ) (s : State) → slice_get t q ≡ Some s → Edge (Some s) l i r k → Runs t l n r k j
      → Runs t l (suc n) q i j
  by_edge q n i j r k s is edge run = (r, k, subst (λ o. Edge o l i r k) (sym is) edge, run)

  pub not_over : (q i j : ℕ) (s : State) → s ≢ Accept → slice_get t q ≡ Some s → Runs t l zero q i j → ⊥
  not_over q i j s other is run = let e : Some s ≡ Some Accept = sym is ∙ run.0 in other (cc)

  -- a state with one way on
  one_sound : (s : State) (M : ℕ → ℕ → Type 0) (e x n i j : ℕ) → s ≢ Accept
      → ((r k : ℕ) → Edge (Some s) l i r k → M i k × (r ≡ x))
      → slice_get t e ≡ Some s → Runs t l n e i j
      → (k : ℕ) × (m : ℕ) × (m ≤ n) × M i k × Runs t l m x k j
  one_sound s M e x zero i j other way is run = absurd (not_over e i j s other is run)
  one_sound s M e x (suc n) i j other way is run =
      let a = on_state e n i j s is run in
      let w = way a.0 a.1 a.2 in
      (a.1, n, omega arith, w.0, subst (λ q. Runs t l n q a.1 j) w.1 a.3)

  chain_sound : (R M : ℕ → ℕ → Type 0) → Sound R M → (c : ℕ) → Sound (Chain R c) (Chain M c)
  chain_sound R M s zero e x n i j h run = (i, n, omega arith, refl, subst (λ q. Runs t l n q i j) h run)
  chain_sound R M s (suc c) e x n i j h run =
      let a = s e h.0 n i j h.1 run in
      let b = chain_sound R M s c h.0 x a.1 a.0 j h.2 a.4 in
      let le : b.1 ≤ n = omega (arith, a.2, b.2) in
      (b.0, b.1, le, (a.0, a.3, b.3), b.4)

  chain_complete : (R M : ℕ → ℕ → Type 0) → Complete R M → (c : ℕ) → Complete (Chain R c) (Chain M c)
  chain_complete R M s zero e x i k m j h a run =
      (m, subst (λ q. Runs t l m q i j) (sym h) (subst (λ v. Runs t l m x v j) (sym a) run))
  chain_complete R M s (suc c) e x i k m j h a run =
      let b = chain_complete R M s c h.0 x a.0 k m j h.2 a.2 run in
      s e h.0 i a.0 b.0 j h.1 a.1 b.1

  optional_sound : (R M : ℕ → ℕ → Type 0) → Sound R M → (c : ℕ)
      → Sound (Optional t R c) (λ i k. (d : ℕ) × (d ≤ c) × Chain M d i k)
  optional_sound R M s zero e x n i j h run =
      (i, n, omega arith, (0, omega arith, refl), subst (λ q. Runs t l n q i j) h run)
  optional_sound R M s (suc c) e x zero i j h run = absurd (not_over e i j (Split h.0 x) (λ w. cc) h.2 run)
  optional_sound R M s (suc c) e x (suc n) i j h run =
      let a = on_state e n i j (Split h.0 x) h.2 run in
      elim a.2.0 [
        | inl first ↦
            let run1 : Runs t l n h.0 i j =
            subst (λ q. Runs t l n q i j) first (subst (λ v. Runs t l n a.0 v j) a.2.1 a.3) in
            let b = s h.0 h.1 n i j h.3 run1 in
            let d = optional_sound R M s c h.1 x b.1 b.0 j h.4 b.4 in
            let le : d.1 ≤ suc n = omega (arith, b.2, d.2) in
            let few : suc d.3.0 ≤ suc c = omega (arith, d.3.1) in
            (d.0, d.1, le, (suc d.3.0, few, (b.0, b.3, d.3.2)), d.4)
        | inr second ↦
            let run1 : Runs t l n x i j =
            subst (λ q. Runs t l n q i j) second (subst (λ v. Runs t l n a.0 v j) a.2.1 a.3) in
            (i, n, omega arith, (0, omega arith, refl), run1)
      ]

  optional_complete : (R M : ℕ → ℕ → Type 0) → Complete R M → (c d e x i k m j : ℕ) → d ≤ c
      → Optional t R c e x → Chain M d i k → Runs t l m x k j → (n : ℕ) × Runs t l n e i j
  optional_complete R M s zero zero e x i k m j few h a run =
      (m, subst (λ q. Runs t l m q i j) (sym h) (subst (λ v. Runs t l m x v j) (sym a) run))
  optional_complete R M s zero (suc d) e x i k m j few h a run = absurd (omega arith)
  optional_complete R M s (suc c) zero e x i k m j few h a run =
      (suc m, by_edge e m i j x i (Split h.0 x) h.2 (inr refl, refl) (subst (λ v. Runs t l m x v j) (sym a) run))
  optional_complete R M s (suc c) (suc d) e x i k m j few h a run =
      let le : d ≤ c = omega arith in
      let b = optional_complete R M s c d h.1 x a.0 k m j le h.4 a.2 run in
      let f = s h.0 h.1 i a.0 b.0 j h.3 a.1 b.1 in
      (suc f.0, by_edge e f.0 i j h.0 i (Split h.0 x) h.2 (inl refl, refl) f.1)

  loop_sound : (R M : ℕ → ℕ → Type 0) → Sound R M → (fuel n e x i j : ℕ) → n ≤ fuel
      → Loop t R e x → Runs t l n e i j
      → (k : ℕ) × (m : ℕ) × (m ≤ n) × ((d : ℕ) × Chain M d i k) × Runs t l m x k j
  loop_sound R M s fuel zero e x i j le h run = absurd (not_over e i j (Split h.0 x) (λ w. cc) h.1 run)
  loop_sound R M s zero (suc n) e x i j le h run = absurd (omega arith)
  loop_sound R M s (suc fuel) (suc n) e x i j le h run =
      let a = on_state e n i j (Split h.0 x) h.1 run in
      elim a.2.0 [
        | inl first ↦
            let run1 : Runs t l n h.0 i j =
            subst (λ q. Runs t l n q i j) first (subst (λ v. Runs t l n a.0 v j) a.2.1 a.3) in
            let b = s h.0 e n i j h.2 run1 in
            let le1 : b.1 ≤ fuel = omega (arith, b.2) in
            let d = loop_sound R M s fuel b.1 e x b.0 j le1 h b.4 in
            let le2 : d.1 ≤ suc n = omega (arith, b.2, d.2) in
            (d.0, d.1, le2, (suc d.3.0, (b.0, b.3, d.3.1)), d.4)
        | inr second ↦
            let run1 : Runs t l n x i j =
            subst (λ q. Runs t l n q i j) second (subst (λ v. Runs t l n a.0 v j) a.2.1 a.3) in
            (i, n, omega arith, (0, refl), run1)
      ]

  loop_complete : (R M : ℕ → ℕ → Type 0) → Complete R M → (d e x i k m j : ℕ)
      → Loop t R e x → Chain M d i k → Runs t l m x k j → (n : ℕ) × Runs t l n e i j
  loop_complete R M s zero e x i k m j h a run =
      (suc m, by_edge e m i j x i (Split h.0 x) h.1 (inr refl, refl) (subst (λ v. Runs t l m x v j) (sym a) run))
  loop_complete R M s (suc d) e x i k m j h a run =
      let b = loop_complete R M s d e x a.0 k m j h a.2 run in
      let f = s h.0 e i a.0 b.0 j h.2 a.1 b.1 in
      (suc f.0, by_edge e f.0 i j h.0 i (Split h.0 x) h.1 (inl refl, refl) f.1)

  -- what follows the copies matches any rounds up to the bound
  rest_sound : (R M : ℕ → ℕ → Type 0) → Sound R M → (m : ℕ) (b : Option ℕ) → InOrder m b
      → Sound (AfterCopies t R m b) (λ i k. (d : ℕ) × AtMost b (m + d) × Chain M d i k)
  rest_sound R M s m None order e x n i j h run =
      let a = loop_sound R M s n n e x i j (omega arith) h run in
      (a.0, a.1, a.2, (a.3.0, tt, a.3.1), a.4)
  rest_sound R M s m (Some b) order e x n i j h run =
      let a = optional_sound R M s (b - m) e x n i j h run in
      let le : m + a.3.0 ≤ b = omega (arith, a.3.1) in
      (a.0, a.1, a.2, (a.3.0, le, a.3.2), a.4)

  rest_complete : (R M : ℕ → ℕ → Type 0) → Complete R M → (m : ℕ) (b : Option ℕ) (d e x i k n j : ℕ)
      → AtMost b (m + d) → AfterCopies t R m b e x → Chain M d i k → Runs t l n x k j → (v : ℕ) × Runs t l v e i j
  rest_complete R M s m None d e x i k n j few h a run = loop_complete R M s d e x i k n j h a run
  rest_complete R M s m (Some b) d e x i k n j few h a run =
      optional_complete R M s (b - m) d e x i k n j (omega arith) h a run

  pub tree_sound : (r : Pattern) → IsProper r → Sound (Implements t r) (Match r l)
  tree_sound Empty proper e x n i j h run =
      one_sound (Jump x) (Match Empty l) e x n i j (λ w. cc) (λ r k g. (sym g.1, g.0)) h run
  tree_sound (Set s) proper e x n i j h run =
      one_sound (Read h.0 x) (Match (Set s) l) e x n i j (λ w. cc)
      (λ r k g. ((g.0, g.1, ap (λ v. v g.0) (sym h.1) ∙ g.2, g.4), g.3)) h.2 run
  tree_sound Begin proper e x n i j h run =
      one_sound (AtBegin x) (Match Begin l) e x n i j (λ w. cc) (λ r k g. ((g.0, g.2), g.1)) h run
  tree_sound End proper e x n i j h run =
      one_sound (AtEnd x) (Match End l) e x n i j (λ w. cc) (λ r k g. ((g.0, g.2), g.1)) h run
  tree_sound (Cat a b) proper e x n i j h run =
      let u = tree_sound a proper.0 e h.0 n i j h.1 run in
      let v = tree_sound b proper.1 h.0 x u.1 u.0 j h.2 u.4 in
      let le : v.1 ≤ n = omega (arith, u.2, v.2) in
      (v.0, v.1, le, (u.0, u.3, v.3), v.4)
  tree_sound (Alt a b) proper e x zero i j h run = absurd (not_over e i j (Split h.0 h.1) (λ w. cc) h.2 run)
  tree_sound (Alt a b) proper e x (suc n) i j h run =
      let u = on_state e n i j (Split h.0 h.1) h.2 run in
      elim u.2.0 [
        | inl first ↦
            let run1 : Runs t l n h.0 i j =
            subst (λ s. Runs t l n s i j) first (subst (λ v. Runs t l n u.0 v j) u.2.1 u.3) in
            let v = tree_sound a proper.0 h.0 x n i j h.3 run1 in
            let le : v.1 ≤ suc n = omega (arith, v.2) in
            (v.0, v.1, le, inl v.3, v.4)
        | inr second ↦
            let run1 : Runs t l n h.1 i j =
            subst (λ s. Runs t l n s i j) second (subst (λ v. Runs t l n u.0 v j) u.2.1 u.3) in
            let v = tree_sound b proper.1 h.1 x n i j h.4 run1 in
            let le : v.1 ≤ suc n = omega (arith, v.2) in
            (v.0, v.1, le, inr v.3, v.4)
      ]
  tree_sound (Rep r m b) proper e x n i j h run =
      let u = chain_sound (Implements t r) (Match r l) (tree_sound r proper.0) m e h.0 n i j h.1 run in
      let v = rest_sound (Implements t r) (Match r l) (tree_sound r proper.0) m b proper.1 h.0 x u.1 u.0 j h.2 u.4 in
      let le : v.1 ≤ n = omega (arith, u.2, v.2) in
      (v.0, v.1, le, (m + v.3.0, omega arith, v.3.1, chain_append (Match r l) m v.3.0 i u.0 v.0 u.3 v.3.2), v.4)

  pub tree_complete : (r : Pattern) → Complete (Implements t r) (Match r l)
  tree_complete Empty e x i k m j h a run = (suc m, by_edge e m i j x k (Jump x) h (refl, sym a) run)
  tree_complete (Set s) e x i k m j h a run =
      (suc m, by_edge e m i j x k (Read h.0 x) h.2 (a.0, a.1, ap (λ v. v a.0) h.1 ∙ a.2, refl, a.3) run)
  tree_complete Begin e x i k m j h a run = (suc m, by_edge e m i j x k (AtBegin x) h (a.0, refl, a.1) run)
  tree_complete End e x i k m j h a run = (suc m, by_edge e m i j x k (AtEnd x) h (a.0, refl, a.1) run)
  tree_complete (Cat a b) e x i k m j h s run =
      let v = tree_complete b h.0 x s.0 k m j h.2 s.2 run in
      tree_complete a e h.0 i s.0 v.0 j h.1 s.1 v.1
  tree_complete (Alt a b) e x i k m j h s run =
      elim s [
        | inl first ↦
            let v = tree_complete a h.0 x i k m j h.3 first run in
            (suc v.0, by_edge e v.0 i j h.0 i (Split h.0 h.1) h.2 (inl refl, refl) v.1)
        | inr second ↦
            let v = tree_complete b h.1 x i k m j h.4 second run in
            (suc v.0, by_edge e v.0 i j h.1 i (Split h.0 h.1) h.2 (inr refl, refl) v.1)
      ]
  tree_complete (Rep r m b) e x i k n j h s run =
      let split : m + (s.0 - m) ≡ s.0 = omega (arith, s.1) in
      let parts = chain_split (Match r l) m (s.0 - m) i k (subst (λ c. Chain (Match r l) c i k) (sym split) s.3) in
      let few : AtMost b (m + (s.0 - m)) = subst (λ c. AtMost b c) (sym split) s.2 in
      let v = rest_complete (Implements t r) (Match r l) (tree_complete r) m b
      (s.0 - m) h.0 x parts.0 k n j few h.2 parts.2 run in
      chain_complete (Implements t r) (Match r l) (tree_complete r) m e h.0 i parts.0 v.0 j h.1 parts.1 v.1
