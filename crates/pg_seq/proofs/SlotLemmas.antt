-- Slots from the first on that have their results.
use Rattle.std.proofs.Common.{◌≡◌, ℕ, zero, suc, ◌+◌, ◌<◌, Bool, true, false, ◌&&◌, ◌||◌, cond, List, [], ◌∷◌, ◌++◌}
use Rattle.std.proofs.Common.{length, map, refl, sym, ap, ◌∙◌, subst, arith, Option, Some, IfSome}
use Rattle.std.specs.Bool.{MatchBool}
use Rattle.std.proofs.lemmas.Bool.{or_right}
use Rattle.std.specs.List.{list_all, list_any, AllByRecursion, AllWithin, HoldsAt}
use Rattle.pg_selection.specs.Search.{Search}
use Rattle.pg_selection.specs.Searched.{SearchedBlock}
use Rattle.pg_seq.specs.declared.slot.Slot.{Slot}
use Rattle.pg_seq.specs.Slots.{has_result, slot_block, slot_selects, IsResultOf}

-- how far the slots are ready
pub cond_pos : (b : Bool) (n : ℕ) → 0 < cond b (1 + n) 0 → b ≡ true
cond_pos true n h = refl
cond_pos false n h = absurd (omega arith)

module _ {A : Type 0} where
  -- whether all slots have their results
  pub all_behind : (gone slots : List (Slot A)) → AllByRecursion (λ slot. has_result slot ≡ true) gone
      → list_all (λ b. b) (map has_result (gone ++ slots)) ≡ list_all has_result slots
  all_behind [] slots h = held slots
    where
      held : (xs : List (Slot A)) → list_all (λ b. b) (map has_result xs) ≡ list_all has_result xs
      held [] = refl
      held (x ∷ xs) = ap (λ b. has_result x && b) (held xs)
  all_behind (x ∷ gone) slots h = ap (λ b. b && list_all (λ t. t) (map has_result (gone ++ slots))) h.0
      ∙ all_behind gone slots h.1

  -- a result of the query has its text
  pub query_of : (slot : Slot A) (r : SearchedBlock) (q : Search) → IsResultOf q slot → slot.result ≡ Some r
      → r.query ≡ q.text
  query_of slot r q h e =
      let P : Option SearchedBlock → Type 0 = λ o. IfSome o (λ x. (x.query ≡ q.text) × (x.block ≡ slot_block slot)) in
      (subst P e h).0

  -- what `any` answers of slots whose results are the query's
  pub any_by_cases : (q : Search) (r : Bool) (slots : List (Slot A)) → AllByRecursion (IsResultOf q) slots
      → MatchBool r ((k : ℕ) × (k < length slots) × HoldsAt (λ x. IsResultOf q x → slot_selects q x ≡ true) slots k)
      (AllWithin (λ x. IsResultOf q x → slot_selects q x ≡ false) slots 0 (length slots))
      → r ≡ list_any (slot_selects q) slots
  any_by_cases q true slots are h = sym (one slots h.0 are h.1 h.2)
    where
      one : (xs : List (Slot A)) (k : ℕ) → AllByRecursion (IsResultOf q) xs → k < length xs
          → HoldsAt (λ x. IsResultOf q x → slot_selects q x ≡ true) xs k → list_any (slot_selects q) xs ≡ true
      one [] k are below h = absurd (omega arith)
      one (x ∷ xs) zero are below h = ap (λ b. b || list_any (slot_selects q) xs) (h x are.0)
      one (x ∷ xs) (suc k) are below h = ap (λ b. slot_selects q x || b) (one xs k are.1 (omega arith) h)
          ∙ or_right (slot_selects q x) true refl
  any_by_cases q false slots are h = sym (none slots are h)
    where
      none : (xs : List (Slot A)) → AllByRecursion (IsResultOf q) xs
          → AllWithin (λ x. IsResultOf q x → slot_selects q x ≡ false) xs 0 (length xs)
          → list_any (slot_selects q) xs ≡ false
      none [] are h = refl
      none (x ∷ xs) are h = ap (λ b. b || list_any (slot_selects q) xs) (h 0 x (omega arith) (omega arith) are.0)
          ∙ none xs are.1 (λ k d low high. h (suc k) d (omega arith) (omega arith))
