-- The front of a plan: its longest beginning each of whose blocks was taken.
use Rattle.std.proofs.Common.{◌≡◌, ℕ, ◌+◌, Bool, true, false, ◌&&◌, cond, List, [], ◌∷◌, length, map, refl}
use Rattle.std.proofs.Common.{ap, arith}
use Rattle.std.specs.List.{list_all}
use Rattle.std.proofs.lemmas.Bool.{and_parts}
use Rattle.pg_blocks.specs.Blocks.{BlockData}
use Rattle.pg_seq.specs.declared.slot.Slot.{Slot}
use Rattle.pg_plan.specs.Plan.{Step, IsShaped}
use Rattle.pg_plan.specs.History.{all_taken, front}
use Rattle.pg_seq.specs.Slots.{has_result, ready}

-- what holds of a plan and of each beginning of it holds of its front
either : (P : List Step → Type 0) (t : Bool) (a b : List Step) → P a → P b → P (cond t a b)
either P true a b x y = x
either P false a b x y = y

front_keeps : (P : List Step → Type 0) → ((s : Step) (p : List Step) → P (s ∷ p) → P p)
    → (taken : List (ℕ × ℕ)) (p : List Step) → P p → P (front taken p)
front_keeps P tail taken [] h = h
front_keeps P tail taken (s ∷ p) h = either P (all_taken taken (s ∷ p)) (s ∷ p) (front taken p) h
    (front_keeps P tail taken p (tail s p h))

pub front_shaped : (end : ℕ) (taken : List (ℕ × ℕ)) (p : List Step) → IsShaped end p → IsShaped end (front taken p)
front_shaped end taken p h = front_keeps (λ x. IsShaped end x) (λ s p h. h.1) taken p h

-- the front is all of the plan where all slots are ready
pub all_map : (t : BlockData → Bool) (bs : List BlockData) → list_all t bs ≡ list_all (λ b. b) (map t bs)
all_map t [] = refl
all_map t (b ∷ bs) = ap (λ v. t b && v) (all_map t bs)

pub front_all : (taken : List (ℕ × ℕ)) (p : List Step) → all_taken taken p ≡ true → front taken p ≡ p
front_all taken [] e = refl
front_all taken (s ∷ p) e = ap (λ t. cond t (s ∷ p) (front taken p)) e

front_taken_by : (taken : List (ℕ × ℕ)) (s : Step) (p : List Step) (t : Bool) → all_taken taken (s ∷ p) ≡ t
    → all_taken taken (front taken p) ≡ true → all_taken taken (cond t (s ∷ p) (front taken p)) ≡ true
front_taken_by taken s p true e h = e
front_taken_by taken s p false e h = h

pub front_taken : (taken : List (ℕ × ℕ)) (p : List Step) → all_taken taken (front taken p) ≡ true
front_taken taken [] = refl
front_taken taken (s ∷ p) = front_taken_by taken s p (all_taken taken (s ∷ p)) refl (front_taken taken p)

module _ {A : Type 0} where
  pub ready_all : (slots : List (Slot A)) → list_all (λ b. b) (map has_result slots) ≡ true → ready slots ≡ length slots
  ready_all [] e = refl
  ready_all (x ∷ slots) e =
      let p = and_parts (has_result x) (list_all (λ b. b) (map has_result slots)) e in
      let h : cond (has_result x) (1 + ready slots) 0 ≡ 1 + ready slots = ap (λ b. cond b (1 + ready slots) 0) p.0 in
      let ih = ready_all slots p.1 in
      omega arith
