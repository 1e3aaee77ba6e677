-- Lists that gain or lose their last member, and what holds of all members.
use Rattle.std.proofs.Common.{◌≡◌, ◌⊎◌, inl, inr, ℕ, zero, suc, ◌<◌, List, [], ◌∷◌, ◌++◌, All, Any, length, get_or, set}
use Rattle.std.proofs.Common.{replicate, take, sym, refl, ap, subst, arith}
use Rattle.std.specs.Prelude.{slice_get, Some}
use Rattle.std.proofs.lemmas.List.Elements.{All-append}
use Rattle.std.proofs.Math.Seq.{take-append_seam}

pub get_at : {A : Type 0} (xs : List A) (i : ℕ) (a : A) → i < length xs → get_or xs i a ≡ a → slice_get xs i ≡ Some a
get_at [] i a h e = absurd (omega arith)
get_at (x ∷ xs) zero a h e = ap Some e
get_at (x ∷ xs) (suc i) a h e = get_at xs i a (omega arith) e

module _ {A : Type 0} (P : A → Type 0) where
  all_one : (x : A) → P x → All P (x ∷ [])
  all_one x p zero d l = p
  all_one x p (suc k) d l = absurd (omega arith)

  pub all_more : (xs : List A) (x : A) → All P xs → P x → All P (xs ++ x ∷ [])
  all_more xs x h p = All-append P xs (x ∷ []) h (all_one x p)

  pub all_taken : (n : ℕ) (xs ys : List A) → n ≡ length xs → All P xs → All P (take n (xs ++ ys))
  all_taken n xs ys e h =
      subst (λ (m : ℕ). All P (take m (xs ++ ys))) (sym e)
      (subst (λ (l : List A). All P l) (sym (take-append_seam xs ys)) h)

  pub all_at : (xs : List A) (i : ℕ) (x : A) → All P xs → i < length xs → x ≡ get_or xs i x → P x
  all_at xs i x h l e = subst P (sym e) (h i x l)

  pub all_none : All P []
  all_none k d l = absurd (omega arith)

  pub all_copies : (n : ℕ) (x : A) → P x → All P (replicate n x)
  all_copies zero x p k d l = absurd (omega arith)
  all_copies (suc n) x p zero d l = p
  all_copies (suc n) x p (suc k) d l = all_copies n x p k d (omega arith)

  pub any_last : (xs : List A) (x : A) → P x → Any P (xs ++ x ∷ [])
  any_last [] x p = (0, x, (omega arith), refl, p)
  any_last (y ∷ ys) x p = let r = any_last ys x p in (suc r.0, r.1, (let l = r.2 in omega arith), r.3, r.4)

  pub any_first : (xs : List A) (x : A) → 0 < length xs → P x → Any P (set xs 0 x)
  any_first [] x l p = absurd (omega arith)
  any_first (y ∷ ys) x l p = (0, x, (omega arith), refl, p)

  any_behind : (y : A) (ys : List A) (x : A) → Any P ys ⊎ P x → Any P (y ∷ ys) ⊎ P x
  any_behind y ys x (inl h) = inl (suc h.0, h.1, (let l = h.2 in omega arith), h.3, h.4)
  any_behind y ys x (inr p) = inr p

  any_at : (xs : List A) (x : A) (k : ℕ) (a : A) → k < length (xs ++ x ∷ []) → get_or (xs ++ x ∷ []) k a ≡ a → P a
      → Any P xs ⊎ P x
  any_at [] x zero a l e p = inr (subst P (sym e) p)
  any_at [] x (suc k) a l e p = absurd (omega arith)
  any_at (y ∷ ys) x zero a l e p = inl (0, a, (omega arith), e, p)
  any_at (y ∷ ys) x (suc k) a l e p = any_behind y ys x (any_at ys x k a (omega arith) e p)

  pub any_split : (xs : List A) (x : A) → Any P (xs ++ x ∷ []) → Any P xs ⊎ P x
  any_split xs x h = any_at xs x h.0 h.1 h.2 h.3 h.4

  front_at : (xs : List A) (x : A) (k : ℕ) (a : A) → k < length xs → get_or xs k a ≡ a → P a → Any P (xs ++ x ∷ [])
  front_at [] x k a l e p = absurd (omega arith)
  front_at (y ∷ ys) x zero a l e p = (0, a, (omega arith), e, p)
  front_at (y ∷ ys) x (suc k) a l e p = let r =
      front_at ys x k a (omega arith) e p in (suc r.0, r.1, (let m = r.2 in omega arith), r.3, r.4)

  pub any_front : (xs : List A) (x : A) → Any P xs → Any P (xs ++ x ∷ [])
  any_front xs x h = front_at xs x h.0 h.1 h.2 h.3 h.4

  pub any_none : {B : Type 0} → (xs : List A) → Any P xs → length xs ≡ 0 → B
  any_none xs h e = absurd (let l = h.2 in omega arith)
