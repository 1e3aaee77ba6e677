-- Sums and counts over lists of which one member changes, joins or leaves.
use Rattle.std.proofs.Common.{◌≡◌, ◌≢◌, ℕ, zero, suc, ◌+◌, ◌<◌, ◌≤◌, List, [], ◌∷◌, ◌++◌, set, sym, refl, ap, ◌∙◌}
use Rattle.std.proofs.Common.{arith, if◌then◌else◌, ◌==◌, min, Bool, true, All, length, get_or, flat_map, replicate}
use Rattle.std.proofs.Common.{drop, take, length-append}
use mathlib.Core.Option.{some, some-injective, some-ne-none}
use lib.ListN.{get_elem?}
use Rattle.std.proofs.lemmas.Bool.Decides.{nat_tests}
use Rattle.pg_board.specs.Counts.{total, once_below}

module _ {A : Type 0} where
  pub total_set : (f : A → ℕ) (xs : List A) (i : ℕ) (v w : A) → get_elem? xs i ≡ some v
      → total f (set xs i w) + f v ≡ total f xs + f w
  total_set f [] i v w e = absurd (some-ne-none v (sym e))
  total_set f (x ∷ xs) zero v w e = let s : f x ≡ f v = ap f (some-injective x v e) in omega arith
  total_set f (x ∷ xs) (suc i) v w e = let r = total_set f xs i v w e in omega arith

  pub total-append : (f : A → ℕ) (xs ys : List A) → total f (xs ++ ys) ≡ total f xs + total f ys
  total-append f [] ys = omega arith
  total-append f (x ∷ xs) ys = let r = total-append f xs ys in omega arith

  pub total_at : (f : A → ℕ) (xs : List A) (i : ℕ) (v : A) → get_elem? xs i ≡ some v → f v ≤ total f xs
  total_at f [] i v e = absurd (some-ne-none v (sym e))
  total_at f (x ∷ xs) zero v e = let s : f x ≡ f v = ap f (some-injective x v e) in omega arith
  total_at f (x ∷ xs) (suc i) v e = let r = total_at f xs i v e in omega arith

  -- what is 0 of each with no weight has no total where there is no weight
  pub total_none : (g f : A → ℕ) (xs : List A) → ((i : ℕ) (v : A) → get_elem? xs i ≡ some v → g v ≡ 0 → f v ≡ 0)
      → total g xs ≡ 0 → total f xs ≡ 0
  total_none g f [] idle none = refl
  total_none g f (x ∷ xs) idle none =
      let here : f x ≡ 0 = idle 0 x refl (omega arith) in
      let rest = total_none g f xs (λ i v e. idle (suc i) v e) (omega arith) in omega arith

  -- and where one has all weight, the total is that one's
  pub total_one : (g f : A → ℕ) (xs : List A) (i : ℕ) (v : A) → get_elem? xs i ≡ some v
      → ((i : ℕ) (v : A) → get_elem? xs i ≡ some v → g v ≡ 0 → f v ≡ 0) → total g xs ≡ g v → total f xs ≡ f v
  total_one g f [] i v e idle all = absurd (some-ne-none v (sym e))
  total_one g f (x ∷ xs) zero v e idle all =
      let s : x ≡ v = some-injective x v e in let a : f x ≡ f v = ap f s in let b : g x ≡ g v = ap g s in
      let rest = total_none g f xs (λ i v e. idle (suc i) v e) (omega arith) in omega arith
  total_one g f (x ∷ xs) (suc i) v e idle all =
      let most = total_at g xs i v e in
      let here : f x ≡ 0 = idle 0 x refl (omega arith) in
      let rest = total_one g f xs i v e (λ i v e. idle (suc i) v e) (omega arith) in omega arith

pub once_next : (x n : ℕ) → once_below x (n + 1) ≡ once_below x n + (if n == x then 1 else 0)
once_next x n = grind (arith, nat_tests)

pub min_below : (n m : ℕ) → n < m → (min n m ≡ n) × (min (n + 1) m ≡ n + 1)
min_below n m h = (omega arith, omega arith)

pub min_above : (n m : ℕ) → m ≤ n → (min n m ≡ m) × (min (n + 1) m ≡ m)
min_above n m h = (omega arith, omega arith)

module _ {A : Type 0} (P : A → Type 0) where
  pub all_last : (xs : List A) (x : A) → All P (xs ++ x ∷ []) → P x
  all_last [] x h = h 0 x (omega arith)
  all_last (y ∷ ys) x h = all_last ys x (λ k d l. h (suc k) d (omega arith))

  pub all_front : (xs : List A) (x : A) → All P (xs ++ x ∷ []) → (k : ℕ) (d : A) → k < length xs → P (get_or xs k d)
  all_front [] x h k d l = absurd (omega arith)
  all_front (y ∷ ys) x h zero d l = h zero d (omega arith)
  all_front (y ∷ ys) x h (suc k) d l = all_front ys x (λ k d l. h (suc k) d (omega arith)) k d (omega arith)

-- a list that some member passes has a count above 0
pub total_any : {A : Type 0} (p : A → Bool) (xs : List A) (k : ℕ) (x : A) → k < length xs → get_or xs k x ≡ x
    → p x ≡ true → 0 < total (λ y. if p y then 1 else 0) xs
total_any p [] k x l e t = absurd (omega arith)
total_any p (y ∷ ys) zero x l e t = let same : y ≡ x = e in let b : p y ≡ true = ap p same
    ∙ t in let one : ◌≡◌ {A = ℕ} (if p y then 1 else 0) 1 =
    ap (λ (b : Bool). if b then 1 else 0) b in omega (arith, one)
total_any p (y ∷ ys) (suc k) x l e t = let rest = total_any p ys k x (omega arith) e t in omega arith

module _ {A B : Type 0} where
  -- the sum over joined lists is the sum of their sums
  pub total_flat : (g : B → ℕ) (f : A → List B) (xs : List A) → total g (flat_map f xs) ≡ total (λ x. total g (f x)) xs
  total_flat g f [] = refl
  total_flat g f (x ∷ xs) = let a = total-append g (f x) (flat_map f xs) in let r = total_flat g f xs in omega arith

  pub length_flat : (f : A → List B) (xs : List A) → length (flat_map f xs) ≡ total (λ x. length (f x)) xs
  length_flat f [] = refl
  length_flat f (x ∷ xs) = let a = length-append (f x) (flat_map f xs) in let r = length_flat f xs in omega arith

module _ {A : Type 0} where
  pub total_le : (f g : A → ℕ) → ((x : A) → f x ≤ g x) → (xs : List A) → total f xs ≤ total g xs
  total_le f g below [] = omega arith
  total_le f g below (x ∷ xs) = let a = below x in let r = total_le f g below xs in omega arith

  -- a list of no members has no total, nor has one whose members have none
  pub total_empty : (f : A → ℕ) (xs : List A) → length xs ≡ 0 → total f xs ≡ 0
  total_empty f [] e = refl
  total_empty f (x ∷ xs) e = absurd (omega arith)

  pub total_replicate : (f : A → ℕ) (n : ℕ) (x : A) → f x ≡ 0 → total f (replicate n x) ≡ 0
  total_replicate f zero x e = refl
  total_replicate f (suc n) x e = let r = total_replicate f n x e in omega arith

  -- the first member and the others
  pub total_split : (f : A → ℕ) (xs : List A) → total f (drop 1 xs) + total f (take 1 xs) ≡ total f xs
  total_split f [] = refl
  total_split f (x ∷ xs) = omega arith

  pub length_split : (xs : List A) → length (drop 1 xs) + length (take 1 xs) ≡ length xs
  length_split [] = refl
  length_split (x ∷ xs) = omega arith

  -- the members that two places have are counted both
  pub total_two : (f : A → ℕ) (xs : List A) (i j : ℕ) (v u : A) → i ≢ j → get_elem? xs i ≡ some v
      → get_elem? xs j ≡ some u → f v + f u ≤ total f xs
  total_two f [] i j v u ne a b = absurd (some-ne-none v (sym a))
  total_two f (x ∷ xs) zero zero v u ne a b = absurd (ne refl)
  total_two f (x ∷ xs) zero (suc j) v u ne a b = let s : f x ≡ f v = ap f (some-injective x v a) in let r =
      total_at f xs j u b in omega arith
  total_two f (x ∷ xs) (suc i) zero v u ne a b = let s : f x ≡ f u = ap f (some-injective x u b) in let r =
      total_at f xs i v a in omega arith
  total_two f (x ∷ xs) (suc i) (suc j) v u ne a b = let r =
      total_two f xs i j v u (λ e. ne (ap suc e)) a b in omega arith
