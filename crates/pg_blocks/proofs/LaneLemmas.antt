-- Hits of a byte, lane by lane and bit by bit.
use Rattle.std.proofs.Common.{◌≡◌, ℕ, zero, suc, ◌+◌, ◌*◌, ◌/◌, ◌^◌, ◌<◌, ◌≤◌, Bool, true, false, cond}
use Rattle.std.proofs.Common.{List, [], ◌∷◌, length, drop, map, refl, sym, ap, subst, ◌∙◌, arith, w8, Fits}
use Rattle.std.proofs.Math.Nat.{pow-suc, mul_comm, div-div-eq-div-mul, zero-div, div-one}
use Rattle.std.specs.Int.RustNames.{count_ones}
use Rattle.std.specs.List.{count_by}
use Rattle.std.specs.Prelude.{replicate}
use lib.Lanes.{zip2, sel_l, sum_l, mask_l, dots, Each1, Each2}
use Rattle.std.proofs.lemmas.List.{drop-map, length-map}
use Rattle.std.proofs.lemmas.List.Sums.{sum_by-cons}
use Rattle.std.proofs.lemmas.Simd.{Each2-of, Each1-zip2, sum-zip2, sum_dots, sum_by-ones, ones-mask_l}

-- one for each hit, and zero for each other
abbrev pub ones_at : (ℕ → Bool) → List ℕ → List ℕ
ones_at p xs = map (λ x. cond (p x) 1 0) xs

pub select_ones : (p : ℕ → Bool) (xs : List ℕ) (n : ℕ) → length xs ≡ n
    → sel_l (map p xs) (replicate n 1) (replicate n 0) ≡ ones_at p xs
select_ones p [] n long = refl
select_ones p (x ∷ xs) zero long = absurd (omega (arith, long))
select_ones p (x ∷ xs) (suc n) long =
    ap (λ ns. cond (p x) 1 0 ∷ ns) (select_ones p xs n (omega (arith, long)))

sum_l-ones_at : (p : ℕ → Bool) (xs : List ℕ) → sum_l (ones_at p xs) ≡ count_by p xs
sum_l-ones_at p [] = refl
sum_l-ones_at p (x ∷ xs) =
    ap (λ n. cond (p x) 1 0 + n) (sum_l-ones_at p xs) ∙ sym (sum_by-cons (λ y. cond (p y) 1 0) x xs)

ones_small : (p : ℕ → Bool) (xs hits : List ℕ) → hits ≡ ones_at p xs → Each1 (λ n. n ≤ 1) hits
ones_small p xs hits is = let P : List ℕ → Type 0 = λ ns. Each1 (λ n. n ≤ 1) ns in subst P (sym is) (small xs)
  where
    small : (ys : List ℕ) → Each1 (λ n. n ≤ 1) (ones_at p ys)
    small [] = tt
    small (y ∷ ys) = (elim (p y) as (λ b. cond b 1 0 ≤ 1) [ true ↦ omega arith | false ↦ omega arith ], small ys)

-- the hits of a row more: each count fits a byte, is at most one more, and their sum has the row's hits
pub one_more_fits : (p : ℕ → Bool) (n : ℕ) (counts row hits : List ℕ) → hits ≡ ones_at p row → n < 255
    → Each1 (λ m. m ≤ n) counts → Each2 (λ a b. Fits w8 (a + b)) counts hits
one_more_fits p n counts row hits is room few =
    Each2-of (λ m. m ≤ n) (λ m. m ≤ 1) (λ a b. Fits w8 (a + b)) (λ a b le one. record { fits = omega arith })
    counts hits few (ones_small p row hits is)

pub one_more_few : (p : ℕ → Bool) (n : ℕ) (counts row hits : List ℕ) → hits ≡ ones_at p row
    → Each1 (λ m. m ≤ n) counts → Each1 (λ m. m ≤ n + 1) (zip2 (λ a b. a + b) counts hits)
one_more_few p n counts row hits is few =
    Each1-zip2 (λ a b. a + b) (λ m. m ≤ n + 1) counts hits
    (Each2-of (λ m. m ≤ n) (λ m. m ≤ 1) (λ a b. a + b ≤ n + 1) (λ a b le one. omega arith)
    counts hits few (ones_small p row hits is))

pub one_more_sum : (p : ℕ → Bool) (counts row hits : List ℕ) → hits ≡ ones_at p row → length counts ≡ length row
    → sum_l (zip2 (λ a b. a + b) counts hits) ≡ sum_l counts + count_by p row
one_more_sum p counts row hits is long =
    sum-zip2 counts hits (long ∙ sym (ap length is ∙ length-map row (λ x. cond (p x) 1 0)))
    ∙ ap (λ n. sum_l counts + n) (ap sum_l is ∙ sum_l-ones_at p row)

-- `dot4` by ones keeps the sum
pub sum_l-fours : (counts : List ℕ) → length counts ≡ 64
    → sum_l (dots counts (replicate 64 1)) ≡ sum_l counts
sum_l-fours counts long =
    (sum_dots 16 counts (replicate 64 1) long refl).0
    ∙ (ap (λ n. sum_l (zip2 (λ x y. x * y) counts (replicate n 1))) (sym long) ∙ sum_by-ones counts)

halved : (b : Bool) (n : ℕ) → (cond b 1 0 + 2 * n) / 2 ≡ n
halved true n = omega arith
halved false n = omega arith

-- a shift drops the lowest lanes
mask_l-shifted : (ms : List Bool) (k : ℕ) → mask_l ms / 2 ^ k ≡ mask_l (drop k ms)
mask_l-shifted [] zero = div-one 0
mask_l-shifted [] (suc k) = zero-div (2 ^ suc k)
mask_l-shifted (m ∷ ms) zero = div-one (mask_l (m ∷ ms))
mask_l-shifted (m ∷ ms) (suc k) =
    ap (λ n. mask_l (m ∷ ms) / n) (pow-suc 2 k ∙ mul_comm (2 ^ k) 2)
    ∙ (sym (div-div-eq-div-mul (mask_l (m ∷ ms)) 2 (2 ^ k))
    ∙ (ap (λ n. n / 2 ^ k) (halved m (mask_l ms)) ∙ mask_l-shifted ms k))

pub ones-shifted : (p : ℕ → Bool) (xs : List ℕ) (k : ℕ)
    → count_ones (mask_l (map p xs) / 2 ^ k) ≡ count_by p (drop k xs)
ones-shifted p xs k =
    ap count_ones (mask_l-shifted (map p xs) k ∙ ap mask_l (drop-map p k xs)) ∙ ones-mask_l p (drop k xs)
