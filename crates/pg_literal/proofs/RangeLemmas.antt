-- Bytes in ranges, lane by lane.
use Rattle.std.proofs.Common.{◌≡◌, ℕ, zero, suc, ◌+◌, ◌-◌, ◌%◌, ◌^◌, ◌<◌, ◌≤◌, ◌⊎◌, inl, inr, Bool, true, false}
use Rattle.std.proofs.Common.{true≢false, not, ◌||◌}
use Rattle.std.proofs.Common.{cond, leb, eqb, List, [], ◌∷◌, length, map, get_or, w8, bit_or, bit_and}
use Rattle.std.proofs.Common.{refl, sym, ap, ap₂, subst, ◌∙◌, arith}
use Rattle.std.specs.Prelude.{replicate, slice_index}
use Rattle.std.specs.List.{prefix_len}
use Rattle.std.proofs.lemmas.List.{length-map, get_or-map}
use Rattle.std.proofs.lemmas.List.Sums.{prefix_len-le-length, prefix_len_passes}
use Rattle.std.proofs.lemmas.Simd.{tops_compared, zip2_splat, map-map, length-chunk, length-zip2, get_or-chunk}
use Rattle.std.proofs.lemmas.Simd.{get_or-zip2}
use Rattle.std.proofs.lemmas.Simd.{bitmask_splat, first_set_mask_l}
use Rattle.std.proofs.lemmas.Bool.{eq-eqb, ne_eqb, cond-true, cond-false, cases_lt, le-leb}
use lib.Count.{count_trailing_zeros}
use lib.Lanes.{zip2, sel_l, top, chunk, mask_l}
use Rattle.pg_literal.specs.Ranges.{bit_of}

-- the lanes that pass a test, as ones
pub select_ones : (p : ℕ → Bool) (xs : List ℕ) (n : ℕ) → length xs ≡ n
    → sel_l {A = ℕ} (map p xs) (replicate n 1) (replicate n 0) ≡ map (λ x. cond (p x) 1 0) xs
select_ones p [] n long = refl
select_ones p (x ∷ xs) zero long = absurd (omega (arith, long))
select_ones p (x ∷ xs) (suc n) long =
    ap (λ ns. cond (p x) 1 0 ∷ ns) (select_ones p xs n (omega (arith, long)))

-- the lanes that pass one of two tests
pub mark_either : (p q : ℕ → Bool) (xs : List ℕ)
    → map (λ x. bit_or (bit_of (p x)) (bit_of (q x))) xs ≡ map (λ x. bit_of (p x || q x)) xs
mark_either p q [] = refl
mark_either p q (x ∷ xs) = ap₂ (λ n ns. n ∷ ns) (either (p x) (q x)) (mark_either p q xs)
  where
    either : (a b : Bool) → bit_or (bit_of a) (bit_of b) ≡ bit_of (a || b)
    either true true = refl
    either true false = refl
    either false true = refl
    either false false = refl

-- ones where what was computed of a lane is at most a bound
pub marks_below : (f : ℕ → ℕ) (xs ys : List ℕ) (n bound : ℕ) → length xs ≡ n → ys ≡ map f xs
    → sel_l {A = ℕ} (map (top 7) (zip2 (λ a b. cond (leb a b) 255 0) ys (replicate n bound))) (replicate n 1)
    (replicate n 0)
    ≡ map (λ x. bit_of (leb (f x) bound)) xs
marks_below f xs ys n bound long is =
    let size : length (map f xs) ≡ n = length-map xs f ∙ long in
    ap (λ ms. sel_l {A = ℕ} ms (replicate n 1) (replicate n 0))
    (tops_compared w8 leb ys (replicate n bound)
    ∙ (ap (λ zs. zip2 leb zs (replicate n bound)) is ∙ zip2_splat leb (map f xs) n bound size))
    ∙ (select_ones (λ x. leb x bound) (map f xs) n size ∙ map-map (λ x. bit_of (leb x bound)) f xs)

-- the byte, or the same 256 higher, is in a stretch of 256
pub around : (first b : ℕ) → first ≤ 256 → b < 256
    → ((first ≤ b) × (b < first + 256) × (b % 256 ≡ b))
    ⊎ ((first ≤ b + 256) × (b + 256 < first + 256) × ((b + 256) % 256 ≡ b))
around first b bound less = elim (cases_lt b first) [
  | inl low ↦ inr (omega arith, omega arith, omega arith)
  | inr high ↦ inl (high, omega arith, omega arith)
]

-- a byte of a stretch of 256 at most is in the range over it
pub in_stretch : (first last b : ℕ) → first ≤ b → b < last → last ≤ first + 256
    → leb ((b % 256 + (256 - first % 256)) % 256) ((last - first) - 1) ≡ true
in_stretch first last b from before short = le-leb _ _ (omega arith)

-- what holds for each byte of a stretch of 256, taken from 0 again behind 255, holds for each byte
pub all_around : (P Q : ℕ → Bool) (first : ℕ) → first ≤ 256
    → ((b : ℕ) → first ≤ b → b < first + 256 → P (b % 256) ≡ true → Q (b % 256) ≡ true)
    → (b : ℕ) → b < 256 → P b ≡ true → Q b ≡ true
all_around P Q first bound each b less is = elim (around first b bound less) [
  | inl low ↦
      subst (λ n. Q n ≡ true) low.2 (each b low.0 low.1 (subst (λ n. P n ≡ true) (sym low.2) is))
  | inr high ↦
      subst (λ n. Q n ≡ true) high.2 (each (b + 256) high.0 high.1 (subst (λ n. P n ≡ true) (sym high.2) is))
]

-- the lane of a byte that passes a test
pub marked_at : (f : ℕ → Bool) (xs : List ℕ) (i n k : ℕ) (fs : List ℕ) → i + n ≤ length xs
    → fs ≡ map (λ x. bit_of (f x)) (chunk i n xs) → k < n → f (slice_index xs (i + k)) ≡ true → get_or fs k 0 ≡ 1
marked_at f xs i n k fs below are less is =
    ap (λ l. get_or l k 0) are
    ∙ (get_or-map (λ x. bit_of (f x)) (chunk i n xs) k 0 0 (omega (arith, length-chunk i n xs below))
    ∙ (ap (λ x. bit_of (f x)) (get_or-chunk i n xs k 0 less) ∙ ap bit_of is))

module _ (fs gs : List ℕ) (n : ℕ) (few : n ≤ 64) (first_size : length fs ≡ n) (second_size : length gs ≡ n) where
  abbrev both : List ℕ
  both = zip2 bit_and fs gs

  size : length both ≡ n
  size = length-zip2 bit_and fs gs (first_size ∙ sym second_size) ∙ first_size

  -- before the first lane that is one in both there is no such lane
  before_both : (r : ℕ) → r ≡ prefix_len (λ x. not (eqb x 1)) both
      → (r ≤ n) × ((k : ℕ) → k < r → get_or fs k 0 ≡ 1 → get_or gs k 0 ≡ 1 → ⊥)
  before_both r is =
      let bound = prefix_len-le-length (λ x. not (eqb x 1)) both in (
        omega (arith, is, bound, size),
        λ k less one other.
            let passed = prefix_len_passes (λ x. not (eqb x 1)) both k 0 (omega (arith, is)) in
            let at_k = get_or-zip2 bit_and fs gs k 0 0 0 (omega (arith, is, bound, size, first_size))
            (omega (arith, is, bound, size, second_size)) ∙ ap₂ bit_and one other in
            true≢false (sym passed ∙ ap (λ x. not (eqb x 1)) at_k),
      )

  -- the number of lanes before the first bit of the mask
  first_bit : (found r : ℕ)
      → found ≡ mask_l (map (top 7) (zip2 (λ a b. cond (eqb a b) 255 0) both (replicate n 1))) % 2 ^ 64
      → r ≡ cond (eqb found 0) n (count_trailing_zeros 64 found) → r ≡ prefix_len (λ x. not (eqb x 1)) both
  first_bit found r is from =
      let mask = is ∙ bitmask_splat w8 eqb both n 1 size few in
      from
      ∙ (ap (λ m. cond (eqb m 0) n (count_trailing_zeros 64 m)) mask
      ∙ first_set_mask_l (λ x. eqb x 1) both n size few)

  -- so the lanes before the first bit are told
  pub told_by_mask : (found r : ℕ)
      → found ≡ mask_l (map (top 7) (zip2 (λ a b. cond (eqb a b) 255 0) both (replicate n 1))) % 2 ^ 64
      → ((found ≡ 0) × (r ≡ n)) ⊎ ((found ≡ 0 → ⊥) × (r ≡ count_trailing_zeros 64 found))
      → (r ≤ n) × ((k : ℕ) → k < r → get_or fs k 0 ≡ 1 → get_or gs k 0 ≡ 1 → ⊥)
  told_by_mask found r is either = before_both r (first_bit found r is (elim either [
    | inl none ↦ none.1 ∙ sym (cond-true _ _ _ (eq-eqb found 0 none.0))
    | inr some ↦ some.1 ∙ sym (cond-false _ _ _ (ne_eqb found 0 some.0))
  ]))
