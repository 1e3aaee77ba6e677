-- Letters and their other case stand 32 bits apart in the second word.
use Rattle.std.proofs.Common.{ℕ, zero, suc, ◌≡◌, ◌≢◌, ◌<◌, ◌≤◌, ◌+◌, ◌-◌, ◌*◌, ◌/◌, ◌%◌, ◌^◌, min, max, Bool, true}
use Rattle.std.proofs.Common.{false, ◌&&◌, ◌||◌, eqb, ltb, List, [], ◌∷◌, get_or, ◌⊎◌, inl, inr, refl, sym, ap, ◌∙◌}
use Rattle.std.proofs.Common.{arith}
use Rattle.std.specs.Prelude.{bit_or, bit_and}
use Rattle.std.specs.Int.{bit_at}
use Rattle.std.proofs.lemmas.Bool.{lt-ltb, le-ltb}
use Rattle.std.proofs.lemmas.Bool.Decides.{nat_tests}
use Rattle.std.proofs.lemmas.Nat.{and_le_r, pow-add}
use Rattle.std.proofs.lemmas.Nat.Bits.{bit_at_or, bit_at_and, bit_at-lt, bit_at_cat_low, bit_at_cat_high}
use Rattle.std.proofs.lemmas.Nat.Bits.{bit_at_mask_inside, bit_at_mask_below, bit_at_mask_above, bit_at-zero}
use Rattle.std.proofs.Math.Nat.{div-div-eq-div-mul}
use Rattle.std.proofs.Math.Path.{fun_ext}
use Rattle.pg_bytes.specs.Sets.{closed, other_case}
use Rattle.pg_bytes.specs.ByteSets.{in_words}

-- the mask of the upper case letters
abbrev upper_mask : ℕ
upper_mask = 134217726

-- the lower case of the upper case letters in a word
abbrev lowered : ℕ → ℕ
lowered w = bit_and w upper_mask * 4294967296 % 18446744073709551616

-- the upper case of the lower case letters in a word
abbrev raised : ℕ → ℕ
raised w = bit_and (w / 4294967296) upper_mask

abbrev closed_word : ℕ → ℕ
closed_word w = bit_or (bit_or w (lowered w)) (raised w)

abbrev closed_words : List ℕ → List ℕ
closed_words ws = get_or ws 0 0 ∷ closed_word (get_or ws 1 0) ∷ get_or ws 2 0 ∷ get_or ws 3 0 ∷ []

mask-inside : (k : ℕ) → 1 ≤ k → k < 27 → bit_at upper_mask k ≡ 1
mask-inside k low high = bit_at_mask_inside 1 27 k low high

mask-outside : (k : ℕ) → (k < 1) ⊎ (27 ≤ k) → bit_at upper_mask k ≡ 0
mask-outside k (inl h) = bit_at_mask_below 1 27 k h
mask-outside k (inr h) = bit_at_mask_above 1 27 k h

bit_at-shr : (w k : ℕ) → bit_at (w / 4294967296) k ≡ bit_at w (k + 32)
bit_at-shr w k =
    let powers : 4294967296 * 2 ^ k ≡ 2 ^ (k + 32) = omega (arith, pow-add 2 k 32) in
    ap (λ m. m % 2) (div-div-eq-div-mul w 4294967296 (2 ^ k)) ∙ ap (λ m. w / m % 2) powers

bit_at-raised : (w k : ℕ) → bit_at (raised w) k ≡ min (bit_at w (k + 32)) (bit_at upper_mask k)
bit_at-raised w k = bit_at_and (w / 4294967296) upper_mask k ∙ ap (λ b. min b (bit_at upper_mask k)) (bit_at-shr w k)

lowered-is : (w : ℕ) → lowered w ≡ bit_and w upper_mask * 2 ^ 32 + 0
lowered-is w = omega (arith, and_le_r w upper_mask)

bit_at-lowered-low : (w k : ℕ) → k < 32 → bit_at (lowered w) k ≡ 0
bit_at-lowered-low w k h = ap (λ m. bit_at m k) (lowered-is w)
    ∙ (bit_at_cat_low (bit_and w upper_mask) 32 0 k h ∙ bit_at-zero k)

bit_at-lowered-high : (w k : ℕ) → 32 ≤ k → bit_at (lowered w) k ≡ min (bit_at w (k - 32)) (bit_at upper_mask (k - 32))
bit_at-lowered-high w k h =
    ap (λ m. bit_at m k) (lowered-is w) ∙
    (bit_at_cat_high (bit_and w upper_mask) 32 0 k (omega arith) h ∙ bit_at_and w upper_mask (k - 32))

bit_at-closed : (w k : ℕ) → bit_at (closed_word w) k ≡ max (max (bit_at w k) (bit_at (lowered w) k))
    (bit_at (raised w) k)
bit_at-closed w k = bit_at_or (bit_or w (lowered w)) (raised w) k
    ∙ ap (λ b. max b (bit_at (raised w) k)) (bit_at_or w (lowered w) k)

either-bit : (x y a b : ℕ) → x < 2 → y < 2 → ((a ≡ y) × (b ≡ 0)) ⊎ ((a ≡ 0) × (b ≡ y))
    → eqb (max (max x a) b) 1 ≡ (eqb x 1 || eqb y 1)
either-bit x y a b h k e = grind (arith, nat_tests)

same-bit : (x a b : ℕ) → x < 2 → a ≡ 0 → b ≡ 0 → eqb (max (max x a) b) 1 ≡ (eqb x 1 || eqb x 1)
same-bit x a b h e f = grind (arith, nat_tests)

-- where the letters stand in the word
IsUpper : ℕ → Type 0
IsUpper k = (1 ≤ k) × (k < 27)

IsLower : ℕ → Type 0
IsLower k = (33 ≤ k) × (k < 59)

IsNeither : ℕ → Type 0
IsNeither k = ((k < 1) ⊎ ((27 ≤ k) × (k < 33))) ⊎ (59 ≤ k)

neither-mask : (k : ℕ) → IsNeither k → (k < 1) ⊎ (27 ≤ k)
unfolding IsNeither
neither-mask k h = grind arith

neither-lowered : (k : ℕ) → 32 ≤ k → IsNeither k → (k - 32 < 1) ⊎ (27 ≤ k - 32)
unfolding IsNeither
neither-lowered k l h = grind arith

closed-upper : (w k : ℕ) → IsUpper k → eqb (bit_at (closed_word w) k) 1 ≡
    (eqb (bit_at w k) 1 || eqb (bit_at w (k + 32)) 1)
unfolding IsUpper
closed-upper w k h =
    let up : bit_at (raised w) k ≡ bit_at w (k + 32) = bit_at-raised w k
    ∙ (ap (min (bit_at w (k + 32))) (mask-inside k h.0 h.1) ∙ omega (arith, bit_at-lt w (k + 32))) in
    ap (λ b. eqb b 1) (bit_at-closed w k)
    ∙ either-bit (bit_at w k) (bit_at w (k + 32)) _ _ (bit_at-lt w k) (bit_at-lt w (k + 32))
    (inr (bit_at-lowered-low w k (omega arith), up))

closed-lower : (w k : ℕ) → IsLower k → eqb (bit_at (closed_word w) k) 1 ≡
    (eqb (bit_at w k) 1 || eqb (bit_at w (k - 32)) 1)
unfolding IsLower
closed-lower w k h =
    let down : bit_at (lowered w) k ≡ bit_at w (k - 32) = bit_at-lowered-high w k (omega arith)
    ∙ (ap (min (bit_at w (k - 32))) (mask-inside (k - 32) (omega arith) (omega arith))
    ∙ omega (arith, bit_at-lt w (k - 32))) in
    let none : bit_at (raised w) k ≡ 0 = bit_at-raised w k
    ∙ (ap (min (bit_at w (k + 32))) (mask-outside k (inr (omega arith))) ∙ omega arith) in
    ap (λ b. eqb b 1) (bit_at-closed w k)
    ∙ either-bit (bit_at w k) (bit_at w (k - 32)) _ _ (bit_at-lt w k) (bit_at-lt w (k - 32)) (inl (down, none))

closed-neither : (w k : ℕ) → IsNeither k → eqb (bit_at (closed_word w) k) 1 ≡ (eqb (bit_at w k) 1 || eqb (bit_at w k) 1)
unfolding IsNeither
closed-neither w k h =
    let none : bit_at (raised w) k ≡ 0 = bit_at-raised w k
    ∙ (ap (min (bit_at w (k + 32))) (mask-outside k (neither-mask k h)) ∙ omega arith) in
    ap (λ b. eqb b 1) (bit_at-closed w k) ∙ same-bit (bit_at w k) _ _ (bit_at-lt w k) (down (k_low k)) none
  where
    k_low : (k : ℕ) → (k < 32) ⊎ (32 ≤ k)
    k_low k = grind arith

    down : (k < 32) ⊎ (32 ≤ k) → bit_at (lowered w) k ≡ 0
    down (inl l) = bit_at-lowered-low w k l
    down (inr l) = bit_at-lowered-high w k l
        ∙ (ap (min (bit_at w (k - 32))) (mask-outside (k - 32) (neither-lowered k l h)) ∙ omega arith)

in_words-second : (ws : List ℕ) (n : ℕ) → n / 64 ≡ 1 → in_words ws n ≡ eqb (bit_at (get_or ws 1 0) (n % 64)) 1
in_words-second ws n e =
    ap (λ t. t && eqb (bit_at (get_or ws (n / 64) 0) (n % 64)) 1) (lt-ltb n 256 (omega arith))
    ∙ ap (λ k. eqb (bit_at (get_or ws k 0) (n % 64)) 1) e

other_case-upper : (n : ℕ) → n / 64 ≡ 1 → 1 ≤ n % 64 → n % 64 < 27 → other_case n ≡ n + 32
other_case-upper n e l h = let a : 65 ≤ n = omega arith in let b : n ≤ 90 = omega arith in grind (arith, nat_tests)

other_case-lower : (n : ℕ) → n / 64 ≡ 1 → 33 ≤ n % 64 → n % 64 < 59 → other_case n ≡ n - 32
other_case-lower n e l h = let a : 97 ≤ n = omega arith in let b : n ≤ 122 = omega arith in grind (arith, nat_tests)

other_case-same : (n : ℕ) → (n < 65) ⊎ (((90 < n) × (n < 97)) ⊎ (122 < n)) → other_case n ≡ n
other_case-same n h = grind (arith, nat_tests)

second-neither : (n : ℕ) → n / 64 ≡ 1 → IsNeither (n % 64) → (n < 65) ⊎ (((90 < n) × (n < 97)) ⊎ (122 < n))
unfolding IsNeither
second-neither n e h = grind arith

not-second : (n : ℕ) → n / 64 ≢ 1 → (n < 65) ⊎ (((90 < n) × (n < 97)) ⊎ (122 < n))
not-second n d = grind arith

other-word : (ws : List ℕ) (w k : ℕ) → k < 4 → k ≢ 1
    → get_or (get_or ws 0 0 ∷ w ∷ get_or ws 2 0 ∷ get_or ws 3 0 ∷ []) k 0 ≡ get_or ws k 0
other-word ws w zero h d = refl
other-word ws w (suc zero) h d = absurd (d refl)
other-word ws w (suc (suc zero)) h d = refl
other-word ws w (suc (suc (suc zero))) h d = refl
other-word ws w (suc (suc (suc (suc k)))) h d = absurd (omega arith)

same-twice : (x y : Bool) → x ≡ y → x ≡ (y || y)
same-twice true true e = refl
same-twice true false e = e
same-twice false true e = e
same-twice false false e = refl

in_words-above : (ws : List ℕ) (n : ℕ) → 256 ≤ n → in_words ws n ≡ false
in_words-above ws n h = ap (λ t. t && eqb (bit_at (get_or ws (n / 64) 0) (n % 64)) 1) (le-ltb n 256 h)

pub in_words-closed : (ws : List ℕ) → in_words
    (get_or ws 0 0 ∷ bit_or (bit_or (get_or ws 1 0)
    (bit_and (get_or ws 1 0) 134217726 * 4294967296 % 18446744073709551616))
    (bit_and (get_or ws 1 0 / 4294967296) 134217726) ∷ get_or ws 2 0 ∷ get_or ws 3 0 ∷ []) ≡ closed (in_words ws)
unfolding IsUpper IsLower IsNeither
in_words-closed ws = fun_ext (λ n. elim (word_of n)
    [ inl e ↦ second n e (place (n % 64)) | inr d ↦ elsewhere n d (small_or_large n) ])
  where
    word_of : (n : ℕ) → (n / 64 ≡ 1) ⊎ (n / 64 ≢ 1)
    word_of n = grind arith

    small_or_large : (n : ℕ) → (n < 256) ⊎ (256 ≤ n)
    small_or_large n = grind arith

    place : (k : ℕ) → (IsUpper k ⊎ IsLower k) ⊎ IsNeither k
    place k = grind arith

    in_new : (n : ℕ) → n / 64 ≡ 1 → in_words (closed_words ws) n ≡ eqb (bit_at (closed_word (get_or ws 1 0)) (n % 64)) 1
    in_new n e = in_words-second (closed_words ws) n e

    second : (n : ℕ) → n / 64 ≡ 1 → (IsUpper (n % 64) ⊎ IsLower (n % 64)) ⊎ IsNeither (n % 64)
        → in_words (closed_words ws) n ≡ closed (in_words ws) n
    second n e (inl (inl h)) =
        let other : in_words ws (other_case n) ≡ eqb (bit_at (get_or ws 1 0) (n % 64 + 32)) 1 =
        ap (in_words ws) (other_case-upper n e h.0 h.1)
        ∙ (in_words-second ws (n + 32) (omega arith) ∙ ap (λ k. eqb (bit_at (get_or ws 1 0) k) 1) (omega arith)) in
        in_new n e ∙ (closed-upper (get_or ws 1 0) (n % 64) h
        ∙ (ap (λ t. t || eqb (bit_at (get_or ws 1 0) (n % 64 + 32)) 1) (sym (in_words-second ws n e))
        ∙ ap (λ t. in_words ws n || t) (sym other)))
    second n e (inl (inr h)) =
        let other : in_words ws (other_case n) ≡ eqb (bit_at (get_or ws 1 0) (n % 64 - 32)) 1 =
        ap (in_words ws) (other_case-lower n e h.0 h.1)
        ∙ (in_words-second ws (n - 32) (omega arith) ∙ ap (λ k. eqb (bit_at (get_or ws 1 0) k) 1) (omega arith)) in
        in_new n e ∙ (closed-lower (get_or ws 1 0) (n % 64) h
        ∙ (ap (λ t. t || eqb (bit_at (get_or ws 1 0) (n % 64 - 32)) 1) (sym (in_words-second ws n e))
        ∙ ap (λ t. in_words ws n || t) (sym other)))
    second n e (inr h) =
        let here = sym (in_words-second ws n e) in
        let other : in_words ws (other_case n) ≡ in_words ws n =
        ap (in_words ws) (other_case-same n (second-neither n e h)) in
        in_new n e ∙ (closed-neither (get_or ws 1 0) (n % 64) h
        ∙ (ap (λ t. t || t) here ∙ ap (λ t. in_words ws n || t) (sym other)))

    elsewhere : (n : ℕ) → n / 64 ≢ 1 → (n < 256) ⊎ (256 ≤ n) → in_words (closed_words ws) n ≡ closed (in_words ws) n
    elsewhere n d (inl h) =
        let other : in_words ws (other_case n) ≡ in_words ws n =
        ap (in_words ws) (other_case-same n (not-second n d)) in
        same-twice _ _ (ap (λ w. ltb n 256 && eqb (bit_at w (n % 64)) 1)
        (other-word ws (closed_word (get_or ws 1 0)) (n / 64) (omega arith) d))
        ∙ ap (λ t. in_words ws n || t) (sym other)
    elsewhere n d (inr h) =
        let other : in_words ws (other_case n) ≡ in_words ws n =
        ap (in_words ws) (other_case-same n (not-second n d)) in
        same-twice _ _ (in_words-above (closed_words ws) n h ∙ sym (in_words-above ws n h))
        ∙ ap (λ t. in_words ws n || t) (sym other)
