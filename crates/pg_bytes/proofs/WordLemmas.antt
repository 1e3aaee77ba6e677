-- What the calls make of the words of a set, bit by bit.
use Rattle.std.proofs.Common.{ℕ, zero, suc, ◌≡◌, ◌≢◌, ◌<◌, ◌≤◌, ◌-◌, ◌*◌, ◌/◌, ◌%◌, ◌^◌, min, max, Bool, true, false}
use Rattle.std.proofs.Common.{not, ◌&&◌, ◌||◌, eqb, ltb, List, [], ◌∷◌, length, get_or, set, ◌⊎◌, inl, inr, refl, sym}
use Rattle.std.proofs.Common.{ap, ◌∙◌, arith}
use Rattle.std.specs.Prelude.{bit_or}
use Rattle.std.specs.Int.{bit_at, w64}
use Rattle.std.proofs.lemmas.Bool.{eq-eqb, ne_eqb, lt-ltb, le-ltb}
use Rattle.std.proofs.lemmas.Bool.Decides.{nat_tests}
use Rattle.std.proofs.lemmas.List.{get_or-set_same, get_or-set_other}
use Rattle.std.proofs.lemmas.Nat.Bits.{bit_at_or, bit_at_not, bit_at-lt, bit_at_set_same, bit_at_set_other, bit_at_ones}
use Rattle.std.proofs.lemmas.Nat.Bits.{bit_at_ones_above}
use Rattle.std.proofs.Math.Path.{fun_ext}
use Rattle.pg_bytes.specs.Sets.{Bytes, union, complement, with, below}
use Rattle.pg_bytes.specs.ByteSets.{in_words}
use Rattle.std.proofs.Math.Bool.{or-true, or-false}

small_or_large : (n : ℕ) → (n < 256) ⊎ (256 ≤ n)
small_or_large n = grind arith

-- two tests of numbers below 256 that agree there
same_below : (f g : Bytes) → ((n : ℕ) → n < 256 → f n ≡ g n) → (n : ℕ) → (ltb n 256 && f n) ≡ (ltb n 256 && g n)
same_below f g same n = elim (small_or_large n) [
  | inl h ↦ ap (λ b. ltb n 256 && b) (same n h)
  | inr h ↦ ap (λ b. b && f n) (le-ltb n 256 h) ∙ sym (ap (λ b. b && g n) (le-ltb n 256 h))
]

-- each of four words as the value of a function at its place
word-at : (f : ℕ → ℕ) (k : ℕ) → k < 4 → get_or (f 0 ∷ f 1 ∷ f 2 ∷ f 3 ∷ []) k 0 ≡ f k
word-at f zero h = refl
word-at f (suc zero) h = refl
word-at f (suc (suc zero)) h = refl
word-at f (suc (suc (suc zero))) h = refl
word-at f (suc (suc (suc (suc k)))) h = absurd (omega arith)

eqb-max : (x y : ℕ) → x < 2 → y < 2 → eqb (max x y) 1 ≡ (eqb x 1 || eqb y 1)
eqb-max x y h k = grind (arith, nat_tests)

and-or : (a x y : Bool) → (a && (x || y)) ≡ ((a && x) || (a && y))
and-or true x y = refl
and-or false x y = refl

pub in_words-or : (ws vs : List ℕ) → in_words
    (bit_or (get_or ws 0 0) (get_or vs 0 0) ∷ bit_or (get_or ws 1 0) (get_or vs 1 0) ∷ bit_or (get_or ws 2 0)
    (get_or vs 2 0) ∷ bit_or (get_or ws 3 0) (get_or vs 3 0) ∷ []) ≡ union (in_words ws) (in_words vs)
in_words-or ws vs = fun_ext (λ n. same_below _ _ at n ∙ and-or (ltb n 256) _ _)
  where
    at : (n : ℕ) → n < 256 → eqb (bit_at (get_or
        (bit_or (get_or ws 0 0) (get_or vs 0 0) ∷ bit_or (get_or ws 1 0) (get_or vs 1 0) ∷ bit_or (get_or ws 2 0)
        (get_or vs 2 0) ∷ bit_or (get_or ws 3 0) (get_or vs 3 0) ∷ []) (n / 64) 0) (n % 64)) 1 ≡
        (eqb (bit_at (get_or ws (n / 64) 0) (n % 64)) 1 || eqb (bit_at (get_or vs (n / 64) 0) (n % 64)) 1)
    at n h =
        ap (λ w. eqb (bit_at w (n % 64)) 1)
        (word-at (λ k. bit_or (get_or ws k 0) (get_or vs k 0)) (n / 64) (omega arith))
        ∙ (ap (λ b. eqb b 1) (bit_at_or (get_or ws (n / 64) 0) (get_or vs (n / 64) 0) (n % 64))
        ∙ eqb-max _ _ (bit_at-lt (get_or ws (n / 64) 0) (n % 64)) (bit_at-lt (get_or vs (n / 64) 0) (n % 64)))

eqb-flip : (x : ℕ) → x < 2 → eqb (1 - x) 1 ≡ not (eqb x 1)
eqb-flip x h = grind (arith, nat_tests)

and-not : (a x : Bool) → (a && not x) ≡ (a && not (a && x))
and-not true x = refl
and-not false x = refl

pub in_words-not : (ws : List ℕ) → ((k : ℕ) → k < 4 → get_or ws k 0 < 2 ^ 64)
    → in_words ((18446744073709551615 - get_or ws 0 0) ∷ (18446744073709551615 - get_or ws 1 0) ∷
    (18446744073709551615 - get_or ws 2 0) ∷ (18446744073709551615 - get_or ws 3 0) ∷ []) ≡ complement (in_words ws)
in_words-not ws fit = fun_ext (λ n. same_below _ _ at n ∙ and-not (ltb n 256) _)
  where
    at : (n : ℕ) → n < 256 → eqb (bit_at (get_or
        ((18446744073709551615 - get_or ws 0 0) ∷ (18446744073709551615 - get_or ws 1 0) ∷
        (18446744073709551615 - get_or ws 2 0) ∷ (18446744073709551615 - get_or ws 3 0) ∷ []) (n / 64) 0) (n % 64)) 1 ≡
        not (eqb (bit_at (get_or ws (n / 64) 0) (n % 64)) 1)
    at n h =
        ap (λ w. eqb (bit_at w (n % 64)) 1) (word-at (λ k. 18446744073709551615 - get_or ws k 0) (n / 64) (omega arith))
        ∙ (ap (λ b. eqb b 1) (bit_at_not w64 (get_or ws (n / 64) 0) (n % 64) (fit (n / 64) (omega arith)) (omega arith))
        ∙ eqb-flip _ (bit_at-lt (get_or ws (n / 64) 0) (n % 64)))

same_or_not : (m n : ℕ) → (m ≡ n) ⊎ (m ≢ n)
same_or_not m n = grind arith

-- the words after an insert
abbrev inserted : List ℕ → ℕ → List ℕ
inserted ws b = set ws (b / 64) (bit_or (get_or ws (b / 64) 0) (1 * 2 ^ (b % 64) % 18446744073709551616))

insert-here : (ws : List ℕ) (b : ℕ) → length ws ≡ 4 → b < 256 → in_words (inserted ws b) b ≡ with b (in_words ws) b
insert-here ws b l h =
    let bit : bit_at (get_or (inserted ws b) (b / 64) 0) (b % 64) ≡ 1 =
    ap (λ w. bit_at w (b % 64)) (get_or-set_same ws (b / 64) _ 0 (omega arith))
    ∙ bit_at_set_same w64 (get_or ws (b / 64) 0) (b % 64) (omega arith) in
    let left : in_words (inserted ws b) b ≡ true =
    ap (λ t. t && eqb (bit_at (get_or (inserted ws b) (b / 64) 0) (b % 64)) 1) (lt-ltb b 256 h)
    ∙ ap (λ t. eqb t 1) bit in
    left ∙ sym (ap (λ t. in_words ws b || t) (eq-eqb b b refl) ∙ or-true (in_words ws b))

insert-same_word : (ws : List ℕ) (b n : ℕ) → length ws ≡ 4 → b < 256 → n ≢ b → n / 64 ≡ b / 64
    → in_words (inserted ws b) n ≡ with b (in_words ws) n
insert-same_word ws b n l h d q =
    let word : get_or (inserted ws b) (n / 64) 0 ≡ bit_or (get_or ws (b / 64) 0)
    (1 * 2 ^ (b % 64) % 18446744073709551616) =
    ap (λ k. get_or (inserted ws b) k 0) q ∙ get_or-set_same ws (b / 64) _ 0 (omega arith) in
    let bit : bit_at (get_or (inserted ws b) (n / 64) 0) (n % 64) ≡ bit_at (get_or ws (n / 64) 0) (n % 64) =
    ap (λ w. bit_at w (n % 64)) word
    ∙ (bit_at_set_other w64 (get_or ws (b / 64) 0) (b % 64) (omega arith) (n % 64) (λ e. d (omega arith))
    ∙ ap (λ k. bit_at (get_or ws k 0) (n % 64)) (sym q)) in
    ap (λ t. ltb n 256 && eqb t 1) bit ∙ sym (ap (λ t. in_words ws n || t) (ne_eqb n b d) ∙ or-false (in_words ws n))

insert-other_word : (ws : List ℕ) (b n : ℕ) → n / 64 ≢ b / 64 → in_words (inserted ws b) n ≡ with b (in_words ws) n
insert-other_word ws b n q =
    let d : n ≢ b = λ e. q (ap (λ k. k / 64) e) in
    ap (λ w. ltb n 256 && eqb (bit_at w (n % 64)) 1) (get_or-set_other ws (b / 64) (n / 64) _ 0 q)
    ∙ sym (ap (λ t. in_words ws n || t) (ne_eqb n b d) ∙ or-false (in_words ws n))

pub in_words-set : (ws : List ℕ) (b : ℕ) → length ws ≡ 4 → b < 256
    → in_words (set ws (b / 64) (bit_or (get_or ws (b / 64) 0) (1 * 2 ^ (b % 64) % 18446744073709551616))) ≡ with b
    (in_words ws)
in_words-set ws b l h = fun_ext (λ n. elim (same_or_not n b) [
  | inl e ↦ ap (in_words (inserted ws b)) e ∙ (insert-here ws b l h ∙ sym (ap (with b (in_words ws)) e))
  | inr d ↦ elim (same_or_not (n / 64) (b / 64))
      [ inl q ↦ insert-same_word ws b n l h d q | inr q ↦ insert-other_word ws b n q ]
])

-- the ones of a word below a bound, for the word at a place
low_ones : ℕ → ℕ → ℕ
low_ones bound k = 2 ^ min (bound - 64 * k) 64 - 1

bit_at-low_ones : (bound n : ℕ) → n < 256 → bound ≤ 256
    → eqb (bit_at (low_ones bound (n / 64)) (n % 64)) 1 ≡ ltb n bound
unfolding low_ones
bit_at-low_ones bound n h b = elim (inside (n % 64) (min (bound - 64 * (n / 64)) 64)) [
  | inl i ↦ ap (λ t. eqb t 1) (bit_at_ones _ (n % 64) i) ∙ sym (lt-ltb n bound (omega arith))
  | inr i ↦ ap (λ t. eqb t 1) (bit_at_ones_above _ (n % 64) i) ∙ sym (le-ltb n bound (omega arith))
]
  where
    inside : (i m : ℕ) → (i < m) ⊎ (m ≤ i)
    inside i m = grind arith

pub in_words-low_bits : (bound a b c d : ℕ) → bound ≤ 256 → a ≡ 2 ^ min bound 64 - 1 → b ≡ 2 ^ min (bound - 64) 64 - 1
    → c ≡ 2 ^ min (bound - 128) 64 - 1 → d ≡ 2 ^ min (bound - 192) 64 - 1 → in_words (a ∷ b ∷ c ∷ d ∷ []) ≡ below bound
unfolding low_ones
in_words-low_bits bound a b c d h ea eb ec ed =
    let zero_word : bound - 0 ≡ bound = omega arith in
    let first : a ≡ low_ones bound 0 = ea ∙ sym (ap (λ x. 2 ^ min x 64 - 1) zero_word) in
    let words : a ∷ b ∷ c ∷ d ∷ [] ≡ low_ones bound 0 ∷ low_ones bound 1 ∷ low_ones bound 2 ∷ low_ones bound 3 ∷ [] =
    cc in
    ap in_words words ∙ fun_ext at
  where
    at : (n : ℕ) → in_words (low_ones bound 0 ∷ low_ones bound 1 ∷ low_ones bound 2 ∷ low_ones bound 3 ∷ []) n ≡ ltb n
        bound
    at n = elim (small_or_large n) [
      | inl s ↦
          ap (λ t. t && eqb (bit_at (get_or
          (low_ones bound 0 ∷ low_ones bound 1 ∷ low_ones bound 2 ∷ low_ones bound 3 ∷ []) (n / 64) 0) (n % 64)) 1)
          (lt-ltb n 256 s)
          ∙ (ap (λ w. eqb (bit_at w (n % 64)) 1) (word-at (low_ones bound) (n / 64) (omega arith))
          ∙ bit_at-low_ones bound n s h)
      | inr l ↦
          ap (λ t. t && eqb (bit_at (get_or
          (low_ones bound 0 ∷ low_ones bound 1 ∷ low_ones bound 2 ∷ low_ones bound 3 ∷ []) (n / 64) 0) (n % 64)) 1)
          (le-ltb n 256 l)
          ∙ sym (le-ltb n bound (omega arith))
    ]
