-- Keys of texts that stand at a place.
use Rattle.std.proofs.Common.{◌≡◌, ℕ, zero, suc, ◌+◌, ◌-◌, ◌*◌, ◌/◌, ◌%◌, ◌^◌, ◌<◌, ◌≤◌, List, length, drop, refl, sym}
use Rattle.std.proofs.Common.{ap, ◌∙◌, arith, zero-add}
use Rattle.std.specs.Prelude.{slice_index}
use Rattle.std.specs.Int.{w64, from_le_bytes}
use Rattle.std.proofs.Math.Nat.{add-mul-mod_self_right, mul-add, add-mul, mul_comm, mul_assoc, mul_right_comm, pow-suc}
use Rattle.std.proofs.Math.Nat.{mod-add-div'}
use Rattle.std.proofs.lemmas.List.{get_or-drop}
use Rattle.memchr.specs.Find.{OccursAt}
use Rattle.pg_strings.specs.Keys.{key, Weighs}

-- what n bytes from byte i on are worth
worth : List ℕ → ℕ → ℕ → ℕ
worth xs i zero = 0
worth xs i (suc n) = slice_index xs i * 256 ^ i + worth xs (suc i) n

-- the n bytes from byte i on, as a number
behind : List ℕ → ℕ → ℕ → ℕ
behind xs i zero = 0
behind xs i (suc n) = slice_index xs i + 256 * behind xs (suc i) n

worth_zero : (xs : List ℕ) (i : ℕ) → worth xs i 0 ≡ 0
unfolding worth
worth_zero xs i = refl

worth_more : (xs : List ℕ) (i n : ℕ) → worth xs i (suc n) ≡ slice_index xs i * 256 ^ i + worth xs (suc i) n
unfolding worth
worth_more xs i n = refl

behind_more : (xs : List ℕ) (i n : ℕ) → behind xs i (suc n) ≡ slice_index xs i + 256 * behind xs (suc i) n
unfolding behind
behind_more xs i n = refl

window_is : (xs : List ℕ) → from_le_bytes w64 xs ≡ worth xs 0 8
unfolding worth
window_is xs = omega arith

split : (xs : List ℕ) (i m n j k : ℕ) → j ≡ i + m → k ≡ m + n → worth xs i k ≡ worth xs i m + worth xs j n
split xs i zero n j k ej ek =
    let a : j ≡ i = omega (arith, ej) in
    let b : k ≡ n = omega (arith, ek) in
    rw (a, b) (omega (arith, worth_zero xs i))
split xs i (suc m) n j k ej ek =
    let b : k ≡ suc (m + n) = omega (arith, ek) in
    rw b (omega (
      arith,
      worth_more xs i (m + n),
      worth_more xs i m,
      split xs (suc i) m n j (m + n) (omega (arith, ej)) refl,
    ))

factored : (x p b : ℕ) → x * p + (p * 256) * b ≡ p * (x + 256 * b)
factored x p b = omega (arith, mul-add p x (256 * b), mul_assoc p 256 b, mul_comm p x)

shifted_none : (xs : List ℕ) (i : ℕ) → worth xs i 0 ≡ 256 ^ i * behind xs i 0
unfolding worth behind
shifted_none xs i = omega arith

shifted : (xs : List ℕ) (i n : ℕ) → worth xs i n ≡ 256 ^ i * behind xs i n
shifted xs i zero = shifted_none xs i
shifted xs i (suc n) =
    worth_more xs i n
    ∙ (ap (λ v. slice_index xs i * 256 ^ i + v) (shifted xs (suc i) n
    ∙ ap (λ p. p * behind xs (suc i) n) (pow-suc 256 i))
    ∙ (factored (slice_index xs i) (256 ^ i) (behind xs (suc i) n)
    ∙ ap (λ v. 256 ^ i * v) (sym (behind_more xs i n))))

same_worth : (xs ys : List ℕ) (i n : ℕ) → ((k : ℕ) → k < i + n → slice_index xs k ≡ slice_index ys k)
    → worth xs i n ≡ worth ys i n
same_worth xs ys i zero same = worth_zero xs i ∙ sym (worth_zero ys i)
same_worth xs ys i (suc n) same =
    let one : slice_index xs i ≡ slice_index ys i = same i (omega arith) in
    let later : worth xs (suc i) n ≡ worth ys (suc i) n = same_worth xs ys (suc i) n (λ k low. same k (omega
    (arith, low))) in
    worth_more xs i n ∙ (ap (λ v. v * 256 ^ i + worth xs (suc i) n) one
    ∙ (ap (λ v. slice_index ys i * 256 ^ i + v) later ∙ sym (worth_more ys i n)))

window_parts : (xs : List ℕ) (w : ℕ) → w ≤ 8
    → from_le_bytes w64 xs ≡ worth xs 0 w + 256 ^ w * behind xs w (8 - w)
window_parts xs w most =
    window_is xs ∙ (split xs 0 w (8 - w) w 8 (omega arith) (omega (arith, most))
    ∙ ap (λ v. worth xs 0 w + v) (shifted xs w (8 - w)))

-- the first byte of a window
pub window_single : (xs : List ℕ) → slice_index xs 0 < 256 → from_le_bytes w64 xs % 256 ≡ slice_index xs 0
window_single xs low =
    let parts = window_parts xs 1 (omega arith) in
    let one = worth_more xs 0 0 in
    let none = worth_zero xs 1 in
    omega (arith, parts, one, none, low)

-- and its first two
pub window_pair : (xs : List ℕ) → slice_index xs 0 < 256 → slice_index xs 1 < 256
    → from_le_bytes w64 xs % 65536 ≡ slice_index xs 0 + 256 * slice_index xs 1
window_pair xs low low' =
    let parts = window_parts xs 2 (omega arith) in
    let one = worth_more xs 0 1 in
    let two = worth_more xs 1 0 in
    let none = worth_zero xs 2 in
    omega (arith, parts, one, two, none, low, low')

times : (a p r f t m : ℕ) → p * f ≡ t * m → (a + p * r) * f ≡ a * f + (r * t) * m
times a p r f t m e =
    add-mul a (p * r) f
    ∙ ap (λ v. a * f + v) (mul_right_comm p r f ∙ (ap (λ v. v * r) e ∙ (mul_comm (t * m) r ∙ sym (mul_assoc r t m))))

reduced : (a p r f t m : ℕ) → p * f ≡ t * m → ((a + p * r) * f) % m ≡ (a * f) % m
reduced a p r f t m e = ap (λ v. v % m) (times a p r f t m e) ∙ add-mul-mod_self_right (a * f) (r * t) m

multiple : (n m : ℕ) → n % m ≡ 0 → n ≡ n / m * m
multiple n m none = sym (mod-add-div' n m) ∙ (ap (λ v. v + n / m * m) none ∙ zero-add (n / m * m))

leading : (factor width : ℕ) (zs : List ℕ) → Weighs factor width
    → (from_le_bytes w64 zs * factor) % 18446744073709551616 ≡ (worth zs 0 width * factor) % 18446744073709551616
leading factor width zs weighs =
    ap (λ v. (v * factor) % 18446744073709551616) (window_parts zs width weighs.most)
    ∙ reduced (worth zs 0 width) (256 ^ width) (behind zs width (8 - width)) factor
    (256 ^ width * factor / 18446744073709551616) 18446744073709551616
    (multiple (256 ^ width * factor) 18446744073709551616 weighs.whole)

pub same_key : (factor width : ℕ) (xs ys : List ℕ) → Weighs factor width
    → ((k : ℕ) → k < width → slice_index xs k ≡ slice_index ys k) → key factor xs ≡ key factor ys
same_key factor width xs ys weighs same =
    let low : worth xs 0 width ≡ worth ys 0 width = same_worth xs ys 0 width (λ k less. same k (omega (arith, less))) in
    ap (λ v. v / 140737488355328) (leading factor width xs weighs
    ∙ (ap (λ v. (v * factor) % 18446744073709551616) low ∙ sym (leading factor width ys weighs)))

-- a text that stands at a place has the key of the place
pub key_at_place : (factor width : ℕ) (bytes text : List ℕ) (place : ℕ) → Weighs factor width → width ≤ length text
    → OccursAt bytes text place → key factor (drop place bytes) ≡ key factor text
key_at_place factor width bytes text place weighs long occurs =
    same_key factor width (drop place bytes) text weighs
    (λ k less. get_or-drop place bytes k 0 ∙ occurs.reads k (omega (arith, less, long)))
