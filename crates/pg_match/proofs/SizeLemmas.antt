-- Sizes that are cut off at a bound.
use Rattle.std.proofs.Common.{◌≡◌, ℕ, zero, suc, ◌+◌, ◌*◌, ◌≤◌, inl, inr, min, ap, ◌∙◌, arith}
use Rattle.std.proofs.Math.Nat.{mul-le-mul_left}
use Rattle.std.proofs.lemmas.Bool.{cases_lt}

module _ (top : ℕ) where
  -- a product with a factor that is cut off
  cut_factor : (a m q : ℕ) → min (a + m * min q top) top ≡ min (a + m * q) top
  cut_factor a m q = elim (cases_lt q top) [
    | inl less ↦ let e : min q top ≡ q = omega arith in ap (λ v. min (a + m * v) top) e
    | inr over ↦ let e : min q top ≡ top = omega arith in ap (λ v. min (a + m * v) top) e ∙ past m over
  ]
    where
      past : (m : ℕ) → top ≤ q → min (a + m * top) top ≡ min (a + m * q) top
      past zero over = omega arith
      past (suc m) over = let more = mul-le-mul_left m over in omega (arith, more)

  -- one part more, of so many copies
  pub cut_part : (times total p q : ℕ) → min (times * p + min (total + times * min q top) top) top ≡ min
      (times * (p + q) + total) top
  cut_part times total p q =
      let a : min (times * p + min (total + times * min q top) top) top ≡ min
      ((times * p + total) + times * min q top) top = omega arith in
      let b = cut_factor (times * p + total) times q in
      let c : (times * p + total) + times * q ≡ times * (p + q) + total = omega arith in
      a ∙ b ∙ ap (λ v. min v top) c

  -- copies of copies, with a part more
  pub cut_copies : (times total copies more s : ℕ)
      → min (min (times * copies) top * s + min (total + times * more) top) top ≡ min
      (times * (copies * s + more) + total) top
  cut_copies times total copies more s =
      let a : min (min (times * copies) top * s + min (total + times * more) top) top
      ≡ min ((total + times * more) + s * min (times * copies) top) top = omega arith in
      let b = cut_factor (total + times * more) s (times * copies) in
      let c : (total + times * more) + s * (times * copies) ≡ times * (copies * s + more) + total = omega arith in
      a ∙ b ∙ ap (λ v. min v top) c

  -- one of two parts
  pub cut_choice : (times total p q : ℕ)
      → min (times * p + min (total + times * (min q top + 1)) top) top ≡ min (times * (p + q + 1) + total) top
  cut_choice times total p q =
      let a : total + times * (min q top + 1) ≡ (total + times) + times * min q top = omega arith in
      let b = cut_part times (total + times) p q in
      let c : times * (p + q) + (total + times) ≡ times * (p + q + 1) + total = omega arith in
      ap (λ v. min (times * p + min v top) top) a ∙ b ∙ ap (λ v. min v top) c

  -- copies, and a state for the loop
  pub cut_loop : (times total copies s : ℕ)
      → min (min (times * copies) top * s + min (total + times) top) top ≡ min (times * (copies * s + 1) + total) top
  cut_loop times total copies s =
      let one : times ≡ times * 1 = omega arith in
      ap (λ v. min (min (times * copies) top * s + min (total + v) top) top) one ∙ cut_copies times total copies 1 s
