-- Which places are near a kept one, as the places grow by one.
use Rattle.std.proofs.Common.{◌≡◌, ℕ, zero, suc, ◌+◌, ◌-◌, ◌<◌, ◌≤◌, inl, inr, Bool, true, false, ◌&&◌, ◌||◌, nat_le}
use Rattle.std.proofs.Common.{nat_lt, [], ◌∷◌, ◌++◌, refl, sym, ap, ◌∙◌, subst, arith}
use Rattle.std.specs.List.{range_with_len, list_any}
use Rattle.std.proofs.lemmas.Bool.{and_from, and_right, or_left, or_right, or_from, le-leb, lt-leb, lt-ltb, le-ltb}
use Rattle.std.proofs.lemmas.Bool.{cases_lt}
use Rattle.std.proofs.lemmas.List.Folds.{list_any-append}
use Rattle.pg_rows.specs.Output.{is_near}
use Rattle.std.proofs.Math.Bool.{or-false}

pub range_more : (a n : ℕ) → range_with_len a (suc n) ≡ range_with_len a n ++ (a + n) ∷ []
range_more a zero = let e : a ≡ a + 0 = omega arith in ap (λ (x : ℕ). x ∷ []) e
range_more a (suc n) =
    let e : (a + 1) + n ≡ a + suc n = omega arith in
    ap (λ xs. a ∷ xs) (range_more (a + 1) n ∙ ap (λ x. range_with_len (a + 1) n ++ x ∷ []) e)

pub any_more : (f : ℕ → Bool) (a n : ℕ) →
    list_any f (range_with_len a (suc n)) ≡ (list_any f (range_with_len a n) || f (a + n))
any_more f a n =
    ap (list_any f) (range_more a n) ∙ (list_any-append f (range_with_len a n) ((a + n) ∷ [])
    ∙ ap (λ t. list_any f (range_with_len a n) || t) (or-false (f (a + n))))

pub any_same : (f g : ℕ → Bool) (a n : ℕ) → ((j : ℕ) → a ≤ j → j < a + n → f j ≡ g j)
    → list_any f (range_with_len a n) ≡ list_any g (range_with_len a n)
any_same f g a zero h = refl
any_same f g a (suc n) h =
    ap (λ t. t || list_any f (range_with_len (a + 1) n)) (h a (omega arith) (omega arith))
    ∙ ap (λ t. g a || t) (any_same f g (a + 1) n (λ j low high. h j (omega arith) (omega arith)))

-- the test that is_near asks of a place
abbrev pub is_at : ℕ → ℕ → ℕ → ℕ → Bool
is_at B A n i = nat_le n (i + B) && nat_le i (n + A)

near_more : (kept kept' : ℕ → Bool) (B A n i : ℕ) → ((j : ℕ) → j < n → kept' j ≡ kept j)
    → is_near kept' B A (suc n) i ≡ (is_near kept B A n i || (kept' n && is_at B A n i))
near_more kept kept' B A n i same =
    let z : 0 + n ≡ n = omega arith in
    any_more (λ j. kept' j && is_at B A j i) 0 n
    ∙ (ap (λ k. list_any (λ j. kept' j && is_at B A j i) (range_with_len 0 n) || (kept' k && is_at B A k i)) z
    ∙ ap (λ t. t || (kept' n && is_at B A n i))
    (any_same (λ j. kept' j && is_at B A j i) (λ j. kept j && is_at B A j i) 0 n
    (λ j low high. ap (λ t. t && is_at B A j i) (same j (omega arith)))))

-- n places, of which those from d on aren't near a kept one; the next cd places are
pub record IsNear (B A : ℕ) (kept : ℕ → Bool) (n d cd : ℕ) : Type 0 where
  pub low : d ≤ n
  pub ahead : cd ≤ A
  pub flush : 0 < cd → (d ≡ n) × (0 < d)
  pub none : (i : ℕ) → d ≤ i → i < n → is_near kept B A n i ≡ false
  pub last : (i : ℕ) → i + 1 ≡ d → is_near kept B A n i ≡ true
  pub dense : (i : ℕ) → i < d → n ≤ i + B → is_near kept B A n i ≡ true
  pub coming : (i : ℕ) → n ≤ i → is_near kept B A n i ≡ nat_lt i (n + cd)

pub near_none : (B A : ℕ) (kept : ℕ → Bool) → IsNear B A kept 0 0 0
near_none B A kept = record {
  low = omega arith;
  ahead = omega arith;
  flush = λ h. absurd (omega arith);
  none = λ i low high. absurd (omega arith);
  last = λ i e. absurd (omega arith);
  dense = λ i low high. absurd (omega arith);
  coming = λ i low. sym (le-ltb i (0 + 0) (omega arith));
}

module _ (kept kept' : ℕ → Bool) (B A n d cd : ℕ) (same : (j : ℕ) → j < n → kept' j ≡ kept j)
    (h : IsNear B A kept n d cd) where
  -- a line that isn't kept changes nothing
  pub near_same : kept' n ≡ false → (i : ℕ) → is_near kept' B A (suc n) i ≡ is_near kept B A n i
  near_same unkept i = near_more kept kept' B A n i same
      ∙ (ap (λ t. is_near kept B A n i || (t && is_at B A n i)) unkept ∙ or-false (is_near kept B A n i))

  -- a line that is kept brings those before it
  pub near_new : kept' n ≡ true → (i : ℕ) → i ≤ n
      → is_near kept' B A (suc n) i ≡ (is_near kept B A n i || nat_le n (i + B))
  near_new chosen i below = near_more kept kept' B A n i same
      ∙ ap (λ t. is_near kept B A n i || t)
      (by_at (nat_le n (i + B)) (ap (λ t. t && is_at B A n i) chosen) (le-leb i (n + A) (omega arith)))
    where
      by_at : (t : Bool) → (kept' n && is_at B A n i) ≡ (true && is_at B A n i) → nat_le i (n + A) ≡ true
          → (kept' n && is_at B A n i) ≡ nat_le n (i + B)
      by_at t e le = e ∙ (ap (λ u. nat_le n (i + B) && u) le ∙ and_true (nat_le n (i + B)))
        where
          and_true : (b : Bool) → (b && true) ≡ b
          and_true true = refl
          and_true false = refl

  pub old_below : kept' n ≡ true → (i : ℕ) → i < d → is_near kept' B A (suc n) i ≡ is_near kept B A n i
  old_below chosen i below = near_new chosen i (omega (arith, h.low)) ∙ elim (cases_lt (i + B) n) [
    | inl out ↦ ap (λ t. is_near kept B A n i || t) (lt-leb n (i + B) out) ∙ or-false (is_near kept B A n i)
    | inr inside ↦ let e = h.dense i below inside in or_left (is_near kept B A n i) _ e ∙ sym e
  ]

  pub new_above : kept' n ≡ true → (i : ℕ) → d ≤ i → i < n → is_near kept' B A (suc n) i ≡ nat_le n (i + B)
  new_above chosen i low high = near_new chosen i (omega arith) ∙ ap (λ t. t || nat_le n (i + B)) (h.none i low high)

  pub new_self : kept' n ≡ true → is_near kept' B A (suc n) n ≡ true
  new_self chosen = near_new chosen n (omega arith) ∙ or_right (is_near kept B A n n) _ (le-leb n (n + B) (omega arith))

  pub IsNear-kept : kept' n ≡ true → IsNear B A kept' (suc n) (suc n) A
  IsNear-kept chosen = record {
    low = omega arith;
    ahead = omega arith;
    flush = λ some. (refl, omega arith);
    none = λ i low high. absurd (omega arith);
    last = λ i e. let s : n ≡ i = omega arith in let P : ℕ
        → Type 0 = λ k. is_near kept' B A (suc n) k ≡ true in subst P s (new_self chosen);
    dense = λ i low high. near_new chosen i (omega arith)
        ∙ or_right (is_near kept B A n i) _ (le-leb n (i + B) (omega arith));
    coming = λ i low. near_more kept kept' B A n i same ∙ elim (cases_lt i (suc n + A)) [
      | inl lt ↦ or_right (is_near kept B A n i) _
          (and_from (kept' n) _ chosen (and_from (nat_le n (i + B)) _ (le-leb n (i + B) (omega arith))
          (le-leb i (n + A) (omega arith)))) ∙ sym (lt-ltb i (suc n + A) lt)
      | inr ge ↦ or_from (is_near kept B A n i) _
          (h.coming i (omega arith) ∙ le-ltb i (n + cd) (omega (arith, h.ahead)))
          (and_right (kept' n) _ (and_right (nat_le n (i + B)) _ (lt-leb i (n + A) (omega arith))))
          ∙ sym (le-ltb i (suc n + A) ge)
    ];
  }

  pub IsNear-context : kept' n ≡ false → 0 < cd → IsNear B A kept' (suc n) (suc n) (cd - 1)
  IsNear-context unkept some =
      let f = h.flush some in
      let here : is_near kept B A n n ≡ true = h.coming n (omega arith) ∙ lt-ltb n (n + cd) (omega arith) in
      record {
        low = omega arith;
        ahead = omega (arith, h.ahead);
        flush = λ more. (refl, omega arith);
        none = λ i low high. absurd (omega arith);
        last = λ i e. let s : n ≡ i = omega arith in let P : ℕ
            → Type 0 = λ k. is_near kept' B A (suc n) k ≡ true in subst P s (near_same unkept n ∙ here);
        dense = λ i low high. near_same unkept i ∙ elim (cases_lt i n) [
          | inl lt ↦ h.dense i (omega (arith, f.0)) (omega arith)
          | inr ge ↦ let s : n ≡ i = omega arith in let P : ℕ
              → Type 0 = λ k. is_near kept B A n k ≡ true in subst P s here
        ];
        coming = λ i low. let e : n + cd ≡ suc n + (cd - 1) = omega arith in near_same unkept i
            ∙ (h.coming i (omega arith) ∙ ap (nat_lt i) e);
      }

  pub IsNear-other : kept' n ≡ false → cd ≡ 0 → IsNear B A kept' (suc n) d 0
  IsNear-other unkept zero_left = record {
    low = omega (arith, h.low);
    ahead = omega arith;
    flush = λ some. absurd (omega arith);
    none = λ i low high. near_same unkept i ∙ elim (cases_lt i n) [
      | inl lt ↦ h.none i low lt
      | inr ge ↦ h.coming i ge ∙ le-ltb i (n + cd) (omega arith)
    ];
    last = λ i e. near_same unkept i ∙ h.last i e;
    dense = λ i low high. near_same unkept i ∙ h.dense i low (omega arith);
    coming = λ i low. near_same unkept i ∙
        (h.coming i (omega arith) ∙ (le-ltb i (n + cd) (omega arith) ∙ sym (le-ltb i (suc n + 0) (omega arith))));
  }
