-- A line has exactly one list of matched parts.
use Rattle.std.proofs.Common.{◌≡◌, ℕ, zero, suc, ◌+◌, ◌-◌, ◌<◌, ◌≤◌, inl, inr, arith}
use Rattle.std.proofs.Common.{Bool, true, false, cond, refl, sym, ap, ◌∙◌, subst}
use Rattle.std.proofs.Common.{List, ◌∷◌, length, Option, Some, None}
use Rattle.std.proofs.lemmas.Bool.{false≢true, cases_lt}
use Rattle.pg_pattern.specs.Patterns.{Pattern}
use Rattle.pg_pattern.specs.Hits.{Hit, IsNext, HasNoNext}
use Rattle.pg_pattern.specs.Tests.{is_hit}
use Rattle.pg_pattern.specs.Parts.{AreParts, none, more}
use Rattle.pg_pattern.specs.Parts.{longest_hit, at_or_later, next_part, part_and_later, parts_from, parts}
use Rattle.pg_pattern.specs.declared.bounds.Bounds.{Bounds}
use Rattle.pg_pattern.proofs.TestLemmas.{hit_decided}
use Rattle.pg_pattern.proofs.HitLaws.{next_is_one}

module _ (patterns : List Pattern) (bounds : Bounds) (line : List ℕ) where
  abbrev IsHit : ℕ → ℕ → Type 0
  IsHit = Hit patterns bounds line

  abbrev tested : ℕ → ℕ → Bool
  tested = is_hit patterns bounds line

  abbrev longest_of : ℕ → ℕ → Option ℕ
  longest_of = longest_hit patterns bounds line

  -- what a search for the longest hit says
  abbrev IsLongest : ℕ → ℕ → Option ℕ → Type 0
  IsLongest i n None = (j : ℕ) → i < j → j ≤ i + n → IsHit i j → ⊥
  IsLongest i n (Some to) = (i < to) × IsHit i to × ((j : ℕ) → to < j → j ≤ i + n → IsHit i j → ⊥)

  -- where no hit ends
  not_there : (i n j : ℕ) → tested i (i + suc n) ≡ false → i + suc n ≤ j → j ≤ i + suc n → IsHit i j → ⊥
  not_there i n j e low high hit =
      let at : j ≡ i + suc n = omega arith in
      false≢true (sym e ∙ (ap (tested i) (sym at) ∙ (hit_decided patterns bounds line i j).1 hit))

  longer : (i n : ℕ) (r : Option ℕ) → tested i (i + suc n) ≡ false → IsLongest i n r → IsLongest i (suc n) r
  longer i n None e h = λ j low high hit. elim (cases_lt j (i + suc n)) [
    | inl less ↦ h j low (omega arith) hit
    | inr same ↦ not_there i n j e same high hit
  ]
  longer i n (Some to) e h = (
    h.0,
    h.1,
    λ j low high hit. elim (cases_lt j (i + suc n)) [
      | inl less ↦ h.2 j low (omega arith) hit
      | inr same ↦ not_there i n j e same high hit
    ],
  )

  longest_by : (i n : ℕ) (t : Bool) → tested i (i + suc n) ≡ t → IsLongest i n (longest_of i n)
      → IsLongest i (suc n) (cond t (Some (i + suc n)) (longest_of i n))
  longest_by i n true e h =
      (omega arith, (hit_decided patterns bounds line i (i + suc n)).0 e, λ j low high hit. absurd (omega arith))
  longest_by i n false e h = longer i n (longest_of i n) e h

  longest_is : (i n : ℕ) → IsLongest i n (longest_of i n)
  longest_is i zero = λ j low high hit. omega arith
  longest_is i (suc n) = longest_by i n (tested i (i + suc n)) refl (longest_is i n)

  -- what a search for the next part says
  abbrev IsNextOf : ℕ → Option (ℕ × ℕ) → Type 0
  IsNextOf place None = HasNoNext patterns bounds line place
  IsNextOf place (Some part) = IsNext patterns bounds line place part.0 part.1

  next_later : (place : ℕ) (r : Option (ℕ × ℕ)) → ((j : ℕ) → place < j → IsHit place j → ⊥) → IsNextOf (place + 1) r
      → IsNextOf place r
  next_later place None no-hit h = λ i j low some hit. elim (cases_lt place i) [
    | inl less ↦ h i j (omega arith) some hit
    | inr same ↦ let at : i ≡ place = omega arith in no-hit j (omega arith) (subst (λ k. IsHit k j) at hit)
  ]
  next_later place (Some part) no-hit h = record {
    later = omega (arith, h.later);
    some = h.some;
    hit = h.hit;
    first = λ i j low below some hit. elim (cases_lt place i) [
      | inl less ↦ h.first i j (omega arith) below some hit
      | inr same ↦ let at : i ≡ place = omega arith in no-hit j (omega arith) (subst (λ k. IsHit k j) at hit)
    ];
    longest = h.longest;
  }

  next_by : (place : ℕ) (l : Option ℕ) (later : Option (ℕ × ℕ)) → place ≤ length line
      → IsLongest place (length line - place) l → IsNextOf (place + 1) later
      → IsNextOf place (at_or_later place l later)
  next_by place None later within l h =
      next_later place later (λ j some hit. l j some (omega (arith, hit.within)) hit) h
  next_by place (Some to) later within l h = record {
    later = omega arith;
    some = l.0;
    hit = l.1;
    first = λ i j low below some hit. omega arith;
    longest = λ j hit. elim (cases_lt to j) [
      | inl beyond ↦ absurd (l.2 j beyond (omega (arith, hit.within)) hit)
      | inr le ↦ le
    ];
  }

  next_part_is : (place n : ℕ) → place + n ≡ length line → IsNextOf place (next_part patterns bounds line place n)
  next_part_is place zero e = λ i j low some hit. omega (arith, hit.within)
  next_part_is place (suc n) e =
      next_by place (longest_of place (length line - place)) (next_part patterns bounds line (place + 1) n)
      (omega arith) (longest_is place (length line - place)) (next_part_is (place + 1) n (omega arith))

  parts_by : (place n : ℕ) (r : Option (ℕ × ℕ)) → IsNextOf place r
      → ((p : ℕ) → place < p → p ≤ length line → AreParts patterns bounds line p (parts_from patterns bounds line p n))
      → AreParts patterns bounds line place (part_and_later r (λ p. parts_from patterns bounds line p n))
  parts_by place n None h later = none h
  parts_by place n (Some part) h later = more h (later part.1 (omega (arith, h.later, h.some)) h.hit.within)

  parts_from_are : (place n : ℕ) → place ≤ length line → length line ≤ place + n
      → AreParts patterns bounds line place (parts_from patterns bounds line place n)
  unfolding parts_from
  parts_from_are place zero within enough = none (λ i j low some hit. omega (arith, hit.within))
  parts_from_are place (suc n) within enough =
      parts_by place n (next_part patterns bounds line place (length line - place))
      (next_part_is place (length line - place) (omega arith)) (λ p low high. parts_from_are p n high (omega arith))

  pub parts_are_parts : AreParts patterns bounds line 0 (parts patterns bounds line)
  parts_are_parts = parts_from_are 0 (length line) (omega arith) (omega arith)

  same_parts : (place : ℕ) (xs ys : List (ℕ × ℕ)) → AreParts patterns bounds line place xs
      → AreParts patterns bounds line place ys → xs ≡ ys
  same_parts place _ _ (none a) (none b) = refl
  same_parts place _ _ (none a) (more {i} {j} n b) = absurd (a i j n.later n.some n.hit)
  same_parts place _ _ (more {i} {j} m a) (none b) = absurd (b i j m.later m.some m.hit)
  same_parts place _ _ (more {i} {j} {rest = xs} m a) (more {i = i'} {j = j'} {rest = ys} n b) =
      let s = next_is_one patterns bounds line place i j i' j' m n in
      let same = same_parts j' xs ys (subst (λ p. AreParts patterns bounds line p xs) s.1 a) b in
      ap (λ (x : ℕ). (x, j) ∷ xs) s.0 ∙ (ap (λ (x : ℕ). (i', x) ∷ xs) s.1 ∙ ap (λ zs. (i', j') ∷ zs) same)

  pub parts_are_one : (found : List (ℕ × ℕ)) → AreParts patterns bounds line 0 found
      → found ≡ parts patterns bounds line
  parts_are_one found h = same_parts 0 found (parts patterns bounds line) h parts_are_parts
