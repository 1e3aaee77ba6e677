-- Patterns that match one byte of a set.
use Rattle.std.proofs.Common.{◌≡◌, ◌↔◌, ◌⊎◌, ◌||◌, ◌∙◌, ℕ, Bool, true, false, List, inl, inr, refl, sym, ap, subst}
use Rattle.std.proofs.lemmas.Bool.{cases_Bool, false≢true}
use Rattle.pg_bytes.specs.ByteSets.{bytes}
use Rattle.pg_bytes.specs.Sets.{Bytes, empty, union}
use Rattle.pg_bytes.specs.declared.byte_set.ByteSet.{ByteSet}
use Rattle.pg_pattern.specs.Patterns.{Pattern, Alt, Set}
use Rattle.pg_pattern.specs.Matches.{Match}
use Rattle.pg_literal.specs.Known.{MatchesSet}

-- the whole pattern matches what is left of it does, or one byte of the set
abbrev pub Joins : Pattern → Pattern → Bytes → Type 0
Joins whole p found =
    (line : List ℕ) (i j : ℕ) → Match whole line i j ↔ (Match p line i j ⊎ Match (Set found) line i j)

-- one byte of two sets together
either_set : (s t : Bytes) (line : List ℕ) (i j : ℕ)
    → Match (Set (union s t)) line i j ↔ (Match (Set s) line i j ⊎ Match (Set t) line i j)
either_set s t line i j = (
  λ m. elim (cases_Bool (s m.0)) [
    | inl here ↦ inl (m.0, m.1, here, m.3)
    | inr not_here ↦ inr (m.0, m.1, sym (ap (λ x. x || t m.0) not_here) ∙ m.2, m.3)
  ],
  λ h. elim h [
    | inl m ↦ (m.0, m.1, ap (λ x. x || t m.0) m.2, m.3)
    | inr m ↦ (m.0, m.1, ap (λ x. s m.0 || x) m.2 ∙ any_or_true (s m.0), m.3)
  ],
)
  where
    any_or_true : (a : Bool) → (a || true) ≡ true
    any_or_true true = refl
    any_or_true false = refl

pub joins_first : (p : Pattern) → Joins p p empty
joins_first p line i j = (λ m. inl m, λ h. elim h [ inl m ↦ m | inr m ↦ absurd (false≢true m.2) ])

pub joins_more : (whole first : Pattern) (found set new : ByteSet)
    → Joins whole (Alt first (Set (bytes set))) (bytes found)
    → bytes new ≡ union (bytes found) (bytes set) → Joins whole first (bytes new)
joins_more whole first found set new joins is line i j =
    let so = joins line i j in
    let both = subst
    (λ s. Match (Set s) line i j ↔ (Match (Set (bytes found)) line i j ⊎ Match (Set (bytes set)) line i j))
    (sym is) (either_set (bytes found) (bytes set) line i j) in (
      λ m. elim (so.0 m) [
        | inl rest ↦ elim rest [ inl front ↦ inl front | inr last ↦ inr (both.1 (inr last)) ]
        | inr old ↦ inr (both.1 (inl old))
      ],
      λ h. elim h [
        | inl front ↦ so.1 (inl (inl front))
        | inr one ↦ elim (both.0 one) [ inl old ↦ so.1 (inr old) | inr last ↦ so.1 (inl (inr last)) ]
      ],
    )

pub joins_last : (whole : Pattern) (found set new : ByteSet) → Joins whole (Set (bytes set)) (bytes found)
    → bytes new ≡ union (bytes found) (bytes set) → MatchesSet whole (bytes new)
joins_last whole found set new joins is line i j =
    let so = joins line i j in
    let both = subst
    (λ s. Match (Set s) line i j ↔ (Match (Set (bytes found)) line i j ⊎ Match (Set (bytes set)) line i j))
    (sym is) (either_set (bytes found) (bytes set) line i j) in (
      λ m. elim (so.0 m) [ inl last ↦ both.1 (inr last) | inr old ↦ both.1 (inl old) ],
      λ one. elim (both.0 one) [ inl old ↦ so.1 (inr old) | inr last ↦ so.1 (inl last) ],
    )
