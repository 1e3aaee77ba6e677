-- Patterns that fixed strings spell, for the functions of strings.rt.
use Rattle.std.proofs.Common.{ℕ, Bool, true, false, ◌≡◌, ◌≢◌, ◌↔◌, ◌⊎◌, inl, inr, ◌+◌, ◌-◌, ◌≤◌, ◌==◌, ◌++◌, List, []}
use Rattle.std.proofs.Common.{◌∷◌, refl, sym, ap, ◌∙◌, subst, arith, length, length-append, IsTrue}
use Rattle.std.proofs.Common.{Option, None, Some, is_some}
use Rattle.std.specs.Prelude.{MatchOption}
use Rattle.std.proofs.lemmas.Bool.{eq-eqb, eqb-true, false≢true}
use Rattle.pg_bytes.specs.Sets.{Bytes, one, all}
use Rattle.pg_pattern.specs.Patterns.{Pattern, Empty, Set, Cat, folded}
use Rattle.pg_pattern.specs.Trees.{pattern}
use Rattle.pg_pattern.specs.declared.tree.Tree.{Tree}
use Rattle.pg_pattern.specs.declared.tree.Tree.TheVariants as T
use Rattle.pg_pattern.proofs.PatternLemmas.{pattern-begin, pattern-end, pattern-alt, pattern-rep}
use Rattle.pg_grammar.specs.Grammar as G
use Rattle.pg_grammar.specs.Grammar.{Literal, Spells}
use Rattle.pg_grammar.specs.declared.pattern_list.Kind.TheVariants.{Fixed}
use Rattle.pg_literal.specs.Rows.{IsAlone, byte_as_searched}
use Rattle.pg_literal.specs.Strings.{IsOfString}
use Rattle.pg_literal.proofs.FoldLemmas.{folded_alone}

same_answer : (s t : Bool) → (s ≡ true → t ≡ true) → (t ≡ true → s ≡ true) → s ≡ t
same_answer true true f g = refl
same_answer true false f g = sym (f refl)
same_answer false true f g = g refl
same_answer false false f g = refl

-- a set of what is searched for as one byte is that byte's
pub alone_is : (fold : Bool) (set : Bytes) (b : ℕ) → IsAlone fold set b → set ≡ folded fold (one b)
alone_is fold set b alone = λ i c. same c i
  where
    own : IsAlone fold (folded fold (one b)) b
    own = subst (IsAlone fold (folded fold (one b))) ((alone.1 b).0 alone.0) (folded_alone fold b)

    same : (c : ℕ) → set c ≡ folded fold (one b) c
    same c = same_answer (set c) (folded fold (one b) c) (λ yes. (own.1 c).1 ((alone.1 c).0 yes))
        (λ yes. (alone.1 c).1 ((own.1 c).0 yes))

-- the byte that was found
pub alone_of : (fold : Bool) (set : Bytes) (found : Option ℕ) (told : Bool)
    → MatchOption found ((b : ℕ) → IsAlone fold set b → ⊥) (IsAlone fold set) → told ≡ is_some found
    → IsTrue told ↔ ((b : ℕ) × (set ≡ folded fold (one b)))
alone_of fold set None told none is = (
  λ some. absurd (false≢true (sym is ∙ some)),
  λ byte. absurd (none (byte_as_searched fold byte.0)
      (subst (λ s. IsAlone fold s (byte_as_searched fold byte.0)) (sym byte.1) (folded_alone fold byte.0))),
)
alone_of fold set (Some b) told alone is = (λ _. (b, alone_is fold set b alone), λ _. is)

-- the parts of a pattern
first_of : Pattern → Pattern
first_of (Cat first last) = first
first_of p = p

last_of : Pattern → Pattern
last_of (Cat first last) = last
last_of p = p

set_of : Pattern → Bytes
set_of (Set set) = set
set_of p = all

-- a number for each node that a string may have, and a greater one for others
abbrev pub number_of : Pattern → ℕ
number_of Empty = 0
number_of (Set set) = 1
number_of (Cat first last) = 2
number_of p = 3

-- those of the nodes that no string has
pub number_of_other : {A : Type 0} (tree : Tree A)
    → (tree ≡ T.Begin) ⊎ ((tree ≡ T.End) ⊎ (((a : _) × (b : _) × (tree ≡ T.Alt a b))
    ⊎ ((a : _) × (least : ℕ) × (most : Option ℕ) × (tree ≡ T.Rep a least most))))
    → number_of (pattern tree) ≡ 3
number_of_other tree (inl is) = ap number_of (pattern-begin tree is)
number_of_other tree (inr (inl is)) = ap number_of (pattern-end tree is)
number_of_other tree (inr (inr (inl (a, b, is)))) = ap number_of (pattern-alt tree a b is)
number_of_other tree (inr (inr (inr (a, least, most, is)))) = ap number_of (pattern-rep tree a least most is)

-- it is a set of that one byte where its set is
pub set_is : (fold : Bool) (p : Pattern) (set : Bytes) (told : Bool) → p ≡ Set set
    → IsTrue told ↔ ((b : ℕ) × (set ≡ folded fold (one b)))
    → IsTrue told ↔ ((b : ℕ) × (p ≡ Set (folded fold (one b))))
unfolding set_of
set_is fold p set told is same = (
  λ yes. let byte = same.0 yes in (byte.0, is ∙ ap Set byte.1),
  λ byte. same.1 (byte.0, ap set_of (sym is ∙ byte.1)),
)

-- what a literal is made of
literal_parts : {fold : Bool} {text : List ℕ} {p : Pattern} → Literal fold text p
    → (b : ℕ) × (((p ≡ Set (folded fold (one b))) × (length text ≡ 1))
    ⊎ ((before : List ℕ) × (first : Pattern) × (p ≡ Cat first (Set (folded fold (one b)))) × Literal fold before first
    × (length text ≡ length before + 1)))
literal_parts (G.first b) = (b, inl (refl, refl))
literal_parts (G.more {text} {p} l b) = (b, inr (text, p, refl, l, length-append text (b ∷ [])))

-- it has a byte
pub literal_some : {fold : Bool} {text : List ℕ} {p : Pattern} → Literal fold text p → 1 ≤ length text
literal_some (G.first b) = omega arith
literal_some (G.more {text} {p} l b) = omega (arith, length-append text (b ∷ []))

-- a literal of several bytes
literal_cat : (fold : Bool) (text : List ℕ) (p first last : Pattern) → Literal fold text p → p ≡ Cat first last
    → (before : List ℕ) × Literal fold before first × (length text ≡ length before + 1)
    × ((b : ℕ) × (last ≡ Set (folded fold (one b))))
unfolding first_of last_of
literal_cat fold text p first last literal cat =
    let parts = literal_parts literal in
    elim parts.1 [
      | inl alone ↦ absurd (omega (arith, ap number_of (sym alone.0 ∙ cat)))
      | inr (before, head, is, l, size) ↦ (
        before,
        subst (Literal fold before) (ap first_of (sym is ∙ cat)) l,
        size,
        (parts.0, ap last_of (sym cat ∙ is)),
      )
    ]

-- What is left of a tree is a literal of at most so many bytes; or nothing, where all of it is left.
abbrev pub IsRest : Bool → Pattern → ℕ → Type 0
IsRest fold p room =
    ((p ≡ Empty) × (room ≡ 4096)) ⊎ ((text : List ℕ) × Literal fold text p × (length text ≤ room))

-- a fixed string spells the whole where it spells what is left
abbrev pub IsLeft : Bool → Pattern → Pattern → ℕ → Type 0
IsLeft fold whole rest room = IsOfString fold whole ↔ IsRest fold rest room

-- all of it is left at first
pub all_left : (fold : Bool) (whole : Pattern) → IsLeft fold whole whole 4096
all_left fold whole = (λ s. to s.1, back)
  where
    to : {text : List ℕ} {p : Pattern} → Spells Fixed fold text p → IsRest fold p 4096
    to G.nothing = inl (refl, refl)
    to (G.some {text} few literal) = inr (text, literal, few)

    back : IsRest fold whole 4096 → IsOfString fold whole
    back (inl none) = ([], subst (Spells Fixed fold []) (sym none.0) G.nothing)
    back (inr (text, literal, few)) = (text, G.some few literal)

module _ (fold : Bool) (whole rest : Pattern) (room : ℕ) (left : IsLeft fold whole rest room) where
  -- one byte fewer
  pub cat_left : (first last : Pattern) (b : ℕ) → rest ≡ Cat first last → last ≡ Set (folded fold (one b))
      → 1 ≤ room → room ≤ 4096 → IsLeft fold whole first (room - 1)
  cat_left first last b cat byte some few = (λ yes. shorter (left.0 yes), λ less. left.1 (longer less))
    where
      shorter : IsRest fold rest room → IsRest fold first (room - 1)
      shorter (inl none) = absurd (omega (arith, ap number_of (sym none.0 ∙ cat)))
      shorter (inr (text, literal, short)) =
          let parts = literal_cat fold text rest first last literal cat in
          inr (parts.0, parts.1, omega (arith, parts.2, short))

      longer : IsRest fold first (room - 1) → IsRest fold rest room
      longer (inl none) = absurd (omega (arith, none.1, some, few))
      longer (inr (text, literal, short)) = inr (
        text ++ b ∷ [],
        subst (Literal fold (text ++ b ∷ [])) (sym (cat ∙ ap (Cat first) byte)) (G.more literal b),
        omega (arith, short, some, length-append text (b ∷ [])),
      )

  -- no room for the first of several bytes, or the last of them is none
  pub cat_stops : (first last : Pattern) → rest ≡ Cat first last
      → (room ≡ 1) ⊎ (((b : ℕ) × (last ≡ Set (folded fold (one b)))) → ⊥) → IsTrue false ↔ IsOfString fold whole
  cat_stops first last cat why = (λ no. absurd (false≢true no), λ yes. absurd (stops (left.0 yes)))
    where
      stops : IsRest fold rest room → ⊥
      stops (inl none) = omega (arith, ap number_of (sym none.0 ∙ cat))
      stops (inr (text, literal, short)) =
          let parts = literal_cat fold text rest first last literal cat in
          elim why [
            | inl no_room ↦ omega (arith, parts.2, short, no_room, literal_some parts.1)
            | inr no_byte ↦ no_byte parts.3
          ]

  -- a set is left
  pub set_left : (set : Bytes) (told : Bool) → rest ≡ Set set → 1 ≤ room
      → IsTrue told ↔ ((b : ℕ) × (rest ≡ Set (folded fold (one b)))) → IsTrue told ↔ IsOfString fold whole
  set_left set told is some same = (λ yes. left.1 (inr (byte (same.0 yes))), λ yes. same.1 (back (left.0 yes)))
    where
      byte : ((b : ℕ) × (rest ≡ Set (folded fold (one b))))
          → (text : List ℕ) × Literal fold text rest × (length text ≤ room)
      byte (b, alone) = (b ∷ [], subst (Literal fold (b ∷ [])) (sym alone) (G.first b), some)

      back : IsRest fold rest room → (b : ℕ) × (rest ≡ Set (folded fold (one b)))
      back (inl none) = absurd (omega (arith, ap number_of (sym none.0 ∙ is)))
      back (inr (text, literal, short)) =
          let parts = literal_parts literal in
          elim parts.1 [
            | inl alone ↦ (parts.0, alone.0)
            | inr (before, head, cat, l, size) ↦ absurd (omega (arith, ap number_of (sym cat ∙ is)))
          ]

  -- neither a set nor parts are left: at most nothing, where nothing was there
  rest_is : number_of rest ≢ 1 → number_of rest ≢ 2 → IsRest fold rest room → (rest ≡ Empty) × (room ≡ 4096)
  rest_is no_set no_cat (inl none) = none
  rest_is no_set no_cat (inr (text, literal, short)) =
      let parts = literal_parts literal in
      elim parts.1 [
        | inl alone ↦ absurd (no_set (ap number_of alone.0))
        | inr (before, head, cat, l, size) ↦ absurd (no_cat (ap number_of cat))
      ]

  -- nothing is left
  pub none_left : rest ≡ Empty → IsTrue (room == 4096) ↔ IsOfString fold whole
  none_left is = (
    λ yes. left.1 (inl (is, eqb-true room 4096 yes)),
    λ yes. eq-eqb room 4096 (rest_is
        (λ set. omega (arith, set, ap number_of is)) (λ cat. omega (arith, cat, ap number_of is)) (left.0 yes)).1,
  )

  -- what is left is no string's
  pub other_left : number_of rest ≡ 3 → IsTrue false ↔ IsOfString fold whole
  other_left other = (
    λ no. absurd (false≢true no),
    λ yes. absurd (omega (
      arith,
      other,
      ap number_of (rest_is (λ set. omega (arith, set, other)) (λ cat. omega (arith, cat, other)) (left.0 yes)).0,
    )),
  )
