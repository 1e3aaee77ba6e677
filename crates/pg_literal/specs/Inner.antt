-- What texts of a part of a pattern tell of the whole.
use Rattle.std.specs.Prelude.{◌≡◌, ℕ, Bool, List, [], ◌∷◌, false}
use Rattle.std.specs.List.{All}
use Rattle.pg_grammar.specs.Grammar.{Spells}
use Rattle.pg_pattern.specs.Patterns.{Pattern}
use Rattle.pg_grammar.specs.declared.pattern_list.Kind.TheVariants.{Fixed}
use Rattle.pg_pattern.specs.Hits.{HasHit}
use Rattle.pg_pattern.specs.declared.bounds.Bounds.TheVariants.{Any}
use Rattle.pg_literal.specs.Literals.{AreNeeded}
use Rattle.pg_literal.specs.declared.literal.Literal.{Literal}

-- the bytes of a literal
abbrev pub text_of : {A : Type 0} → Literal A → List ℕ
text_of literal = literal.text.items

-- the literal says no more than that it may be needed
abbrev pub IsNeededOnly : {A : Type 0} → Literal A → Type 0
IsNeededOnly literal = (literal.is_enough ≡ false) × (literal.is_head ≡ false)

-- Wherever the outer pattern matches a part of a line, the inner one does. Where a fixed string spells the outer one,
-- one spells the inner one.
pub record IsPart (fold : Bool) (inner outer : Pattern) : Type 0 where
  pub within : (line : List ℕ) → HasHit (outer ∷ []) Any line → HasHit (inner ∷ []) Any line
  pub spelled : (text : List ℕ) → Spells Fixed fold text outer → (part : List ℕ) × Spells Fixed fold part inner

-- Each line with a match of the pattern holds one of the texts, of which no more is known. No fixed string spells the
-- pattern.
pub record AreInnerTexts {A : Type 0} (fold : Bool) (p : Pattern) (literals : List (Literal A)) : Type 0 where
  pub needed : AreNeeded fold (p ∷ []) Any literals
  pub plain : All IsNeededOnly literals
  pub unspelled : (text : List ℕ) → Spells Fixed fold text p → ⊥
