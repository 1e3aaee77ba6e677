-- The literals of one more pattern.
use Rattle.std.specs.Prelude.{◌≡◌, ℕ, Bool, List, [], ◌∷◌, ◌++◌, ◌<◌, ◌↔◌, length, map, IsTrue}
use Rattle.std.specs.List.{All}
use Rattle.pg_grammar.specs.Grammar.{Spells}
use Rattle.pg_pattern.specs.Patterns.{Pattern}
use Rattle.pg_grammar.specs.declared.pattern_list.Kind.TheVariants.{Fixed}
use Rattle.pg_pattern.specs.declared.bounds.Bounds.{Bounds}
use Rattle.pg_pattern.specs.declared.bounds.Bounds.TheVariants.{Any}
use Rattle.pg_literal.specs.Literals.{as_searched, AreNeeded, AreHeads, AreEnough, AreTexts}
use Rattle.pg_literal.specs.declared.literal.Literal.{Literal}

-- The literals of the pattern stand behind those that there were. That of a fixed string is the string; where any match
-- counts, it is enough.
pub record Adds {A : Type 0} (fold : Bool) (bounds : Bounds) (p : Pattern) (old new : List (Literal A)) : Type 0 where
  pub added : List (Literal A)
  pub joins : new ≡ old ++ added
  pub needed : AreNeeded fold (p ∷ []) bounds added
  pub heads : All (λ literal. IsTrue literal.is_head) added → AreHeads fold (p ∷ []) bounds added
  pub enough : AreEnough fold (p ∷ []) bounds added
  pub exact : (text : List ℕ) → Spells Fixed fold text p
      → map (λ literal. literal.text.items) added ≡ as_searched fold text ∷ []
  pub fixed : (text : List ℕ) → Spells Fixed fold text p → bounds ≡ Any → AreTexts (as_searched fold text ∷ []) added

-- One literal stands behind those that there were: this text, which is enough where any match counts, and a head unless
-- it is empty.
pub record AddsOnly {A : Type 0} (bounds : Bounds) (text : List ℕ) (old new : List (Literal A)) : Type 0 where
  pub literal : Literal A
  pub joins : new ≡ old ++ literal ∷ []
  pub text_is : literal.text.items ≡ text
  pub enough : IsTrue literal.is_enough ↔ (bounds ≡ Any)
  pub head : IsTrue literal.is_head → 0 < length text
