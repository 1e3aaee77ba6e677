-- The literals of fixed strings (XCU grep, -F), and of expressions that spell what these do.
use Rattle.std.specs.Prelude.{◌≡◌, ◌<◌, ◌↔◌, ℕ, Bool, List, length, IsTrue}
use Rattle.std.specs.List.{AllZip}
use Rattle.pg_literal.specs.Literals.{as_searched}
use Rattle.pg_literal.specs.declared.literal.Literal.{Literal}
use Rattle.pg_grammar.specs.Grammar.{Spells}
use Rattle.pg_selection.specs.Search.{SearchText, Pattern, Bounds, Any, Fixed, AreTreesOf, patterns}

-- each pattern spells what it spells as a fixed string
abbrev pub AreFixed : SearchText → Type 0
AreFixed text =
    (trees : List Pattern) → AreTreesOf text trees → AllZip (Spells Fixed text.fold) (patterns text.lists) trees

-- the literal is the string as it is searched for; it is enough where any match counts, and a head unless it is empty
pub record IsStringLiteral {A : Type 0} (fold : Bool) (bounds : Bounds) (string : List ℕ) (literal : Literal A) : Type 0
  where
    pub text : literal.text.items ≡ as_searched fold string
    pub enough : IsTrue literal.is_enough ↔ (bounds ≡ Any)
    pub head : IsTrue literal.is_head ↔ (0 < length string)

-- each string has its literal, in their order
abbrev pub AreStringLiterals : {A : Type 0} → Bool → Bounds → List (List ℕ) → List (Literal A) → Type 0
AreStringLiterals fold bounds strings literals = AllZip (IsStringLiteral fold bounds) strings literals
