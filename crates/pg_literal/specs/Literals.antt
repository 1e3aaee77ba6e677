-- What texts tell of the lines that some patterns match.
use Rattle.std.specs.Prelude.{◌≡◌, ◌<◌, ℕ, Bool, List, map, IsTrue, if◌then◌else◌}
use Rattle.std.specs.List.{All, Any}
use Rattle.memchr.specs.Find.{OccursAt}
use Rattle.pg_bytes.specs.Sets.{lower_case}
use Rattle.pg_pattern.specs.Patterns.{Pattern}
use Rattle.pg_pattern.specs.Hits.{HasHit, Hit}
use Rattle.pg_pattern.specs.declared.bounds.Bounds.{Bounds}
use Rattle.pg_literal.specs.declared.literal.Literal.{Literal}

-- the line as texts are searched for in it: itself, or where case is folded, in lower case (XCU grep, -i)
abbrev pub as_searched : Bool → List ℕ → List ℕ
as_searched fold line = if fold then map lower_case line else line

-- the text stands somewhere in the line
abbrev pub Holds : Bool → List ℕ → List ℕ → Type 0
Holds fold line text = (place : ℕ) × OccursAt (as_searched fold line) text place

-- each line with a hit holds one of the texts
abbrev pub AreNeeded : {A : Type 0} → Bool → List Pattern → Bounds → List (Literal A) → Type 0
AreNeeded fold patterns bounds literals =
    (line : List ℕ) → HasHit patterns bounds line → Any (λ literal. Holds fold line literal.text.items) literals

-- no hit is empty, and each begins with one of the texts
abbrev pub AreHeads : {A : Type 0} → Bool → List Pattern → Bounds → List (Literal A) → Type 0
AreHeads fold patterns bounds literals =
    (line : List ℕ) (i j : ℕ) → Hit patterns bounds line i j
    → (i < j) × Any (λ literal. OccursAt (as_searched fold line) literal.text.items i) literals

-- each line that holds the text has a hit
abbrev pub IsEnoughText : Bool → List Pattern → Bounds → List ℕ → Type 0
IsEnoughText fold patterns bounds text = (line : List ℕ) → Holds fold line text → HasHit patterns bounds line

-- each line that holds a text whose flag is set has a hit
abbrev pub AreEnough : {A : Type 0} → Bool → List Pattern → Bounds → List (Literal A) → Type 0
AreEnough fold patterns bounds literals =
    All (λ literal. IsTrue literal.is_enough → IsEnoughText fold patterns bounds literal.text.items) literals

-- these are the texts, and each of them is enough
pub record AreTexts {A : Type 0} (wanted : List (List ℕ)) (literals : List (Literal A)) : Type 0 where
  pub texts : map (λ literal. literal.text.items) literals ≡ wanted
  pub enough : All (λ literal. IsTrue literal.is_enough) literals
