-- What texts tell of the lines in which a search has a hit.
use Rattle.std.specs.Prelude.{◌≡◌, ◌<◌, List, ◌++◌, ℕ, Bool, true, IsTrue, length, map, Option, None, Some}
use Rattle.std.specs.Borrow.{Bor}
use Rattle.std.specs.List.{All, Any}
use Rattle.pg_literal.specs.Literals.{Holds}
use Rattle.pg_literal.specs.Literals as P
use Rattle.pg_literal.specs.Rows.{StandsAt, row_along}
use Rattle.pg_literal.specs.declared.literal.Literal.{Literal}
use Rattle.pg_literal.specs.declared.row_finder.RowFinder.{RowFinder}
use Rattle.pg_strings.specs.Outcomes.{strings_of}
use Rattle.pg_prefilter.specs.Enough.{strings_if_some}
use Rattle.pg_prefilter.specs.declared.literal_set.LiteralSet.{LiteralSet}
use Rattle.pg_blocks.specs.Lines.{IsLine}
use Rattle.pg_selection.specs.Search.{SearchText, Pattern, AreTreesOf, bounds_of, search_of, terminator_of}
use Rattle.pg_selection.specs.Selection.{HasMatch}

-- a literal as plain data
pub record LiteralData : Type 0 where
  pub text : List ℕ
  pub is_enough : Bool

abbrev pub data_of : {A : Type 0} → Literal A → LiteralData
data_of literal = record { text = literal.text.items; is_enough = literal.is_enough }

-- a text as a literal with a flag
abbrev pub flagged : Bool → List ℕ → LiteralData
flagged is_enough text = record { text = text; is_enough = is_enough }

-- the literals of a set, which have one flag, and those that are enough though not all are
abbrev pub set_literals : {A : Type 0} → LiteralSet A → List LiteralData
set_literals set =
    map (flagged set.is_enough) (strings_of set.strings) ++ map (flagged true) (strings_if_some set.enough)

-- the literals of a set, if there is one, or else those of a list
abbrev pub literals_given : {A : Type 0} → Option (Bor (LiteralSet A)) → List (Literal A) → List LiteralData
literals_given None literals = map data_of literals
literals_given (Some set) literals = set_literals set.now

-- the line holds one of the texts; with -i the line in lower case does
abbrev pub HoldsOne : Bool → List LiteralData → List ℕ → Type 0
HoldsOne fold literals line = Any (λ literal. Holds fold line literal.text) literals

-- where the flag is set, each line that holds the text has a hit
abbrev pub IsEnough : SearchText → LiteralData → Type 0
IsEnough text literal =
    IsTrue literal.is_enough → (trees : List Pattern) → AreTreesOf text trees → (line : List ℕ)
    → Holds text.fold line literal.text → HasMatch (search_of text trees) line

-- Texts without the terminator, whose flags say truly which of them are enough. Where there are any, each line with a
-- hit holds one of them.
pub record AreLiterals (text : SearchText) (literals : List LiteralData) : Type 0 where
  pub lines : All (λ literal. IsLine (terminator_of text) literal.text) literals
  pub needed : 0 < length literals → (trees : List Pattern) → AreTreesOf text trees → (line : List ℕ)
      → HasMatch (search_of text trees) line → HoldsOne text.fold literals line
  pub enough : All (IsEnough text) literals

-- Where all literals are told to be heads, no hit is empty, and each begins with one of them; with -i in the line in
-- lower case.
abbrev pub TellHeads : {A : Type 0} → SearchText → List (Literal A) → Type 0
TellHeads text literals =
    0 < length literals → All (λ literal. IsTrue literal.is_head) literals → (trees : List Pattern)
    → AreTreesOf text trees → P.AreHeads text.fold trees (bounds_of text) literals

-- the sets of a finder, one behind the other
abbrev pub finder_row : {A : Type 0} → RowFinder A → List (ℕ → Bool)
finder_row finder = row_along finder.sets.items

-- the row stands somewhere in the line
abbrev pub HoldsRow : List (ℕ → Bool) → List ℕ → Type 0
HoldsRow row line = (i : ℕ) × StandsAt line row i

-- A row that isn't empty and has no terminator. It stands in each line with a hit, and its flag says truly whether each
-- line in which it stands has one.
pub record IsRowOf {A : Type 0} (text : SearchText) (finder : RowFinder A) : Type 0 where
  pub some : 0 < length (finder_row finder)
  pub within : All (λ set. set (terminator_of text) ≡ true → ⊥) (finder_row finder)
  pub needed : (trees : List Pattern) → AreTreesOf text trees → (line : List ℕ) → IsLine (terminator_of text) line
      → HasMatch (search_of text trees) line → HoldsRow (finder_row finder) line
  pub enough : IsTrue finder.is_enough → (trees : List Pattern) → AreTreesOf text trees → (line : List ℕ)
      → HoldsRow (finder_row finder) line → HasMatch (search_of text trees) line
