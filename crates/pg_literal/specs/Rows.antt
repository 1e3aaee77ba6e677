-- Rows of sets of bytes, and the texts that they are multiplied out into.
use Rattle.std.specs.Prelude.{◌≡◌, ◌↔◌, ◌≤◌, ℕ, ◌+◌, Bool, List, [], ◌∷◌, ◌++◌, length, map, reverse, slice_get, Some}
use Rattle.std.specs.Prelude.{true, Vec, if◌then◌else◌}
use Rattle.std.specs.List.{All, Any, Contains}
use Rattle.memchr.specs.Find.{OccursAt}
use Rattle.pg_bytes.specs.ByteSets.{bytes}
use Rattle.pg_bytes.specs.Sets.{Bytes, lower_case}
use Rattle.pg_bytes.specs.declared.byte_set.ByteSet.{ByteSet}
use Rattle.pg_literal.specs.Literals.{as_searched}
use Rattle.pg_literal.specs.declared.literal.Literal.{Literal}

-- a byte of each set stands in the line from a place on, one behind the other
abbrev pub StandsAt : List ℕ → List Bytes → ℕ → Type 0
StandsAt line [] i = i ≤ length line
StandsAt line (set ∷ sets) i =
    ((b : ℕ) × (slice_get line i ≡ Some b) × (set b ≡ true)) × StandsAt line sets (i + 1)

-- the row, forwards, of sets that lie backwards
abbrev pub row_of : List ByteSet → List Bytes
row_of sets = reverse (map bytes sets)

-- the row of sets that lie forwards
abbrev pub row_along : List ByteSet → List Bytes
row_along sets = map bytes sets

-- the byte as it is searched for: itself, or where case is folded, in lower case
abbrev pub byte_as_searched : Bool → ℕ → ℕ
byte_as_searched fold b = if fold then lower_case b else b

-- the byte is in the set, whose bytes are those that are searched for as it is
abbrev pub IsAlone : Bool → Bytes → ℕ → Type 0
IsAlone fold set b = (set b ≡ true) × ((c : ℕ) → (set c ≡ true) ↔ (byte_as_searched fold c ≡ b))

-- the set's bytes are those that are searched for as one of these
abbrev pub AreChoices : Bool → Bytes → List ℕ → Type 0
AreChoices fold set choices = (c : ℕ) → (set c ≡ true) ↔ Contains choices (byte_as_searched fold c)

-- one of the texts stands where the row does, and nowhere else
abbrev pub AreProduct : Bool → List Bytes → List (List ℕ) → Type 0
AreProduct fold row texts =
    (line : List ℕ) (i : ℕ) → StandsAt line row i ↔ Any (λ text. OccursAt (as_searched fold line) text i) texts

-- the literals of a row, which have two flags, stand behind those that there were
pub record Multiplies {A : Type 0} (fold : Bool) (row : List Bytes) (is_enough is_head : Bool)
    (old new : List (Literal A)) : Type 0 where
  pub added : List (Literal A)
  pub joins : new ≡ old ++ added
  pub texts : AreProduct fold row (map (λ literal. literal.text.items) added)
  pub flags : All (λ literal. (literal.is_enough ≡ is_enough) × (literal.is_head ≡ is_head)) added
