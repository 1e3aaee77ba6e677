-- Strings of one and two bytes.
use Rattle.std.specs.Prelude.{◌≡◌, ℕ, ◌+◌, ◌*◌, ◌<◌, ◌≤◌, ◌&&◌, Bool, false, List, Option, length, slice_index}
use Rattle.std.specs.Prelude.{slice_index_or, nat_eq}
use Rattle.std.specs.Option.{ForNone, ForSome}
use Rattle.std.specs.List.{All, Any, list_any}
use Rattle.memchr.specs.Find.{OccursAt}
use Rattle.pg_pattern.specs.declared.bounds.Bounds.{Bounds}
use Rattle.pg_strings.specs.Sets.{StandsAs, StandsSo}
use Rattle.pg_strings.specs.declared.short.ShortStrings.{ShortStrings}

-- whether the string is this byte
abbrev pub is_single : ℕ → List ℕ → Bool
is_single byte string = nat_eq (length string) 1 && nat_eq (slice_index string 0) byte

-- whether the string is these two bytes
abbrev pub is_pair : ℕ → ℕ → List ℕ → Bool
is_pair first second string =
    nat_eq (length string) 2 && (nat_eq (slice_index string 0) first && nat_eq (slice_index string 1) second)

-- the tables tell of each byte, and of each two bytes, whether they are one of the strings
pub record AreTables (singles pairs : List Bool) (strings : List (List ℕ)) : Type 0 where
  pub all_singles : length singles ≡ 256
  pub all_pairs : length pairs ≡ 65536
  pub single : (byte : ℕ) → byte < 256 → slice_index_or singles byte false ≡ list_any (is_single byte) strings
  pub pair : (first second : ℕ) → first < 256 → second < 256
      → slice_index_or pairs (first + 256 * second) false ≡ list_any (is_pair first second) strings

-- no string has one or two bytes, or none
abbrev pub AreLonger : List (List ℕ) → Type 0
AreLonger strings = All (λ string. 3 ≤ length string) strings

-- the tables of the strings of one and two bytes, where there are such strings
abbrev pub KnowsShort : {A : Type 0} → Option (ShortStrings A) → List (List ℕ) → Type 0
KnowsShort short strings =
    ForNone short (AreLonger strings)
    × ForSome short (λ tables. AreTables tables.singles.items tables.pairs.items strings)

-- a string of this length stands at the place and ends where a match may, if it isn't 0, and none of one or two bytes
-- does that is longer
pub record IsLongestShort (strings : List (List ℕ)) (bounds : Bounds) (bytes : List ℕ) (place n : ℕ) : Type 0 where
  pub stands : 0 < n → StandsSo strings bounds bytes place n
  pub longest : All (λ string. StandsAs bounds bytes place string → length string ≤ 2 → length string ≤ n) strings

-- some string of three bytes or more stands at the place
abbrev pub SomeLongStands : List (List ℕ) → List ℕ → ℕ → Type 0
SomeLongStands strings bytes place = Any (λ string. (3 ≤ length string) × OccursAt bytes string place) strings
