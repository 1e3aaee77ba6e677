-- Keys of strings, and chains of strings that may have one key.
use Rattle.std.specs.Prelude.{◌≡◌, ℕ, ◌-◌, ◌*◌, ◌/◌, ◌%◌, ◌^◌, ◌<◌, ◌≤◌, Bool, true, List, length, slice_index}
use Rattle.std.specs.Prelude.{slice_index_or, Vec}
use Rattle.std.specs.List.{All}
use Rattle.std.specs.Int.{w64, from_le_bytes}

-- the key of the first eight bytes; where there are fewer, of these and zeros
abbrev pub key : ℕ → List ℕ → ℕ
key factor bytes = (from_le_bytes w64 bytes * factor) % 18446744073709551616 / 140737488355328

-- keys depend on so many bytes
pub record Weighs (factor width : ℕ) : Type 0 where
  pub some : 1 ≤ width
  pub most : width ≤ 8
  pub whole : (256 ^ width * factor) % 18446744073709551616 ≡ 0

-- the chain of a string
abbrev pub home : ℕ → List ℕ → ℕ
home factor string = key factor string / 16

-- Chains of things, of which each has a home. A link is one more than the place of a thing, or 0.
pub record AreChains (first next homes : List ℕ) : Type 0 where
  pub count : length first ≡ 8192
  pub links : length next ≡ length homes
  pub starts : (h : ℕ) → h < 8192 → slice_index first h ≤ length homes
  pub falls : (j : ℕ) → j < length homes → slice_index next j ≤ j
  pub covers : (h i : ℕ) → i < length homes → slice_index homes i ≡ h → i < slice_index first h
  pub covers_before : (i j : ℕ) → i < j → j < length homes → slice_index homes i ≡ slice_index homes j
      → i < slice_index next j
  pub own : (h : ℕ) → h < 8192 → 0 < slice_index first h → slice_index homes (slice_index first h - 1) ≡ h
  pub own_before : (j : ℕ) → j < length homes → 0 < slice_index next j
      → slice_index homes (slice_index next j - 1) ≡ slice_index homes j

-- the key of each string is flagged
abbrev pub AreFlagged : ℕ → List Bool → List (List ℕ) → Type 0
AreFlagged factor flags strings = All (λ string. slice_index_or flags (key factor string) true ≡ true) strings

-- no string is empty, and each of three bytes and more has the bytes on which keys depend
abbrev pub AreLong : ℕ → List (List ℕ) → Type 0
AreLong width strings = All (λ string. (1 ≤ length string) × (3 ≤ length string → width ≤ length string)) strings
