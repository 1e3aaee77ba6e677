-- What is known of the line that some bytes begin with before its end is.
use Rattle.std.specs.Prelude.{◌≡◌, ℕ, ◌<◌, ◌≤◌, ◌↔◌, IsTrue, List, length, take, slice_index}
use Rattle.pg_match.specs.Automata.{Nfa}
use Rattle.pg_match.specs.Dfas.{Dfa, IsAtRow, IsRowAt}
use Rattle.pg_match.specs.declared.dfa_line.KnownLine.{KnownLine}

-- from a place inside a line on, its text goes up to another: there stands the byte that ends lines, and not before, or
-- the bytes end (XBD 3.206)
pub record IsTextAt (end : ℕ) (bytes : List ℕ) (place stop : ℕ) : Type 0 where
  pub onward : place ≤ stop
  pub within : stop ≤ length bytes
  pub clear : (i : ℕ) → place ≤ i → i < stop → slice_index bytes i ≡ end → ⊥
  pub ended : stop < length bytes → slice_index bytes stop ≡ end

-- the text of the first line is the first n bytes
abbrev pub IsFirstText : ℕ → List ℕ → ℕ → Type 0
IsFirstText end bytes n = IsTextAt end bytes 0 n

-- what is told of the first line is true: it goes on as far as it was read, and whether P holds of its text
pub record TellsLine (P : List ℕ → Type 0) (end : ℕ) (bytes : List ℕ) (known : KnownLine) : Type 0 where
  pub within : known.read ≤ length bytes
  pub clear : (i : ℕ) → i < known.read → slice_index bytes i ≡ end → ⊥
  pub told : (n : ℕ) → IsFirstText end bytes n → IsTrue known.has_hit ↔ P (take n bytes)

-- the row of the state is the set of a place in the first line, wherever behind that place the line ends
pub record StandsInLine (m : Nfa) (t : Dfa) (end : ℕ) (bytes : List ℕ) (state p : ℕ) : Type 0 where
  pub within : p < length bytes
  pub clear : (i : ℕ) → i ≤ p → slice_index bytes i ≡ end → ⊥
  pub row : IsAtRow t state
  pub stands : (n : ℕ) → p < n → n ≤ length bytes → IsRowAt m t (take n bytes) 0 p state
