-- The lines of some bytes (XBD 3.206 Line, 3.195 Incomplete Line).
use Rattle.std.specs.Prelude.{◌≡◌, ◌≢◌, ℕ, ◌+◌, ◌<◌, ◌≤◌, ◌^◌, ◌⊎◌, List, [], ◌∷◌, ◌++◌, length, slice_index}
use Rattle.std.specs.List.{Contains, AllByRecursion, flat_map}
pub use Rattle.pg_bytes.specs.Lines.{lines}

-- a text without the terminator
abbrev pub IsLine : ℕ → List ℕ → Type 0
IsLine end text = Contains text end → ⊥

-- texts, each followed by the terminator
abbrev pub terminated : ℕ → List (List ℕ) → List ℕ
terminated end texts = flat_map (λ text. text ++ end ∷ []) texts

-- a last line without the terminator, which isn't empty
pub record EndsIncomplete (end : ℕ) (bytes : List ℕ) (texts : List (List ℕ)) : Type 0 where
  pub front : List (List ℕ)
  pub last : List ℕ
  pub some : last ≢ []
  pub joins : texts ≡ front ++ last ∷ []
  pub whole : bytes ≡ terminated end front ++ last

-- These are the lines of the bytes: texts without the terminator that make up the bytes, each followed by it. The last
-- line may lack it.
pub record AreLines (end : ℕ) (bytes : List ℕ) (texts : List (List ℕ)) : Type 0 where
  pub each : AllByRecursion (IsLine end) texts
  pub whole : (bytes ≡ terminated end texts) ⊎ EndsIncomplete end bytes texts

-- whole lines: the bytes are empty or end with the terminator
abbrev pub AreWhole : ℕ → List ℕ → Type 0
AreWhole end bytes = (bytes ≡ []) ⊎ ((front : List ℕ) × (bytes ≡ front ++ end ∷ []))

-- no line has more than 2^30 bytes
abbrev pub AreShort : ℕ → List ℕ → Type 0
AreShort end bytes = AllByRecursion (λ line. length line ≤ 2 ^ 30) (lines end bytes)

-- the terminator stands nowhere from one place up to another
abbrev pub IsClear : ℕ → List ℕ → ℕ → ℕ → Type 0
IsClear end bytes from to = (i : ℕ) → from ≤ i → i < to → slice_index bytes i ≡ end → ⊥

-- a line's text ends at a place, and what follows the line starts at the next: behind the terminator, or where the
-- bytes end
abbrev pub Stops : ℕ → List ℕ → ℕ → ℕ → Type 0
Stops end bytes place next =
    ((next ≡ place + 1) × (place < length bytes) × (slice_index bytes place ≡ end))
    ⊎ ((next ≡ place) × (place ≡ length bytes))
