-- What reading a part of a text at an offset gives.
use Rattle.std.specs.Prelude.{ℕ, ◌+◌, ◌-◌, ◌≡◌, ◌≤◌, ◌<◌, List, [], ◌∷◌, length, take, drop, Option, Some, None}
use Rattle.pg_syntax.specs.BracketReading.{until}

-- the byte at an offset, or none behind the text's end
abbrev pub ReadsByte : List ℕ → ℕ → Option ℕ → Type 0
ReadsByte text at None = drop at text ≡ []
ReadsByte text at (Some b) = (drop at text ≡ b ∷ drop (at + 1) text) × (at < length text)

-- the number that is found, and the offset after it
abbrev pub FindsNumber : List ℕ → ℕ → Option (ℕ × ℕ) → Option (ℕ × List ℕ) → Type 0
FindsNumber text at None found = found ≡ None
FindsNumber text at (Some x) found = (found ≡ Some (x.0, drop x.1 text)) × (at < x.1) × (x.1 ≤ length text)

-- the offset after what is found
abbrev pub FindsRest : List ℕ → ℕ → Option ℕ → Option (List ℕ) → Type 0
FindsRest text at None found = found ≡ None
FindsRest text at (Some end) found = (found ≡ Some (drop end text)) × (at < end) × (end ≤ length text)

-- the bounds that are found, and the offset after them
abbrev pub FindsBounds : List ℕ → ℕ → Option (ℕ × Option ℕ × ℕ) → Option (ℕ × Option ℕ × List ℕ) → Type 0
FindsBounds text at None found = found ≡ None
FindsBounds text at (Some x) found = (found ≡ Some (x.0, x.1, drop x.2 text)) × (at < x.2) × (x.2 ≤ length text)

-- where the content of an enclosed element ends
abbrev pub EndsContent : List ℕ → ℕ → ℕ → Option ℕ → Type 0
EndsContent text mark from None = until mark (drop from text) ≡ None
EndsContent text mark from (Some end) =
    (until mark (drop from text) ≡ Some (take (end - from) (drop from text), drop (end + 2) text)) × (from ≤ end)
    × (end + 1 < length text)
