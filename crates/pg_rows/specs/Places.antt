-- Where several lines of a text end.
use Rattle.std.specs.Prelude.{◌≡◌, ℕ, ◌<◌, ◌≤◌, List, length, take, drop}
use Rattle.pg_blocks.specs.Lines.{lines, AreWhole}

-- the first lines of a text, so many, end at this place: at its end, if it has fewer
pub record FirstLines (end : ℕ) (text : List ℕ) (place count : ℕ) : Type 0 where
  pub within : place ≤ length text
  pub first : lines end (take place text) ≡ take count (lines end text)
  pub rest : lines end (drop place text) ≡ drop count (lines end text)
  pub whole : place < length text → AreWhole end (take place text)
