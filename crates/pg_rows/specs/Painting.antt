-- How lines are written with their matched parts in color.
use Rattle.std.specs.Prelude.{◌≡◌, ℕ, ◌+◌, ◌≤◌, nat_lt, true, Bool, if◌then◌else◌, List, [], ◌∷◌, ◌++◌, drop, length}
use Rattle.std.specs.Prelude.{slice_range}
use Rattle.pg_selection.specs.Search.{Search, terminator}
use Rattle.pg_blocks.specs.Lines.{lines}
use Rattle.pg_selection.specs.declared.run.Part.{Part}
use Rattle.pg_rows.specs.declared.colors.Color.{Color}
use Rattle.pg_rows.specs.declared.colors.Color.TheVariants.{Name, Number, Mark, Part as Matched}
use Rattle.pg_rows.specs.Colors.{in_color, name_color, number_color, mark_color, part_color}
use Rattle.pg_rows.specs.Pieces.{told_of_lines}
use Rattle.pg_rows.specs.Stretch.{AllSelected}

abbrev pub code_of : Color → List ℕ
code_of Name = name_color
code_of Number = number_color
code_of Mark = mark_color
code_of Matched = part_color

-- the bytes from a place up to another, with these parts of them in color
abbrev pub painted_bytes : List ℕ → ℕ → ℕ → List Part → List ℕ
painted_bytes bytes from to [] = slice_range bytes from to
painted_bytes bytes from to (p ∷ ps) =
    slice_range bytes from p.span.start ++ in_color true part_color (slice_range bytes p.span.start p.span.end)
    ++ painted_bytes bytes p.span.end to ps

-- the parts stand between the places, one behind the other
abbrev pub AreAscending : ℕ → ℕ → List Part → Type 0
AreAscending from to [] = from ≤ to
AreAscending from to (p ∷ ps) =
    (from ≤ p.span.start) × (p.span.start ≤ p.span.end) × (p.span.end ≤ to) × AreAscending p.span.end to ps

-- the parts stand between two places of these bytes, one behind the other
pub record AreWithin (bytes : List ℕ) (from to : ℕ) (parts : List Part) : Type 0 where
  pub within : to ≤ length bytes
  pub ascend : AreAscending from to parts

-- how many of the first parts stand in the first `limit` lines
abbrev pub count_before : ℕ → List Part → ℕ
count_before limit [] = 0
count_before limit (p ∷ ps) = if nat_lt p.line limit then count_before limit ps + 1 else 0

-- The lines of the bytes from a place on, which stand behind so many lines of the block, are selected, and where rows
-- have colors these are their parts.
pub record AreToldParts (q : Search) (colored : Bool) (end : ℕ) (bytes : List ℕ) (from line : ℕ) (parts : List Part) :
    Type 0
  where
    pub end_is : end ≡ terminator q
    pub selected : AllSelected q true (lines end (drop from bytes))
    pub parts_are : colored ≡ true → parts ≡ told_of_lines q from line (lines end (drop from bytes))
