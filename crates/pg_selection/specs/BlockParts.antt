-- The matched parts of a block's selected lines, which -o shows and --color paints.
use Rattle.std.specs.Prelude.{◌≡◌, ℕ, ◌+◌, if◌then◌else◌, List, [], ◌∷◌, ◌++◌, length, map}
use Rattle.pg_blocks.specs.Lines.{lines}
use Rattle.pg_selection.specs.Search.{SearchText, Search, Pattern, AreTreesOf, search_of, terminator}
use Rattle.pg_selection.specs.Selection.{selects, parts_of_line}
use Rattle.pg_selection.specs.declared.run.Part.{Part}

-- a part of a line that stands at a place in its block, behind some lines
abbrev pub part_at : ℕ → ℕ → ℕ × ℕ → Part
part_at at seen p = record { line = seen; span = record { start = at + p.0; end = at + p.1 } }

-- the parts of the selected ones among lines that stand from a place on, behind some lines
abbrev pub parts_of_lines : Search → ℕ → ℕ → List (List ℕ) → List Part
parts_of_lines q at seen [] = []
parts_of_lines q at seen (l ∷ ls) =
    (if selects q l then map (part_at at seen) (parts_of_line q l) else [])
    ++ parts_of_lines q (at + (length l + 1)) (seen + 1) ls

-- for the trees that the patterns spell these are the parts of the selected lines of the bytes, where the text asks for
-- them
abbrev pub HasParts : SearchText → List ℕ → List Part → Type 0
HasParts text bytes found = (trees : List Pattern) → AreTreesOf text trees →
    found ≡ (if text.with_parts
    then parts_of_lines (search_of text trees) 0 0 (lines (terminator (search_of text trees)) bytes) else [])
