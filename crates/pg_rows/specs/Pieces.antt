-- The matched parts of a block, and up to which line they are shown.
use Rattle.std.specs.Prelude.{ℕ, ◌+◌, if◌then◌else◌, Option, List, [], ◌∷◌, ◌++◌, length, map}
use Rattle.pg_selection.specs.Search.{Search}
use Rattle.pg_selection.specs.Selection.{selects}
use Rattle.pg_selection.specs.BlockParts.{part_at}
use Rattle.pg_selection.specs.declared.run.Part.{Part}
use Rattle.pg_rows.specs.Output.{is_below, told_parts}

-- how many lines stand before the first selected one that isn't kept, where so many were kept before
abbrev pub cut_at : Search → Option ℕ → ℕ → List (List ℕ) → ℕ
cut_at q limit kept [] = 0
cut_at q limit kept (l ∷ ls) =
    if selects q l then (if is_below kept limit then cut_at q limit (kept + 1) ls + 1 else 0)
    else cut_at q limit kept ls + 1

-- the parts that results of the query tell of lines that stand from a place on, behind some lines
abbrev pub told_of_lines : Search → ℕ → ℕ → List (List ℕ) → List Part
told_of_lines q at seen [] = []
told_of_lines q at seen (l ∷ ls) =
    (if selects q l then map (part_at at seen) (told_parts q l) else [])
    ++ told_of_lines q (at + (length l + 1)) (seen + 1) ls
