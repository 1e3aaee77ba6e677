-- The colors of rows, as GNU grep has them where nothing else is asked for: SGR sequences (ECMA-48, 8.3.117), each with
-- an erasure of the rest of the line behind it (8.3.41).
use Rattle.std.specs.Prelude.{ℕ, Bool, true, false, ◌||◌, ◌==◌, if◌then◌else◌, List, [], ◌∷◌, ◌++◌, drop, slice_range}

-- the codes: "35" for names, "32" for numbers, "36" for marks and separators, "01;31" for matched parts
abbrev pub name_color : List ℕ
name_color = 51 ∷ 53 ∷ []

abbrev pub number_color : List ℕ
number_color = 51 ∷ 50 ∷ []

abbrev pub mark_color : List ℕ
mark_color = 51 ∷ 54 ∷ []

abbrev pub part_color : List ℕ
part_color = 48 ∷ 49 ∷ 59 ∷ 51 ∷ 49 ∷ []

-- `ESC [ code m ESC [ K`
abbrev pub escape : List ℕ → List ℕ
escape code = 27 ∷ 91 ∷ [] ++ code ++ 109 ∷ 27 ∷ 91 ∷ 75 ∷ []

-- a text in a color, where rows have colors; a sequence without a code ends the color
abbrev pub in_color : Bool → (code text : List ℕ) → List ℕ
in_color colored code text = if colored then escape code ++ text ++ escape [] else text

-- a line from a place on, with these parts of it in color
abbrev pub painted_from : List ℕ → ℕ → List (ℕ × ℕ) → List ℕ
painted_from line at [] = drop at line
painted_from line at (p ∷ ps) =
    slice_range line at p.0 ++ in_color true part_color (slice_range line p.0 p.1) ++ painted_from line p.1 ps

-- the bytes without escapes, each of which goes from an ESC up to the next `m` or `K`; `escaped` says that one began
abbrev pub without_from : (escaped : Bool) → List ℕ → List ℕ
without_from escaped [] = []
without_from true (b ∷ bytes) = without_from (if b == 109 || b == 75 then false else true) bytes
without_from false (b ∷ bytes) = if b == 27 then without_from true bytes else b ∷ without_from false bytes

abbrev pub without_escapes : List ℕ → List ℕ
without_escapes bytes = without_from false bytes
