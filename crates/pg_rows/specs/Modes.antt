-- What is asked of a mode (XCU grep, -c, -l and -q; GNU grep, -L).
use Rattle.std.specs.Prelude.{ℕ, Bool, true, false, not, List, [], if◌then◌else◌}
use Rattle.pg_rows.specs.declared.format.EndRow.{EndRow}
use Rattle.pg_rows.specs.declared.format.EndRow.TheVariants.{None as NoRow, Count as CountRow, Name as NameRow}
use Rattle.pg_rows.specs.declared.format.Mode.{Mode}
use Rattle.pg_rows.specs.declared.format.Mode.TheVariants.{Rows, Count, List as Names, ListOthers as Others, Quiet}

-- lines, or the matched parts of lines, have rows
abbrev pub shows_rows : Mode → Bool
shows_rows Rows = true
shows_rows Count = false
shows_rows Names = false
shows_rows Others = false
shows_rows Quiet = false

-- the first selected line of a file settles what the file gives
abbrev pub settles_at_first : Mode → Bool
settles_at_first Rows = false
settles_at_first Count = false
settles_at_first Names = true
settles_at_first Others = true
settles_at_first Quiet = true

-- nothing is written: the status tells
abbrev pub is_quiet : Mode → Bool
is_quiet Rows = false
is_quiet Count = false
is_quiet Names = false
is_quiet Others = false
is_quiet Quiet = true

-- In a mode whose files end in the row of their name: it is written, by whether a line of the file is selected. Of the
-- other modes that isn't asked (`row_at_end`).
abbrev pub is_named : Mode → (selected : Bool) → Bool
is_named Rows selected = selected
is_named Count selected = selected
is_named Names selected = selected
is_named Others selected = not selected
is_named Quiet selected = selected

-- which row a file's end adds
abbrev pub row_at_end : Mode → EndRow
row_at_end Rows = NoRow
row_at_end Count = CountRow
row_at_end Names = NameRow
row_at_end Others = NameRow
row_at_end Quiet = NoRow

-- this one of the rows that tell a file's count and its name
abbrev pub chosen : EndRow → (count name : List ℕ) → List ℕ
chosen NoRow count name = []
chosen CountRow count name = count
chosen NameRow count name = name

-- what a file's end adds, of the rows that tell its count and its name
abbrev pub end_row : Mode → (count name : List ℕ) → List ℕ
end_row mode count name = chosen (row_at_end mode) count name

-- what a mode has of a file's rows
abbrev pub rows_in : Mode → (rows count name : List ℕ) → List ℕ
rows_in mode rows count name = if shows_rows mode then rows else end_row mode count name
