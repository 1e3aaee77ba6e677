-- What is written for files, and the exit status (XCU grep, STDOUT and EXIT STATUS; GNU grep for -m, -A, -B, -C, -o,
-- -b, -L, -T, -Z, --color, --group-separator and --no-group-separator).
use Rattle.std.specs.Prelude.{◌≡◌, ℕ, zero, suc, ◌+◌, nat_lt, nat_le, Bool, true, false, not, ◌&&◌, ◌||◌, if◌then◌else◌}
use Rattle.std.specs.Prelude.{is_some, Option, Some, None, List, [], ◌∷◌, ◌++◌, length, take, slice_range}
use Rattle.std.specs.Prelude.{slice_index_or, unwrap_or}
use Rattle.std.specs.List.{list_any, filter, flat_map, range_with_len, count_by}
use Rattle.std.specs.Fmt.{decimal}
use Rattle.pg_selection.specs.Search.{Search, terminator}
use Rattle.pg_blocks.specs.Lines.{lines}
use Rattle.pg_selection.specs.Selection.{selects, parts_of_line}
use Rattle.pg_rows.specs.Marks.{colon, hyphen, newline, tab}
use Rattle.pg_base.specs.Entries.{Entry, Missed, Read, is_running, is_failed}
use Rattle.pg_rows.specs.declared.format.Format.{Format}
use Rattle.pg_rows.specs.Colors.{in_color, name_color, number_color, mark_color, part_color, painted_from}
use Rattle.pg_rows.specs.Modes.{is_quiet, is_named, rows_in}
use Rattle.pg_rows.specs.Separator.{text_between}

-- A file's lines have places 0, 1, 2, ..; a set of places is a test.

abbrev pub line_at : List (List ℕ) → ℕ → List ℕ
line_at ls i = slice_index_or ls i []

-- how many bytes lines have, each with its terminator
abbrev pub bytes_in : List (List ℕ) → ℕ
bytes_in [] = 0
bytes_in (l ∷ ls) = (length l + 1) + bytes_in ls

-- where a line begins in its file: behind the lines before it, each with its terminator
abbrev pub line_start : List (List ℕ) → ℕ → ℕ
line_start ls i = bytes_in (take i ls)

abbrev pub is_below : ℕ → Option ℕ → Bool
is_below n None = true
is_below n (Some limit) = nat_lt n limit

-- a limit is at least 1
abbrev pub HasRoom : Format → Type 0
HasRoom format = is_below 0 format.limit ≡ true

-- the first `limit` selected lines
abbrev pub is_kept : Search → Option ℕ → List (List ℕ) → ℕ → Bool
is_kept q limit ls i = selects q (line_at ls i) && is_below (count_by (selects q) (take i ls)) limit

-- among the first n places one in the set has the place among the `before` places before it or the `after` places after
-- it, or is it
abbrev pub is_near : (ℕ → Bool) → ℕ → ℕ → ℕ → ℕ → Bool
is_near kept before after n i =
    list_any (λ j. kept j && (nat_le j (i + before) && nat_le i (j + after))) (range_with_len 0 n)

abbrev pub context : Option ℕ → ℕ
context given = unwrap_or given 0

-- the lines that are shown
abbrev pub is_shown : Search → Format → List (List ℕ) → ℕ → Bool
is_shown q format ls i =
    is_near (is_kept q format.limit ls) (context format.before) (context format.after) (length ls) i

abbrev pub places_in : (ℕ → Bool) → List (List ℕ) → List ℕ
places_in set ls = filter set (range_with_len 0 (length ls))

abbrev pub when : Bool → List ℕ → List ℕ
when shown text = if shown then text else []

-- what follows a name without colors: a NUL where that is asked for, else this mark
abbrev pub name_mark : Format → ℕ → ℕ
name_mark format mark = if format.null then 0 else mark

abbrev pub name_text : Format → List ℕ → List ℕ
name_text format name = in_color format.colored name_color name

abbrev pub mark_text : Format → ℕ → List ℕ
mark_text format mark = in_color format.colored mark_color (mark ∷ [])

-- what follows a name in a row: a NUL where that is asked for, else this mark
abbrev pub name_end : Format → ℕ → List ℕ
name_end format mark = if format.null then 0 ∷ [] else mark_text format mark

-- a name and what follows it
abbrev pub marked_name : Format → List ℕ → ℕ → List ℕ
marked_name format name mark = name_text format name ++ name_end format mark

-- the row of a count, and that of a name, which end with a newline whatever the terminator, but for a name with a NUL
-- behind it
abbrev pub count_text : Format → List ℕ → ℕ → List ℕ
count_text format name count = when format.names (marked_name format name colon) ++ decimal count ++ newline ∷ []

abbrev pub listed_text : Format → List ℕ → List ℕ
listed_text format name = name_text format name ++ name_mark format newline ∷ []

-- a matched part, in its color where rows have colors
abbrev pub part_text : Format → List ℕ → List ℕ
part_text format text = in_color format.colored part_color text

abbrev pub is_nothing : List ℕ → Bool
is_nothing [] = true
is_nothing (b ∷ bytes) = false

-- rows have something before their texts
abbrev pub has_prefix : Format → Bool
has_prefix format = (format.names || format.numbers) || format.offsets

-- with -T a tab (9) stands before a text that isn't empty, where something else stands before it
abbrev pub tab_before : Format → Bool → List ℕ
tab_before format has_text = when (format.tabs && (has_prefix format && has_text)) (tab ∷ [])

-- a number in a row, and its mark
abbrev pub number_text : Format → (mark number : ℕ) → List ℕ
number_text format mark number = in_color format.colored number_color (decimal number) ++ mark_text format mark

-- a row: the name, the line's number and the offset of its first byte where they are asked for, each with a mark; a
-- tab; the text; the terminator
abbrev pub row : Format → ℕ → List ℕ → (number offset mark : ℕ) → List ℕ → List ℕ
row format end name number offset mark text =
    when format.names (marked_name format name mark)
    ++ when format.numbers (number_text format mark number)
    ++ when format.offsets (number_text format mark offset)
    ++ tab_before format (not (is_nothing text)) ++ text ++ end ∷ []

-- groups of rows are parted: there is context, and --no-group-separator isn't given
abbrev pub has_separators : Format → Bool
has_separators format = is_some format.separator && (is_some format.before || is_some format.after)

abbrev pub is_behind : (ℕ → Bool) → ℕ → Bool
is_behind set zero = false
is_behind set (suc i) = set i

-- the row between groups of lines
abbrev pub gap_text : Format → ℕ → List ℕ
gap_text format end = in_color format.colored mark_color (text_between format.separator) ++ end ∷ []

-- the row between groups stands before a shown line that doesn't follow a shown line, unless it is the run's first
abbrev pub separator : Format → ℕ → (ℕ → Bool) → Bool → ℕ → List ℕ
separator format end shown earlier i =
    when (has_separators format && not (is_behind shown i) && (earlier || list_any shown (range_with_len 0 i)))
    (gap_text format end)

-- a colon marks a kept line, a hyphen its context
abbrev pub mark_of : Bool → ℕ
mark_of kept = if kept then colon else hyphen

-- the parts of a line that results of the query tell: none where the query isn't asked for them
abbrev pub told_parts : Search → List ℕ → List (ℕ × ℕ)
told_parts q line = if q.text.with_parts then parts_of_line q line else []

-- the text of a kept line: its matched parts stand in color
abbrev pub painted : Search → Format → List ℕ → List ℕ
painted q format line = if format.colored then painted_from line 0 (told_parts q line) else line

-- the text of a shown line
abbrev pub shown_text : Search → Format → (kept : Bool) → List ℕ → List ℕ
shown_text q format kept line = if kept then painted q format line else line

abbrev pub line_rows : Search → Format → List ℕ → List (List ℕ) → Bool → List ℕ
line_rows q format name ls earlier =
    flat_map (λ i. separator format (terminator q) (is_shown q format ls) earlier i
    ++ row format (terminator q) name (i + 1) (line_start ls i) (mark_of (is_kept q format.limit ls i))
    (shown_text q format (is_kept q format.limit ls i) (line_at ls i)))
    (places_in (is_shown q format ls) ls)

abbrev pub part_rows : Search → Format → List ℕ → List (List ℕ) → List ℕ
part_rows q format name ls =
    flat_map (λ i. flat_map (λ p. row format (terminator q) name (i + 1) (line_start ls i + p.0) colon
    (part_text format (slice_range (line_at ls i) p.0 p.1)))
    (told_parts q (line_at ls i)))
    (places_in (is_kept q format.limit ls) ls)

-- the rows of -c, -l and -L
abbrev pub count_row : Search → Format → List ℕ → List (List ℕ) → List ℕ
count_row q format name ls = count_text format name (length (places_in (is_kept q format.limit ls) ls))

abbrev pub name_row : Search → Format → List ℕ → List (List ℕ) → List ℕ
name_row q format name ls = when (is_named format.mode (list_any (selects q) ls)) (listed_text format name)

-- what one file gives; `earlier` says that the run has an earlier row
unfoldable pub file_rows : Search → Format → List ℕ → List ℕ → Bool → Bool → List ℕ
file_rows q format name bytes ended earlier =
    let ls = lines (terminator q) bytes in
    rows_in format.mode
    (if format.parts then part_rows q format name ls else line_rows q format name ls earlier)
    (when ended (count_row q format name ls))
    (when ended (name_row q format name ls))

-- the output of the files; the last one stands first in the list
abbrev pub output : Search → Format → List Entry → List ℕ
output q format [] = []
output q format (Missed name ∷ entries) = output q format entries
output q format (Read name bytes ending ∷ entries) =
    output q format entries
    ++ file_rows q format name bytes (not (is_running ending)) (not (is_nothing (output q format entries)))

abbrev pub is_bad : Entry → Bool
is_bad (Missed name) = true
is_bad (Read name bytes ending) = is_failed ending

abbrev pub has_selected : Search → Entry → Bool
has_selected q (Missed name) = false
has_selected q (Read name bytes ending) = list_any (selects q) (lines (terminator q) bytes)

-- 2 after a file that is missed or failed, but with -q 0 where a line was selected; else 0 where one was, and 1 where
-- none was
abbrev pub status : Search → Format → List Entry → ℕ
status q format entries =
    let selected = list_any (has_selected q) entries in
    if is_quiet format.mode && selected then 0 else (if list_any is_bad entries then 2 else (if selected then 0 else 1))
