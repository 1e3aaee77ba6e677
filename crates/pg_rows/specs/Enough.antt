-- When what was read of a file settles what it gives (XCU grep, -l and -q; GNU grep, -L and -m).
use Rattle.std.specs.Prelude.{ℕ, Bool, false, not, nat_lt, ◌&&◌, if◌then◌else◌, List, [], ◌∷◌, length}
use Rattle.std.specs.List.{list_any, count_by}
use Rattle.pg_selection.specs.Search.{Search, terminator}
use Rattle.pg_blocks.specs.Lines.{lines}
use Rattle.pg_selection.specs.Selection.{selects}
use Rattle.pg_rows.specs.declared.format.Format.{Format}
use Rattle.pg_rows.specs.declared.format.Mode.{Mode}
use Rattle.pg_rows.specs.Modes.{shows_rows, settles_at_first, is_quiet}
use Rattle.pg_base.specs.Entries.{Entry, Missed, Read, is_running}
use Rattle.pg_rows.specs.Output.{is_below, is_shown, has_selected}
use Rattle.pg_rows.specs.Trail.{Trail}

-- as many lines are selected as may be kept
abbrev pub is_full : Search → Format → List (List ℕ) → Bool
is_full q format ls = not (is_below (count_by (selects q) ls) format.limit)

-- a line behind these would be shown as the context of one of them; where parts are shown, none is (GNU grep, -o)
abbrev pub is_trailed : Search → Format → List (List ℕ) → Bool
is_trailed q format ls = not format.parts && is_shown q format ls (length ls)

-- no line behind these changes what a file gives
abbrev pub lines_suffice : Mode → Search → Format → List (List ℕ) → Bool
lines_suffice mode q format ls =
    if settles_at_first mode then list_any (selects q) ls
    else (if shows_rows mode then is_full q format ls && not (is_trailed q format ls) else is_full q format ls)

-- there is an open file, and its lines so far suffice
abbrev pub file_suffices : Search → Format → List Entry → Bool
file_suffices q format [] = false
file_suffices q format (Missed name ∷ entries) = false
file_suffices q format (Read name bytes ending ∷ entries) =
    is_running ending && lines_suffice format.mode q format (lines (terminator q) bytes)

-- Enough was read: with -q once a line is selected in any file, else once the open file's lines suffice. The last file
-- stands first in the list.
abbrev pub is_enough : Search → Format → List Entry → Bool
is_enough q format entries =
    if is_quiet format.mode then list_any (has_selected q) entries else file_suffices q format entries

-- the open file's lines suffice, by what is remembered of them in reading line by line
abbrev pub trail_suffices : Mode → Format → Trail → Bool
trail_suffices mode format t =
    let full = not (is_below t.kept format.limit) in
    if settles_at_first mode then nat_lt 0 t.kept
    else (if shows_rows mode then full && not (not format.parts && nat_lt 0 t.countdown) else full)
