-- What two searches of a part of the files each give together: their shares of one search (XCU grep, STDOUT and EXIT
-- STATUS; GNU grep, -A, -B, -C).
use Rattle.std.specs.Prelude.{ℕ, nat_eq, Bool, not, ◌&&◌, ◌||◌, if◌then◌else◌, List, ◌++◌}
use Rattle.pg_selection.specs.Search.{Search, terminator}
use Rattle.pg_rows.specs.declared.format.Format.{Format}
use Rattle.pg_rows.specs.declared.format.Mode.{Mode}
use Rattle.pg_rows.specs.Modes.{shows_rows, is_quiet}
use Rattle.pg_rows.specs.Output.{gap_text, has_separators, is_nothing, when}

-- groups of lines are set apart: lines are shown, and context with them
abbrev pub has_groups : Format → Bool
has_groups format = shows_rows format.mode && (not format.parts && has_separators format)

-- what stands between the outputs of two shares: the row between groups where both have rows, of groups of lines
abbrev pub rows_between : Search → Format → List ℕ → List ℕ → List ℕ
rows_between q format first later =
    when (has_groups format && (not (is_nothing first) && not (is_nothing later))) (gap_text format (terminator q))

-- the outputs of two shares as that of one search
abbrev pub joined_output : Search → Format → List ℕ → List ℕ → List ℕ
joined_output q format first later = first ++ rows_between q format first later ++ later

-- the statuses of two shares as that of one search: 2 where one is, else 0 where one is, else 1; but with -q 0 where
-- one is
abbrev pub joined_status : Mode → ℕ → ℕ → ℕ
joined_status mode first later =
    let selected = nat_eq later 0 || nat_eq first 0 in
    let bad = nat_eq later 2 || nat_eq first 2 in
    if is_quiet mode && selected then 0 else (if bad then 2 else (if selected then 0 else 1))
