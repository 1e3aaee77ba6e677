-- What is known of every mode: all that looks at the modes one by one. A new mode has its lines here.
use Rattle.std.proofs.Common.{◌≡◌, ℕ, Bool, true, false, cond, List, [], refl, sym, ap}
use Rattle.std.proofs.lemmas.Bool.{false≢true}
use Rattle.pg_rows.specs.declared.format.Mode.{Mode}
use Rattle.pg_rows.specs.declared.format.Mode.TheVariants.{Rows, Count, List as Names, ListOthers as Others, Quiet}
use Rattle.pg_rows.specs.Modes.{shows_rows, settles_at_first, is_quiet, end_row, rows_in}

-- of no rows the end adds none
pub no_end : (m : Mode) → end_row m [] [] ≡ []
no_end Rows = refl
no_end Count = refl
no_end Names = refl
no_end Others = refl
no_end Quiet = refl

-- where lines have rows no selected line settles what the file gives
pub rows_settle_late : (m : Mode) → shows_rows m ≡ true → settles_at_first m ≡ false
rows_settle_late Rows e = refl
rows_settle_late Count e = absurd (false≢true e)
rows_settle_late Names e = absurd (false≢true e)
rows_settle_late Others e = absurd (false≢true e)
rows_settle_late Quiet e = absurd (false≢true e)

-- where none settles it the end doesn't tell the name
pub end_by_count : (m : Mode) (count name name' : List ℕ) → settles_at_first m ≡ false
    → end_row m count name ≡ end_row m count name'
end_by_count Rows count name name' e = refl
end_by_count Count count name name' e = refl
end_by_count Names count name name' e = absurd (false≢true (sym e))
end_by_count Others count name name' e = absurd (false≢true (sym e))
end_by_count Quiet count name name' e = refl

-- where one settles it the end doesn't tell the count
pub end_by_name : (m : Mode) (count count' name : List ℕ) → settles_at_first m ≡ true
    → end_row m count name ≡ end_row m count' name
end_by_name Rows count count' name e = refl
end_by_name Count count count' name e = absurd (false≢true e)
end_by_name Names count count' name e = refl
end_by_name Others count count' name e = refl
end_by_name Quiet count count' name e = refl

-- with -q a selected line settles it
pub settles_late_aloud : (m : Mode) → settles_at_first m ≡ false → is_quiet m ≡ false
settles_late_aloud Rows e = refl
settles_late_aloud Count e = refl
settles_late_aloud Names e = refl
settles_late_aloud Others e = refl
settles_late_aloud Quiet e = e

-- with -q nothing is written
pub quiet_rows_in : (m : Mode) (rows count name : List ℕ) → is_quiet m ≡ true → rows_in m rows count name ≡ []
quiet_rows_in Rows rows count name e = absurd (false≢true e)
quiet_rows_in Count rows count name e = absurd (false≢true e)
quiet_rows_in Names rows count name e = absurd (false≢true e)
quiet_rows_in Others rows count name e = absurd (false≢true e)
quiet_rows_in Quiet rows count name e = refl

-- where lines have rows these are all
pub rows_are : (m : Mode) (rows count name : List ℕ) → shows_rows m ≡ true → rows_in m rows count name ≡ rows
rows_are m rows count name e = ap (λ shown. cond shown rows (end_row m count name)) e

-- what holds of no rows, and of the rows, the counts and the names of two files, holds of what a mode has of them
pub rows_in_both : (P : List ℕ → List ℕ → Type 0) → P [] [] → (m : Mode) (rows count name rows' count' name' : List ℕ)
    → P rows rows' → P count count' → P name name' → P (rows_in m rows count name) (rows_in m rows' count' name')
rows_in_both P none Rows rows count name rows' count' name' r c n = r
rows_in_both P none Count rows count name rows' count' name' r c n = c
rows_in_both P none Names rows count name rows' count' name' r c n = n
rows_in_both P none Others rows count name rows' count' name' r c n = n
rows_in_both P none Quiet rows count name rows' count' name' r c n = none

-- where no line has a row these are the rows of the end
pub end_adds : (m : Mode) (count name : List ℕ) → rows_in m [] count name ≡ end_row m count name
end_adds Rows count name = refl
end_adds Count count name = refl
end_adds Names count name = refl
end_adds Others count name = refl
end_adds Quiet count name = refl

pub nothing_in : (m : Mode) → rows_in m [] [] [] ≡ []
nothing_in m = go (shows_rows m)
  where
    go : (shown : Bool) → cond shown [] (end_row m [] []) ≡ []
    go true = refl
    go false = no_end m
