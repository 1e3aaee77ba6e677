-- What a printer relies on and writes on its way from one place of a block to the next.
use Rattle.std.specs.Prelude.{◌≡◌, ℕ, ◌+◌, ◌-◌, ◌<◌, ◌≤◌, ◌^◌, if◌then◌else◌, List, ◌++◌, length, take, drop}
use Rattle.std.specs.Prelude.{slice_range}
use Rattle.circular_buffer.specs.Buffer.{keep_last}
use Rattle.pg_selection.specs.Search.{Search}
use Rattle.pg_blocks.specs.Lines.{lines}
use Rattle.pg_selection.specs.declared.run.Run.{Run}
use Rattle.pg_selection.specs.declared.run.Part.{Part}
use Rattle.pg_rows.specs.Marks.{colon}
use Rattle.pg_rows.specs.declared.position.Position.{Position}
use Rattle.pg_rows.specs.declared.progress.Progress.{Progress}
use Rattle.pg_rows.specs.declared.printer.Printer.{Printer}
use Rattle.pg_rows.specs.declared.printer.Place.{Place}
use Rattle.pg_rows.specs.declared.printer.Step.{Step}
use Rattle.pg_rows.specs.Output.{painted, bytes_in}
use Rattle.pg_rows.specs.Progress.{Passes, KeepsLines}
use Rattle.pg_rows.specs.Stretch.{marked_rows}
use Rattle.pg_rows.specs.Window.{lines_held, IsWindow}
use Rattle.pg_rows.specs.Painting.{count_before, AreToldParts}
use Rattle.pg_rows.specs.Printing.{leading, rows_of_leading, rows_before, rows_of_passed, rows_of_run}
use Rattle.pg_rows.specs.Printing.{ComesNext, EndsKept}

-- a text of so many lines stands at this offset behind the lines so far: a file with them has fewer than 2^63 lines and
-- bytes
pub record ComesBehind (end : ℕ) (progress : Progress) (offset : ℕ) (text : List ℕ) (count : ℕ) : Type 0 where
  pub counted : count ≡ length (lines end text)
  pub small : progress.number + count < 2 ^ 63
  pub placed : offset + length text < 2 ^ 63

-- The lines that are shown before the next kept one, which begins at this offset, are among those that the window holds
-- and those that stand near, behind them.
pub record HasLeading {A : Type 0} (p : Printer A) (progress : Progress) (near : List (List ℕ)) (offset : ℕ) : Type 0
  where
    pub window : IsWindow p.end p.window
    pub enough : leading p.format progress ≤ length (lines_held p.end p.window) + length near
    pub low : bytes_in (keep_last (leading p.format progress) (lines_held p.end p.window ++ near)) ≤ offset

-- the rows of lines of which none is kept, from this offset on
abbrev pub shown_passed : {A : Type 0} → Printer A → Progress → (offset : ℕ) → List (List ℕ) → List ℕ
shown_passed p progress offset ls = rows_of_passed p.format p.end p.prefix progress offset ls

-- the rows of the lines that are shown before the next kept one
abbrev pub shown_leading : {A : Type 0} → Printer A → (near : List (List ℕ)) → Progress → (offset : ℕ) → List ℕ
shown_leading p near progress offset =
    rows_of_leading p.format p.end p.prefix (lines_held p.end p.window ++ near) progress offset

-- these, and the separator before them
abbrev pub shown_before : {A : Type 0} → Printer A → (near : List (List ℕ)) → Progress → (offset : ℕ) → List ℕ
shown_before p near progress offset =
    rows_before p.format p.end p.prefix p.earlier (lines_held p.end p.window ++ near) progress offset

-- the rows of kept lines, the first of which stands at this position
abbrev pub shown_kept : {A : Type 0} → Search → Printer A → Position → List (List ℕ) → List ℕ
shown_kept q p first ls = marked_rows p.format p.end p.prefix colon (painted q p.format) first.number first.offset ls

-- from this position on the numbers of so many lines and the offsets of so many bytes are below 2^64, and so are the
-- lines of the block up to the last of them
pub record CanNumberRun (first : Position) (line count size : ℕ) : Type 0 where
  pub small : first.number + count < 2 ^ 64
  pub placed : first.offset + size < 2 ^ 64
  pub few : line + count < 2 ^ 64

-- the lines of the bytes from a place on, behind so many lines of the block, are kept, and these are their parts where
-- rows have colors
abbrev pub AreKeptParts : {A : Type 0} → Search → Printer A → List ℕ → (from line : ℕ) → List Part → Type 0
AreKeptParts q p bytes from line parts = AreToldParts q p.format.colored p.end bytes from line parts

-- the lines between a place and a run
abbrev pub gap_lines : {A : Type 0} → Printer A → List ℕ → Place → Run → List (List ℕ)
gap_lines p bytes place run = lines p.end (slice_range bytes place.at run.span.start)

-- The printer may go from a place over the first lines of a run, so many: the run comes next and has as many lines, and
-- all numbers stay small.
pub record MayPrintRun {A : Type 0} (p : Printer A) (bytes : List ℕ) (parts : List Part) (place : Place) (run : Run)
    (count : ℕ) : Type 0 where
  pub next : ComesNext p.end bytes place.at place.seen run
  pub few : count ≤ run.count
  pub used : place.used ≤ length parts
  pub room : run.first + count < 2 ^ 64
  pub small : place.progress.number + ((run.first - place.seen) + count) < 2 ^ 63
  pub placed : p.offset + length bytes < 2 ^ 63

-- the step from a place over the first lines of a run, so many, which are kept
pub record StepsOver {A : Type 0} (p : Printer A) (bytes : List ℕ) (parts : List Part) (place : Place) (run : Run)
    (count : ℕ) (next : Step) : Type 0 where
  pub passes : Passes place.progress (run.first - place.seen) next.passed
  pub keeps : KeepsLines next.passed p.format count next.place.progress
  pub ends : EndsKept p.end bytes run count next.place.at
  pub seen : next.place.seen ≡ run.first + count
  pub used : next.place.used ≡ (if p.format.colored
      then place.used + count_before (run.first + count) (drop place.used parts) else place.used)

-- the parts between two places are those of the lines of the run that are kept
pub record TakesParts {A : Type 0} (q : Search) (p : Printer A) (bytes : List ℕ) (parts : List Part) (place : Place)
    (run : Run) (next : Place) : Type 0 where
  pub told : AreKeptParts q p (take next.at bytes) run.span.start run.first (slice_range parts place.used next.used)
  pub ordered : place.used ≤ next.used
  pub within : next.used ≤ length parts

-- the rows of a step
abbrev pub shown_step : {A : Type 0} → Search → Printer A → List ℕ → Place → Run → Step → List ℕ
shown_step q p bytes place run next =
    rows_of_run p.format p.end p.prefix p.earlier (lines_held p.end p.window) place.progress next.passed
    (p.offset + place.at) (gap_lines p bytes place run) (p.offset + run.span.start) (painted q p.format)
    (lines p.end (slice_range bytes run.span.start next.place.at))
