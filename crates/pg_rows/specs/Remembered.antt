-- How a printer stands in the output of a run, and what its calls write.
use Rattle.std.specs.Prelude.{◌≡◌, ℕ, ◌+◌, ◌<◌, ◌≤◌, ◌⊎◌, Bool, true, false, not, ◌||◌, ◌&&◌, if◌then◌else◌, List, []}
use Rattle.std.specs.Prelude.{◌++◌, length, drop}
use Rattle.circular_buffer.specs.Buffer.{keep_last}
use Rattle.pg_base.specs.Sink.{Stream}
use Rattle.pg_selection.specs.Search.{Search, terminator}
use Rattle.pg_blocks.specs.Lines.{lines}
use Rattle.pg_selection.specs.Runs.{AreRuns}
use Rattle.pg_selection.specs.declared.run.Run.{Run}
use Rattle.pg_rows.specs.declared.format.Format.{Format}
use Rattle.pg_rows.specs.declared.progress.Progress.{Progress}
use Rattle.pg_rows.specs.declared.printer.Printer.{Printer}
use Rattle.pg_rows.specs.declared.printer.PrintedBlock.{PrintedBlock}
use Rattle.pg_rows.specs.declared.printer.Place.{Place}
use Rattle.pg_rows.specs.Modes.{shows_rows}
use Rattle.pg_rows.specs.Modes.{rows_in}
use Rattle.pg_rows.specs.Output.{context, is_below, bytes_in}
use Rattle.pg_rows.specs.Trail.{no_lines, run}
use Rattle.pg_rows.specs.Cursor.{Cursor, block_rows, counted, named}
use Rattle.pg_rows.specs.Progress.{IsOfTrail}
use Rattle.pg_rows.specs.Stretch.{AllSelected}
use Rattle.pg_rows.specs.Printing.{IsAt}
use Rattle.pg_rows.specs.Window.{lines_held, IsWindow}

-- rows are those of whole lines: neither -c, -l, -L, -q nor -o
abbrev pub shows_lines : Format → Bool
shows_lines format = shows_rows format.mode && not format.parts

-- rows are those of matched parts
abbrev pub shows_parts : Format → Bool
shows_parts format = shows_rows format.mode && format.parts

-- The printer, made for a query and a format, stands at this place of the output.
pub record IsAtCursor {A : Type 0} (p : Printer A) (q : Search) (format : Format) (c : Cursor) : Type 0 where
  pub format_is : p.format ≡ format
  pub end_is : p.end ≡ terminator q
  pub earlier_is : p.earlier ≡ c.earlier
  pub name_is : p.prefix ≡ c.name
  pub told : IsOfTrail p.progress format c.trail
  pub offset : p.offset ≡ c.trail.offset
  pub room : bytes_in c.trail.window ≤ c.trail.offset
  pub holds : IsWindow (terminator q) p.window
  pub size : p.window.tails.capacity ≡ context format.before
  pub window : shows_lines format ≡ true
      → c.trail.window ≡ keep_last (context format.before) (lines_held (terminator q) p.window)

-- these runs hold the selected lines of the bytes, which have so many lines
pub record HasLines (q : Search) (bytes : List ℕ) (runs : List Run) (count : ℕ) : Type 0 where
  pub each : AreRuns q 0 0 bytes runs
  pub total : count ≡ length (lines (terminator q) bytes)

-- The printer has come to a place behind which no line is kept, and no write failed: it still remembers what it did
-- before the block, or a line was kept right before the place.
pub record ComesLast (q : Search) (format : Format) (c : Cursor) (hidden : List (List ℕ)) (bytes : List ℕ)
    (before after : Stream) (start : Progress) (place : Place) : Type 0 where
  pub here : IsAt q format c hidden bytes before.taken after.taken place.progress place.at place.seen
  pub no_failure : after.failures ≡ before.failures
  pub number : place.progress.number ≡ start.number + place.seen
  pub rest : AllSelected q false (lines (terminator q) (drop place.at bytes))
      ⊎ (is_below place.progress.kept format.limit ≡ false)
  pub fresh : place.at ≡ 0 → place.progress ≡ start
  pub kept : 0 < place.at → place.progress.behind ≡ 0

-- a file of this name is opened
abbrev pub opened_as : Cursor → List ℕ → Cursor
opened_as c name = record { earlier = c.earlier || c.trail.some; name = name; trail = no_lines }

-- behind a block of the open file
abbrev pub behind_block : Search → Format → Cursor → List ℕ → Cursor
behind_block q format c bytes = record c { trail = run q format c.trail (lines (terminator q) bytes) }

-- what a block adds to the output
abbrev pub shown_rows : Search → Format → Cursor → List ℕ → List ℕ
shown_rows q format c bytes = rows_in format.mode (block_rows q format c bytes) [] []

-- what a file's end adds to the output
abbrev pub end_rows : Format → Cursor → List ℕ
end_rows format c = rows_in format.mode [] (counted format c) (named format c)

-- The rows of a block were written: what is remembered behind it, and where its last lines stand that may still be
-- shown. What was held before may still be shown too, where no line of the block was kept.
pub record IsRememberedBehind {A : Type 0} (p : Printer A) (q : Search) (format : Format) (c : Cursor) (bytes : List ℕ)
    (printed : PrintedBlock) : Type 0 where
  pub told : IsOfTrail printed.progress format c.trail
  pub offset : printed.offset ≡ c.trail.offset
  pub within : printed.start ≤ length bytes
  pub count : printed.lines ≡ length (lines (terminator q) (drop printed.start bytes))
  pub window : shows_lines format ≡ true → c.trail.window ≡ keep_last (context format.before)
      ((if printed.fresh then lines_held (terminator q) p.window else [])
      ++ lines (terminator q) (drop printed.start bytes))
