-- How the rows of a block are put together from stretches of its lines.
use Rattle.std.specs.Prelude.{◌≡◌, ℕ, ◌+◌, ◌-◌, ◌<◌, ◌≤◌, ◌⊎◌, nat_lt, min, Bool, ◌&&◌, if◌then◌else◌, List, [], ◌++◌}
use Rattle.std.specs.Prelude.{length, take, drop, slice_range}
use Rattle.circular_buffer.specs.Buffer.{keep_last}
use Rattle.pg_selection.specs.Search.{Search, terminator}
use Rattle.pg_blocks.specs.Lines.{lines, AreWhole}
use Rattle.pg_selection.specs.declared.run.Run.{Run}
use Rattle.pg_rows.specs.Marks.{colon, hyphen}
use Rattle.pg_rows.specs.declared.format.Format.{Format}
use Rattle.pg_rows.specs.declared.progress.Progress.{Progress}
use Rattle.pg_rows.specs.Output.{context, gap_text, has_separators, bytes_in, when}
use Rattle.pg_rows.specs.Trail.{Trail, run, run_rows}
use Rattle.pg_rows.specs.Cursor.{Cursor}
use Rattle.pg_rows.specs.Progress.{IsOfTrail}
use Rattle.pg_rows.specs.Stretch.{marked_rows, plain}

-- whether a separator stands before the next kept line and its context
abbrev pub has_gap : Format → Bool → Progress → Bool
has_gap format earlier p =
    has_separators format && (if p.shown then nat_lt (context format.before) p.behind else earlier)

abbrev pub gap_of : Format → ℕ → Bool → Progress → List ℕ
gap_of format end earlier p = when (has_gap format earlier p) (gap_text format end)

-- how many lines are shown before the next kept line as its context
abbrev pub leading : Format → Progress → ℕ
leading format p = min (context format.before) p.behind

-- the rows of the lines that are shown before the next kept one, which has this offset, of those that weren't shown
abbrev pub rows_of_leading : Format → ℕ → List ℕ → List (List ℕ) → Progress → (offset : ℕ) → List ℕ
rows_of_leading format end name hidden p offset =
    marked_rows format end name hyphen plain ((p.number + 1) - leading format p)
    (offset - bytes_in (keep_last (leading format p) hidden)) (keep_last (leading format p) hidden)

-- what stands before the next kept line, behind these lines that weren't shown: the separator, and its context
abbrev pub rows_before : Format → ℕ → List ℕ → Bool → List (List ℕ) → Progress → (offset : ℕ) → List ℕ
rows_before format end name earlier hidden p offset =
    gap_of format end earlier p ++ rows_of_leading format end name hidden p offset

-- the rows of kept lines with these texts, the first of which has this offset, behind lines that weren't shown
abbrev pub rows_of_kept : Format → ℕ → List ℕ → Bool → List (List ℕ) → Progress → (offset : ℕ)
    → (text : List ℕ → List ℕ) → List (List ℕ) → List ℕ
rows_of_kept format end name earlier hidden p offset text ls =
    gap_of format end earlier p
    ++ (rows_of_leading format end name hidden p offset
    ++ marked_rows format end name colon text (p.number + 1) offset ls)

-- the rows of lines of which none is kept, from this offset on: the first ones are trailing context
abbrev pub rows_of_passed : Format → ℕ → List ℕ → Progress → (offset : ℕ) → List (List ℕ) → List ℕ
rows_of_passed format end name p offset ls =
    marked_rows format end name hyphen plain (p.number + 1) offset (take p.countdown ls)

-- The printer has come to a place in a block, with these numbers, and behind these lines of earlier blocks that weren't
-- shown. So far it has written the rows of the lines before the place, and the next line, if any, begins there.
pub record IsAt (q : Search) (format : Format) (c : Cursor) (hidden : List (List ℕ)) (bytes : List ℕ)
    (before after : List ℕ) (p : Progress) (at seen : ℕ) : Type 0 where
  pub trail : Trail
  pub tells : IsOfTrail p format trail
  pub window : trail.window ≡ keep_last (leading format p) hidden
  pub within : at ≤ length bytes
  pub offset : (trail.offset ≡ c.trail.offset + at) ⊎ (drop at bytes ≡ [])
  pub room : bytes_in trail.window ≤ trail.offset
  pub part : List ℕ
  pub taken : after ≡ before ++ part
  pub rows : part ++ run_rows q format c.name c.earlier trail (lines (terminator q) (drop at bytes))
      ≡ run_rows q format c.name c.earlier c.trail (lines (terminator q) bytes)
  pub later : run q format trail (lines (terminator q) (drop at bytes))
      ≡ run q format c.trail (lines (terminator q) bytes)
  pub count : seen + length (lines (terminator q) (drop at bytes)) ≡ length (lines (terminator q) bytes)

-- the rows of lines of which none is kept, from an offset on, and of kept lines with these texts behind them, from
-- another offset on
abbrev pub rows_of_run : Format → ℕ → List ℕ → Bool → List (List ℕ) → Progress → Progress
    → (offset : ℕ) → List (List ℕ) → (kept_offset : ℕ) → (text : List ℕ → List ℕ) → List (List ℕ) → List ℕ
rows_of_run format end name earlier hidden p behind_gap offset gap kept_offset text kept =
    rows_of_passed format end name p offset gap
    ++ rows_of_kept format end name earlier (hidden ++ drop p.countdown gap) behind_gap kept_offset text kept

-- The run of selected lines comes next behind a place in the bytes, and behind so many lines.
pub record ComesNext (end : ℕ) (bytes : List ℕ) (at seen : ℕ) (run : Run) : Type 0 where
  pub start : at ≤ run.span.start
  pub order : run.span.start ≤ run.span.end
  pub within : run.span.end ≤ length bytes
  pub whole : AreWhole end (slice_range bytes at run.span.start)
  pub gap : run.first ≡ seen + length (lines end (slice_range bytes at run.span.start))
  pub count : run.count ≡ length (lines end (slice_range bytes run.span.start run.span.end))

-- the first lines of a run, so many, end at this place
pub record EndsKept (end : ℕ) (bytes : List ℕ) (run : Run) (count at : ℕ) : Type 0 where
  pub low : run.span.start ≤ at
  pub high : at ≤ run.span.end
  pub kept : lines end (slice_range bytes run.span.start at)
      ≡ take count (lines end (slice_range bytes run.span.start run.span.end))
  pub whole : count < run.count → AreWhole end (slice_range bytes run.span.start at)
  pub all : run.count ≤ count → at ≡ run.span.end
