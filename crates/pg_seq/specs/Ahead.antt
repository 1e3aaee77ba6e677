-- How far the rows of a plan could be written by the results that have come.
use Rattle.std.specs.Prelude.{◌≡◌, ℕ, ◌+◌, ◌-◌, ◌*◌, ◌<◌, Bool, true, ◌&&◌, if◌then◌else◌, List, length, map, drop}
use Rattle.std.specs.Prelude.{Option, MatchOption, IfSome}
use Rattle.std.specs.List.{list_any}
use Rattle.pg_selection.specs.Search.{Search, terminator}
use Rattle.pg_blocks.specs.Lines.{lines}
use Rattle.pg_selection.specs.Selection.{selects}
use Rattle.pg_blocks.specs.Blocks.{BlockData}
use Rattle.pg_rows.specs.declared.format.Format.{Format}
use Rattle.pg_rows.specs.Enough.{trail_suffices}
use Rattle.pg_rows.specs.Modes.{is_quiet}
use Rattle.pg_rows.specs.Output.{has_selected}
use Rattle.pg_rows.specs.Progress.{IsOfTrail}
use Rattle.pg_rows.specs.Trail.{Trail}
use Rattle.pg_plan.specs.Plan.{Step, announced, is_open, entries_of}
use Rattle.pg_plan.specs.History.{Past, plan, taken_of, all_taken, front_of}
use Rattle.pg_plan.specs.Cursor.{cursor_of}
use Rattle.pg_seq.specs.Coming.{behind, openings}
use Rattle.pg_seq.specs.Standing.{IsAfter, opening_of, is_last_block}
use Rattle.pg_seq.specs.declared.ahead.Lookahead.{Lookahead}
use Rattle.pg_seq.specs.declared.assembler.Assembler.{Assembler}

abbrev pub block_selects : Search → BlockData → Bool
block_selects q b = list_any (selects q) (lines (terminator q) b.bytes)

-- whether enough would be read, where this is known of the lines of the file that would be open
abbrev pub is_enough_by : Format → Lookahead → Trail → Bool
is_enough_by format a t =
    if is_quiet format.mode then a.selected else (a.inside && trail_suffices format.mode format t)

-- The steps that could be done so far, the newest first, and those behind them, the oldest first.
pub record HasLookedAhead {A : Type 0} (s : Assembler A) (past : Past) (a : Lookahead) : Type 0 where
  pub done : List Step
  pub coming : List Step
  pub split : plan past ≡ behind done coming
  pub whole : all_taken (taken_of past.query past.events) done ≡ true
  pub count : length (announced done) ≡ s.buffer.handed + a.blocks
  pub inside : is_open done ≡ a.inside
  pub waiting : map opening_of (drop a.files s.waiting.items) ≡ openings (s.buffer.handed + a.blocks) coming
  pub progress : IsOfTrail a.progress past.format (cursor_of past.query past.format done).trail
  pub selected : list_any (block_selects past.query) (announced done) ≡ a.selected

-- no further step can be done: this is told of the files of the front
pub record IsAtFront (past : Past) (a : Lookahead) : Type 0 where
  pub inside : is_open (front_of past) ≡ a.inside
  pub progress : IsOfTrail a.progress past.format (cursor_of past.query past.format (front_of past)).trail
  pub selected : list_any (has_selected past.query) (entries_of (front_of past)) ≡ a.selected

-- whether the blocks of the file came all, by the files and blocks behind
abbrev pub is_over : {A : Type 0} → Assembler A → Lookahead → Bool
is_over s a = is_last_block (drop a.files s.waiting.items) s.running (length s.buffer.slots.items - a.blocks)
    (s.buffer.handed + a.blocks)

-- how many steps may be left
abbrev pub left_ahead : {A : Type 0} → Assembler A → Lookahead → ℕ
left_ahead s a = 2 * (length s.waiting.items - a.files) + (if a.inside then 1 else 0)
    + (length s.buffer.slots.items - a.blocks)

-- there is a past after which the sequencer stands and by which the rows could be written so far
abbrev pub MayLookFurther : {A : Type 0} → Assembler A → Lookahead → Type 0
MayLookFurther s a = (past : Past) × IsAfter s past × HasLookedAhead s past a

-- one step further, after which fewer are left; or none, where no further step can be done
pub record LooksOneFurther {A : Type 0} (s : Assembler A) (a : Lookahead) (result : Option Lookahead) : Type 0 where
  pub further : (past : Past) → IsAfter s past → HasLookedAhead s past a →
      MatchOption result (IsAtFront past a) (HasLookedAhead s past)
  pub fewer : IfSome result (λ next. left_ahead s next < left_ahead s a)
