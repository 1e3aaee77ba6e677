-- How a sequencer stands after what happened to it.
use Rattle.std.specs.Prelude.{◌≡◌, ℕ, ◌+◌, ◌*◌, ◌<◌, ◌≤◌, ◌==◌, Bool, true, false, not, ◌&&◌, if◌then◌else◌}
use Rattle.std.specs.Prelude.{Result, MatchResult, IfOk, OnOk, OnErr, IsErrOf, Option, MatchOption, MatchBool}
use Rattle.std.specs.Prelude.{List, [], ◌∷◌, ◌++◌, map, length}
use Rattle.std.specs.List.{AllByRecursion, list_any}
use Rattle.std.specs.Arc.{arc_value}
use Rattle.pg_selection.specs.Search.{SearchText, Pattern, AreTreesOf, search_of, terminator, HasItsTrees}
use Rattle.pg_selection.specs.Searched.{SearchedBlock}
use Rattle.pg_rows.specs.declared.format.Format.{Format}
use Rattle.pg_rows.specs.Enough.{is_enough}
use Rattle.pg_rows.specs.Output.{HasRoom, is_bad, output}
use Rattle.pg_rows.specs.Remembered.{IsAtCursor}
use Rattle.pg_base.specs.Sink.{Stream, WritesAll, IsBeginning}
use Rattle.pg_plan.specs.Plan.{Step, Opens, Announces, Ends, Misses, announced, IsPlan, MayFollow, is_open, entries_of}
use Rattle.pg_plan.specs.History.{Past, past_at_start, plan, planned, arrived, answer, taken_of, is_taken, front_of}
use Rattle.pg_plan.specs.History.{handed}
use Rattle.pg_plan.specs.History.{IsComplete, status_of}
use Rattle.pg_plan.specs.Cursor.{cursor_of}
use Rattle.pg_plan.specs.Drains.{Drained, drained}
use Rattle.pg_seq.specs.Coming.{behind, openings}
use Rattle.pg_seq.specs.Slots.{slot_block, has_result, slot_selects, IsResultOf}
use Rattle.pg_seq.specs.Buffer.{AreGone}
use Rattle.pg_seq.specs.declared.opening.Opening.{Opening}
use Rattle.pg_seq.specs.declared.slot.Slot.{Slot}
use Rattle.pg_plan.specs.declared.answers.Arrival.TheVariants.{Taken}
use Rattle.pg_plan.specs.declared.answers.SinkFault.{SinkFault}
use Rattle.pg_plan.specs.declared.answers.SinkFault.TheVariants.{Failed, WriteFailed}
use Rattle.pg_seq.specs.declared.assembler.Assembler.{Assembler}

-- how many blocks were announced before each file that was opened, in the files' order
abbrev pub starts_of : List Step → List ℕ
starts_of [] = []
starts_of (Opens name ∷ plan) = starts_of plan ++ length (announced plan) ∷ []
starts_of (Announces block ∷ plan) = starts_of plan
starts_of (Ends failed ∷ plan) = starts_of plan
starts_of (Misses name ∷ plan) = starts_of plan

abbrev pub opening_of : {A : Type 0} → Opening A → ℕ × List ℕ
opening_of opening = (opening.start, opening.prefix)

-- What was written, and what is to come: the steps of the plan whose rows were written, the newest first, and those
-- whose rows weren't, the oldest first.
pub record HandedOutSteps {A : Type 0} (s : Assembler A) (past : Past) : Type 0 where
  pub done : List Step
  pub coming : List Step
  pub split : plan past ≡ behind done coming
  pub count : length (announced done) ≡ s.buffer.handed
  pub printing : is_open done ≡ s.printing
  pub waiting : map opening_of s.waiting.items ≡ openings s.buffer.handed coming
  pub cursor : IsAtCursor s.printer past.query past.format (cursor_of past.query past.format done)
  pub written : s.failed ≡ false → past.written ≡ output past.query past.format (entries_of done)

-- The sequencer stands after this, where these were the slots of the blocks that were handed out.
pub record IsAfter {A : Type 0} (s : Assembler A) (past : Past) : Type 0 where
  pub gone : List (Slot A)
  pub given_up : AreGone s.buffer gone
  pub query : past.query.text ≡ arc_value s.selector
  pub trees : HasItsTrees past.query
  pub format : past.format ≡ s.format
  pub room : HasRoom past.format
  pub lawful : IsPlan (terminator past.query) (plan past)
  pub running : is_open (plan past) ≡ s.running
  pub bad : list_any is_bad (entries_of (plan past)) ≡ s.bad
  pub starts : s.buffer.starts ≡ starts_of (plan past)
  pub blocks : announced (plan past) ≡ map slot_block (gone ++ s.buffer.slots.items)
  pub taken : map (is_taken (taken_of past.query past.events)) (announced (plan past))
      ≡ map has_result (gone ++ s.buffer.slots.items)
  pub results : AllByRecursion (IsResultOf past.query) (gone ++ s.buffer.slots.items)
  pub failed : past.failed ≡ s.failed
  pub selected : s.buffer.selected ≡ list_any (slot_selects past.query) gone
  pub writes : HandedOutSteps s past

-- there is a past after which the sequencer stands
abbrev pub HasPast : {A : Type 0} → Assembler A → Type 0
HasPast s = (past : Past) × IsAfter s past

-- there is a past after which the sequencer stands, and no write has failed
abbrev pub MayWrite : {A : Type 0} → Assembler A → Type 0
MayWrite s = (past : Past) × IsAfter s past × (s.failed ≡ false)

-- nothing happened to the sequencer, and it is for the results of the query with this text
abbrev pub IsAtStart : {A : Type 0} → SearchText → Format → Assembler A → Type 0
IsAtStart text format s = (trees : List Pattern) → AreTreesOf text trees →
    IsAfter s (past_at_start (search_of text trees) format)

-- the sequencer stands after this, and the step may follow
abbrev pub IsReadyFor : {A : Type 0} → Assembler A → Past → Step → Type 0
IsReadyFor s past step = IsAfter s past × MayFollow (terminator past.query) (plan past) step

-- for some past the sequencer stands after it, and the step may follow
abbrev pub MayPlan : {A : Type 0} → Assembler A → Step → Type 0
MayPlan s step = (past : Past) × IsReadyFor s past step

-- at Ok the step is planned behind each past after which the sequencer stood
abbrev pub PlansAtOk : {A T E : Type 0} → (old new : Assembler A) → Step → Result T E → Type 0
PlansAtOk old new step result = (past : Past) → IsAfter old past → OnOk result (IsAfter new (planned past step))

-- at Ok the step is planned behind each past after which the sequencer stood and on which the step may follow
abbrev pub PlansAtOkIfReady : {A T E : Type 0} → (old new : Assembler A) → Step → Result T E → Type 0
PlansAtOkIfReady old new step result = (past : Past) → IsAfter old past →
    MayFollow (terminator past.query) (plan past) step → OnOk result (IsAfter new (planned past step))

-- at Err the sequencer stands after each past after which it stood
abbrev pub StaysAtErr : {A T E : Type 0} → (old new : Assembler A) → Result T E → Type 0
StaysAtErr old new result = (past : Past) → IsAfter old past → OnErr result (IsAfter new past)

-- by some past after which the sequencer stands the result would be taken
abbrev pub MayKeep : {A : Type 0} → Assembler A → SearchedBlock → Type 0
MayKeep s found = (past : Past) × IsAfter s past × (answer past found ≡ Taken)

-- the result has arrived behind each past after which the sequencer stood and by which the result is taken
abbrev pub KeepsResult : {A : Type 0} → (old new : Assembler A) → SearchedBlock → Type 0
KeepsResult old new found = (past : Past) → IsAfter old past → answer past found ≡ Taken
    → IsAfter new (arrived past found)

-- whether enough was read, by the files of the front
abbrev pub TellsEnough : {A : Type 0} → Assembler A → Bool → Type 0
TellsEnough s enough = (past : Past) → IsAfter s past →
    enough ≡ is_enough past.query past.format (entries_of (front_of past))

-- the exit status once all is complete, and none before
abbrev pub TellsStatus : {A : Type 0} → Assembler A → Option ℕ → Type 0
TellsStatus s told = (past : Past) → IsAfter s past →
    MatchOption told (IsComplete past → ⊥) (λ status. IsComplete past × (status ≡ status_of past))

-- A drain wrote what it had to, behind each past after which the sequencer stood. Where it tells of a write that failed
-- in it, the sink has counted a failure; where it tells of an earlier one, the sink was asked nothing; and where of
-- none, it has counted none.
pub record Drains {A : Type 0} (old new : Assembler A) (before after : Stream) (result : Result (Unit {0}) SinkFault)
    : Type 0 where
  pub drained : (past : Past) → IsAfter old past → (text : List ℕ) × (after.taken ≡ before.taken ++ text)
      × Drained result past text × IsAfter new (drained past text result)
  pub cause : IsErrOf result WriteFailed → before.failures < after.failures
  pub failed : IsErrOf result Failed → after ≡ before
  pub no_failure : OnOk result (after.failures ≡ before.failures)
  pub never_falls : before.failures ≤ after.failures

-- more was written
abbrev pub wrote : Past → List ℕ → Past
wrote past text = record past { written = past.written ++ text }

-- all that may be handed out was written
abbrev pub HasWrittenAll : Past → Type 0
HasWrittenAll past = past.written ≡ handed past

-- the rows of the file that is printed were all written, by the next file that waits, or by the end of the plan
abbrev pub is_last_block : {A : Type 0} → List (Opening A) → Bool → ℕ → ℕ → Bool
is_last_block [] more held count = not more && held == 0
is_last_block (opening ∷ later) more held count = opening.start == count

abbrev pub is_at_end : {A : Type 0} → Assembler A → Bool
is_at_end s = is_last_block s.waiting.items s.running (length s.buffer.slots.items) s.buffer.handed

-- how many steps may be left to hand out
abbrev pub steps_left : {A : Type 0} → Assembler A → ℕ
steps_left s = 2 * length s.waiting.items + (if s.printing then 1 else 0) + length s.buffer.slots.items

-- the rows of the next step were written
pub record Advances {A : Type 0} (new : Assembler A) (past : Past) (before after : Stream) : Type 0 where
  pub rows : List ℕ
  pub got : WritesAll rows before after
  pub stands : IsAfter new (wrote past rows)

-- a beginning of the rows of the next step was written, and a write failed
pub record BreaksOffInStep {A : Type 0} (new : Assembler A) (past : Past) (before after : Stream) : Type 0 where
  pub rows : List ℕ
  pub got : after.taken ≡ before.taken ++ rows
  pub failure : before.failures < after.failures
  pub part : IsBeginning (past.written ++ rows) (handed past)
  pub stands : IsAfter new past

-- no step may be handed out, and nothing changed
pub record HasNothingToDo {A : Type 0} (new : Assembler A) (past : Past) (before after : Stream) : Type 0 where
  pub all : HasWrittenAll past
  pub same : after ≡ before
  pub stands : IsAfter new past

-- A step of the plan was done at true. At false there was none that may be done, and at Err a write failed in it.
pub record TakesOneStep {A E : Type 0} (old new : Assembler A) (before after : Stream) (result : Result Bool E)
    : Type 0 where
  pub goes : (past : Past) → IsAfter old past → MatchResult result
      (λ more. MatchBool more (Advances new past before after) (HasNothingToDo new past before after))
      (λ _. BreaksOffInStep new past before after)
  pub fewer : IfOk result (λ more. more ≡ true → steps_left new < steps_left old)
  pub same : new.failed ≡ old.failed

-- The next file was opened in the printer at true. At false none waits, and all was written.
pub record OpensNext {A : Type 0} (old new : Assembler A) (more : Bool) : Type 0 where
  pub opened : (past : Past) → IsAfter old past →
      MatchBool more (IsAfter new past) (HasWrittenAll past × IsAfter new past)
  pub fewer : more ≡ true → steps_left new < steps_left old
  pub same : new.failed ≡ old.failed
