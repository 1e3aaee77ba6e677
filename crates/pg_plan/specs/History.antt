-- What happened to a sequencer, the newest first, and what follows from it.
use Rattle.std.specs.Prelude.{◌≡◌, ℕ, ◌==◌, Bool, false, ◌&&◌, if◌then◌else◌, Option, Some, None, List, [], ◌∷◌}
use Rattle.std.specs.List.{list_any, list_all, find}
use Rattle.std.specs.Str.{bytes_eq}
use Rattle.pg_selection.specs.Search.{Search}
use Rattle.pg_selection.specs.Same.{same_text}
use Rattle.pg_blocks.specs.Blocks.{BlockData}
use Rattle.pg_selection.specs.Searched.{SearchedBlock}
use Rattle.pg_rows.specs.declared.format.Format.{Format}
use Rattle.pg_plan.specs.declared.answers.Arrival.{Arrival}
use Rattle.pg_plan.specs.declared.answers.Arrival.TheVariants.{Taken, Double, Stranger}
use Rattle.pg_rows.specs.Output.{output, status}
use Rattle.pg_plan.specs.Plan.{Step, announced, entries_of, is_open}

-- an accepted plan call, or an arrival
pub data Event : Type 0 where
  Planned : (step : Step) → Event
  Arrived : (result : SearchedBlock) → Event

-- the steps of the plan calls
abbrev pub plan_of : List Event → List Step
plan_of [] = []
plan_of (Planned step ∷ events) = step ∷ plan_of events
plan_of (Arrived result ∷ events) = plan_of events

-- the block is that of this file and number
abbrev pub is_block : ℕ → ℕ → BlockData → Bool
is_block file number b = b.file == file && b.number == number

-- a pair of file and number is among those
abbrev pub is_taken : List (ℕ × ℕ) → BlockData → Bool
is_taken taken b = list_any (λ key. is_block key.0 key.1 b) taken

-- what a result is that comes first, by whether its block is the announced one
abbrev pub if_same : Bool → Arrival
if_same same = if same then Taken else Stranger

-- what a block of a known query is: by the announced block of its file and number, if there is one
abbrev pub arrival_at : Option BlockData → List (ℕ × ℕ) → BlockData → Arrival
arrival_at None taken b = Stranger
arrival_at (Some known) taken b = if is_taken taken b then Double else if_same (bytes_eq b.bytes known.bytes)

-- what the next arrival is
abbrev pub arrival : Search → List Step → List (ℕ × ℕ) → SearchedBlock → Arrival
arrival q plan taken r =
    if same_text q.text r.query
    then arrival_at (find (is_block r.block.file r.block.number) (announced plan)) taken r.block
    else Stranger

-- which blocks were taken, behind an arrival
abbrev pub taken_after : Arrival → BlockData → List (ℕ × ℕ) → List (ℕ × ℕ)
taken_after Taken b taken = (b.file, b.number) ∷ taken
taken_after Double b taken = taken
taken_after Stranger b taken = taken

-- file and number of each block that was taken
abbrev pub taken_of : Search → List Event → List (ℕ × ℕ)
taken_of q [] = []
taken_of q (Planned step ∷ events) = taken_of q events
taken_of q (Arrived r ∷ events) =
    taken_after (arrival q (plan_of events) (taken_of q events) r) r.block (taken_of q events)

-- each announced block was taken
abbrev pub all_taken : List (ℕ × ℕ) → List Step → Bool
all_taken taken plan = list_all (is_taken taken) (announced plan)

-- the longest beginning of the plan each of whose blocks was taken
abbrev pub front : List (ℕ × ℕ) → List Step → List Step
front taken [] = []
front taken (step ∷ plan) = if all_taken taken (step ∷ plan) then step ∷ plan else front taken plan

-- the query and the format, what happened, what all drains wrote, and whether one of them answered WriteFailed
pub record Past : Type 0 where
  pub query : Search
  pub format : Format
  pub events : List Event
  pub written : List ℕ
  pub failed : Bool

-- nothing has happened yet
abbrev pub past_at_start : Search → Format → Past
past_at_start q format = record { query = q; format = format; events = []; written = []; failed = false }

-- behind a plan call
abbrev pub planned : Past → Step → Past
planned past step = record past { events = Planned step ∷ past.events }

-- behind an arrival
abbrev pub arrived : Past → SearchedBlock → Past
arrived past result = record past { events = Arrived result ∷ past.events }

-- the plan by now
abbrev pub plan : Past → List Step
plan past = plan_of past.events

-- what an arrival is behind these events
unfoldable pub answer_after : Search → List Event → SearchedBlock → Arrival
answer_after q events r = arrival q (plan_of events) (taken_of q events) r

-- how far the front of the plan has come behind these events
unfoldable pub front_after : Search → List Event → List Step
front_after q events = front (taken_of q events) (plan_of events)

-- what may be handed out: the output of the files of the front
unfoldable pub handed_after : Search → Format → List Event → List ℕ
handed_after q format events = output q format (entries_of (front_after q events))

-- what an arrival is behind a past, whatever was written
abbrev pub answer : Past → SearchedBlock → Arrival
answer past r = answer_after past.query past.events r

-- how far the front of a past's plan has come
abbrev pub front_of : Past → List Step
front_of past = front_after past.query past.events

-- what may be handed out behind a past, whatever was written
abbrev pub handed : Past → List ℕ
handed past = handed_after past.query past.format past.events

-- no file is open and every announced block was taken
abbrev pub IsComplete : Past → Type 0
IsComplete past = (is_open (plan past) ≡ false) × (front_of past ≡ plan past)

-- the exit status of the files of the plan
abbrev pub status_of : Past → ℕ
status_of past = status past.query past.format (entries_of (plan past))
