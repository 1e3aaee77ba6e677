-- How an engine holds its sequencer between two calls.
use Rattle.std.specs.Prelude.{◌≡◌, ◌⊎◌, ℕ, ◌<◌, true, false, List, [], ◌∷◌, ◌++◌, length, map, Result}
use Rattle.std.specs.List.{list_all}
use Rattle.std.specs.Result.{IfOk, MatchResult, OnOk}
use Rattle.std.specs.Arc.{arc_value}
use Rattle.pg_selection.specs.Search.{Search, SearchText, HasItsTrees, terminator}
use Rattle.pg_blocks.specs.Blocks.{BlockData}
use Rattle.pg_blocks.specs.Cutter.{IsCutterAfter, IsDrained, unfed}
use Rattle.pg_blocks.specs.declared.cutter.Cutter.{Cutter}
use Rattle.pg_rows.specs.declared.format.Format.{Format}
use Rattle.pg_rows.specs.Output.{output, status}
use Rattle.pg_base.specs.Sink.{Stream, IsBeginning, TakesPart}
use Rattle.pg_plan.specs.Plan.{Step, Opens, MayFollow, opened, announced, entries_of}
use Rattle.pg_plan.specs.History.{Past, Event, plan_of, taken_of, is_taken}
use Rattle.pg_seq.specs.Standing.{IsAfter}
use Rattle.pg_run.specs.Outcome.{NoneFailed}
use Rattle.pg_run.specs.Searches.{FindsLines}
use Rattle.pg_workers.specs.declared.block_search.BlockSearch.{Ghosts}
use Rattle.pg_run.specs.declared.engine.Engine.{Engine}
use Rattle.pg_run.specs.declared.setup.Setup.{Setup}
use Rattle.pg_run.specs.declared.fault.RunFault.{RunFault}
use Rattle.pg_run.specs.declared.fault.RunFault.TheVariants.{OutOfMemory, Sink, TooManyFiles, TooLong}

module _ {A Q C : Type 0} {asks : Ghosts Q A C} where
  -- the blocks that wait to be searched
  abbrev pub waiting : Engine A Q C asks → List BlockData
  waiting engine = map arc_value engine.round.items

  -- what the engine asks finds the lines that are selected, and the engine knows what ends them
  abbrev pub SearchesFor : Engine A Q C asks → Search → Type 0
  SearchesFor engine q =
      FindsLines (asks.seen engine.query.now) q.text × (engine.terminator ≡ terminator q)

  -- where blocks wait for a round, one more has room in it
  abbrev pub HasRoomInRound : Engine A Q C asks → Type 0
  HasRoomInRound engine = engine.spread ≡ true → length engine.round.items < engine.setup.round

  -- blocks are searched as before: at once, or by rounds
  abbrev pub SearchesAsBefore : (old new : Engine A Q C asks) → Type 0
  SearchesAsBefore old new = (new.spread ≡ old.spread) × (new.setup ≡ old.setup)

-- nothing failed so far
abbrev pub past_of : Search → Format → List Event → List ℕ → Past
past_of q format events written =
    record { query = q; format = format; events = events; written = written; failed = false }

-- what a run is for, and what its writers had taken before
pub record Aim : Type 0 where
  pub query : Search
  pub setup : Setup
  pub out : Stream
  pub told : Stream

-- how the rows of a run look
abbrev pub format_of : Aim → Format
format_of aim = aim.setup.format

-- what a plan gives
abbrev pub output_of : Aim → List Step → List ℕ
output_of aim steps = output aim.query (format_of aim) (entries_of steps)

-- the step may follow on the plan of a run
abbrev pub MayStep : Aim → List Step → Step → Type 0
MayStep aim steps step = MayFollow (terminator aim.query) steps step

module _ {A Q C : Type 0} {asks : Ghosts Q A C} where
  -- The engine's sequencer has this plan. Of its blocks it took the first ones, and the others wait in the engine's
  -- round. The writer took a beginning of what the plan gives, and didn't fail.
  pub record HasPlan (engine : Engine A Q C asks) (aim : Aim) (steps : List Step) (out : Stream) : Type 0 where
    pub same : SearchesFor engine aim.query
    pub set : engine.setup ≡ aim.setup
    pub count : engine.files ≡ opened steps
    pub events : List Event
    pub written : List ℕ
    pub stands : IsAfter engine.sequencer (past_of aim.query (format_of aim) events written)
    pub planned : plan_of events ≡ steps
    pub taken : List BlockData
    pub blocks : announced steps ≡ taken ++ waiting engine
    pub all : list_all (is_taken (taken_of aim.query events)) taken ≡ true
    pub safe : IsBeginning written (output_of aim steps)
    pub got : out.taken ≡ aim.out.taken ++ written
    pub calm : out.failures ≡ aim.out.failures

  -- the engine's plan has no step yet, in each run for this text and setup
  abbrev pub IsNewEngine : SearchText → Setup → Engine A Q C asks → Type 0
  IsNewEngine text setup engine = (aim : Aim) → HasItsTrees aim.query → aim.query.text ≡ text → aim.setup ≡ setup
      → HasPlan engine aim [] aim.out

  -- the engine has this plan, and the step may follow
  abbrev pub HasPlanFor : Engine A Q C asks → Aim → List Step → Stream → Step → Type 0
  HasPlanFor engine aim steps out step = HasPlan engine aim steps out × MayStep aim steps step

  -- for some run the engine has some plan
  abbrev pub HasSomePlan : Engine A Q C asks → Stream → Type 0
  HasSomePlan engine out = (aim : Aim) × (steps : List Step) × HasPlan engine aim steps out

  -- for some run the step may follow on its plan
  abbrev pub MayTakeStep : Engine A Q C asks → Step → Type 0
  MayTakeStep engine step = (aim : Aim) × (steps : List Step) × (out : Stream) × HasPlanFor engine aim steps out step

  -- at Ok the step was added to each plan on which it may follow
  abbrev pub TakesStep : {T E : Type 0} → (old new : Engine A Q C asks) → Step → Result T E → Type 0
  TakesStep old new step result = (aim : Aim) → (steps : List Step) → (out : Stream) → HasPlanFor old aim steps out step
      → OnOk result (HasPlan new aim (step ∷ steps) out)

  -- At Ok this file was opened on each plan on which that may follow, and the answer is a new cutter for it.
  abbrev pub OpensOnPlan : {E : Type 0} → (old new : Engine A Q C asks) → (name : List ℕ) → Result (Cutter A) E → Type 0
  OpensOnPlan old new name result = (aim : Aim) → (steps : List Step) → (out : Stream)
      → HasPlanFor old aim steps out (Opens name)
      → IfOk result (λ cutter. HasPlan new aim (Opens name ∷ steps) out
      × IsCutterAfter cutter (unfed (terminator aim.query) old.files aim.setup.block aim.setup.line)
      × IsDrained cutter)

  -- each plan that the engine had it has still
  abbrev pub PlansStay : (old new : Engine A Q C asks) → Type 0
  PlansStay old new = (aim : Aim) → (steps : List Step) → (out : Stream) → HasPlan old aim steps out
      → HasPlan new aim steps out

-- the writer took all of what the plan gives
abbrev pub AllIsWritten : Aim → List Step → Stream → Type 0
AllIsWritten aim steps out = out.taken ≡ aim.out.taken ++ output_of aim steps

-- why a search broke off
abbrev pub SearchCause : RunFault → Aim → Stream → Type 0
SearchCause OutOfMemory aim out = Unit {0}
SearchCause Sink aim out = aim.out.failures < out.failures
SearchCause TooManyFiles aim out = ⊥
SearchCause TooLong aim out = ⊥

-- a search broke off, and the writer took a beginning of what the plan gives
pub record BreaksOffInSearch (aim : Aim) (steps : List Step) (out : Stream) (fault : RunFault) : Type 0 where
  pub cause : SearchCause fault aim out
  pub part : TakesPart (output_of aim steps) aim.out.taken out.taken
  pub calm : NoneFailed fault aim.out out

module _ {A Q C : Type 0} {asks : Ghosts Q A C} where
  -- At Ok the step was added to each plan on which it may follow, and all was written unless blocks wait for a round.
  -- At Err the search broke off.
  abbrev pub SearchesStep : {T : Type 0} → (old new : Engine A Q C asks) → Step → (before after : Stream)
      → Result T RunFault
      → Type 0
  SearchesStep old new step before after result = (aim : Aim) → (steps : List Step)
      → HasPlanFor old aim steps before step
      → MatchResult result (λ _. HasPlan new aim (step ∷ steps) after
      × (old.spread ≡ false → AllIsWritten aim (step ∷ steps) after)) (BreaksOffInSearch aim (step ∷ steps) after)

  -- each plan that the engine had it has at Ok still; at Err the search broke off
  abbrev pub KeepsPlan : {T : Type 0} → (old new : Engine A Q C asks) → (before after : Stream) → Result T RunFault
      → Type 0
  KeepsPlan old new before after result = (aim : Aim) → (steps : List Step) → HasPlan old aim steps before
      → MatchResult result (λ _. HasPlan new aim steps after) (BreaksOffInSearch aim steps after)

  -- Each plan that the engine had it has at Ok still, and all that it gives is written; at Err the search broke off.
  abbrev pub WritesPlan : {T : Type 0} → (old new : Engine A Q C asks) → (before after : Stream) → Result T RunFault
      → Type 0
  WritesPlan old new before after result = (aim : Aim) → (steps : List Step) → HasPlan old aim steps before
      → MatchResult result (λ _. HasPlan new aim steps after × AllIsWritten aim steps after)
      (BreaksOffInSearch aim steps after)

  -- Blocks are searched as before. At Ok none waits any more, and all that the plan gives is written.
  pub record EmptiesRound {T : Type 0} (old new : Engine A Q C asks) (before after : Stream)
      (result : Result T RunFault)
      : Type 0 where
    pub kept : SearchesAsBefore old new
    pub none : OnOk result (new.round.items ≡ [])
    pub outcome : WritesPlan old new before after result

-- all that the plan gives is written, its status is answered, and no write failed
pub record IsFinishedRun (aim : Aim) (steps : List Step) (out : Stream) (answer : ℕ) : Type 0 where
  pub written : AllIsWritten aim steps out
  pub answered : answer ≡ status aim.query (format_of aim) (entries_of steps)
  pub calm : out.failures ≡ aim.out.failures

-- all was written, no write failed and the fault is answered; or that broke off
abbrev pub IsWrittenFirst : Aim → List Step → Stream → (fault answer : RunFault) → Type 0
IsWrittenFirst aim steps out fault answer =
    ((answer ≡ fault) × AllIsWritten aim steps out × (out.failures ≡ aim.out.failures))
    ⊎ BreaksOffInSearch aim steps out answer
