-- How an engine stands inside a file and between files.
use Rattle.std.specs.Prelude.{◌≡◌, ◌⊎◌, ℕ, ◌+◌, ◌-◌, ◌<◌, ◌^◌, Bool, true, false, if◌then◌else◌, List, [], ◌∷◌, ◌++◌}
use Rattle.std.specs.Prelude.{drop, Result}
use Rattle.std.specs.Result.{MatchResult}
use Rattle.pg_selection.specs.Search.{terminator}
use Rattle.pg_blocks.specs.Blocks.{joined}
use Rattle.pg_blocks.specs.Cutter.{CutterPast, IsCutterAfter, IsDrained}
use Rattle.pg_rows.specs.Modes.{is_quiet}
use Rattle.pg_base.specs.Entries.{Entry, Ending, Ended, Failed, Left}
use Rattle.pg_rows.specs.Output.{output}
use Rattle.pg_base.specs.Sink.{Stream, TakesPart}
use Rattle.pg_plan.specs.Plan.{Step, Ends, is_open, opened, last_blocks, entries_of}
use Rattle.pg_files.specs.Given.{FileOutcome, File, FilesPast, AllGiven, entries_given, files_given}
use Rattle.pg_reader.specs.Lengths.{IsTooLong}
use Rattle.pg_reader.specs.Reads.{IsLost, ending_after}
use Rattle.pg_run.specs.Told.{told_of}
use Rattle.pg_run.specs.Outcome.{IsContinuation, EndsAtSelected, AsksToTheEnd, GotWholeLines, IsOfAFile, NoneFailed}
use Rattle.pg_run.specs.Outcome.{BreaksOff, HasStopped}
use Rattle.pg_run.specs.Cover.{Covers, HasOpenFile}
use Rattle.pg_run.specs.Holding.{Aim, HasPlan, HasRoomInRound, format_of}
use Rattle.pg_workers.specs.declared.block_search.BlockSearch.{Ghosts}
use Rattle.pg_run.specs.declared.engine.Engine.{Engine}
use Rattle.pg_run.specs.declared.fault.RunFault.{RunFault}
use Rattle.pg_run.specs.declared.fault.RunFault.TheVariants.{OutOfMemory, Sink, TooManyFiles, TooLong}
use Rattle.pg_reader.specs.declared.file_reader.FileReader.{FileReader}
use Rattle.pg_reader.specs.declared.file_reader.ReadOutcome.TheVariants.{More}

-- how a file stands once it can't go on
abbrev pub ending_of : Bool → Ending
ending_of failed = if failed then Failed else Ended

-- A file is open, the newest that was given. All that it gave was cut, but where the cutter took no more; and the plan
-- has the blocks that were taken of those that are cut.
pub record HasCut {A : Type 0} (reader : FileReader A) (aim : Aim) (given : List FileOutcome)
    (steps : List Step) : Type 0 where
  pub fed : CutterPast
  pub cut : IsCutterAfter reader.cutter fed
  pub ends : fed.end ≡ terminator aim.query
  pub longest : fed.longest ≡ aim.setup.line
  pub running : is_open steps ≡ true
  pub file : fed.file + 1 ≡ opened steps
  pub number : opened steps ≡ files_given given
  pub last : last_blocks steps ≡ fed.taken
  pub name : List ℕ
  pub rest : List ℕ
  pub lost : List ℕ
  pub whole : fed.bytes ++ lost ≡ joined fed.taken ++ rest
  pub cause : IsLost reader.came (terminator aim.query) aim.setup.line given lost
  pub reads : HasOpenFile aim.query (format_of aim) name (joined fed.taken) rest (ending_after reader.came)
      (entries_of steps) (entries_given given)

-- the file may be read further, and all blocks that are cut were taken
abbrev pub AwaitsMore : {A : Type 0} → FileReader A → Type 0
AwaitsMore reader = (reader.came ≡ More) × IsDrained reader.cutter

module _ {A Q C : Type 0} {asks : Ghosts Q A C} where
  -- all blocks that are cut were taken, and there is room for the last one
  abbrev pub AwaitsLast : FileReader A → Engine A Q C asks → Type 0
  AwaitsLast reader engine = IsDrained reader.cutter × HasRoomInRound engine

  -- A file is open, and the engine has the blocks that were taken of it.
  pub record IsInsideFile (reader : FileReader A) (engine : Engine A Q C asks) (aim : Aim) (given : List FileOutcome)
      (out : Stream) : Type 0 where
    pub steps : List Step
    pub holds : HasPlan engine aim steps out
    pub cuts : HasCut reader aim given steps

  -- for some run a file is open, and the engine has the blocks that were taken of it
  abbrev pub IsInSomeFile : FileReader A → Engine A Q C asks → List FileOutcome → Stream → Type 0
  IsInSomeFile reader engine given out = (aim : Aim) × IsInsideFile reader engine aim given out

  -- for some run and whatever was given a file is open, and the engine has all blocks that were cut of it
  abbrev pub IsReadingSomeFile : FileReader A → Engine A Q C asks → Stream → Type 0
  IsReadingSomeFile reader engine out =
      (aim : Aim) × (given : List FileOutcome) × IsDrained reader.cutter × IsInsideFile reader engine aim given out

  -- The engine has all blocks that were cut of the open file, which can't go on, for its end or a failure, and has room
  -- for its last block.
  pub record IsAtLastBlock (reader : FileReader A) (engine : Engine A Q C asks) (failed : Bool) (out : Stream)
      : Type 0 where
    pub ended : ending_after reader.came ≡ ending_of failed
    pub room : HasRoomInRound engine
    pub in_file : IsReadingSomeFile reader engine out

module _ {A Q C : Type 0} {asks : Ghosts Q A C} where
  -- A file is open, and once it has ended so the plan has all that is needed of what was given.
  pub record MayEndFile (engine : Engine A Q C asks) (aim : Aim) (failed : Bool) (given : List FileOutcome)
      (out : Stream) : Type 0 where
    pub steps : List Step
    pub holds : HasPlan engine aim steps out
    pub running : is_open steps ≡ true
    pub number : opened steps ≡ files_given given
    pub covers : Covers aim.query (format_of aim) (entries_of (Ends failed ∷ steps)) (entries_given given)

  -- No file is open, and the plan has all that is needed of what was given.
  pub record IsBetweenFiles (engine : Engine A Q C asks) (aim : Aim) (given : List FileOutcome) (out : Stream) : Type 0
    where
      pub steps : List Step
      pub holds : HasPlan engine aim steps out
      pub closed : is_open steps ≡ false
      pub number : opened steps ≡ files_given given
      pub covers : Covers aim.query (format_of aim) (entries_of steps) (entries_given given)

-- all that was given was told, and nothing failed
pub record AllIsTold (aim : Aim) (given : List FileOutcome) (told : Stream) : Type 0 where
  pub all : told.taken ≡ aim.told.taken ++ told_of aim.setup.silent given
  pub calm : told.failures ≡ aim.told.failures

module _ {A Q C : Type 0} {asks : Ghosts Q A C} where
  -- no file is open, and all was told
  abbrev pub HasToldAll : Engine A Q C asks → Aim → List FileOutcome → (out told : Stream) → Type 0
  HasToldAll engine aim given out told = IsBetweenFiles engine aim given out × AllIsTold aim given told

  -- for some run no file is open, and all that was given by now was told
  abbrev pub HasToldSome : Engine A Q C asks → List FileOutcome → (out told : Stream) → Type 0
  HasToldSome engine given out told = (aim : Aim) × HasToldAll engine aim given out told

-- what the writer took is a beginning of the output of all that goes on from what was given
abbrev pub IsCommonBeginning : Aim → List FileOutcome → List ℕ → Type 0
IsCommonBeginning aim given taken = (files : List Entry) → IsContinuation (entries_given given) files →
    TakesPart (output aim.query (format_of aim) files) aim.out.taken taken

-- why the reading of a file broke off
abbrev pub ReadCause : RunFault → Aim → List FileOutcome → Stream → Type 0
ReadCause OutOfMemory aim given out = Unit {0}
ReadCause Sink aim given out = aim.out.failures < out.failures
ReadCause TooManyFiles aim given out = 2 ^ 32 - 1 < files_given given
ReadCause TooLong aim given out = IsTooLong (terminator aim.query) aim.setup.line given

-- the reading of a file broke off, and the writer took a beginning of what any list of files gives that goes on
pub record BreaksOffInFile (aim : Aim) (given : List FileOutcome) (out : Stream) (fault : RunFault) : Type 0 where
  pub cause : ReadCause fault aim given out
  pub written : IsCommonBeginning aim given out.taken
  pub lines : IsOfAFile fault → GotWholeLines aim.query (format_of aim) (entries_given given) aim.out out
  pub calm : NoneFailed fault aim.out out

module _ {A Q C : Type 0} {asks : Ghosts Q A C} where
  -- at Ok no file is open any more; at Err the reading broke off
  abbrev pub EndsFile : {T : Type 0} → Engine A Q C asks → Aim → List FileOutcome → Stream → Result T RunFault → Type 0
  EndsFile engine aim given out result =
      MatchResult result (λ _. IsBetweenFiles engine aim given out) (BreaksOffInFile aim given out)

  -- whatever the run is for, at Ok the open file is open still; at Err its reading broke off
  abbrev pub StaysInFile : {T : Type 0} → (reader reader' : FileReader A) → (engine engine' : Engine A Q C asks)
      → (given given' : List FileOutcome) → (out out' : Stream) → Result T RunFault → Type 0
  StaysInFile reader reader' engine engine' given given' out out' result =
      (aim : Aim) → IsInsideFile reader engine aim given out
      → MatchResult result (λ _. IsInsideFile reader' engine' aim given' out') (BreaksOffInFile aim given' out')

-- a run broke off, and both writers took beginnings
abbrev pub BreaksOffTold : Aim → List FileOutcome → (out told : Stream) → RunFault → Type 0
BreaksOffTold aim given out told = HasStopped aim.query aim.setup given aim.out out aim.told told

module _ {A Q C : Type 0} {asks : Ghosts Q A C} where
  -- whatever the run is for, at Ok all that was given by now was told; at Err the run broke off
  abbrev pub TellsOn : {T : Type 0} → (engine engine' : Engine A Q C asks) → (given given' : List FileOutcome)
      → (out out' told told' : Stream) → Result T RunFault → Type 0
  TellsOn engine engine' given given' out out' told told' result =
      (aim : Aim) → HasToldAll engine aim given out told
      → MatchResult result (λ _. HasToldAll engine' aim given' out' told') (BreaksOffTold aim given' out' told')

-- a run broke off, behind files that were read as far as was needed
abbrev pub BreaksOffBehind : Aim → List FileOutcome → (out told : Stream) → RunFault → Type 0
BreaksOffBehind aim given out told = BreaksOff aim.query aim.setup given aim.out out aim.told told

-- nothing more was given, or one more name or file
abbrev pub GaveOneAtMost : List FileOutcome → List FileOutcome → Type 0
GaveOneAtMost given given' = (given' ≡ given) ⊎ (drop 1 given' ≡ given)

-- a file was given behind these, and nothing of it is read yet
abbrev pub GaveFile : (given given' : List FileOutcome) → Type 0
GaveFile given given' = (name : List ℕ) × (given' ≡ File name [] Left ∷ given)

-- one more name or file was given; or there is no more, and all that may be found was given
abbrev pub GivesNext : (finds : List (List ℕ) → Type 0) → (past past' : FilesPast) → Bool → Type 0
GivesNext finds past past' true = (drop 1 past'.given ≡ past.given) × (past'.done ≡ past.done)
GivesNext finds past past' false =
    (past'.given ≡ past.given) × (past'.done ≡ true) × AllGiven finds past'.given

module _ {A Q C : Type 0} {asks : Ghosts Q A C} where
  -- all that is needed was given, searched and told
  pub record IsDone (engine : Engine A Q C asks) (aim : Aim) (finds : List (List ℕ) → Type 0) (past : FilesPast)
      (out told : Stream) : Type 0 where
    pub rests : HasToldAll engine aim past.given out told
    pub asked : AsksToTheEnd aim.query aim.setup finds past
    pub quiet : is_quiet (format_of aim).mode ≡ true → EndsAtSelected aim.query (entries_given past.given)
