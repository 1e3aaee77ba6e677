-- What a search answers, and what it writes.
use Rattle.std.specs.Prelude.{◌≡◌, ℕ, ◌^◌, ◌⊎◌, Bool, List, length, drop, reverse}
use Rattle.std.specs.Prelude.{Result, Ok, Err}
use Rattle.pg_selection.specs.Search.{Search}
use Rattle.pg_walk.specs.Answers.{Answers as Tree}
use Rattle.pg_walk.specs.Items.{Found}
use Rattle.pg_walk.specs.Left.{BeginsWalk, IsWalk}
use Rattle.pg_files.specs.Given.{FilesPast, FileOutcome, names_in}
use Rattle.pg_files.specs.Listed.{file_paths, files_past, AreOpened, AreSpared}
use Rattle.pg_base.specs.Sink.{Stream}
use Rattle.pg_run.specs.Outcome.{IsSearchFor, RunFinishes}
use Rattle.pg_run.specs.declared.setup.Setup.{Setup}
use Rattle.pg_search.specs.Outcome.{SearchBreaksOff}
use Rattle.pg_search.specs.declared.fault.SearchFault.{SearchFault}
use Rattle.pg_request.specs.Asked.{Asked, glob_files, has_names, input_name, scope_for, spares_output, text_of_query}
use Rattle.pg_command.specs.Faults.{fault_of_search}
use Rattle.pg_request.specs.Operands.{TellsDirectory}
use Rattle.pg_request.specs.Reading.{HasRead, FailsToReadAll}
use Rattle.pg_report.specs.Told.{TellsOfSearch}
use Rattle.pg_request.specs.declared.fault.Fault.{Fault}
use Rattle.pg_request.specs.declared.fault.Fault.TheVariants.{OutOfMemory}

-- how files are searched and rows look: as asked for, with or without names, in lines of at most 2^30 bytes
pub record IsSetup (tells : Type 0) (tree : Tree) (asked : Asked) (setup : Setup) : Type 0 where
  pub directory : Bool
  pub tells_directory : TellsDirectory tells tree asked.files directory
  pub format :
      setup.format ≡ record asked.format { names = has_names asked.names asked.files asked.recursive directory }
  pub silent : setup.silent ≡ asked.silent
  pub line : setup.line ≡ 2 ^ 30

-- these may be all items of a walk over the operands
abbrev pub MayBeAll : Type 0 → Tree → Asked → (globs : List (List ℕ)) → List Found → Type 0
MayBeAll tells tree asked globs items = ∥ IsWalk tells tree asked.files (scope_for asked globs) items ∥₁

-- these may be the names of all items of a walk over the operands
abbrev pub MayBeNames : Type 0 → Tree → Asked → (globs : List (List ℕ)) → List (List ℕ) → Type 0
MayBeNames tells tree asked globs names =
    (items : List Found) × MayBeAll tells tree asked globs items × (names ≡ names_in (input_name asked) items)

-- what items gave that were asked for, and whether that is all
abbrev pub given_for : Asked → (done : Bool) → List Found → List FileOutcome → FilesPast
given_for asked done items past = files_past (input_name asked) done (reverse items) past

-- The -f files were read, and then the files of globs, and gave these contents.
abbrev pub HasReadFor : Asked → (past past' : List FileOutcome) → (contents globs : List (List ℕ)) → Type 0
HasReadFor asked past past' contents globs =
    (middle : List FileOutcome) × HasRead past middle asked.pattern_files contents
    × HasRead middle past' (glob_files asked.filters) globs

-- What was searched: the -f files and those of globs were read, then the operands walked over as far as items were
-- asked for, each file opened by its path, and nothing else. The items are the first ones of the walk, and where `done`
-- says so all of them. What is known of the walk is all of it where the tree tells its answers; of any other tree that
-- the items follow the operands. A file is refused because standard output goes there only where rows are written.
pub record Work (tells : Type 0) (tree : Tree) (asked : Asked) (past past' : List FileOutcome) : Type 0 where
  pub contents : List (List ℕ)
  pub globs : List (List ℕ)
  pub between : List FileOutcome
  pub read : HasReadFor asked past between contents globs
  pub items : List Found
  pub begins : ∥ BeginsWalk tells tree asked.files (scope_for asked globs) items ∥₁
  pub setup : Setup
  pub is_setup : IsSetup tells tree asked setup
  pub done : Bool
  pub whole : done ≡ Bool.true → MayBeAll tells tree asked globs items
  pub opened : AreOpened (reverse items) past'
  pub spared : AreSpared (spares_output asked.format.mode) (reverse items) past'
  pub earlier : drop (length (file_paths (reverse items))) past' ≡ between

-- The run over all of it came to its end.
pub record Succeeds (tells : Type 0) (tree : Tree) (asked : Asked) (past past' : List FileOutcome)
    (out out' err err' : Stream) (status : ℕ) : Type 0 where
  pub work : Work tells tree asked past past'
  pub search : Search
  pub is_search : IsSearchFor (text_of_query asked work.contents) search
  pub finishes :
      RunFinishes search work.setup (MayBeNames tells tree asked work.globs) (given_for asked work.done work.items
      past')
      out out' err err' status

-- Some -f file couldn't be read, and nothing was written.
pub record FailsAtAPatternFile (asked : Asked) (past past' : List FileOutcome) (out out' err err' : Stream)
    (fault : Fault) : Type 0 where
  pub stopped : FailsToReadAll asked.pattern_files past past' fault
  pub unwritten : (out' ≡ out) × (err' ≡ err)

-- Some file of globs couldn't be read, behind the -f files, and nothing was written.
pub record FailsAtAGlobFile (asked : Asked) (past past' : List FileOutcome) (out out' err err' : Stream) (fault : Fault)
    : Type 0 where
  pub contents : List (List ℕ)
  pub middle : List FileOutcome
  pub read : HasRead past middle asked.pattern_files contents
  pub stopped : FailsToReadAll (glob_files asked.filters) middle past' fault
  pub unwritten : (out' ≡ out) × (err' ≡ err)

-- Memory was lacking behind the -f files and those of globs, and nothing was written.
pub record FailsBeforeTheRun (asked : Asked) (past past' : List FileOutcome) (out out' err err' : Stream)
    (fault : Fault) : Type 0 where
  pub contents : List (List ℕ)
  pub globs : List (List ℕ)
  pub read : HasReadFor asked past past' contents globs
  pub memory : fault ≡ OutOfMemory
  pub unwritten : (out' ≡ out) × (err' ≡ err)

-- The search broke off.
pub record FailsInTheSearch (tells : Type 0) (tree : Tree) (asked : Asked) (past past' : List FileOutcome)
    (out out' err err' : Stream) (fault : Fault) : Type 0 where
  pub work : Work tells tree asked past past'
  pub cause : SearchFault
  pub is : fault ≡ fault_of_search cause
  pub breaks :
      SearchBreaksOff (text_of_query asked work.contents) work.setup (given_for asked work.done work.items past')
      out out' err err' cause

abbrev pub Fails : (tells : Type 0) → Tree → Asked → (past past' : List FileOutcome) → (out out' err err' : Stream)
    → Fault → Type 0
Fails tells tree asked past past' out out' err err' fault =
    FailsAtAPatternFile asked past past' out out' err err' fault
    ⊎ (FailsAtAGlobFile asked past past' out out' err err' fault
    ⊎ (FailsBeforeTheRun asked past past' out out' err err' fault
    ⊎ FailsInTheSearch tells tree asked past past' out out' err err' fault))

-- The status of a search that went through, or a fault was told behind the lines of files.
abbrev pub AnswersSearch : {T : Type 0} → (tells : Type 0) → Tree → Asked → (past past' : List FileOutcome)
    → (out out' err err' : Stream) → Result ℕ T → Type 0
AnswersSearch tells tree asked past past' out out' err err' (Ok status) =
    Succeeds tells tree asked past past' out out' err err' status
AnswersSearch tells tree asked past past' out out' err err' (Err _) =
    (fault : Fault) × (middle : Stream) × Fails tells tree asked past past' out out' err middle fault
    × TellsOfSearch asked.texts fault middle err'
