-- What the command answers, and what it writes.
use Rattle.std.specs.Prelude.{◌≡◌, ℕ, ◌<◌, ◌⊎◌, Bool, List, [], ◌++◌, codes, Result, Ok, Err, MatchResult}
use Rattle.std.specs.Result.{IsErr}
use Rattle.std.specs.String.{string_bytes}
use Rattle.pg_base.specs.Sink.{Stream, WritesAll, WritesPart}
use Rattle.pg_walk.specs.Answers.{Answers as Tree}
use Rattle.pg_files.specs.Given.{FileOutcome}
use Rattle.pg_words.specs.declared.help.TheConstants.{HELP, VERSION}
use Rattle.pg_words.specs.Asks.{Asks, AsksHelp, AsksSearch, AsksVersion, HasFault, IsRefused, asks}
use Rattle.pg_words.specs.declared.words.WordsFault.{WordsFault}
use Rattle.pg_words.specs.declared.words.WordsFault.TheVariants.{Refused, Usage as UsageOfWords}
use Rattle.pg_words.specs.declared.words.WordsFault.TheVariants.{OutOfMemory as NoMemoryForWords}
use Rattle.pg_command.specs.Answers.{AnswersSearch}
use Rattle.pg_request.specs.Asked.{asked_on}
use Rattle.pg_report.specs.Told.{TellsFault, TellsText, line_of}
use Rattle.pg_request.specs.declared.fault.Fault.TheVariants.{OutOfMemory, Usage, WriteFailed}
use Rattle.pg_command.specs.declared.search.ToldFault.{ToldFault}

-- a sink that took nothing yet
abbrev pub unwritten : Stream
unwritten = record { taken = []; failures = 0 }

-- The words weren't taken: nothing was opened or written, and this was told.
pub record RefusesWords {T : Type 0} (text : List ℕ) (past past' : List FileOutcome) (out out' err err' : Stream)
    (answer : Result ℕ T) : Type 0 where
  pub fault : IsErr answer
  pub unopened : past' ≡ past
  pub unwritten : out' ≡ out
  pub told : TellsText text err err'

-- a text was written, and the status is 0; or a beginning of it, and the failure was told
abbrev pub IsShown : {T : Type 0} → List ℕ → (out out' err err' : Stream) → Result ℕ T → Type 0
IsShown text out out' err err' (Ok status) =
    (status ≡ 0) × WritesAll text out out' × (err' ≡ err)
IsShown text out out' err err' (Err _) = WritesPart text out out' × TellsFault WriteFailed err err'

-- a text about the program was asked for; nothing was opened
pub record Shows {T : Type 0} (text : List ℕ) (past past' : List FileOutcome) (out out' err err' : Stream)
    (answer : Result ℕ T) : Type 0 where
  pub unopened : past' ≡ past
  pub shown : IsShown text out out' err err' answer

-- What is done where this is asked for, and standard output is a terminal or not. Why words are refused the parser of
-- options says in its own text.
abbrev pub Does : {T : Type 0} → (tells : Type 0) → Tree → (terminal : Bool) → Asks → (past past' : List FileOutcome)
    → (out out' err err' : Stream) → Result ℕ T → Type 0
Does tells tree terminal (AsksSearch asked pace) past past' out out' err err' answer =
    AnswersSearch tells tree (asked_on terminal asked) past past' out out' err err' answer
Does tells tree terminal AsksHelp past past' out out' err err' answer =
    Shows HELP.now past past' out out' err err' answer
Does tells tree terminal AsksVersion past past' out out' err err' answer =
    Shows VERSION.now past past' out out' err err' answer
Does tells tree terminal (HasFault fault) past past' out out' err err' answer =
    RefusesWords (line_of (Usage fault)) past past' out out' err err' answer
Does tells tree terminal IsRefused past past' out out' err err' answer =
    (text : List ℕ) × RefusesWords (codes "pargrep: " ++ text) past past' out out' err err' answer

-- What the words ask for was done, or memory was lacking before anything was.
abbrev pub Commands : {T : Type 0} → (tells : Type 0) → Tree → (terminal : Bool) → (words : List (List ℕ))
    → (past past' : List FileOutcome) → (out out' err err' : Stream) → Result ℕ T → Type 0
Commands tells tree terminal words past past' out out' err err' answer =
    Does tells tree terminal (asks words) past past' out out' err err' answer
    ⊎ RefusesWords (line_of OutOfMemory) past past' out out' err err' answer

-- what is told of words that aren't taken
abbrev pub TellsOfWords : WordsFault → Stream → Stream → Type 0
TellsOfWords (Refused text) = TellsText (codes "pargrep: " ++ string_bytes text)
TellsOfWords (UsageOfWords fault) = TellsFault (Usage fault)
TellsOfWords NoMemoryForWords = TellsFault OutOfMemory

-- The status of the command stands where all that was held back could be sent on; else that is told, and the status is
-- 2, as after a fault that was told.
pub record RunsCommand (tells : Type 0) (tree : Tree) (terminal : Bool) (words : List (List ℕ)) (past past' : List
    FileOutcome)
    (out out' err err' : Stream) (status : ℕ) : Type 0 where
  pub middle : Stream
  pub told : Stream
  pub answer : Result ℕ ToldFault
  pub command : Commands tells tree terminal words past past' out middle err told answer
  pub taken : out'.taken ≡ middle.taken
  pub ended : MatchResult answer
      (λ before. ((status ≡ before) × (out'.failures ≡ middle.failures) × (err' ≡ told))
      ⊎ ((status ≡ 2) × (middle.failures < out'.failures) × TellsFault WriteFailed told err'))
      (λ _. (status ≡ 2) × (err' ≡ told))
