-- What a run did, by what its files gave.
use Rattle.std.specs.Prelude.{◌≡◌, ◌⊎◌, ℕ, ◌<◌, ◌-◌, ◌^◌, true, false, List, [], ◌∷◌, ◌++◌, drop}
use Rattle.std.specs.List.{list_any}
use Rattle.pg_selection.specs.Search.{Search, SearchText, HasItsTrees, terminator}
use Rattle.pg_blocks.specs.Lines.{AreWhole}
use Rattle.pg_rows.specs.declared.format.Format.{Format}
use Rattle.pg_rows.specs.Modes.{is_quiet}
use Rattle.pg_base.specs.Entries.{Entry, Missed, Read, Ending, Running, Ended, Failed, Left, is_running}
use Rattle.pg_rows.specs.Output.{has_selected, output, status}
use Rattle.pg_base.specs.Sink.{Stream, TakesPart}
use Rattle.pg_seq.specs.Settled.{AreLeftRightly}
use Rattle.pg_files.specs.Given.{AllGiven, FilesPast, FileOutcome, entries_given, files_given}
use Rattle.pg_reader.specs.Lengths.{IsTooLong}
use Rattle.pg_run.specs.Told.{told_of}
use Rattle.pg_run.specs.declared.setup.Setup.{Setup}
use Rattle.pg_run.specs.declared.fault.RunFault.{RunFault}
use Rattle.pg_run.specs.declared.fault.RunFault.TheVariants.{OutOfMemory, Sink, TooManyFiles, TooLong}

-- the search for a text, whose patterns spell its trees
abbrev pub IsSearchFor : SearchText → Search → Type 0
IsSearchFor text q = (q.text ≡ text) × HasItsTrees q

-- all that may be found was given, each under its name, or with -q a line was selected
abbrev pub AsksToTheEnd : Search → Setup → (List (List ℕ) → Type 0) → FilesPast → Type 0
AsksToTheEnd q setup finds past =
    ((past.done ≡ true) × AllGiven finds past.given)
    ⊎ ((is_quiet setup.format.mode ≡ true) × (list_any (has_selected q) (entries_given past.given) ≡ true))

-- no name was asked for behind a file with a selected line
abbrev pub EndsAtSelected : Search → List Entry → Type 0
EndsAtSelected q [] = Unit {0}
EndsAtSelected q (last ∷ entries) = list_any (has_selected q) entries ≡ false

-- A run came to its end: its output is that of what files gave, and so are the fault lines and the status. All that was
-- listed was given, with -q up to a file with a selected line, and each file was read to its end, but where some whole
-- lines at its front were enough.
pub record RunFinishes (q : Search) (setup : Setup) (finds : List (List ℕ) → Type 0) (past : FilesPast)
    (out out' told told' : Stream) (answer : ℕ) : Type 0 where
  pub written : out'.taken ≡ out.taken ++ output q setup.format (entries_given past.given)
  pub faults : told'.taken ≡ told.taken ++ told_of setup.silent past.given
  pub answered : answer ≡ status q setup.format (entries_given past.given)
  pub asked : AsksToTheEnd q setup finds past
  pub quiet : is_quiet setup.format.mode ≡ true → EndsAtSelected q (entries_given past.given)
  pub left : AreLeftRightly q setup.format (entries_given past.given)
  pub no_failure : (out'.failures ≡ out.failures) × (told'.failures ≡ told.failures)

-- the entry itself, or for a file that was left the same file with any bytes more and any end
abbrev pub MayBecome : Entry → Entry → Type 0
MayBecome (Missed name) other = other ≡ Missed name
MayBecome (Read name bytes Running) other = other ≡ Read name bytes Running
MayBecome (Read name bytes Ended) other = other ≡ Read name bytes Ended
MayBecome (Read name bytes Failed) other = other ≡ Read name bytes Failed
MayBecome (Read name bytes Left) other =
    (more : List ℕ) × (ending : Ending) × (is_running ending ≡ false) × (other ≡ Read name (bytes ++ more) ending)

-- one list of files goes on from another
abbrev pub IsContinuation : List Entry → List Entry → Type 0
IsContinuation [] files = Unit {0}
IsContinuation (last ∷ entries) files =
    (later : List Entry) × (other : Entry) × MayBecome last other × (files ≡ later ++ other ∷ entries)

-- what happened, by the fault that says it
abbrev pub HasCause : RunFault → Search → Setup → List FileOutcome → (out out' told told' : Stream) → Type 0
HasCause OutOfMemory q setup given out out' told told' = Unit {0}
HasCause Sink q setup given out out' told told' = (out.failures < out'.failures) ⊎ (told.failures < told'.failures)
HasCause TooManyFiles q setup given out out' told told' = 2 ^ 32 - 1 < files_given given
HasCause TooLong q setup given out out' told told' = IsTooLong (terminator q) setup.line given

-- The output is that of what was given before the newest file, which was left, and of some whole lines at its front.
pub record GotWholeLines (q : Search) (format : Format) (given : List Entry) (out out' : Stream) : Type 0 where
  pub name : List ℕ
  pub front : List ℕ
  pub rest : List ℕ
  pub earlier : List Entry
  pub newest : given ≡ Read name (front ++ rest) Left ∷ earlier
  pub whole : AreWhole (terminator q) front
  pub written : out'.taken ≡ out.taken ++ output q format (Read name front Running ∷ earlier)

-- a file is at fault: it can't be read on, or not be begun
abbrev pub IsOfAFile : RunFault → Type 0
IsOfAFile OutOfMemory = ⊥
IsOfAFile Sink = ⊥
IsOfAFile TooManyFiles = Unit {0}
IsOfAFile TooLong = Unit {0}

-- no write failed, unless that is the fault
abbrev pub NoneFailed : RunFault → Stream → Stream → Type 0
NoneFailed Sink before after = Unit {0}
NoneFailed OutOfMemory before after = after.failures ≡ before.failures
NoneFailed TooManyFiles before after = after.failures ≡ before.failures
NoneFailed TooLong before after = after.failures ≡ before.failures

-- A run stopped by a fault that has its cause: its output is a beginning of that of every list of files that goes on
-- from what was given, and the fault lines are a beginning of those of what was given. Where a file is at fault,
-- nothing is lost of those before it, neither rows nor fault lines.
pub record HasStopped (q : Search) (setup : Setup) (given : List FileOutcome) (out out' told told' : Stream)
    (fault : RunFault) : Type 0 where
  pub cause : HasCause fault q setup given out out' told told'
  pub written : (files : List Entry) → IsContinuation (entries_given given) files →
      TakesPart (output q setup.format files) out.taken out'.taken
  pub lines : IsOfAFile fault → GotWholeLines q setup.format (entries_given given) out out'
  pub faults : TakesPart (told_of setup.silent given) told.taken told'.taken
  pub all_told : IsOfAFile fault → told'.taken ≡ told.taken ++ told_of setup.silent given
  pub calm : NoneFailed fault out out' × NoneFailed fault told told'

-- Each file before the newest was read to its end, but where lines at its front were enough, and with -q no line of
-- these was selected.
pub record AreReadRightly (q : Search) (setup : Setup) (given : List FileOutcome) : Type 0 where
  pub left : AreLeftRightly q setup.format (entries_given (drop 1 given))
  pub quiet : is_quiet setup.format.mode ≡ true → EndsAtSelected q (entries_given given)

-- a run stopped by a fault, behind files that were read as far as was needed
abbrev pub BreaksOff : Search → Setup → List FileOutcome → (out out' told told' : Stream) → RunFault → Type 0
BreaksOff q setup given out out' told told' fault =
    HasStopped q setup given out out' told told' fault × AreReadRightly q setup given
