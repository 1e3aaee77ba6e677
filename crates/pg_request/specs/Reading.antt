-- The files of patterns and those of globs, read one after the other.
use Rattle.std.specs.Prelude.{◌≡◌, ℕ, ◌⊎◌, false, List, [], ◌∷◌, ◌++◌, map, Result, Ok, Err, Vec}
use Rattle.pg_base.specs.Entries.{Ending, Ended, Failed, Left, is_failed}
use Rattle.pg_base.specs.declared.cause.Cause.{Cause}
use Rattle.pg_base.specs.declared.cause.Cause.TheVariants.{ReadFailed}
use Rattle.pg_files.specs.Given.{FileOutcome, NoFile, File, is_output, shown_name, standard_input}
use Rattle.pg_request.specs.declared.fault.Fault.{Fault}
use Rattle.pg_request.specs.declared.fault.Fault.TheVariants.{NotText, Usage, Unreadable, Pattern, TooLarge}
use Rattle.pg_request.specs.declared.fault.Fault.TheVariants.{OutOfMemory, WriteFailed, TooManyFiles, LineTooLong}
use Rattle.pg_request.specs.declared.patterns.ReadToEndFault.{ReadToEndFault}
use Rattle.pg_request.specs.declared.patterns.ReadToEndFault.TheVariants as R

-- The files at the paths were opened one after the other, each was read to its end, and they gave these contents.
abbrev pub HasRead : List FileOutcome → List FileOutcome → List (List ℕ) → List (List ℕ) → Type 0
HasRead past past' [] [] = past' ≡ past
HasRead past past' [] (content ∷ contents) = ⊥
HasRead past past' (path ∷ paths) [] = ⊥
HasRead past past' (path ∷ paths) (content ∷ contents) = HasRead (File path content Ended ∷ past) past' paths contents

-- the contents of files, without where they lie in memory
abbrev pub contents_of : {A : Type 0} → List (Vec ℕ A) → List (List ℕ)
contents_of contents = map (λ content. content.items) contents

-- the path gave no file, though not because standard output goes there, or a read of it failed
abbrev pub IsUnread : List ℕ → Cause → List FileOutcome → List FileOutcome → Type 0
IsUnread path cause past past' =
    ((past' ≡ NoFile path cause ∷ past) × (is_output (NoFile path cause) ≡ false))
    ⊎ ((cause ≡ ReadFailed) × (bytes : List ℕ) × (past' ≡ File path bytes Failed ∷ past))

-- the path wasn't opened, or its file was read as far as memory was there
abbrev pub IsGivenUp : List ℕ → List FileOutcome → List FileOutcome → Type 0
IsGivenUp path past past' =
    (past' ≡ past)
    ⊎ ((bytes : List ℕ) × (ending : Ending) × (is_failed ending ≡ false) × (past' ≡ File path bytes ending ∷ past))

-- The open file, which gave these bytes by now, was read to its end, or to a read that failed; or it was given up.
abbrev pub IsReadOrGivenUp : {T : Type 0} → (path : List ℕ) → List FileOutcome → Result T ReadToEndFault → List ℕ
    → List FileOutcome
    → Type 0
IsReadOrGivenUp path past (Ok _) bytes past' = past' ≡ File path bytes Ended ∷ past
IsReadOrGivenUp path past (Err R.ReadFailed) bytes past' = past' ≡ File path bytes Failed ∷ past
IsReadOrGivenUp path past (Err R.OutOfMemory) bytes past' = (got : List ℕ) × (past' ≡ File path got Left ∷ past)

-- a path wasn't read to its end, by a fault that has its cause; there --label isn't heeded
abbrev pub StopsAt : List ℕ → List FileOutcome → List FileOutcome → Fault → Type 0
StopsAt path past past' (Unreadable name cause) =
    (name.now ≡ shown_name standard_input path) × IsUnread path cause past past'
StopsAt path past past' OutOfMemory = IsGivenUp path past past'
StopsAt path past past' NotText = ⊥
StopsAt path past past' (Usage fault) = ⊥
StopsAt path past past' (Pattern fault) = ⊥
StopsAt path past past' TooLarge = ⊥
StopsAt path past past' WriteFailed = ⊥
StopsAt path past past' TooManyFiles = ⊥
StopsAt path past past' LineTooLong = ⊥

-- The files in front of some path were read, and that one stopped it.
pub record FailsToReadAll (paths : List (List ℕ)) (past past' : List FileOutcome) (fault : Fault) : Type 0 where
  pub front : List (List ℕ)
  pub path : List ℕ
  pub rest : List (List ℕ)
  pub joins : paths ≡ front ++ path ∷ rest
  pub contents : List (List ℕ)
  pub between : List FileOutcome
  pub read : HasRead past between front contents
  pub stops : StopsAt path between past' fault
