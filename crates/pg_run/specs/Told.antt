-- The lines that are told of files.
use Rattle.std.specs.Prelude.{◌≡◌, ℕ, Bool, not, List, [], ◌∷◌, ◌++◌}
use Rattle.pg_base.specs.Causes.{fault_line}
use Rattle.pg_base.specs.declared.cause.Cause.TheVariants.{ReadFailed}
use Rattle.pg_base.specs.Entries.{is_failed}
use Rattle.pg_rows.specs.Output.{when}
use Rattle.pg_files.specs.Given.{FileOutcome, NoFile, File, newest_name}

-- a name that gives no file has a line, and so has a file whose reading failed
abbrev pub fault_of : FileOutcome → List ℕ
fault_of (NoFile name cause) = fault_line name cause
fault_of (File name bytes ending) = when (is_failed ending) (fault_line name ReadFailed)

-- the lines in the order in which the names were given, which is last to first
abbrev pub faults_of : List FileOutcome → List ℕ
faults_of [] = []
faults_of (g ∷ given) = faults_of given ++ fault_of g

-- the reading of the newest file added a line where it failed, and else none
abbrev pub AddsFailure : (given given' : List FileOutcome) → (failed : Bool) → Type 0
AddsFailure given given' failed =
    faults_of given' ≡ faults_of given ++ when failed (fault_line (newest_name given') ReadFailed)

-- none where the run is silent
abbrev pub told_of : (silent : Bool) → List FileOutcome → List ℕ
told_of silent given = when (not silent) (faults_of given)
