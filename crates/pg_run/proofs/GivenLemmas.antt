-- What was given, by its newest file: for `make_room`, `read_once` and `read_file`.
use Rattle.std.proofs.Common.{◌≡◌, ◌∙◌, ℕ, List, [], ◌∷◌, ◌++◌, drop, ap}
use Rattle.pg_base.specs.declared.cause.Cause.TheVariants.{ReadFailed}
use Rattle.pg_base.specs.Entries.{Entry, Read, Ending, is_failed}
use Rattle.pg_rows.specs.Output.{when}
use Rattle.pg_files.specs.Given.{FileOutcome, NoFile, File, entries_given, newest_name}
use Rattle.pg_run.specs.Told.{faults_of}
use Rattle.pg_base.specs.Causes.{fault_line}

-- what was told of the newest file, by how it stands
pub newest_told : (given : List FileOutcome) (name bytes : List ℕ) (ending : Ending) (before : List Entry)
    → entries_given given ≡ Read name bytes ending ∷ before
    → faults_of given
    ≡ faults_of (drop 1 given) ++ when (is_failed ending) (fault_line (newest_name given) ReadFailed)
newest_told [] name bytes ending before e = absurd (cc)
newest_told (NoFile n cause ∷ given) name bytes ending before e = absurd (cc)
newest_told (File n bs was ∷ given) name bytes ending before e =
    let same : was ≡ ending = cc in
    ap (λ x. faults_of given ++ when (is_failed x) (fault_line n ReadFailed)) same

-- the newest entry is the newest file
pub newest_file : (given : List FileOutcome) (name bytes : List ℕ) (ending : Ending) (before : List Entry)
    → entries_given given ≡ Read name bytes ending ∷ before
    → given ≡ File (newest_name given) bytes ending ∷ drop 1 given
newest_file [] name bytes ending before e = absurd (cc)
newest_file (NoFile n cause ∷ given) name bytes ending before e = absurd (cc)
newest_file (File n bs was ∷ given) name bytes ending before e =
    let read : bs ≡ bytes = cc in
    let same : was ≡ ending = cc in
    ap (λ xs. File n xs was ∷ given) read ∙ ap (λ x. File n bytes x ∷ given) same

-- and has its name, and the others stand before it
pub newest_entry : (given : List FileOutcome) (name bytes : List ℕ) (ending : Ending) (before : List Entry)
    → entries_given given ≡ Read name bytes ending ∷ before
    → (newest_name given ≡ name) × (entries_given (drop 1 given) ≡ before)
newest_entry [] name bytes ending before e = absurd (cc)
newest_entry (NoFile n cause ∷ given) name bytes ending before e = absurd (cc)
newest_entry (File n bs was ∷ given) name bytes ending before e = (cc, cc)

-- the same file has the same bytes
pub same_bytes : (name name' bytes bytes' : List ℕ) (ending ending' : Ending) (before before' : List FileOutcome)
    → File name bytes ending ∷ before ≡ File name' bytes' ending' ∷ before' → bytes ≡ bytes'
same_bytes name name' bytes bytes' ending ending' before before' e = cc
