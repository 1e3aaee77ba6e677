-- What a store gives by paths. The newest stands first.
use Rattle.std.specs.Prelude.{◌≡◌, ℕ, Bool, List, [], ◌∷◌, Result, Ok, Err}
use Rattle.pg_base.specs.Entries.{Left}
use Rattle.pg_files.specs.Given.{FileOutcome, NoFile, File, MaySpare}
use Rattle.pg_files.specs.declared.store.OpenFault.{OpenFault}
use Rattle.pg_files.specs.declared.store.OpenFault.TheVariants.{Refused, OutOfMemory}

-- A file was opened, of which nothing was read; or the path gives none, which is the output's own file only where that
-- is to be refused; or memory is lacking.
abbrev pub Opens : {T : Type 0} → Bool → List ℕ → List FileOutcome → List FileOutcome → Result T OpenFault → Type 0
Opens spares path past past' (Ok _) = past' ≡ File path [] Left ∷ past
Opens spares path past past' (Err (Refused cause)) =
    (past' ≡ NoFile path cause ∷ past) × MaySpare spares (NoFile path cause)
Opens spares path past past' (Err OutOfMemory) = past' ≡ past
