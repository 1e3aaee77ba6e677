-- What one question to files adds to what they gave.
use Rattle.std.specs.Prelude.{◌≡◌, ℕ, zero, suc, ◌<◌, ◌≤◌, true, false, List, ◌∷◌, [], length, take, Result, Ok, Err}
use Rattle.std.specs.Prelude.{Option, Some, None}
use Rattle.pg_base.specs.Entries.{Left}
use Rattle.pg_files.specs.Given.{FileOutcome, NoFile, File, FilesPast, gave_bytes, gave_end}
use Rattle.pg_files.specs.declared.files.Step.{Step}
use Rattle.pg_files.specs.declared.files.Step.TheVariants.{File as NextFile, Miss as NextMiss, Done as NextDone}

-- the next file, of which nothing was read; or a name that gives none; or there is no more
abbrev pub NextGives : Step → FilesPast → FilesPast → Type 0
NextGives NextFile past past' = (name : List ℕ) × (past' ≡ record past { given = File name [] Left ∷ past.given })
NextGives (NextMiss cause) past past' =
    (name : List ℕ) × (past' ≡ record past { given = NoFile name cause ∷ past.given })
NextGives NextDone past past' = past' ≡ record past { done = true }

-- a read gave the first bytes of the buffer; it met the end where these are none
abbrev pub read_given : List ℕ → ℕ → List FileOutcome → List FileOutcome
read_given into zero given = gave_end false given
read_given into (suc count) given = gave_bytes (take (suc count) into) given

-- One read into a buffer that isn't empty, by its answer and what the buffer then holds. A failed one gave nothing.
abbrev pub ReadGives : {E : Type 0} → List ℕ → List FileOutcome → List FileOutcome → Result ℕ E → Type 0
ReadGives into given given' (Ok count) = (count ≤ length into) × (given' ≡ read_given into count given)
ReadGives into given given' (Err _) = given' ≡ gave_end true given

-- All that was left of a file was taken, which is some, as far as it was in memory; or nothing was.
abbrev pub TakesBuffered : Option (List ℕ) → List FileOutcome → List FileOutcome → Type 0
TakesBuffered None given given' = given' ≡ given
TakesBuffered (Some bytes) given given' = (0 < length bytes) × (given' ≡ gave_bytes bytes given)
