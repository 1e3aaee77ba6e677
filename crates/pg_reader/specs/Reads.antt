-- How far a reader has come in the open file.
use Rattle.std.specs.Prelude.{◌≡◌, ◌⊎◌, ℕ, List, [], ◌∷◌, ◌++◌, drop}
use Rattle.pg_base.specs.Entries.{Ending, Ended, Failed, Left}
use Rattle.pg_blocks.specs.Cutter.{CutterPast, IsCutterAfter, fed as fed_after, unfed}
use Rattle.pg_blocks.specs.declared.cutter.CutFault.{CutFault}
use Rattle.pg_blocks.specs.declared.cutter.CutFault.TheVariants.{OutOfMemory, LineTooLong, FileTooLong}
use Rattle.pg_files.specs.Given.{FileOutcome, File, FilesPast, newest_name}
use Rattle.pg_reader.specs.Lengths.{IsTooLong}
use Rattle.pg_reader.specs.declared.file_reader.FileReader.{FileReader}
use Rattle.pg_reader.specs.declared.file_reader.ReadOutcome.{ReadOutcome}
use Rattle.pg_reader.specs.declared.file_reader.ReadOutcome.TheVariants.{More, End, Failure, Refused}

-- how a file stands after a read
abbrev pub ending_after : ReadOutcome → Ending
ending_after More = Left
ending_after End = Ended
ending_after Failure = Failed
ending_after (Refused fault) = Left

-- why the cutter takes no more of the newest file, by the byte that ends lines and the longest line
abbrev pub CutCause : CutFault → (end longest : ℕ) → List FileOutcome → Type 0
CutCause OutOfMemory end longest given = Unit {0}
CutCause LineTooLong end longest given = IsTooLong end longest given
CutCause FileTooLong end longest given = IsTooLong end longest given

-- these bytes were read and not cut: there are some only where the cutter took no more
abbrev pub IsLost : ReadOutcome → (end longest : ℕ) → List FileOutcome → List ℕ → Type 0
IsLost More end longest given lost = lost ≡ []
IsLost End end longest given lost = lost ≡ []
IsLost Failure end longest given lost = lost ≡ []
IsLost (Refused fault) end longest given lost = CutCause fault end longest given

-- A file is open, the newest that was given. Its cutter was fed all that it gave but these bytes.
pub record HasFed {A : Type 0} (reader : FileReader A) (fed : CutterPast) (lost : List ℕ)
    (given : List FileOutcome) : Type 0 where
  pub cut : IsCutterAfter reader.cutter fed
  pub newest : given ≡ File (newest_name given) (fed.bytes ++ lost) (ending_after reader.came) ∷ drop 1 given
  pub cause : IsLost reader.came fed.end fed.longest given lost

-- some file is open so
abbrev pub HasFedSome : {A : Type 0} → FileReader A → List FileOutcome → Type 0
HasFedSome reader given = (fed : CutterPast) × (lost : List ℕ) × HasFed reader fed lost given

-- the reader has no file: its cutter is one that nothing is fed to
abbrev pub HasNoFile : {A : Type 0} → FileReader A → Type 0
HasNoFile reader = IsCutterAfter reader.cutter (unfed 0 0 1 1)

-- a file is open, and it may be read further
pub record MayBeRead {A : Type 0} (reader : FileReader A) (given : List FileOutcome) : Type 0 where
  pub more : reader.came ≡ More
  pub fed : HasFedSome reader given

-- At most the newest file was read further. What was given before, and what is listed, stands.
pub record OnlyReadsOn {F L : Type 0} (past : F → FilesPast) (list : F → L) (files files' : F) : Type 0 where
  pub done : (past files').done ≡ (past files).done
  pub before : drop 1 (past files').given ≡ drop 1 (past files).given
  pub same_list : list files' ≡ list files

-- More was fed to the cutter, of the same file; of one that can't go on nothing was read.
pub record FedMore {A : Type 0} (reader : FileReader A) (fed : CutterPast) (given : List FileOutcome)
    (reader' : FileReader A) (given' : List FileOutcome) : Type 0 where
  pub more : List ℕ
  pub lost : List ℕ
  pub feeds : HasFed reader' (fed_after fed more) lost given'
  pub name : newest_name given' ≡ newest_name given
  pub stops : (reader.came ≡ More) ⊎ ((reader'.came ≡ reader.came) × (given' ≡ given))

-- Where the cutter didn't take what a read gave, it was fed none of it.
abbrev pub FeedsAllOrNone : {A : Type 0} → FileReader A → List FileOutcome → FileReader A → List FileOutcome → Type 0
FeedsAllOrNone reader given reader' given' =
    (fed : CutterPast) (lost : List ℕ) (fault : CutFault) → HasFed reader fed lost given → reader'.came ≡ Refused fault
    → (lost' : List ℕ) × HasFed reader' fed lost' given'

-- The reader read on: whatever was fed before, more of the file was.
pub record HasReadOn {A F L : Type 0} (past : F → FilesPast) (list : F → L) (reader : FileReader A) (files : F)
    (reader' : FileReader A) (files' : F) : Type 0 where
  pub reads_on : OnlyReadsOn past list files files'
  pub feeds : (fed : CutterPast) (lost : List ℕ) → HasFed reader fed lost (past files).given
      → FedMore reader fed (past files).given reader' (past files').given
