-- What files gave. The newest stands first in each list.
use Rattle.std.specs.Prelude.{◌≡◌, ℕ, nat_eq, ◌+◌, Bool, true, false, if◌then◌else◌, List, [], ◌∷◌, ◌++◌, map}
use Rattle.std.specs.Prelude.{codes, reverse}
use lib.Pointwise.{pointwise}
use Rattle.pg_walk.specs.Items.{Found, path_in}
use Rattle.pg_base.specs.declared.cause.Cause.{Cause}
use Rattle.pg_base.specs.declared.cause.Cause.TheVariants.{IsOutput}
use Rattle.pg_base.specs.Entries.{Entry, Missed, Read, Ending, Running, Ended, Failed, Left}

-- a name that gives no file, and why; or a file with the bytes that its reads gave. A file whose end wasn't met and
-- whose reading didn't fail is `Left`.
pub data FileOutcome : Type 0 where
  NoFile : (name : List ℕ) (cause : Cause) → FileOutcome
  File : (name bytes : List ℕ) (ending : Ending) → FileOutcome

-- what was given, and whether it was told that there is no more
pub record FilesPast : Type 0 where
  pub given : List FileOutcome
  pub done : Bool

abbrev pub nothing_given : FilesPast
nothing_given = record { given = []; done = false }

-- as output and status see it
abbrev pub entry_of : FileOutcome → Entry
entry_of (NoFile name cause) = Missed name
entry_of (File name bytes ending) = Read name bytes ending

abbrev pub entries_given : List FileOutcome → List Entry
entries_given given = map entry_of given

-- a file is open: it is the newest, and neither its end nor a failure was met
abbrev pub is_reading : List FileOutcome → Bool
is_reading [] = false
is_reading (NoFile name cause ∷ given) = false
is_reading (File name bytes Running ∷ given) = false
is_reading (File name bytes Ended ∷ given) = false
is_reading (File name bytes Failed ∷ given) = false
is_reading (File name bytes Left ∷ given) = true

-- what standard input is called where no other name is asked for
abbrev pub standard_input : List ℕ
standard_input = codes "(standard input)"

-- how a path is called in rows and fault lines, where standard input is called so
abbrev pub shown_name : (input : List ℕ) → (path : List ℕ) → List ℕ
shown_name input path = if pointwise nat_eq path (codes "-") then input else path

abbrev pub name_of : FileOutcome → List ℕ
name_of (NoFile name cause) = name
name_of (File name bytes ending) = name

-- the names of items, in their order
abbrev pub names_in : (input : List ℕ) → List Found → List (List ℕ)
names_in input items = map (λ item. shown_name input (path_in item)) items

-- One file or miss was given for each of the names, under it, in their order, and nothing else.
abbrev pub AreGiven : List (List ℕ) → List FileOutcome → Type 0
AreGiven names given = map name_of given ≡ reverse names

-- The names are all that may be found, and one file or miss was given for each, in their order, and nothing else.
abbrev pub AllGiven : (List (List ℕ) → Type 0) → List FileOutcome → Type 0
AllGiven finds given = (names : List (List ℕ)) × finds names × AreGiven names given

-- the name gives no file because standard output goes there
abbrev pub is_output : FileOutcome → Bool
is_output (NoFile name IsOutput) = true
is_output _ = false

-- the name gives no file because standard output goes there only where such files are to be refused
abbrev pub MaySpare : Bool → FileOutcome → Type 0
MaySpare spares given = spares ≡ false → is_output given ≡ false

-- the name of the newest file or miss
abbrev pub newest_name : List FileOutcome → List ℕ
newest_name [] = []
newest_name (NoFile name cause ∷ given) = name
newest_name (File name bytes ending ∷ given) = name

-- the newest file gave more bytes
abbrev pub gave_bytes : List ℕ → List FileOutcome → List FileOutcome
gave_bytes more [] = []
gave_bytes more (NoFile name cause ∷ given) = NoFile name cause ∷ given
gave_bytes more (File name bytes ending ∷ given) = File name (bytes ++ more) ending ∷ given

-- how a file ends whose end was met, or whose reading failed: what failed once stays so
abbrev pub ending_of_file : Bool → Ending → Ending
ending_of_file failed Running = if failed then Failed else Ended
ending_of_file failed Ended = if failed then Failed else Ended
ending_of_file failed Failed = Failed
ending_of_file failed Left = if failed then Failed else Ended

-- the newest file's end was met, or its reading failed
abbrev pub gave_end : Bool → List FileOutcome → List FileOutcome
gave_end failed [] = []
gave_end failed (NoFile name cause ∷ given) = NoFile name cause ∷ given
gave_end failed (File name bytes ending ∷ given) = File name bytes (ending_of_file failed ending) ∷ given

-- how many files were opened
abbrev pub files_given : List FileOutcome → ℕ
files_given [] = 0
files_given (NoFile name cause ∷ given) = files_given given
files_given (File name bytes ending ∷ given) = files_given given + 1
