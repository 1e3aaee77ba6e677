-- What stays the same however much more of a file could be read (XCU grep, -l and -q; GNU grep, -L and -m).
use Rattle.std.specs.Prelude.{◌≡◌, ℕ, Bool, true, false, List, [], ◌∷◌, ◌++◌}
use Rattle.std.specs.List.{list_any}
use Rattle.pg_selection.specs.Search.{Search, terminator}
use Rattle.pg_blocks.specs.Lines.{lines, AreWhole}
use Rattle.pg_selection.specs.Selection.{selects}
use Rattle.pg_rows.specs.declared.format.Format.{Format}
use Rattle.pg_base.specs.Entries.{Entry, Missed, Read, Ending, Running, Ended, Failed, Left, is_running, is_failed}
use Rattle.pg_rows.specs.Output.{file_rows, output, status}
use Rattle.pg_rows.specs.Enough.{is_enough}

-- Whatever follows these bytes in their file, the file's rows are the same, and a line of it is selected.
pub record IsSettled (q : Search) (format : Format) (bytes : List ℕ) : Type 0 where
  pub rows : (name more : List ℕ) (ended earlier : Bool)
      → file_rows q format name (bytes ++ more) ended earlier ≡ file_rows q format name bytes ended earlier
  pub selected : (more : List ℕ) → list_any (selects q) (lines (terminator q) (bytes ++ more)) ≡ true

-- A file of the name, with these bytes, was left when enough was read: behind some whole lines of it `is_enough` held,
-- of what was read up to there and of the files before it. Bytes behind those lines may have been read too.
pub record IsLeftRightly (q : Search) (format : Format) (name bytes : List ℕ) (entries : List Entry) : Type 0 where
  pub front : List ℕ
  pub rest : List ℕ
  pub joins : bytes ≡ front ++ rest
  pub whole : AreWhole (terminator q) front
  pub enough : is_enough q format (Read name front Running ∷ entries) ≡ true

-- Each file was missed, or read up to its end or a failure, or left rightly: none is still read. The last file stands
-- first in the list.
abbrev pub AreLeftRightly : Search → Format → List Entry → Type 0
AreLeftRightly q format [] = Unit {0}
AreLeftRightly q format (Missed name ∷ entries) = AreLeftRightly q format entries
AreLeftRightly q format (Read name bytes Running ∷ entries) = ⊥
AreLeftRightly q format (Read name bytes Ended ∷ entries) = AreLeftRightly q format entries
AreLeftRightly q format (Read name bytes Failed ∷ entries) = AreLeftRightly q format entries
AreLeftRightly q format (Read name bytes Left ∷ entries) =
    IsLeftRightly q format name bytes entries × AreLeftRightly q format entries

-- the second is the first; or the first was left, and the second is the same file with the bytes that were read of it
-- and any more, left there or read to its end
abbrev pub IsLonger : Entry → Entry → Type 0
IsLonger (Missed name) other = other ≡ Missed name
IsLonger (Read name bytes Running) other = other ≡ Read name bytes Running
IsLonger (Read name bytes Ended) other = other ≡ Read name bytes Ended
IsLonger (Read name bytes Failed) other = other ≡ Read name bytes Failed
IsLonger (Read name bytes Left) other = (more : List ℕ) × (ending : Ending) × (is_running ending ≡ false)
    × (is_failed ending ≡ false) × (other ≡ Read name (bytes ++ more) ending)

-- two lists have the same files in the same order, of which those that were left may be longer in the second one
abbrev pub MayBeLonger : List Entry → List Entry → Type 0
MayBeLonger [] [] = Unit {0}
MayBeLonger [] (other ∷ others) = ⊥
MayBeLonger (entry ∷ entries) [] = ⊥
MayBeLonger (entry ∷ entries) (other ∷ others) = IsLonger entry other × MayBeLonger entries others

-- grep writes the same for both lists of files, and ends with the same status
pub record GiveTheSame (q : Search) (format : Format) (entries others : List Entry) : Type 0 where
  pub output : output q format entries ≡ output q format others
  pub status : status q format entries ≡ status q format others

-- nothing is written and the status is 0, as without the later files
pub record ChangeNothing (q : Search) (format : Format) (entries later : List Entry) : Type 0 where
  pub nothing : (output q format (later ++ entries) ≡ []) × (status q format (later ++ entries) ≡ 0)
  pub same : GiveTheSame q format entries (later ++ entries)
