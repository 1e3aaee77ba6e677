-- What a plan has of the files that were given. The newest stands first in each list.
use Rattle.std.specs.Prelude.{◌≡◌, ◌⊎◌, ℕ, Bool, true, false, List, [], ◌∷◌, ◌++◌}
use Rattle.pg_selection.specs.Search.{Search, terminator}
use Rattle.pg_blocks.specs.Lines.{AreWhole}
use Rattle.pg_rows.specs.declared.format.Format.{Format}
use Rattle.pg_base.specs.Entries.{Entry, Missed, Read, Ending, Running, Ended, Failed, Left, is_running}
use Rattle.pg_rows.specs.Enough.{is_enough}

-- the file was left: neither its end nor a failure was met
abbrev pub is_left : Ending → Bool
is_left Running = false
is_left Ended = false
is_left Failed = false
is_left Left = true

-- a file that was left: the plan has whole lines of it, which were enough, and ends it
pub record IsLeftFile (q : Search) (format : Format) (before : List Entry) (name bytes : List ℕ) (given : Entry)
    : Type 0 where
  pub rest : List ℕ
  pub is : given ≡ Read name (bytes ++ rest) Left
  pub whole : AreWhole (terminator q) bytes
  pub enough : is_enough q format (Read name bytes Running ∷ before) ≡ true

-- an entry of a plan that is closed, and what was given
abbrev pub IsEntryOf : Search → Format → List Entry → Entry → Entry → Type 0
IsEntryOf q format before (Missed name) given = given ≡ Missed name
IsEntryOf q format before (Read name bytes Running) given = ⊥
IsEntryOf q format before (Read name bytes Ended) given =
    (given ≡ Read name bytes Ended) ⊎ IsLeftFile q format before name bytes given
IsEntryOf q format before (Read name bytes Failed) given = given ≡ Read name bytes Failed
IsEntryOf q format before (Read name bytes Left) given = ⊥

-- no file is open, and the plan has all that is needed of what was given
abbrev pub Covers : Search → Format → List Entry → List Entry → Type 0
Covers q format [] [] = Unit {0}
Covers q format [] (g ∷ gs) = ⊥
Covers q format (p ∷ ps) [] = ⊥
Covers q format (p ∷ ps) (g ∷ gs) = IsEntryOf q format ps p g × Covers q format ps gs

-- A file is open. The plan has the front of what its reads gave: whole lines, or all of it once the file can't go on.
pub record HasOpenFile (q : Search) (format : Format) (name front rest : List ℕ) (ending : Ending)
    (planned given : List Entry) : Type 0 where
  pub earlier : List Entry
  pub before : List Entry
  pub planned_is : planned ≡ Read name front Running ∷ earlier
  pub given_is : given ≡ Read name (front ++ rest) ending ∷ before
  pub stopped : is_running ending ≡ false
  pub seam : AreWhole (terminator q) front ⊎ ((rest ≡ []) × (is_left ending ≡ false))
  pub covers : Covers q format earlier before
