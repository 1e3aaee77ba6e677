-- The items of a walk as files that are given, by what a store gave for their paths.
use Rattle.std.specs.Prelude.{◌≡◌, ◌⊎◌, Bool, false, List, [], ◌∷◌, map, length, take, drop, reverse}
use Rattle.std.specs.Prelude.{ℕ}
use Rattle.std.specs.List.{list_any}
use Rattle.pg_walk.specs.Answers.{Path}
use Rattle.pg_walk.specs.Scopes.{Scope}
use Rattle.pg_walk.specs.Items.{Found, File as AFile, Fault, found}
use Rattle.pg_walk.specs.declared.item.Item.{Item}
use Rattle.pg_base.specs.declared.cause.Cause.{Cause}
use Rattle.pg_base.specs.Entries.{Left}
use Rattle.pg_files.specs.Given.{FileOutcome, NoFile, File, FilesPast, MaySpare, is_output, name_of, shown_name}
use Rattle.pg_files.specs.declared.files.Step.{Step}
use Rattle.pg_files.specs.declared.files.Step.TheVariants.{File as NextFile, Miss as NextMiss}

-- what a path gave, under the name that it is called by
abbrev pub under_name : (input : List ℕ) → FileOutcome → FileOutcome
under_name input (NoFile path cause) = NoFile (shown_name input path) cause
under_name input (File path bytes ending) = File (shown_name input path) bytes ending

-- the items that were asked for, the newest first
abbrev pub asked_for : {A : Type 0} → List (Item A) → List Found
asked_for items = reverse (map found items)

-- The items that were asked for, the newest first, have given this: a fault itself, and a file what the store gave for
-- it. The store's past has the newest access first, and one for each file.
abbrev pub given_by : (input : List ℕ) → List Found → List FileOutcome → List FileOutcome
given_by input [] past = []
given_by input (Fault path cause ∷ items) past = NoFile (shown_name input path) cause ∷ given_by input items past
given_by input (AFile path ∷ items) [] = []
given_by input (AFile path ∷ items) (g ∷ past) = under_name input g ∷ given_by input items past

-- the paths of the files among items
abbrev pub file_paths : List Found → List (List ℕ)
file_paths [] = []
file_paths (Fault path cause ∷ items) = file_paths items
file_paths (AFile path ∷ items) = path ∷ file_paths items

-- what the store gave for items, the newest first
abbrev pub of_items : List Found → List FileOutcome → List FileOutcome
of_items items past = take (length (file_paths items)) past

-- the files of items were opened last, by their paths, the newest first
abbrev pub AreOpened : List Found → List FileOutcome → Type 0
AreOpened items past = map name_of (of_items items past) ≡ file_paths items

-- no item's file was refused because standard output goes there, unless that was asked for
abbrev pub AreSpared : Bool → List Found → List FileOutcome → Type 0
AreSpared spares items past = spares ≡ false → list_any is_output (of_items items past) ≡ false

-- An item's turn came: its file was opened or gave none, or it is a fault.
abbrev pub Reaches : Bool → Found → Step → List FileOutcome → List FileOutcome → Type 0
Reaches spares (Fault path cause) step past past' = (step ≡ NextMiss cause) × (past' ≡ past)
Reaches spares (AFile path) step past past' =
    ((step ≡ NextFile) × (past' ≡ File path [] Left ∷ past))
    ⊎ ((cause : Cause) × (step ≡ NextMiss cause) × (past' ≡ NoFile path cause ∷ past)
    × MaySpare spares (NoFile path cause))

abbrev pub files_past : (input : List ℕ) → Bool → List Found → List FileOutcome → FilesPast
files_past input done asked past = record { given = given_by input asked past; done = done }

-- What is looked for: in which tree, from which operands, and what of it; whether the file that
-- standard output goes to is refused; what standard input is called; and what the store gave before.
pub record Sought (Tree : Type 0) : Type 0 where
  pub tree : Tree
  pub operands : List Path
  pub scope : Scope
  pub spares : Bool
  pub input_name : List ℕ
  pub earlier : List FileOutcome

-- what the store gave before the items' files were opened stands behind these
abbrev pub sought : {Tree : Type 0} → Tree → List Path → Scope → (spares : Bool) → (input : List ℕ) → List Found
    → List FileOutcome → Sought Tree
sought tree operands scope spares input asked past = record {
  tree = tree;
  operands = operands;
  scope = scope;
  spares = spares;
  input_name = input;
  earlier = drop (length (file_paths asked)) past;
}
