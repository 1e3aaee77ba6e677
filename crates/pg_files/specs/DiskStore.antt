-- What a store of the system's files shows.
use Rattle.std.specs.Prelude.{◌≡◌, ℕ, nat_eq, List, [], Option, None, Some, codes, drop, if◌then◌else◌}
use lib.Pointwise.{pointwise}
use Rattle.pg_walk.specs.declared.tree.Identity.{Identity}
use Rattle.pg_files.specs.Given.{FileOutcome}
use Rattle.pg_files.specs.declared.disk_store.Source.{Source}
use Rattle.pg_files.specs.declared.disk_store.Source.TheVariants.{Closed, Standard, Open, Whole}

-- what is read: nothing, standard input, a file, or one that was read ahead
pub data SourceKind : Type 0 where
  Nothing : SourceKind
  StandardInput : SourceKind
  AFile : SourceKind
  AWholeFile : SourceKind

-- what the files gave, what is open, the bytes that it is known to have left, and the regular file that the output goes
-- to
pub record DiskData : Type 0 where
  pub past : List FileOutcome
  pub reads : SourceKind
  pub left : Option (List ℕ)
  pub output : Option Identity

-- nothing was opened yet, and so nothing read
pub record IsUnopened (store : DiskData) : Type 0 where
  pub past : store.past ≡ []
  pub reads : store.reads ≡ Nothing
  pub left : store.left ≡ None

-- a path opens a file, and `-` standard input
abbrev pub opened_by : List ℕ → SourceKind
opened_by path = if pointwise nat_eq path (codes "-") then StandardInput else AFile

abbrev pub source_kind : {I F : Type 0} → Source I F → SourceKind
source_kind Closed = Nothing
source_kind (Standard input) = StandardInput
source_kind (Open file) = AFile
source_kind (Whole file given) = AWholeFile

-- what a source has left, by what its readers have left
abbrev pub disk_left : {I F : Type 0} → (I → Option (List ℕ)) → (F → Option (List ℕ)) → Source I F → Option (List ℕ)
disk_left of_input of_file Closed = None
disk_left of_input of_file (Standard input) = of_input input
disk_left of_input of_file (Open file) = of_file file
disk_left of_input of_file (Whole file given) = Some (drop given file.bytes.items)
