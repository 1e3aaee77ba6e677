-- What a walk is asked for, and what it sees of a tree by that.
use Rattle.std.specs.Prelude.{ℕ, ◌≡◌, ◌||◌, ◌&&◌, Bool, if◌then◌else◌, List, Option, Some, None, Result, Ok, Err}
use Rattle.pg_glob.specs.Filters.{Rule, leaves_out}
use Rattle.pg_glob.specs.Views.{rules}
use Rattle.pg_walk.specs.Answers.{Path, Content, Answers}
use Rattle.pg_walk.specs.Circles.{lies_in_itself}
use Rattle.pg_walk.specs.declared.scope.Devices.{Devices}
use Rattle.pg_walk.specs.declared.scope.Devices.TheVariants.{ReadOperands, Read, Skip}
use Rattle.pg_walk.specs.declared.scope.Scope.{Scope as ScopeOfCode}
use Rattle.pg_walk.specs.declared.tree.FileKind.{FileKind}
use Rattle.pg_walk.specs.declared.tree.FileKind.TheVariants.{Regular, Directory, Link, Other}
use Rattle.pg_walk.specs.declared.tree.LookFault.{LookFault}
use Rattle.pg_walk.specs.declared.tree.LookFault.TheVariants.{Failed, OutOfMemory}

-- Whether directories are visited, whether links are followed below operands too, whether all directories are left out,
-- what is done with devices, which files are left out, and which directories, with all that is in them.
pub record Scope : Type 0 where
  pub recursive : Bool
  pub follows : Bool
  pub skips_directories : Bool
  pub devices : Devices
  pub files : List Rule
  pub directories : List Rule

abbrev pub scope_of : {A : Type 0} → ScopeOfCode A → Scope
scope_of scope = record {
  recursive = scope.recursive;
  follows = scope.follows;
  skips_directories = scope.skips_directories;
  devices = scope.devices;
  files = rules scope.files;
  directories = rules scope.directories;
}

-- devices, FIFOs and sockets are read as regular files are (GNU grep's `-D read`)
abbrev pub are_read : Devices → Bool
are_read ReadOperands = Bool.false
are_read Read = Bool.true
are_read Skip = Bool.false

-- devices are left out, operands too (`-D skip`)
abbrev pub are_skipped : Devices → Bool
are_skipped ReadOperands = Bool.false
are_skipped Read = Bool.false
are_skipped Skip = Bool.true

-- what stands at a path is left out: a directory where all are (GNU grep's `-d skip`) and by the rules for directories,
-- a device where all are and by the rules for files, and anything else by these
abbrev pub is_left_out : Scope → Bool → Path → FileKind → Bool
is_left_out scope operand path Regular = leaves_out scope.files operand path
is_left_out scope operand path Directory = scope.skips_directories || leaves_out scope.directories operand path
is_left_out scope operand path Link = leaves_out scope.files operand path
is_left_out scope operand path Other = are_skipped scope.devices || leaves_out scope.files operand path

-- an operand may be left out
abbrev pub may_leave_out : Scope → Path → Bool
may_leave_out scope operand =
    (scope.skips_directories || are_skipped scope.devices)
    || (leaves_out scope.files Bool.true operand || leaves_out scope.directories Bool.true operand)

-- a device that is read wherever it stands is seen as a regular file
abbrev pub seen_as : Devices → FileKind → FileKind
seen_as devices Regular = Regular
seen_as devices Directory = Directory
seen_as devices Link = Link
seen_as devices Other = if are_read devices then Regular else Other

-- what is seen at a path: what stands there, what is left out, or nothing that could be told
pub data Sight : Type 0 where
  Is : FileKind → Sight
  IsLeftOut : Sight
  IsUntold : Sight

-- A tree as a walk sees it: what is at a path, that of an operand where the flag is true; what the directory there
-- holds; and whether links lead in a circle to the directory at the path of an entry so many names below its operand.
pub record Sights : Type 0 where
  pub kind : Path → Bool → Sight
  pub content : Path → Option Content
  pub circle : ℕ → Path → Bool

-- an entry of which nothing can be told, as a link that leads to nothing, is left out by the rules for files
abbrev pub sight : Scope → Bool → Path → Option FileKind → Sight
sight scope operand path None =
    if operand then IsUntold else if leaves_out scope.files operand path then IsLeftOut else IsUntold
sight scope operand path (Some kind) =
    if is_left_out scope operand path kind then IsLeftOut else Is (seen_as scope.devices kind)

-- what is seen of a tree that answers so: links are followed at operands, and below them where the scope does
abbrev pub sights : Scope → Answers → Sights
sights scope a = record {
  kind = λ path operand. sight scope operand path (a.kind path (operand || scope.follows));
  content = a.content;
  circle = λ depth path. scope.follows && lies_in_itself a depth path;
}

-- a look gave what is seen, unless the tree was out of memory
abbrev pub TellsSight : Sight → Result (Option FileKind) LookFault → Type 0
TellsSight seen (Ok (Some kind)) = seen ≡ Is kind
TellsSight seen (Ok None) = seen ≡ IsLeftOut
TellsSight seen (Err Failed) = seen ≡ IsUntold
TellsSight seen (Err OutOfMemory) = Unit {0}
