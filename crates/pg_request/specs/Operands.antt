-- What the operands of a request are.
use Rattle.std.specs.Prelude.{◌≡◌, ℕ, Bool, not, ◌&&◌, List, [], ◌∷◌, codes, Option, Some, None}
use Rattle.pg_walk.specs.Answers.{Answers as Tree}
use Rattle.pg_walk.specs.Places.{is_standard_input}
use Rattle.pg_walk.specs.declared.tree.FileKind.{FileKind}
use Rattle.pg_walk.specs.declared.tree.FileKind.TheVariants.{Regular, Directory, Link, Other}

-- this kind is that of a directory
abbrev pub is_directory : Option FileKind → Bool
is_directory None = Bool.false
is_directory (Some Regular) = Bool.false
is_directory (Some Directory) = Bool.true
is_directory (Some Link) = Bool.false
is_directory (Some Other) = Bool.false

-- the one operand is a directory, links followed; `-` is none
abbrev pub IsDirectory : Tree → List (List ℕ) → Bool → Type 0
IsDirectory tree [] directory = directory ≡ Bool.false
IsDirectory tree (file ∷ []) directory =
    directory ≡ (not (is_standard_input file) && is_directory (tree.kind file Bool.true))
IsDirectory tree (file ∷ other ∷ files) directory = directory ≡ Bool.false

-- what is told of the one operand: whether it is a directory; where a tree doesn't tell its answers, anything may be
-- called one but standard input
pub record TellsDirectory (tells : Type 0) (tree : Tree) (files : List (List ℕ)) (directory : Bool) : Type 0 where
  pub is : tells → IsDirectory tree files directory
  pub standard_input : files ≡ codes "-" ∷ [] → directory ≡ Bool.false
