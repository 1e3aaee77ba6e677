-- Which files and directories are left out of a search, by globs.
use Rattle.std.specs.Prelude.{Bool, false, not, ◌&&◌, ◌||◌, ◌==◌, if◌then◌else◌, List, [], ◌∷◌}
use Rattle.pg_glob.specs.Brackets.{Text}
use Rattle.pg_glob.specs.Globs.{GlobPiece, matches}

-- a glob, and whether what it matches is kept, or else left out
pub record Rule : Type 0 where
  pub keeps : Bool
  pub glob : List GlobPiece

-- what stands behind the last slash (47), or all of a path without one
abbrev pub last_name : Text → Text → Text
last_name name [] = name
last_name name (x ∷ t) = if x == 47 then last_name t t else last_name name t

-- the glob matches the path, or what stands behind some slash of it
abbrev pub matches_behind_slash : List GlobPiece → Text → Bool
matches_behind_slash glob [] = false
matches_behind_slash glob (x ∷ t) = (x == 47 && matches glob t) || matches_behind_slash glob t

-- a glob is held to the last name of a path; and of an operand to all of it, too, and to what stands behind each slash
abbrev pub fits_path : Bool → Text → List GlobPiece → Bool
fits_path operand path glob =
    if operand then matches glob path || matches_behind_slash glob path else matches glob (last_name path path)

-- the last rule that fits decides, else this
abbrev pub decided : (List GlobPiece → Bool) → List Rule → Bool → Bool
decided fit [] before = before
decided fit (r ∷ rs) before = decided fit rs (if fit r.glob then not r.keeps else before)

-- where no rule fits, all is kept, but where the first rule says what is kept
abbrev pub by_default : List Rule → Bool
by_default [] = false
by_default (r ∷ rs) = r.keeps

-- the path is left out
abbrev pub leaves_out : List Rule → Bool → Text → Bool
leaves_out rules operand path = decided (fits_path operand path) rules (by_default rules)
