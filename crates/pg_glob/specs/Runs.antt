-- How parts are matched up to the first `*` among them.
use Rattle.std.specs.Prelude.{◌≡◌, ◌<◌, ◌≤◌, true, List, ◌∷◌, length, map}
use Rattle.pg_glob.specs.Brackets.{Text}
use Rattle.pg_glob.specs.Globs.{GlobPiece, AnyBytes, matches}
use Rattle.pg_glob.specs.Views.{piece_of}
use Rattle.pg_glob.specs.declared.matching.Outcome.{Outcome}
use Rattle.pg_glob.specs.declared.matching.Outcome.TheVariants.{Settled, Star}

-- From here pieces go on to a `*`, with these behind it and so much of the text left, and matching may go on from there
-- alone: they match just where those do, and behind a `*` of their own they match nothing that those don't.
pub record GoesOn (ps : List GlobPiece) (t : Text) (qs : List GlobPiece) (rest : Text) : Type 0 where
  pub same : matches ps t ≡ matches (AnyBytes ∷ qs) rest
  pub covered : matches (AnyBytes ∷ ps) t ≡ true → matches (AnyBytes ∷ qs) rest ≡ true
  pub shorter : length qs < length ps
  pub within : length rest ≤ length t

-- what came of matching up to a `*`: whether all is matched, or from where matching goes on
abbrev pub ComesTo : List GlobPiece → Text → Outcome → Type 0
ComesTo ps t (Settled b) = matches ps t ≡ b
ComesTo ps t (Star parts rest) = GoesOn ps t (map piece_of parts.now) rest.now
