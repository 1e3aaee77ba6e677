use Rattle.std.proofs.Common.{◌≡◌, ◌+◌, ◌∷◌, length, map}
use Rattle.pg_glob.specs.Globs.{AnyBytes, matches}
use Rattle.pg_glob.specs.Views.{piece_of}
use Rattle.pg_glob.proofs.matching.matches_behind_star.Given as goal

abbrev pub invariant-loop-others : goal.invariant-loop-others
invariant-loop-others l =
    matches (AnyBytes ∷ map piece_of l.parts) l.name
    ≡ matches (AnyBytes ∷ map piece_of l.fn.parts) l.fn.name

abbrev pub decreases-loop-others : goal.decreases-loop-others
decreases-loop-others l = length (map piece_of l.parts) + length l.name
