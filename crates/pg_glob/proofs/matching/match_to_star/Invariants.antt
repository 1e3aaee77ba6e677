use Rattle.std.proofs.Common.{length, map}
use Rattle.pg_glob.specs.Views.{piece_of}
use Rattle.pg_glob.proofs.MatchLemmas.{Reached}
use Rattle.pg_glob.proofs.matching.match_to_star.Given as goal

abbrev pub invariant-loop-first : goal.invariant-loop-first
invariant-loop-first l = Reached (map piece_of l.fn.parts) l.fn.name (map piece_of l.parts) l.name

abbrev pub decreases-loop-first : goal.decreases-loop-first
decreases-loop-first l = length l.parts
