-- The steps of a plan that are still to come, the oldest first.
use Rattle.std.specs.Prelude.{ℕ, ◌+◌, List, [], ◌∷◌}
use Rattle.pg_plan.specs.Plan.{Step, Opens, Announces, Ends, Misses}

-- the plan that they give behind the steps before them, of which the newest stands first
abbrev pub behind : List Step → List Step → List Step
behind done [] = done
behind done (step ∷ coming) = behind (step ∷ done) coming

-- the names of the files that they open, each with the number of blocks before it
abbrev pub openings : ℕ → List Step → List (ℕ × List ℕ)
openings before [] = []
openings before (Opens name ∷ coming) = (before, name) ∷ openings before coming
openings before (Announces block ∷ coming) = openings (before + 1) coming
openings before (Ends failed ∷ coming) = openings before coming
openings before (Misses name ∷ coming) = openings before coming
