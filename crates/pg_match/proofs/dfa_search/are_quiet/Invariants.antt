use Rattle.std.proofs.Common.{◌<◌, ℕ}
use Rattle.std.specs.Prelude.{slice_get}
use Rattle.pg_match.specs.StateSets.{listed}
use Rattle.pg_match.specs.Steps.{IsQuiet}
use Rattle.pg_match.specs.Views.{members}
use Rattle.pg_match.proofs.dfa_search.are_quiet.Given as goal

abbrev pub invariant-loop-k : goal.invariant-loop-k
invariant-loop-k g l = (j : ℕ) → j < l.k → IsQuiet (slice_get l.states (listed (members l.set) j))
