use Rattle.pg_match.specs.Starts.{Targeted}
use Rattle.pg_match.proofs.starts.add_targets.Given as goal

abbrev pub invariant-loop-k : goal.invariant-loop-k
invariant-loop-k g l = Targeted l.states l.seeds l.byte l.fn.targets.items l.targets.items l.k
