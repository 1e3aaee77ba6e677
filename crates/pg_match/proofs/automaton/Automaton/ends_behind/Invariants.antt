use Rattle.pg_match.proofs.StepLemmas.{EndsSoFar}
use Rattle.pg_match.proofs.automaton.Automaton.ends_behind.Given as goal

abbrev pub invariant-loop-k : goal.invariant-loop-k
invariant-loop-k g l = EndsSoFar l.self.states.items l.self.seeds.items l.byte l.k l.some
