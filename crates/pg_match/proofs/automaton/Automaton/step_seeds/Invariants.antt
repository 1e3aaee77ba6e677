use Rattle.std.proofs.Common.{◌+◌}
use Rattle.pg_match.specs.Views.{members}
use Rattle.pg_match.proofs.StartLemmas.{SeedsStepping}
use Rattle.pg_match.proofs.automaton.Automaton.step_seeds.Given as goal

abbrev pub invariant-loop-k : goal.invariant-loop-k
invariant-loop-k g l =
    SeedsStepping l.self.states.items l.line l.place l.self.seeds.items l.self.starts.targets.items (members l.fn.next)
    (members l.next) (l.place + 1) l.first l.k
