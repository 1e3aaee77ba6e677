use Rattle.pg_match.specs.Views.{members}
use Rattle.pg_match.proofs.StartLemmas.{SeedsMoving}
use Rattle.pg_match.proofs.automaton.Automaton.move_seeds.Given as goal

abbrev pub invariant-loop-k : goal.invariant-loop-k
invariant-loop-k g l =
    SeedsMoving l.self.states.items l.self.seeds.items l.self.starts.targets.items l.byte (members l.fn.next)
    (members l.next) l.first l.k
