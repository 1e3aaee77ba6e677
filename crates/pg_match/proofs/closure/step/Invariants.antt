use Rattle.pg_match.specs.StateSets.{CountedAnew}
use Rattle.pg_match.proofs.ClosureLemmas.{Stepping}
use Rattle.pg_match.specs.Views.{members}
use Rattle.pg_match.proofs.closure.step.Given as goal

abbrev pub invariant-loop-k : goal.invariant-loop-k
invariant-loop-k g l = record {
  stepping : Stepping l.states l.line l.place (members l.current) (members l.next) l.limit l.k;
  counted : CountedAnew (members l.fn.next) (members l.next);
}
