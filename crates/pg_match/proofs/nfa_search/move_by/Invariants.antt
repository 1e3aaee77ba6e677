use Rattle.pg_match.specs.StateSets.{CountedAnew}
use Rattle.pg_match.specs.Views.{members}
use Rattle.pg_match.specs.Steps.{Moved}
use Rattle.pg_match.proofs.nfa_search.move_by.Given as goal

abbrev pub invariant-loop-k : goal.invariant-loop-k
invariant-loop-k g l = record {
  moved : Moved l.states l.byte (members l.current) (members l.next) l.k;
  counted : CountedAnew (members l.fn.next) (members l.next);
}
