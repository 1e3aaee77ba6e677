use Rattle.std.proofs.Common.{◌-◌, length}
use Rattle.pg_match.specs.Views.{members}
use Rattle.pg_match.proofs.StepLemmas.{Closing}
use Rattle.pg_match.proofs.nfa_search.close.Given as goal

abbrev pub invariant-loop-next : goal.invariant-loop-next
invariant-loop-next g l = Closing l.states l.edges.first l.edges.last (members l.fn.set) (members l.set) l.next

abbrev pub decreases-loop-next : goal.decreases-loop-next
decreases-loop-next g l = length l.states - l.next
