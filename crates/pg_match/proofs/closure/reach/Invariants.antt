use Rattle.std.proofs.Common.{◌-◌, length}
use Rattle.pg_match.proofs.ClosureLemmas.{Reaching}
use Rattle.pg_match.specs.Views.{members}
use Rattle.pg_match.proofs.closure.reach.Given as goal

abbrev pub invariant-loop-next : goal.invariant-loop-next
invariant-loop-next g l = Reaching l.states l.line l.place (members l.fn.set) (members l.set) l.state l.mark l.next

abbrev pub decreases-loop-next : goal.decreases-loop-next
decreases-loop-next g l = length l.states - l.next
