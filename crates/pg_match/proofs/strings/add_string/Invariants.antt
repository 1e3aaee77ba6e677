use Rattle.std.proofs.Common.{◌≤◌, length, drop}
use Rattle.pg_match.proofs.StringLemmas.{AddedBytes}
use Rattle.pg_match.proofs.strings.add_string.Given as goal

abbrev pub invariant-loop-left : goal.invariant-loop-left
invariant-loop-left g l = record {
  within : l.left ≤ length l.string;
  added : AddedBytes l.fold l.fn.states.items l.states.items (drop l.left l.string) l.entry l.next;
}

abbrev pub decreases-loop-left : goal.decreases-loop-left
decreases-loop-left g l = l.left
