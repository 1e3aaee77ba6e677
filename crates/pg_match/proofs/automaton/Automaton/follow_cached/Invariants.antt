use Rattle.std.proofs.Common.{◌≡◌, ◌-◌, ◌≤◌, Some, length}
use Rattle.pg_match.specs.Anchored.{Follows}
use Rattle.pg_match.specs.Views.{nfa, dfa}
use Rattle.pg_match.proofs.automaton.Automaton.follow_cached.Given as goal

abbrev pub invariant-loop-next : goal.invariant-loop-next
invariant-loop-next g l = record {
  start : l.at.start ≡ l.fn.run.start;
  onward : l.fn.run.place ≤ l.at.place;
  follows : Follows (nfa l.self) (dfa l.cache) l.line l.at.start l.at.place l.state (Some l.at.last);
}

abbrev pub decreases-loop-next : goal.decreases-loop-next
decreases-loop-next g l = length l.line - l.at.place
