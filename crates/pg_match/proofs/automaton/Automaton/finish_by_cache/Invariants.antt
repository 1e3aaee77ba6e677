use Rattle.std.proofs.Common.{◌≡◌, ◌+◌, ◌-◌, ◌*◌, ◌≤◌, Some, length}
use Rattle.pg_match.specs.Anchored.{IsAnchoredDfaOf, Follows}
use Rattle.pg_match.specs.StateSets.{HaveRoom}
use Rattle.pg_match.specs.Views.{nfa, buffers, dfa, Tells}
use Rattle.pg_match.proofs.automaton.Automaton.finish_by_cache.Given as goal

abbrev pub invariant-loop-at : goal.invariant-loop-at
invariant-loop-at g l = record {
  room : HaveRoom (buffers l.sets) (length l.self.states.items);
  cache : IsAnchoredDfaOf (nfa l.self) (dfa l.cache);
  some : 2 ≤ l.cache.count;
  start : l.at.start ≡ l.fn.run.start;
  onward : l.fn.run.place ≤ l.at.place;
  follows : Follows (nfa l.self) (dfa l.cache) l.line l.at.start l.at.place l.state (Some l.at.last);
  visits : l.sets.visits ≤ l.fn.sets.visits + (l.at.place - l.fn.run.place) * length l.self.states.items;
  told : Tells l.fn.sets l.sets;
}

abbrev pub decreases-loop-at : goal.decreases-loop-at
decreases-loop-at g l = length l.line - l.at.place
