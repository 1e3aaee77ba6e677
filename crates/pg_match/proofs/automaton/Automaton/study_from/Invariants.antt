use Rattle.std.proofs.Common.{◌+◌, ◌-◌, ◌*◌, ◌≤◌, length}
use Rattle.pg_match.specs.Anchored.{IsAnchoredDfaOf}
use Rattle.pg_match.specs.Dfas.{IsAtRow}
use Rattle.pg_match.specs.StateSets.{HaveRoom}
use Rattle.pg_match.specs.Views.{nfa, buffers, dfa, Tells}
use Rattle.pg_match.proofs.automaton.Automaton.study_from.Given as goal

abbrev pub invariant-loop-cache : goal.invariant-loop-cache
invariant-loop-cache g l = record {
  room : HaveRoom (buffers l.sets) (length l.self.states.items);
  cache : IsAnchoredDfaOf (nfa l.self) (dfa l.cache);
  visits : l.sets.visits ≤ (l.limit + 1) * length l.self.states.items;
  told : Tells l.fn.sets l.sets;
}

abbrev pub decreases-loop-cache : goal.decreases-loop-cache
decreases-loop-cache g l = 2 - l.cache.count

abbrev pub invariant-loop-place : goal.invariant-loop-place
invariant-loop-place g l = record {
  room : HaveRoom (buffers l.sets) (length l.self.states.items);
  cache : IsAnchoredDfaOf (nfa l.self) (dfa l.cache);
  some : 2 ≤ l.cache.count;
  row : IsAtRow (dfa l.cache) l.state;
  visits : l.sets.visits ≤ (l.limit + 1) * length l.self.states.items;
  told : Tells l.fn.sets l.sets;
}

abbrev pub decreases-loop-place : goal.decreases-loop-place
decreases-loop-place g l = length l.line - l.place
