use Rattle.std.proofs.Common.{◌+◌, ◌*◌, ◌≤◌, length}
use Rattle.pg_match.specs.Anchored.{IsAnchoredDfaOf}
use Rattle.pg_match.specs.StateSets.{HaveRoom}
use Rattle.pg_match.specs.Views.{nfa, buffers, dfa, Tells}
use Rattle.pg_match.proofs.automaton.Automaton.study_starts.Given as goal

abbrev pub invariant-loop-round : goal.invariant-loop-round
invariant-loop-round g l = record {
  room : HaveRoom (buffers l.sets) (length l.self.states.items);
  cache : IsAnchoredDfaOf (nfa l.self) (dfa l.cache);
  within : l.place ≤ length l.line;
  visits : l.sets.visits ≤ (l.limit + 1) * length l.self.states.items;
  told : Tells l.fn.sets l.sets;
}
