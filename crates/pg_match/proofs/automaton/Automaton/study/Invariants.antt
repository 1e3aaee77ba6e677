use Rattle.std.proofs.Common.{◌+◌, ◌-◌, ◌*◌, ◌<◌, ◌≤◌, length}
use Rattle.pg_match.specs.Dfas.{IsDfaOf, IsAtRow}
use Rattle.pg_match.specs.StateSets.{HaveRoom}
use Rattle.pg_match.specs.Views.{nfa, buffers, dfa, Tells}
use Rattle.pg_match.proofs.automaton.Automaton.study.Given as goal

abbrev pub invariant-loop-sets : goal.invariant-loop-sets
invariant-loop-sets g l = record {
  room : HaveRoom (buffers l.sets) (length l.self.states.items);
  cache : IsDfaOf (nfa l.self) (dfa l.cache);
  some : 1 ≤ l.cache.count;
  within : l.place < length l.line;
  row : IsAtRow (dfa l.cache) l.state;
  visits : l.sets.visits ≤ (length l.line + 1) * length l.self.states.items;
  told : Tells l.fn.sets l.sets;
}

abbrev pub decreases-loop-sets : goal.decreases-loop-sets
decreases-loop-sets g l = length l.line - l.place
