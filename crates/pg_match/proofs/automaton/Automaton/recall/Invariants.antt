use Rattle.std.proofs.Common.{◌+◌, ◌-◌, ◌*◌, ◌≤◌, ◌↔◌, length}
use Rattle.pg_match.specs.Dfas.{IsDfaOf, IsCursor}
use Rattle.pg_match.specs.StateSets.{HaveRoom}
use Rattle.pg_match.specs.Stands.{HasRun}
use Rattle.pg_match.specs.Views.{nfa, buffers, dfa, Tells}
use Rattle.pg_match.proofs.automaton.Automaton.recall.Given as goal

abbrev pub invariant-loop-cursor : goal.invariant-loop-cursor
invariant-loop-cursor g l = record {
  room : HaveRoom (buffers l.sets) (length l.self.states.items);
  cache : IsDfaOf (nfa l.self) (dfa l.cache);
  some : 1 ≤ l.cache.count;
  cursor : IsCursor (nfa l.self) (dfa l.cache) l.line l.cursor;
  from : HasRun (nfa l.self) l.line 0 ↔ HasRun (nfa l.self) l.line l.cursor.from;
  visits : l.sets.visits ≤ (l.cursor.place + 1) * length l.self.states.items;
  told : Tells l.fn.sets l.sets;
}

abbrev pub decreases-loop-cursor : goal.decreases-loop-cursor
decreases-loop-cursor g l = length l.line - l.cursor.place
