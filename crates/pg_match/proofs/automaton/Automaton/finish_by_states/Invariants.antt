use Rattle.std.proofs.Common.{◌+◌, ◌-◌, ◌*◌, ◌≤◌, length}
use Rattle.pg_match.specs.Anchored.{IsAnchoredRun}
use Rattle.pg_match.specs.StateSets.{HaveRoom}
use Rattle.pg_match.specs.Steps.{Has}
use Rattle.pg_match.specs.Views.{nfa, buffers, members, Tells}
use Rattle.pg_match.proofs.automaton.Automaton.finish_by_states.Given as goal

abbrev pub invariant-loop-place : goal.invariant-loop-place
invariant-loop-place g l = record {
  room : HaveRoom (buffers l.sets) (length l.self.states.items);
  run : IsAnchoredRun (nfa l.self) l.line l.fn.run.start l.place l.last (Has (members l.sets.current));
  visits : l.sets.visits ≤ l.fn.sets.visits + (l.place - l.fn.run.place) * length l.self.states.items;
  told : Tells l.fn.sets l.sets;
}
