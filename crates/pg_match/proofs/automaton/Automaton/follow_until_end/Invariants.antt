use Rattle.std.proofs.Common.{◌-◌, ◌+◌, ◌*◌, ◌≤◌, length, None}
use Rattle.pg_match.specs.Anchored.{StandsFrom, IsLastEnd}
use Rattle.pg_match.specs.StateSets.{HaveRoom}
use Rattle.pg_match.specs.Steps.{Has}
use Rattle.pg_match.specs.Views.{nfa, buffers, members, Tells}
use Rattle.pg_match.proofs.automaton.Automaton.follow_until_end.Given as goal

abbrev pub invariant-loop-at : goal.invariant-loop-at
invariant-loop-at g l = record {
  room : HaveRoom (buffers l.sets) (length l.self.states.items);
  stands : StandsFrom (nfa l.self) l.line l.start l.at (Has (members l.sets.current));
  none : IsLastEnd (nfa l.self) l.line l.start l.at None;
  visits : l.sets.visits ≤ l.fn.sets.visits + (l.at - l.place) * length l.self.states.items;
  most : l.sets.visits ≤ l.most;
  told : Tells l.fn.sets l.sets;
}
