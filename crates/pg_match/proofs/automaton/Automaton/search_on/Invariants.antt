use Rattle.std.proofs.Common.{ℕ, ◌+◌, ◌*◌, ◌≤◌, length}
use Rattle.pg_match.specs.StateSets.{HaveRoom}
use Rattle.pg_match.specs.Starts.{StandsUnseeded}
use Rattle.pg_match.specs.Steps.{Has}
use Rattle.pg_match.specs.Views.{nfa, members, buffers, Tells}
use Rattle.pg_match.proofs.automaton.Automaton.search_on.Given as goal

abbrev pub invariant-loop-place : goal.invariant-loop-place
invariant-loop-place g l = record {
  room : HaveRoom (buffers l.sets) (length l.self.states.items);
  stands : (start : ℕ) → start ≤ l.from
      → StandsUnseeded (nfa l.self) l.self.seeds.items l.line start l.from (Has (members l.fn.sets.current))
      → StandsUnseeded (nfa l.self) l.self.seeds.items l.line start l.place (Has (members l.sets.current));
  visits : l.sets.visits ≤ l.place * length l.self.states.items + l.sets.current.len;
  told : Tells l.fn.sets l.sets;
}
