use Rattle.std.proofs.Common.{◌+◌, ◌-◌, ◌*◌, ◌≤◌, length}
use Rattle.pg_match.specs.Views.{nfa, buffers, Tells}
use Rattle.pg_match.proofs.SearchLemmas.{Searching}
use Rattle.pg_match.proofs.automaton.Automaton.find_until.Given as goal

abbrev pub invariant-loop-place : goal.invariant-loop-place
invariant-loop-place g l = record {
  search : Searching (nfa l.self) l.line l.from l.place (buffers l.sets) l.best;
  visits : l.sets.visits ≤ l.fn.sets.visits + (l.place - l.at) * length l.self.states.items;
  told : Tells l.fn.sets l.sets;
}
