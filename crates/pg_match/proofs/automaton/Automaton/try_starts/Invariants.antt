use Rattle.std.proofs.Common.{◌-◌, ◌≤◌, length}
use Rattle.pg_match.specs.Anchored.{NothingBefore}
use Rattle.pg_match.specs.Views.{nfa}
use Rattle.pg_match.proofs.automaton.Automaton.try_starts.Given as goal

abbrev pub invariant-loop-place : goal.invariant-loop-place
invariant-loop-place g l =
    (l.start ≤ l.place) × (l.place ≤ length l.line) × NothingBefore (nfa l.self) l.line l.start l.place

abbrev pub decreases-loop-place : goal.decreases-loop-place
decreases-loop-place g l = length l.line - l.place
