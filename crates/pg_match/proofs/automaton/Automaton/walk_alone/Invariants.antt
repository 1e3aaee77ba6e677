use Rattle.std.proofs.Common.{◌-◌, ◌≤◌, length}
use Rattle.pg_match.specs.Dfas.{IsAtRow}
use Rattle.pg_match.specs.Views.{dfa}
use Rattle.pg_match.proofs.automaton.Automaton.walk_alone.Given as goal

abbrev pub invariant-loop-here : goal.invariant-loop-here
invariant-loop-here g l = record { row : IsAtRow (dfa l.cache) l.at; onward : l.fn.place ≤ l.here }

abbrev pub decreases-loop-here : goal.decreases-loop-here
decreases-loop-here g l = length l.line - l.here
