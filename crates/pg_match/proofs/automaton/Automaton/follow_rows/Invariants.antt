use Rattle.std.proofs.Common.{◌-◌, length}
use Rattle.pg_match.specs.Views.{nfa, dfa}
use Rattle.pg_match.specs.Dfas.{HasScanned}
use Rattle.pg_match.proofs.automaton.Automaton.follow_rows.Given as goal

abbrev pub invariant-loop-here : goal.invariant-loop-here
invariant-loop-here g l = HasScanned (nfa l.self) (dfa l.cache) l.line l.from l.here l.at l.start

abbrev pub decreases-loop-here : goal.decreases-loop-here
decreases-loop-here g l = length l.line - l.here
