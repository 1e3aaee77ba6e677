use Rattle.std.proofs.Common.{◌-◌, length}
use Rattle.pg_match.specs.Views.{nfa, dfa}
use Rattle.pg_match.specs.Dfas.{HasScanned}
use Rattle.pg_match.proofs.automaton.Automaton.scan.Given as goal

abbrev pub invariant-loop-place : goal.invariant-loop-place
invariant-loop-place g l = HasScanned (nfa l.self) (dfa l.cache) l.line l.from l.place l.state l.start

abbrev pub decreases-loop-place : goal.decreases-loop-place
decreases-loop-place g l = length l.line - l.place
