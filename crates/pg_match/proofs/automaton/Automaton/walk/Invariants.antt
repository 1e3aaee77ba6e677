use Rattle.std.proofs.Common.{◌-◌, length}
use Rattle.pg_match.specs.Views.{nfa, dfa}
use Rattle.pg_match.proofs.CacheLemmas.{Walking}
use Rattle.pg_match.proofs.automaton.Automaton.walk.Given as goal

abbrev pub invariant-loop-place : goal.invariant-loop-place
invariant-loop-place g l = Walking (nfa l.self) (dfa l.cache) l.line l.from l.state l.place l.at

abbrev pub decreases-loop-place : goal.decreases-loop-place
decreases-loop-place g l = length l.line - l.place

abbrev pub invariant-loop-place-2 : goal.invariant-loop-place-2
invariant-loop-place-2 g l = Walking (nfa l.self) (dfa l.cache) l.line l.from l.state l.place l.at

abbrev pub decreases-loop-place-2 : goal.decreases-loop-place-2
decreases-loop-place-2 g l = length l.line - l.place
