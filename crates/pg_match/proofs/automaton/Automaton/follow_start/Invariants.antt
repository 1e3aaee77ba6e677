use Rattle.std.proofs.Common.{◌-◌, length}
use Rattle.pg_match.specs.Views.{nfa, dfa}
use Rattle.pg_match.specs.Anchored.{Follows}
use Rattle.pg_match.proofs.automaton.Automaton.follow_start.Given as goal

abbrev pub invariant-loop-place : goal.invariant-loop-place
invariant-loop-place g l = Follows (nfa l.self) (dfa l.cache) l.line l.start l.place l.state l.last

abbrev pub decreases-loop-place : goal.decreases-loop-place
decreases-loop-place g l = length l.line - l.place
