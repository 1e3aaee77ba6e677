use Rattle.std.proofs.Common.{length, ◌-◌}
use Rattle.pg_match.specs.Lines.{StandsInLine}
use Rattle.pg_match.specs.Views.{nfa, dfa}
use Rattle.pg_match.proofs.automaton.Automaton.walk_line.Given as goal

abbrev pub invariant-loop-place : goal.invariant-loop-place
invariant-loop-place g l = StandsInLine (nfa l.self) (dfa l.cache) l.end l.bytes l.state l.place

abbrev pub decreases-loop-place : goal.decreases-loop-place
decreases-loop-place g l = length l.bytes - l.place
