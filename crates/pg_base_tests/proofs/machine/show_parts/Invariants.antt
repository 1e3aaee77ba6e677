use Rattle.pg_match.specs.Machines.{Fits}
use Rattle.pg_base_tests.proofs.machine.show_parts.Given as goal

abbrev pub invariant-loop-line : goal.invariant-loop-line
invariant-loop-line l = Fits l.scratch l.machine
