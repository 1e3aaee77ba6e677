use Rattle.pg_match.specs.Machines.{Fits}
use Rattle.pg_base_tests.proofs.machine.show_counts.Given as goal

abbrev pub invariant-loop-is_of_part : goal.invariant-loop-is_of_part
invariant-loop-is_of_part l = Fits l.scratch l.machine
