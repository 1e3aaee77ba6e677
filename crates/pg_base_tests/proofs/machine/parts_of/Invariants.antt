use Rattle.pg_match.specs.Machines.{Fits}
use Rattle.pg_base_tests.proofs.machine.parts_of.Given as goal

abbrev pub invariant-loop : goal.invariant-loop
invariant-loop l = Fits l.scratch l.machine
