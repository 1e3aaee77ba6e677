use Rattle.pg_run.specs.Faults.{fault_of_cut}
use Rattle.std.proofs.Common.{⊎_elim, sym, ap}
use Rattle.pg_run.proofs.fault.RunFaultFromCutFault.from.Goals as goal

pub returns-in-OutOfMemory : goal.returns-in-OutOfMemory
returns-in-OutOfMemory c = sym (ap fault_of_cut c.in-OutOfMemory.is)

pub returns-in-LineTooLong : goal.returns-in-LineTooLong
returns-in-LineTooLong c = ⊎_elim (λ e. sym (ap fault_of_cut e)) (λ e. sym (ap fault_of_cut e)) c.in-LineTooLong.is
