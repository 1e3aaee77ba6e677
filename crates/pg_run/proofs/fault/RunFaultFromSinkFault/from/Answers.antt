use Rattle.std.proofs.Common.{refl}
use Rattle.pg_run.proofs.fault.RunFaultFromSinkFault.from.Goals as goal

pub returns : goal.returns
returns c = refl
