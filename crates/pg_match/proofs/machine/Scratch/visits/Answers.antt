use Rattle.std.proofs.Common.{ap}
use Rattle.pg_match.specs.Machines.{Room}
use Rattle.pg_match.proofs.machine.Scratch.visits.Goals as goal

pub returns : goal.returns
returns g c = ap (λ (r : Room). r.visits) c.self.view_is
