use Rattle.std.proofs.Common.{ap}
use Rattle.pg_walk.specs.Left.{spots_in}
use Rattle.pg_walk.proofs.Lefts.{given_none}
use Rattle.pg_walk.proofs.walker.Walker.over_nothing.Goals as goal

pub returns-clause-fresh : goal.returns-clause-fresh
returns-clause-fresh g c = given_none _ _ _ _ _ (ap spots_in c.new.ensures.items)
