use Rattle.pg_walk.proofs.Lefts.{given_none}
use Rattle.pg_walk.proofs.walker.Walker.new.Goals as goal

pub returns-clause-fresh : goal.returns-clause-fresh
returns-clause-fresh g c = given_none _ _ _ _ _ c.in_ok-waiting.ensures
