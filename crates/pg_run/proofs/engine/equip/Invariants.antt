use Rattle.std.proofs.Common.{◌-◌, length}
use Rattle.pg_run.specs.Searches.{AreScratches}
use Rattle.pg_run.proofs.engine.equip.Given as goal

abbrev pub invariant-loop-scratches : goal.invariant-loop-scratches
invariant-loop-scratches g l = AreScratches (g.Q.BlockSearch.seen l.query) 65 l.scratches.items

abbrev pub decreases-loop-scratches : goal.decreases-loop-scratches
decreases-loop-scratches g l = l.count - length l.scratches.items
