use Rattle.pg_plan.specs.Plan.{Ends}
use Rattle.pg_plan.specs.History.{planned}
use Rattle.pg_seq.proofs.sequencer.Sequencer.end.Goals as goal

pub invariant_of-self : goal.invariant_of-self
invariant_of-self g c =
    let past = c.self.invariant in
    (planned past.0 (Ends c.args.failed), c.end.ensures past.0 past.1)
