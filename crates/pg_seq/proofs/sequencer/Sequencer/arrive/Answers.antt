use Rattle.pg_plan.specs.History.{arrived}
use Rattle.pg_seq.proofs.sequencer.Sequencer.arrive.Goals as goal

pub invariant_of-self : goal.invariant_of-self
invariant_of-self g c =
    let past = c.self.invariant in
    (arrived past.0 c.args.found, c.arrive.ensures.stands past.0 past.1)
