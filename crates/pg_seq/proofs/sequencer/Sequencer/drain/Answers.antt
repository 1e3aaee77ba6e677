use Rattle.pg_plan.specs.Drains.{drained}
use Rattle.pg_seq.proofs.sequencer.Sequencer.drain.Goals as goal

pub invariant_of-self : goal.invariant_of-self
invariant_of-self g c =
    let past = c.self.invariant in
    let d = c.drain.ensures.drained past.0 past.1 in
    (drained past.0 d.0 c.drain.result, d.3)
