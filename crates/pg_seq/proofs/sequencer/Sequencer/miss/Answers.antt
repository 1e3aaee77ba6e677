use Rattle.pg_plan.specs.Plan.{Misses}
use Rattle.pg_plan.specs.History.{planned}
use Rattle.pg_seq.proofs.StandLemmas.{some_past}
use Rattle.pg_seq.proofs.sequencer.Sequencer.miss.Goals as goal

pub invariant_of-self : goal.invariant_of-self
invariant_of-self g c =
    let past = c.self.invariant in
    some_past c.miss.result _ (planned past.0 (Misses c.args.name.now)) past.0 (c.miss.ensures.ok past.0 past.1)
    (c.miss.ensures.err past.0 past.1)
