use Rattle.pg_plan.specs.Plan.{Opens}
use Rattle.pg_plan.specs.History.{planned}
use Rattle.pg_seq.proofs.StandLemmas.{some_past}
use Rattle.pg_seq.proofs.sequencer.Sequencer.open.Goals as goal

pub invariant_of-self : goal.invariant_of-self
invariant_of-self g c =
    let past = c.self.invariant in
    some_past c.open.result _ (planned past.0 (Opens c.args.name.now)) past.0 (c.open.ensures.ok past.0 past.1)
    (c.open.ensures.err past.0 past.1)
