use Rattle.std.proofs.Common.{sym, subst}
use Rattle.pg_seq.specs.declared.assembler.Assembler.{Assembler}
use Rattle.pg_seq.specs.Standing.{IsAfter}
use Rattle.std.specs.Arc.{arc_value}
use Rattle.pg_plan.specs.Plan.{Announces}
use Rattle.pg_plan.specs.History.{planned}
use Rattle.pg_seq.proofs.StandLemmas.{some_past}
use Rattle.pg_seq.proofs.sequencer.Sequencer.announce.Goals as goal

pub invariant_of-self : goal.invariant_of-self
invariant_of-self g c =
    let past = c.requires in
    let P : Assembler _ → Type 0 = λ s. IsAfter s past.0 in
    let stands = subst P (sym c.self.view_is) past.1.0 in
    some_past c.announce.result _ (planned past.0 (Announces (arc_value c.args.block))) past.0
    (c.announce.ensures.ok past.0 stands past.1.1) (c.announce.ensures.err past.0 stands)
