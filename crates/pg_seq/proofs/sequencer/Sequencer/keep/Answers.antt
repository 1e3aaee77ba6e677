use Rattle.std.proofs.Common.{sym, subst, rules}
use Rattle.pg_seq.specs.declared.assembler.Assembler.{Assembler}
use Rattle.pg_plan.specs.History.{arrived}
use Rattle.pg_seq.specs.Standing.{IsAfter}
use Rattle.pg_seq.proofs.sequencer.Sequencer.keep.Goals as goal

pub invariant_of-self : goal.invariant_of-self
invariant_of-self g c =
    let past = c.requires in
    let P : Assembler _ → Type 0 = λ s. IsAfter s past.0 in
    (arrived past.0 c.args.found, c.keep.ensures past.0 (subst P (sym c.self.view_is) past.1) past.2)

pub returns : goal.returns
returns g c = search rules
