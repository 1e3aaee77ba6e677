use Rattle.std.proofs.Common.{IfSome, subst, sym}
use Rattle.pg_prefilter.specs.Literals.{IsRowOf}
use Rattle.pg_prefilter.specs.Candidates.{AreLiteralNeedles}
use Rattle.pg_prefilter.proofs.needles.Needles.new.Goals as goal

pub returns-in-Some-clause-needles : goal.returns-in-Some-clause-needles
returns-in-Some-clause-needles g c = λ text bytes literals set row searched set_searched.
    let is = subst (λ o. IfSome o (λ row. IsRowOf text row.now)) c.in-Some.is row in
    let are = c.in_ok-literals.ensures.needles text bytes literals set searched set_searched in (
      subst (IsRowOf text) (sym c.new-in-Some.ensures.finder) is,
      subst (λ o. IfSome o (AreLiteralNeedles text bytes 0)) (sym c.new-in-Some.ensures.literals) are,
    )

pub returns-in-None-clause-needles : goal.returns-in-None-clause-needles
returns-in-None-clause-needles g c = λ text bytes literals set row searched set_searched.
    c.in_ok-literals.ensures.needles text bytes literals set searched set_searched
