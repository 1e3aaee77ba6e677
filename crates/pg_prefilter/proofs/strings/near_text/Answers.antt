use Rattle.std.proofs.Common.{◌∙◌, List, arith, ap, get_or, length, subst, sym, ℕ}
use Rattle.std.specs.Prelude.{IfSome}
use Rattle.std.specs.Vec.{vec_len}
use Rattle.std.proofs.lemmas.Bool.{eqb-false}
use Rattle.pg_prefilter.specs.Strings.{IsNear, IsTextReach}
use Rattle.pg_prefilter.proofs.NearLemmas.{reach_is_near}
use Rattle.pg_prefilter.proofs.strings.near_text.Goals as goal

pub returns-clause-near : goal.returns-clause-near
returns-clause-near g c =
    let text = c.args.text.now in
    let literals = c.args.literals.now in
    let literal = c.index-literals-0.result in
    let before = c.in_ok-before.before in
    let known = subst (λ o. IfSome o (IsTextReach text)) c.in_ok-reach.was c.requires.reach in
    let items = c.deref-2.ensures.value in
    let size = ap length items in
    let len = c.deref-2.ensures.len in
    let some = eqb-false (vec_len (get_or literals 0 literal).text) 0 (sym c.is_empty.ensures ∙ c.if-is_empty.false) in
    let near = reach_is_near text literals literal c.in_ok-reach.field-0 before c.requires.literals known
    c.if-literals-ne1.false (omega (arith, some, size, len))
    (omega (arith, size, len, c.len.ensures, c.in_ok-before.ensures)) in
    let P : List ℕ → Type 0 = λ h. IsNear text h before in
    subst P (sym (c.new-2.ensures ∙ items)) near
