use Rattle.std.proofs.Common.{◌≡◌, ◌∙◌, ◌↔◌, IsTrue, List, [], ℕ, ap, arith, length, subst, sym}
use Rattle.std.proofs.lemmas.Bool.{eqb-true}
use Rattle.std.proofs.lemmas.List.{nil_from_length}
use Rattle.pg_pattern.specs.Hits.{HasHit}
use Rattle.pg_match.specs.Views.{nfa}
use Rattle.pg_match.proofs.LineLemmas.{exact_for}
use Rattle.pg_match.proofs.machine.Machine.selects.Goals as goal

pub returns-clause-exact : goal.returns-clause-exact
returns-clause-exact g c = λ patterns bounds is.
    exact_for (nfa c.deref-automaton.result.now) c.args.self.now (ap nfa c.deref-automaton.ensures ∙ c.self.view_is)
    patterns bounds c.args.line.now c.selects.result is c.selects.ensures.exact

pub returns-then-is_empty-clause-exact : goal.returns-then-is_empty-clause-exact
returns-then-is_empty-clause-exact g c = λ patterns bounds is.
    let l = c.args.line.now in
    let none : l ≡ [] =
    nil_from_length l (eqb-true (length l) 0 (sym c.is_empty.ensures ∙ c.if-is_empty.true)) in
    let P : List ℕ → Type 0 = λ l. IsTrue c.selects_empty.result ↔ HasHit patterns bounds l in
    subst P (sym none) (c.selects_empty.ensures.exact patterns bounds is)

pub returns-then-is_empty-clause-visits : goal.returns-then-is_empty-clause-visits
returns-then-is_empty-clause-visits g c = λ patterns bounds is.
    let visits = c.selects_empty.ensures.visits patterns bounds is in
    omega (arith, visits)
