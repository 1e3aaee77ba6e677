use Rattle.std.proofs.Common.{◌≡◌, ◌∙◌, [], Some, ap, length, subst, sym}
use Rattle.std.specs.Arc.{arc_value}
use Rattle.pg_match.specs.Machines.{TellsEmpty}
use Rattle.pg_match.specs.StateSets.{HaveRoom}
use Rattle.pg_match.specs.Views.{nfa, buffers, CachesDfaOf}
use Rattle.pg_match.proofs.LineLemmas.{exact_for}
use Rattle.pg_match.proofs.machine.Machine.selects_empty.Goals as goal

pub invariant_of-scratch-2 : goal.invariant_of-scratch-2
invariant_of-scratch-2 g c =
    let kept = c.selects-answer.new in
    let same : nfa c.deref-automaton.result.now ≡ nfa (arc_value c.scratch.inside.automaton) =
    ap nfa c.deref-automaton.ensures
    ∙ (c.self.view_is ∙ sym (ap (λ r. r.machine) c.scratch.view_is ∙ c.requires.fits)) in (
      subst (λ m. HaveRoom (buffers kept.sets) (length m.states)) same c.selects-answer.ensures.room,
      subst (λ m. CachesDfaOf kept.cache m) same c.selects-answer.ensures.cache,
      c.scratch.invariant.2,
      subst (λ m. TellsEmpty m (Some c.selects-answer.result)) same c.selects-answer.ensures.exact,
    )

pub returns-clause-exact : goal.returns-clause-exact
returns-clause-exact g c = λ patterns bounds is.
    exact_for (nfa c.deref-automaton.result.now) c.args.self.now (ap nfa c.deref-automaton.ensures ∙ c.self.view_is)
    patterns bounds [] c.selects-answer.result is c.selects-answer.ensures.exact

pub returns-in-Some-clause-exact : goal.returns-in-Some-clause-exact
returns-in-Some-clause-exact g c = λ patterns bounds is.
    let m = nfa (arc_value c.scratch.inside.automaton) in
    exact_for m c.args.self.now (ap (λ r. r.machine) c.scratch.view_is ∙ c.requires.fits) patterns bounds []
    c.in-Some.answer is (subst (TellsEmpty m) c.in-Some.is c.scratch.invariant.3)
