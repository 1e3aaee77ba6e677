use Rattle.std.proofs.Common.{◌≡◌, ℕ, Bool, not, Option, None, Some, false, ◌<◌, ◌∙◌, ap, arith, inl, inr, refl, sym}
use Rattle.std.proofs.Common.{true≢false}
use Rattle.std.specs.Prelude.{is_none, is_some}
use Rattle.pg_pattern.specs.Bounds.{MayBegin}
use Rattle.pg_match.specs.Views.{nfa, members}
use Rattle.pg_match.proofs.StartLemmas.{seeded, unseeded}
use Rattle.pg_match.proofs.automaton.Automaton.advance.Goals as goal
use Rattle.pg_match.proofs.automaton.Automaton.advance.Goals.{then-place-gt0+then-is_none+then-may_begin}
use Rattle.pg_match.proofs.automaton.Automaton.advance.Goals.{else-place-gt0}
use Rattle.pg_match.proofs.automaton.Automaton.advance.Goals.{
  else-place-gt0-via-then-place-gt0+then-is_none+else-may_begin,
}
use Rattle.pg_match.proofs.automaton.Automaton.advance.Goals.{else-place-gt0-via-then-place-gt0+else-is_none}
use Rattle.pg_match.proofs.automaton.Automaton.advance.Goals.{else-place-gt0-via-else-place-gt0}

not_none : (o : Option (ℕ × ℕ)) (r : Bool) → is_some o ≡ not r → r ≡ false → is_none o ≡ false
not_none None r same other = absurd (true≢false (sym (same ∙ ap not other)))
not_none (Some s) r same other = refl

pub returns-clause-advanced : goal.returns-clause-advanced
returns-clause-advanced g c =
    let m = nfa c.args.self.now in
    let l = c.args.line.now in
    let p = c.args.place in
    let x = m.start in
    let B = MayBegin m.bounds l in
    let mid = members c.step.new.next in
    let step = rw (c.deref.ensures.value, c.limit.ensures) at c.step.ensures.stepped in
    let wanted = is_none c.args.best in
    elim c.if-place-gt0.branch [
      | then-place-gt0+then-is_none+then-may_begin w ↦
          let some : 0 < p = w.if-place-gt0.true in
          let seeded = seeded m.states l x p B c.args.self.now.seeds.items c.requires.built.seeds mid _ wanted
          (λ e. omega arith) (λ e. omega (arith, c.requires.place)) (w.may_begin.ensures.0 w.if-may_begin.true)
          w.step_seeds.ensures in
          rw (c.swap.ensures.x_after, w.sets-is) (mid, step, inr (some, seeded))
      | else-place-gt0 w ↦
          rw (c.swap.ensures.x_after, w.sets-is) (
            mid,
            step,
            elim w.else-place-gt0.branch [
              | else-place-gt0-via-then-place-gt0+then-is_none+else-may_begin v ↦
                  inr (
                    v.if-place-gt0.true,
                    unseeded m.states l x p B mid wanted step.good step.closed step.ordered
                        (λ w may. true≢false (sym (v.may_begin.ensures.1 may) ∙ v.if-may_begin.false)),
                  )
              | else-place-gt0-via-then-place-gt0+else-is_none v ↦
                  inr (
                    v.if-place-gt0.true,
                    unseeded m.states l x p B mid wanted step.good step.closed step.ordered
                        (λ is may. true≢false (sym is ∙ not_none c.args.best _ v.is_none.ensures v.if-is_none.false)),
                  )
              | else-place-gt0-via-else-place-gt0 v ↦ inl (omega (arith, v.if-place-gt0.false), refl)
            ],
          )
    ]
