use Rattle.std.proofs.Common.{◌≡◌, ◌-◌, ◌+◌, ◌*◌, ◌≤◌, arith, length, subst}
use Rattle.pg_match.proofs.SingleStartLemmas.{visits_spared}
use Rattle.pg_match.proofs.VisitLemmas.{visits_joined, visits_small, visits_spare}
use Rattle.pg_match.proofs.automaton.Automaton.finish_first.Goals as goal

pub returns-clause-visits : goal.returns-clause-visits
returns-clause-visits g c =
    let l = length c.args.line.now in
    let n = length c.args.self.now.states.items in
    let p = c.args.run.place in
    let size = c.len-size.result in
    let same : size ≡ n = omega arith in
    let spare_size : c.args.sets.now.visits + 4 * size ≤ p * size = omega (arith, c.if-sets-size.false) in
    let spare = subst (λ k. c.args.sets.now.visits + 4 * k ≤ p * k) same spare_size in
    visits_spared p (l - p) l n _ _ spare c.finish_anchored.ensures.visits (omega (arith, c.requires.run.within))

pub returns-then-line-run-lt-LONG-clause-visits : goal.returns-then-line-run-lt-LONG-clause-visits
returns-then-line-run-lt-LONG-clause-visits g c =
    let l = length c.args.line.now in
    let p = c.args.run.place in
    visits_joined p (l - p + 1) (l + 1) (length c.args.self.now.states.items) _ _ c.requires.visits
    c.finish_by_states.ensures.visits (omega (arith, c.requires.run.within))

pub finish_by_states-requires-clause-visits : goal.finish_by_states-requires-clause-visits
finish_by_states-requires-clause-visits g c =
    let size = c.args.self.now.states.ok.0 in
    visits_small c.args.run.place (length c.args.self.now.states.items) _ (omega (arith, c.requires.visits))
    (omega (arith, c.requires.run.within, c.requires.short)) (omega (arith, size))

pub finish_anchored-requires-clause-visits : goal.finish_anchored-requires-clause-visits
finish_anchored-requires-clause-visits g c =
    let n = length c.args.self.now.states.items in
    let p = c.args.run.place in
    let ok = c.args.self.now.states.ok.0 in
    let size = c.len-size.result in
    let same : size ≡ n = omega (arith, c.len-size.ensures, ok) in
    let spare_size : c.args.sets.now.visits + 4 * size ≤ p * size = omega (arith, c.if-sets-size.false) in
    let spare = subst (λ k. c.args.sets.now.visits + 4 * k ≤ p * k) same spare_size in
    visits_spare p n _ spare (omega (arith, c.requires.run.within, c.requires.short)) (omega (arith, ok))
