use Rattle.std.proofs.Common.{◌-◌, ◌+◌, ◌*◌, ◌<◌, ◌≤◌, Some, arith, length, subst}
use Rattle.std.specs.Option.{IfSome}
use Rattle.pg_match.specs.Anchored.{IsLone}
use Rattle.pg_match.specs.Steps.{Has}
use Rattle.pg_match.specs.Views.{nfa, members, Tells}
use Rattle.pg_match.proofs.AnchoredLemmas.{best_behind}
use Rattle.pg_match.proofs.SingleStartLemmas.{visits_spared}
use Rattle.pg_match.proofs.VisitLemmas.{told_on, visits_joined, visits_spare}
use Rattle.pg_match.proofs.automaton.Automaton.find_long.Given.{Over}
use Rattle.pg_match.proofs.automaton.Automaton.find_long.Goals as goal
use Rattle.pg_match.proofs.automaton.Automaton.find_long.Goals.{After-enter_known-at}
use Rattle.pg_match.proofs.automaton.Automaton.find_long.Goals.{then-from-gt0+in_default, else-from-gt0+else-is_some}

-- what was told until the runs of all starts are followed
entered : (g : Over) (c : After-enter_known-at g) → Tells c.args.sets.now c.enter_known-at.new.sets
entered g c =
    elim c.if-from-gt0.branch [
      | then-from-gt0+in_default w ↦
          told_on _ _ _ _ _ _ w.find_first.ensures.told (rw w.sets-is at c.enter_known-at.ensures.told)
      | else-from-gt0+else-is_some w ↦ rw w.sets-is at c.enter_known-at.ensures.told
    ]

pub returns-clause-best : goal.returns-clause-best
returns-clause-best g c =
    let m = nfa c.args.self.now in
    let l = c.args.line.now in
    let S = Has (members c.find_until-best.new.sets.current) in
    let left = subst (λ o. IfSome o (λ place. (place < c.saturating_sub-far.result)
    × IsLone m l c.args.from place S c.find_until-best.result.0)) c.in-Some-left.is c.find_until-best.ensures.left in
    let alone = subst (λ b. IsLone m l c.args.from c.in-Some-left.place S b) c.in_ok-start.was left.1 in
    best_behind m l c.args.from c.in_ok-start.start (Some (c.in_ok-start.start, c.finish_anchored.result)) alone.0
    alone.1 c.finish_anchored.ensures.longest

pub finish_anchored-requires-clause-visits : goal.finish_anchored-requires-clause-visits
finish_anchored-requires-clause-visits g c =
    let n = length c.args.self.now.states.items in
    let size = c.args.self.now.states.ok.0 in
    let place = c.in-Some-left.place in
    let S = Has (members c.find_until-best.new.sets.current) in
    let left = subst (λ o. IfSome o (λ p. (p < c.saturating_sub-far.result)
    × IsLone (nfa c.args.self.now) c.args.line.now c.args.from p S c.find_until-best.result.0)) c.in-Some-left.is
    c.find_until-best.ensures.left in
    let spare = subst (λ o. IfSome o (λ p. c.find_until-best.new.sets.visits + 4 * n ≤ p * n)) c.in-Some-left.is
    c.find_until-best.ensures.spare in
    visits_spare place n _ spare (omega (arith, left.0, c.requires.short)) (omega arith)

pub returns-clause-visits : goal.returns-clause-visits
returns-clause-visits g c =
    let n = length c.args.self.now.states.items in
    let l = length c.args.line.now in
    let place = c.in-Some-left.place in
    let before = c.find_until-best.new.sets.visits in
    let S = Has (members c.find_until-best.new.sets.current) in
    let left = subst (λ o. IfSome o (λ p. (p < c.saturating_sub-far.result)
    × IsLone (nfa c.args.self.now) c.args.line.now c.args.from p S c.find_until-best.result.0)) c.in-Some-left.is
    c.find_until-best.ensures.left in
    let alone = subst (λ b. IsLone (nfa c.args.self.now) c.args.line.now c.args.from place S b) c.in_ok-start.was
    left.1 in
    let spare = subst (λ o. IfSome o (λ p. before + 4 * n ≤ p * n)) c.in-Some-left.is c.find_until-best.ensures.spare in
    visits_spared place (l - place) l n _ _ spare c.finish_anchored.ensures.visits (omega (arith, alone.2.within))

pub returns-in_default-left-clause-visits : goal.returns-in_default-left-clause-visits
returns-in_default-left-clause-visits g c =
    let l = length c.args.line.now in
    let at = c.enter_known-at.result in
    visits_joined (at + 1) (l - at) (l + 1) (length c.args.self.now.states.items) _ _ c.enter_known-at.ensures.visits
    c.find_until-best.ensures.visits (omega (arith, c.enter_known-at.ensures.place))

pub returns-in-Some-clause-told : goal.returns-in-Some-clause-told
returns-in-Some-clause-told g c = c.find_first.ensures.told

pub returns-in_default-left-clause-told : goal.returns-in_default-left-clause-told
returns-in_default-left-clause-told g c =
    let until = entered g (goal.at.returns-in_default-left-clause-told g c).After-enter_known-at in
    omega (arith, until, c.find_until-best.ensures.told)

pub returns-in_err-start-clause-told : goal.returns-in_err-start-clause-told
returns-in_err-start-clause-told g c =
    let until = entered g (goal.at.returns-in_err-start-clause-told g c).After-enter_known-at in
    omega (arith, until, c.find_until-best.ensures.told)

pub returns-clause-told : goal.returns-clause-told
returns-clause-told g c =
    let until = entered g (goal.at.returns-clause-told g c).After-enter_known-at in
    omega (arith, until, c.find_until-best.ensures.told, c.finish_anchored.ensures.told)
