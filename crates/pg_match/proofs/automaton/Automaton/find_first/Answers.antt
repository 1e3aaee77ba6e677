use Rattle.std.proofs.Common.{◌/◌, ◌-◌, ◌+◌, ◌∙◌, arith, length, subst}
use Rattle.pg_match.specs.Anchored.{IsLastEnd}
use Rattle.pg_match.specs.Dfas.{In}
use Rattle.pg_match.specs.Steps.{Has}
use Rattle.pg_match.specs.Views.{nfa, members, dfa}
use Rattle.pg_match.proofs.AnchoredLemmas.{start_row_few}
use Rattle.pg_match.proofs.SingleStartLemmas.{stands_same}
use Rattle.pg_match.proofs.VisitLemmas.{if_none, most_fits, most_more, most_spared, none_more, spared_more}
use Rattle.pg_match.proofs.VisitLemmas.{visits_few, visits_joined}
use Rattle.pg_match.proofs.automaton.Automaton.find_first.Goals as goal

pub returns-in-Some-clause-visits : goal.returns-in-Some-clause-visits
returns-in-Some-clause-visits g c =
    let l = length c.args.line.now in
    let f = c.follow_start-state in
    let ended = subst (IsLastEnd (nfa c.args.self.now) c.args.line.now c.args.start f.result.place) c.in-Some.is
    f.ensures.found in
    visits_joined c.args.start (l - f.result.place + 2) (l + 1) (length c.args.self.now.states.items) _ _
    c.requires.visits c.finish_by_cache.ensures.visits (omega (arith, ended.0, ended.1, f.ensures.within))

pub follow_start-state-requires-clause-known : goal.follow_start-state-requires-clause-known
follow_start-state-requires-clause-known g c = omega (arith, start_row_few c.args.start)

pub finish_first-requires-clause-visits : goal.finish_first-requires-clause-visits
finish_first-requires-clause-visits g c =
    let f = c.follow_start-state in
    let run = c.in_ok-run.ensures in
    let end = c.in_ok-run.run' in
    visits_joined c.args.start (end.place - f.result.place) end.place (length c.args.self.now.states.items) _ _
    c.requires.visits run.visits (omega (arith, f.ensures.onward, run.run.1))

pub follow_until_end-requires-clause-stands : goal.follow_until_end-requires-clause-stands
follow_until_end-requires-clause-stands g c =
    let f = c.follow_start-state in
    stands_same (nfa c.args.self.now) c.args.line.now c.args.start f.result.place
    (In (dfa c.args.cache.now) (f.result.state / 256)) (Has (members c.load.new.set)) c.load.ensures.same
    f.ensures.stands

pub overflow_mul-most : goal.overflow_mul-most
overflow_mul-most g c =
    let states = c.args.self.now.states in
    let size = states.ok.0 in
    let fits = most_fits c.args.start c.max.result (length states.items) c.len.result (c.len.ensures ∙ size)
    c.max.ensures (omega (arith, c.requires.start_in, c.requires.short)) (omega arith) in
    omega (arith, fits)

pub follow_until_end-requires-clause-visits : goal.follow_until_end-requires-clause-visits
follow_until_end-requires-clause-visits g c =
    let states = c.args.self.now.states in
    let size = states.ok.0 in
    let same = c.len.ensures ∙ size in (
      most_more c.args.start c.max.result (length states.items) c.len.result _ same c.max.ensures c.requires.visits,
      most_fits c.args.start c.max.result (length states.items) c.len.result same c.max.ensures
          (omega (arith, c.requires.start_in, c.requires.short)) (omega arith),
    )

pub returns-then-not-may_begin-clause-spared : goal.returns-then-not-may_begin-clause-spared
returns-then-not-may_begin-clause-spared g c = spared_more c.args.start _ _ c.requires.visits

pub returns-then-start-line-clause-spared : goal.returns-then-start-line-clause-spared
returns-then-start-line-clause-spared g c = spared_more c.args.start _ _ c.requires.visits

pub finish_by_cache-requires-clause-visits : goal.finish_by_cache-requires-clause-visits
finish_by_cache-requires-clause-visits g c =
    let few = visits_few c.args.start _ _ c.requires.visits (omega (arith, c.requires.start_in, c.requires.short))
    (omega (arith, c.args.self.now.states.ok.0)) in
    omega (arith, few)

pub returns-clause-visits : goal.returns-clause-visits
returns-clause-visits g c = c.finish_first.ensures.visits

pub returns-in_err-run-clause-spared : goal.returns-in_err-run-clause-spared
returns-in_err-run-clause-spared g c =
    let same = c.len.ensures ∙ c.args.self.now.states.ok.0 in
    if_none _ _ (most_spared c.args.start c.max.result _ c.len.result _ same c.max.ensures
    c.follow_until_end.ensures.most)

pub returns-clause-spared : goal.returns-clause-spared
returns-clause-spared g c =
    let same = c.len.ensures ∙ c.args.self.now.states.ok.0 in
    none_more _ c.finish_first.result _ _ _ c.finish_first.ensures.none
    (most_spared c.args.start c.max.result _ c.len.result _ same c.max.ensures c.follow_until_end.ensures.most)
