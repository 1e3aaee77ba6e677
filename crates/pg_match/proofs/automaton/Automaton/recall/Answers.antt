use Rattle.std.proofs.Common.{◌<◌, ◌+◌, ℕ, length, arith, refl}
use Rattle.std.proofs.lemmas.Option.{slice_get-get_or}
use Rattle.pg_match.specs.Dfas.{In}
use Rattle.pg_match.specs.Views.{nfa, dfa}
use Rattle.pg_match.proofs.StandsLemmas.{stands_first}
use Rattle.pg_match.proofs.CacheLemmas.{at_row}
use Rattle.pg_match.proofs.VisitLemmas.{visits_small, visits_later, visits_on, told_on}
use Rattle.pg_match.proofs.automaton.Automaton.recall.Goals as goal

pub search_first-requires-clause-begun : goal.search_first-requires-clause-begun
search_first-requires-clause-begun g c = (c.first.ensures.full c.if-not-first.true).1

pub search_first-requires-clause-visits : goal.search_first-requires-clause-visits
search_first-requires-clause-visits g c =
    let full = c.first.ensures.full c.if-not-first.true in
    omega (arith, full.0, c.requires.visits)

pub loop-cursor-init : goal.loop-cursor-init
loop-cursor-init g c =
    let table = dfa c.first.new.cache in
    let one = c.first.ensures.some c.if-not-first.false in
    record {
      room = c.first.ensures.room;
      cache = c.first.ensures.cache;
      some = one;
      cursor = record {
        within = omega (arith, c.requires.bytes);
        near = omega arith;
        row = at_row table 256 1 refl one;
        stands = stands_first (nfa c.args.self.now) c.args.line.now (In table 1) (c.first.ensures.cache.first one);
      };
      from = (λ run. run, λ run. run);
      visits = let v = c.first.ensures.visits in omega arith;
      told = c.first.ensures.told;
    }

pub finish-requires-clause-visits : goal.finish-requires-clause-visits
finish-requires-clause-visits g c =
    let size = c.args.self.now.states.ok.0 in
    let here = c.loop-cursor.invariant.cursor in
    visits_small c.loop-cursor.cursor.place (length c.args.self.now.states.items) c.loop-cursor.sets.visits
    c.loop-cursor.invariant.visits (omega (arith, here.within)) (omega arith)

pub returns-then-place-line-clause-exact : goal.returns-then-place-line-clause-exact
returns-then-place-line-clause-exact g c =
    let l = c.args.line.now in
    let p = c.walk-state.result.1 in
    let here = c.loop-cursor.invariant.cursor in
    let from = c.loop-cursor.cursor.from in
    let lt : p < length l = c.walk-state.ensures.within in
    let s = c.walk-state.ensures.stands from here.near here.stands in
    let so = c.finish.ensures.finishes l from p s (slice_get-get_or l p 0 lt) c.if-place-line.true
    (omega (arith, here.near, c.walk-state.ensures.onward)) in
    (λ yes. c.loop-cursor.invariant.from.1 (so.0 yes), λ run. so.1 (c.loop-cursor.invariant.from.0 run))

pub returns-then-place-line-clause-visits : goal.returns-then-place-line-clause-visits
returns-then-place-line-clause-visits g c =
    let n : ℕ = length c.args.self.now.states.items in
    let v = visits_on c.loop-cursor.cursor.place c.walk-state.result.1 n c.loop-cursor.sets.visits
    c.finish.new.sets.visits c.loop-cursor.invariant.visits c.walk-state.ensures.onward c.finish.ensures.visits in
    visits_later (c.walk-state.result.1 + 1) (length c.args.line.now) n c.finish.new.sets.visits v
    (omega (arith, c.if-place-line.true))

pub loop-cursor-preserved : goal.loop-cursor-preserved
loop-cursor-preserved g c =
    let on = c.in-At.ensures in
    let same = c.loop-cursor.invariant.from in
    record {
      room = on.room;
      cache = on.cache;
      some = on.some;
      cursor = on.crossed.1;
      from = (λ run. on.crossed.2.0 (same.0 run), λ run. same.1 (on.crossed.2.1 run));
      visits = on.visits;
      told = omega (arith, c.loop-cursor.invariant.told, on.told);
    }

pub cross-requires-clause-visits : goal.cross-requires-clause-visits
cross-requires-clause-visits g c =
    visits_later c.loop-cursor.cursor.place c.walk-state.result.1 (length c.args.self.now.states.items)
    c.loop-cursor.sets.visits c.loop-cursor.invariant.visits c.walk-state.ensures.onward

pub returns-then-place-line-clause-told : goal.returns-then-place-line-clause-told
returns-then-place-line-clause-told g c =
    told_on _ _ _ _ _ _ c.loop-cursor.invariant.told c.finish.ensures.told

pub returns-in-Found-clause-told : goal.returns-in-Found-clause-told
returns-in-Found-clause-told g c = told_on _ _ _ _ _ _ c.loop-cursor.invariant.told c.cross.ensures.told

pub cross-requires-clause-cursor : goal.cross-requires-clause-cursor
cross-requires-clause-cursor g c =
    let here = c.loop-cursor.invariant.cursor in
    record {
      within = c.walk-state.ensures.within;
      near = omega (arith, here.near, c.walk-state.ensures.onward);
      row = c.walk-state.ensures.row;
      stands = c.walk-state.ensures.stands c.loop-cursor.cursor.from here.near here.stands;
    }

pub returns-then-not-first-clause-told : goal.returns-then-not-first-clause-told
returns-then-not-first-clause-told g c = told_on _ _ _ _ _ _ c.first.ensures.told c.search_first.ensures.told

pub returns-in-Found-clause-exact : goal.returns-in-Found-clause-exact
returns-in-Found-clause-exact g c =
    let so = c.in-Found.ensures.crossed in
    let same = c.loop-cursor.invariant.from in
    (λ yes. same.1 (so.0 yes), λ run. so.1 (same.0 run))
