use Rattle.std.proofs.Common.{◌∙◌, length, arith, refl}
use Rattle.pg_match.proofs.AnchoredLemmas.{start_row_few}
use Rattle.pg_match.specs.Views.{dfa}
use Rattle.pg_match.proofs.CacheLemmas.{at_row}
use Rattle.pg_match.proofs.VisitLemmas.{told_on, within_most, within_room, visits_whole}
use Rattle.pg_match.proofs.automaton.Automaton.study_from.Goals as goal

pub loop-cache-init : goal.loop-cache-init
loop-cache-init g c = record {
  room = c.requires.room;
  cache = c.requires.cache;
  visits = c.requires.visits;
  told = refl;
}

pub loop-cache-preserved : goal.loop-cache-preserved
loop-cache-preserved g c =
    let added = c.first_alone.ensures in
    record {
      room = added.room;
      cache = added.cache;
      visits = visits_whole _ _ _ _ _ (c.len-size.ensures ∙ c.args.self.now.states.ok.0) c.if-sets-most.false
          added.visits;
      told = told_on _ _ _ _ _ _ c.loop-cache.invariant.told added.told;
    }

pub loop-cache-smaller : goal.loop-cache-smaller
loop-cache-smaller g c =
    let more = c.first_alone.ensures.more c.if-not-first_alone.false in omega (arith, c.loop-cache-test.true)

pub loop-place-init : goal.loop-place-init
loop-place-init g c =
    let kept = c.loop-cache.invariant in
    record {
      room = kept.room;
      cache = kept.cache;
      some = c.loop-cache-test.false;
      row = c.walk_alone-state.ensures.row;
      visits = kept.visits;
      told = kept.told;
    }

pub loop-place-preserved : goal.loop-place-preserved
loop-place-preserved g c =
    let learned = c.in-Some.ensures in
    record {
      room = learned.room;
      cache = learned.cache;
      some = learned.some;
      row = c.walk_alone-at.ensures.row;
      visits = visits_whole _ _ _ _ _ (c.len-size.ensures ∙ c.args.self.now.states.ok.0) c.if-sets-most-2.false
          learned.visits;
      told = omega (arith, c.loop-place.invariant.told, learned.told);
    }

pub first_alone-requires-clause-visits : goal.first_alone-requires-clause-visits
first_alone-requires-clause-visits g c =
    let size = c.args.self.now.states.ok.0 in
    within_most _ (length c.args.self.now.states.items) _ _ (c.len-size.ensures ∙ size)
    c.requires.short (omega arith) c.if-sets-most.false

pub learn_alone-requires-clause-visits : goal.learn_alone-requires-clause-visits
learn_alone-requires-clause-visits g c =
    let size = c.args.self.now.states.ok.0 in
    within_room _ (length c.args.self.now.states.items) _ _ (c.len-size.ensures ∙ size)
    c.requires.short (omega arith) c.if-sets-most-2.false

pub returns-then-not-first_alone-clause-visits : goal.returns-then-not-first_alone-clause-visits
returns-then-not-first_alone-clause-visits g c =
    visits_whole _ _ _ _ _ (c.len-size.ensures ∙ c.args.self.now.states.ok.0) c.if-sets-most.false
    c.first_alone.ensures.visits

pub returns-then-not-first_alone-clause-told : goal.returns-then-not-first_alone-clause-told
returns-then-not-first_alone-clause-told g c =
    told_on _ _ _ _ _ _ c.loop-cache.invariant.told c.first_alone.ensures.told

pub returns-in-None-clause-visits : goal.returns-in-None-clause-visits
returns-in-None-clause-visits g c =
    visits_whole _ _ _ _ _ (c.len-size.ensures ∙ c.args.self.now.states.ok.0) c.if-sets-most-2.false
    c.in-None.ensures.visits

pub returns-in-None-clause-told : goal.returns-in-None-clause-told
returns-in-None-clause-told g c = told_on _ _ _ _ _ _ c.loop-place.invariant.told c.in-None.ensures.told

pub returns-then-sets-most-3-clause-visits : goal.returns-then-sets-most-3-clause-visits
returns-then-sets-most-3-clause-visits g c =
    visits_whole _ _ _ _ _ (c.len-size.ensures ∙ c.args.self.now.states.ok.0) c.if-sets-most-3.true
    c.learn_end.ensures.visits

pub returns-then-sets-most-3-clause-told : goal.returns-then-sets-most-3-clause-told
returns-then-sets-most-3-clause-told g c = told_on _ _ _ _ _ _ c.loop-place.invariant.told c.learn_end.ensures.told

pub learn_end-requires-clause-visits : goal.learn_end-requires-clause-visits
learn_end-requires-clause-visits g c =
    let size = c.args.self.now.states.ok.0 in
    within_most _ (length c.args.self.now.states.items) _ _ (c.len-size.ensures ∙ size)
    c.requires.short (omega arith) c.if-sets-most-3.true

pub walk_alone-state-requires-clause-row : goal.walk_alone-state-requires-clause-row
walk_alone-state-requires-clause-row g c =
    let few = start_row_few c.args.start in
    at_row (dfa c.loop-cache.cache) _ c.start_row.result refl
    (omega (arith, few, c.start_row.ensures, c.loop-cache-test.false))

pub walk_alone-at-requires-clause-row : goal.walk_alone-at-requires-clause-row
walk_alone-at-requires-clause-row g c =
    at_row (dfa c.learn_alone.new.cache) _ c.in-Some.next refl c.in-Some.ensures.known
