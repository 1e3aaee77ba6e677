use Rattle.pg_match.proofs.automaton.Automaton.study.Goals.{then-from-eq0, else-from-eq0}
use Rattle.std.proofs.Common.{◌≤◌, ◌∙◌, length, arith, subst, refl}
use Rattle.pg_match.specs.Views.{members}
use Rattle.pg_match.proofs.StateSetLemmas.{few}
use Rattle.pg_match.proofs.VisitLemmas.{visits_after, most_small, within_most, within_room, visits_whole}
use Rattle.pg_match.proofs.automaton.Automaton.study.Goals as goal

pub first-requires-clause-visits : goal.first-requires-clause-visits
first-requires-clause-visits g c =
    let size = c.args.self.now.states.ok.0 in
    within_most _ (length c.args.self.now.states.items) _ _ (c.len-size.ensures ∙ size)
    c.requires.short (omega arith) c.if-sets-most.false

pub finish-requires-clause-visits : goal.finish-requires-clause-visits
finish-requires-clause-visits g c =
    let size = c.args.self.now.states.ok.0 in
    within_most _ (length c.args.self.now.states.items) _ _ (c.len-size.ensures ∙ size)
    c.requires.short (omega arith) c.if-sets-most-2.false

pub learn-requires-clause-visits : goal.learn-requires-clause-visits
learn-requires-clause-visits g c =
    let size = c.args.self.now.states.ok.0 in
    within_room _ (length c.args.self.now.states.items) _ _ (c.len-size.ensures ∙ size)
    c.requires.short (omega arith) c.if-sets-most-2.false

pub returns-then-here-line-clause-visits : goal.returns-then-here-line-clause-visits
returns-then-here-line-clause-visits g c =
    visits_whole _ _ _ _ _ (c.len-size.ensures ∙ c.args.self.now.states.ok.0)
    c.if-sets-most-2.false c.finish.ensures.visits

pub returns-in-Lost-clause-visits : goal.returns-in-Lost-clause-visits
returns-in-Lost-clause-visits g c =
    let u = members c.learn.new.sets.current in
    let room = c.learn.ensures.room in
    visits_after _ _ _ _ _ u.len (c.len-size.ensures ∙ c.args.self.now.states.ok.0)
    c.if-sets-most-2.false c.learn.ensures.visits
    (subst (λ n. u.len ≤ n) room.now_size (few u room.now))

pub loop-sets-preserved : goal.loop-sets-preserved
loop-sets-preserved g c =
    let fewer = few (members c.learn.new.sets.current) c.in-Row.ensures.room.now in
    let size = c.in-Row.ensures.room.now_size in
    record {
      room = c.in-Row.ensures.room;
      cache = c.in-Row.ensures.cache;
      some = c.in-Row.ensures.some;
      within = omega (arith, c.walk-at.ensures.within, c.if-here-line.false);
      row = c.in-Row.ensures.learned.0;
      visits = visits_after (length c.args.line.now)
          (length c.args.self.now.states.items) c.len-size.result c.loop-sets.sets.visits c.learn.new.sets.visits _
          (c.len-size.ensures ∙ c.args.self.now.states.ok.0) c.if-sets-most-2.false
          c.in-Row.ensures.visits (omega arith);
      told = omega (arith, c.loop-sets.invariant.told, c.in-Row.ensures.told);
    }

pub returns-in-Hit : goal.returns-in-Hit
returns-in-Hit g c =
    let fewer = few (members c.learn.new.sets.current) c.learn.ensures.room.now in
    let size = c.learn.ensures.room.now_size in
    record {
      room = c.learn.ensures.room;
      cache = c.learn.ensures.cache;
      visits = visits_after (length c.args.line.now)
          (length c.args.self.now.states.items) c.len-size.result c.loop-sets.sets.visits c.learn.new.sets.visits _
          (c.len-size.ensures ∙ c.args.self.now.states.ok.0) c.if-sets-most-2.false
          c.learn.ensures.visits (omega arith);
      told = omega (arith, c.loop-sets.invariant.told, c.learn.ensures.told);
    }

pub overflow_cast-size : goal.overflow_cast-size
overflow_cast-size g c = omega arith

pub overflow_cast-most : goal.overflow_cast-most
overflow_cast-most g c = omega arith

pub overflow_add-here : goal.overflow_add-here
overflow_add-here g c = omega arith

pub bounds-line-here : goal.bounds-line-here
bounds-line-here g c = omega arith

pub overflow_cast-at : goal.overflow_cast-at
overflow_cast-at g c = omega arith

pub bounds-line-here-in-loop-sets : goal.bounds-line-here-in-loop-sets
bounds-line-here-in-loop-sets g c = omega arith

pub overflow_add-place : goal.overflow_add-place
overflow_add-place g c = omega arith

pub loop-sets-smaller : goal.loop-sets-smaller
loop-sets-smaller g c = omega arith

pub overflow_sub-line : goal.overflow_sub-line
overflow_sub-line g c = omega arith

pub walk-at-requires-clause-from_in : goal.walk-at-requires-clause-from_in
walk-at-requires-clause-from_in g c = omega arith

pub returns-then-sets-most-2-clause-visits : goal.returns-then-sets-most-2-clause-visits
returns-then-sets-most-2-clause-visits g c = omega arith

pub finish-requires-clause-some : goal.finish-requires-clause-some
finish-requires-clause-some g c = omega arith

pub learn-requires-clause-known : goal.learn-requires-clause-known
learn-requires-clause-known g c = omega arith

pub learn-requires-clause-some : goal.learn-requires-clause-some
learn-requires-clause-some g c = omega arith

pub returns-in-Lost-clause-cache : goal.returns-in-Lost-clause-cache
returns-in-Lost-clause-cache g c = rw c.lose-in-Lost.ensures c.in-Lost.ensures.cache

pub overflow_mul-most : goal.overflow_mul-most
overflow_mul-most g c =
    let small = most_small (length c.args.line.now) (length c.args.self.now.states.items) c.len-size.result
    (c.len-size.ensures ∙ c.args.self.now.states.ok.0) c.requires.short (omega arith) in
    omega arith

pub loop-sets-init : goal.loop-sets-init
loop-sets-init g c =
    let first = c.first.ensures in
    let some : 1 ≤ c.first.new.cache.count = first.some cc in
    record {
      room = first.room;
      cache = first.cache;
      some = some;
      within = omega arith;
      row = elim c.if-from-eq0.branch [
        | then-from-eq0 w ↦ rw w.state-is (record { row = refl; known = some })
        | else-from-eq0 w ↦ rw w.state-is (record { row = refl; known = omega arith })
      ];
      visits = visits_whole _ _ _ _ _ (c.len-size.ensures ∙ c.args.self.now.states.ok.0) c.if-sets-most.false
          first.visits;
      told = first.told;
    }

pub returns-then-here-line-clause-told : goal.returns-then-here-line-clause-told
returns-then-here-line-clause-told g c = omega (arith, c.loop-sets.invariant.told, c.finish.ensures.told)

pub returns-in-Lost-clause-told : goal.returns-in-Lost-clause-told
returns-in-Lost-clause-told g c = omega (arith, c.loop-sets.invariant.told, c.learn.ensures.told)
