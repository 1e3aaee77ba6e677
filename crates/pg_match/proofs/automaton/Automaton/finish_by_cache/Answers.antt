use Rattle.std.proofs.Common.{◌-◌, ◌+◌, ◌∙◌, arith, length, Some, subst}
use Rattle.pg_match.specs.Anchored.{IsLongestFrom}
use Rattle.pg_match.specs.Views.{nfa, dfa}
use Rattle.pg_match.proofs.VisitLemmas.{told_on, visits_since}
use Rattle.pg_match.proofs.SingleStartLemmas.{follows_keeps, follows_anchored, visits_less, visits_step, visits_sum}
use Rattle.pg_match.proofs.automaton.Automaton.finish_by_cache.Goals as goal

pub follow_cached-state-requires-clause-follows : goal.follow_cached-state-requires-clause-follows
follow_cached-state-requires-clause-follows g c =
    let a = c.args in
    follows_anchored (nfa a.self.now) (dfa a.cache.now) a.line.now a.run.start a.run.place a.run.last a.row
    c.requires.known c.requires.run

pub cached_step-requires-clause-follows : goal.cached_step-requires-clause-follows
cached_step-requires-clause-follows g c =
    let at = c.loop-at.at in
    follows_keeps (nfa c.args.self.now) (dfa c.loop-at.cache) (dfa c.learn_alone.new.cache)
    c.args.line.now at.start at.place c.loop-at.state (Some at.last) c.learn_alone.ensures.keeps
    c.loop-at.invariant.follows

pub finish_uncached-requires-clause-follows : goal.finish_uncached-requires-clause-follows
finish_uncached-requires-clause-follows g c =
    let at = c.loop-at.at in
    follows_keeps (nfa c.args.self.now) (dfa c.loop-at.cache) (dfa c.learn_alone.new.cache)
    c.args.line.now at.start at.place c.loop-at.state (Some at.last) c.learn_alone.ensures.keeps
    c.loop-at.invariant.follows

pub learn_alone-requires-clause-visits : goal.learn_alone-requires-clause-visits
learn_alone-requires-clause-visits g c =
    let at = c.loop-at.at.place in
    let seen = visits_since (at - c.args.run.place) (length c.args.self.now.states.items) c.args.sets.now.visits
    c.loop-at.sets.visits c.loop-at.invariant.visits c.requires.visits
    (omega (arith, c.loop-at.invariant.follows.within, c.requires.short)) (omega arith) in
    omega (arith, seen)

pub finish_uncached-requires-clause-visits : goal.finish_uncached-requires-clause-visits
finish_uncached-requires-clause-visits g c =
    let at = c.loop-at.at.place in
    let seen = visits_since (at - c.args.run.place) (length c.args.self.now.states.items) c.args.sets.now.visits
    c.loop-at.sets.visits c.loop-at.invariant.visits c.requires.visits
    (omega (arith, c.loop-at.invariant.follows.within, c.requires.short)) (omega arith) in
    omega (arith, seen, c.learn_alone.ensures.visits)

pub finish_uncached-requires-2-clause-visits : goal.finish_uncached-requires-2-clause-visits
finish_uncached-requires-2-clause-visits g c =
    let at = c.loop-at.at.place in
    let seen = visits_since (at - c.args.run.place) (length c.args.self.now.states.items) c.args.sets.now.visits
    c.loop-at.sets.visits c.loop-at.invariant.visits c.requires.visits
    (omega (arith, c.loop-at.invariant.follows.within, c.requires.short)) (omega arith) in
    omega (arith, seen)

pub returns-in_default-clause-longest : goal.returns-in_default-clause-longest
returns-in_default-clause-longest g c =
    subst (λ s. IsLongestFrom (nfa c.args.self.now) c.args.line.now s c.finish_uncached.result)
    c.loop-at.invariant.start c.finish_uncached.ensures.longest

pub returns-in_default-clause-visits : goal.returns-in_default-clause-visits
returns-in_default-clause-visits g c =
    let i = c.loop-at.invariant in
    let n = length c.args.self.now.states.items in
    let at = c.loop-at.at.place in
    let learned = visits_step (at - c.args.run.place) n _ _ _ i.visits c.learn_alone.ensures.visits in
    visits_sum (at - c.args.run.place + 1) (length c.args.line.now - at + 1)
    (length c.args.line.now - c.args.run.place + 2) n _ _ _ learned c.finish_uncached.ensures.visits
    (omega (arith, i.onward, i.follows.within))

pub loop-at-preserved : goal.loop-at-preserved
loop-at-preserved g c =
    let i = c.loop-at.invariant in
    let n = length c.args.self.now.states.items in
    let at = c.loop-at.at.place in
    let known = c.learn_alone.ensures in
    let step = c.in-Some.ensures in
    let further = c.follow_cached-further.ensures in
    record {
      room = known.room;
      cache = known.cache;
      some = known.some;
      start = further.start ∙ (step.start ∙ i.start);
      onward = omega (arith, i.onward, step.place, further.onward);
      follows = further.follows;
      visits = visits_less (at - c.args.run.place + 1) (c.follow_cached-further.result.1.place - c.args.run.place) n _ _
          (visits_step (at - c.args.run.place) n _ _ _ i.visits known.visits)
          (omega (arith, i.onward, step.place, further.onward));
      told = told_on _ _ _ _ _ _ i.told known.told;
    }

pub returns-clause-longest : goal.returns-clause-longest
returns-clause-longest g c =
    subst (λ s. IsLongestFrom (nfa c.args.self.now) c.args.line.now s c.finish_uncached-2.result)
    c.loop-at.invariant.start c.finish_uncached-2.ensures.longest

pub returns-clause-visits : goal.returns-clause-visits
returns-clause-visits g c =
    let i = c.loop-at.invariant in
    let at = c.loop-at.at.place in
    visits_sum (at - c.args.run.place) (length c.args.line.now - at + 1)
    (length c.args.line.now - c.args.run.place + 2) (length c.args.self.now.states.items) _ _ _ i.visits
    c.finish_uncached-2.ensures.visits (omega (arith, i.onward, i.follows.within))
