use Rattle.std.proofs.Common.{◌≡◌, ℕ, ◌+◌, ◌≤◌, ◌/◌, false, arith, subst}
use Rattle.pg_match.specs.Dfas.{In}
use Rattle.pg_match.specs.Steps.{Has}
use Rattle.pg_match.specs.Views.{nfa, members, dfa}
use Rattle.pg_match.proofs.StateSetLemmas.{few}
use Rattle.pg_match.proofs.CacheLemmas.{finishes_hit, finishes_end, settled_finishes, settles_dead, answers_same}
use Rattle.pg_match.proofs.CacheLemmas.{dfa_marked_end}
use Rattle.pg_match.proofs.automaton.Automaton.finish.Goals as goal

visits_by : (n v w k : ℕ) → w ≤ v + k → k ≤ n → w ≤ v + n
visits_by n v w k more few = omega arith

visits_end : (n v w u k j : ℕ) → u ≤ v + k → w + k ≡ u + j → j ≤ n → w ≤ v + n
visits_end n v w u k j more same few = omega arith

pub returns-in-Hit-clause-visits : goal.returns-in-Hit-clause-visits
returns-in-Hit-clause-visits g c =
    let u = members c.learn.new.sets.current in
    let room = c.in-Hit.ensures.room in
    visits_by _ _ _ u.len c.in-Hit.ensures.visits (subst (λ n. u.len ≤ n) room.now_size (few u room.now))

pub returns-in-Row-clause-visits : goal.returns-in-Row-clause-visits
returns-in-Row-clause-visits g c =
    let u = members c.learn.new.sets.current in
    let w = members c.hits_at_end-answer.new.sets.current in
    let room = c.hits_at_end-answer.ensures.room in
    visits_end _ _ _ c.learn.new.sets.visits u.len w.len c.in-Row.ensures.visits c.hits_at_end-answer.ensures.visits
    (subst (λ n. w.len ≤ n) room.now_size (few w room.now))

pub returns-in-Lost-clause-visits : goal.returns-in-Lost-clause-visits
returns-in-Lost-clause-visits g c =
    let u = members c.learn.new.sets.current in
    let w = members c.hits_at_end.new.sets.current in
    let room = c.hits_at_end.ensures.room in
    visits_end _ _ _ c.learn.new.sets.visits u.len w.len c.in-Lost.ensures.visits c.hits_at_end.ensures.visits
    (subst (λ n. w.len ≤ n) room.now_size (few w room.now))

pub returns-in-Dead-clause-visits : goal.returns-in-Dead-clause-visits
returns-in-Dead-clause-visits g c =
    let u = members c.learn.new.sets.current in
    let room = c.in-Dead.ensures.room in
    visits_by _ _ _ u.len c.in-Dead.ensures.visits (subst (λ n. u.len ≤ n) room.now_size (few u room.now))

pub returns-in-Dead-clause-finishes : goal.returns-in-Dead-clause-finishes
returns-in-Dead-clause-finishes g c =
    let m = nfa c.args.self.now in
    let S = In (dfa c.args.cache.now) (c.args.state / 256) in
    settled_finishes m c.args.byte S false (settles_dead m c.args.byte S c.in-Dead.ensures.learned)

pub returns-in-Hit-clause-finishes : goal.returns-in-Hit-clause-finishes
returns-in-Hit-clause-finishes g c =
    finishes_hit (nfa c.args.self.now) c.args.byte
    (In (dfa c.args.cache.now) (c.args.state / 256)) c.requires.built.runs c.in-Hit.ensures.learned

pub returns-in-Row-clause-cache : goal.returns-in-Row-clause-cache
returns-in-Row-clause-cache g c =
    let m = nfa c.args.self.now in
    let mid = dfa c.learn.new.cache in
    let u = members c.learn.new.sets.current in
    let k = c.in-Row.to / 256 in
    let learned = c.in-Row.ensures.learned in
    dfa_marked_end m mid (dfa c.mark_end.new.self) k c.hits_at_end-answer.result c.in-Row.ensures.cache
    c.mark_end.ensures.marked
    learned.0.known (answers_same m false (Has u)
    (In mid k) c.hits_at_end-answer.result learned.3 c.hits_at_end-answer.ensures.answer)

pub returns-in-Row-clause-finishes : goal.returns-in-Row-clause-finishes
returns-in-Row-clause-finishes g c =
    let m = nfa c.args.self.now in
    let mid = dfa c.learn.new.cache in
    let u = members c.learn.new.sets.current in
    let k = c.in-Row.to / 256 in
    let learned = c.in-Row.ensures.learned in
    finishes_end m c.args.byte (In (dfa c.args.cache.now) (c.args.state / 256))
    (In mid k) c.hits_at_end-answer.result c.requires.built.runs learned.1 learned.2
    (answers_same m false (Has u) (In mid k) c.hits_at_end-answer.result learned.3 c.hits_at_end-answer.ensures.answer)

pub returns-in-Lost-clause-finishes : goal.returns-in-Lost-clause-finishes
returns-in-Lost-clause-finishes g c =
    let learned = c.in-Lost.ensures.learned in
    finishes_end (nfa c.args.self.now) c.args.byte (In (dfa c.args.cache.now) (c.args.state / 256))
    (Has (members c.learn.new.sets.current)) _ c.requires.built.runs
    learned.0 learned.1 c.hits_at_end.ensures.answer

pub overflow_cast-state : goal.overflow_cast-state
overflow_cast-state g c = omega arith

pub overflow_cast-to : goal.overflow_cast-to
overflow_cast-to g c = omega arith

pub returns-in-Some-clause-visits : goal.returns-in-Some-clause-visits
returns-in-Some-clause-visits g c = omega arith

pub learn-requires-clause-known : goal.learn-requires-clause-known
learn-requires-clause-known g c = omega arith

pub learn-requires-clause-some : goal.learn-requires-clause-some
learn-requires-clause-some g c = omega arith

pub learn-requires-clause-visits : goal.learn-requires-clause-visits
learn-requires-clause-visits g c = omega arith

pub mark_end-requires-clause-size : goal.mark_end-requires-clause-size
mark_end-requires-clause-size g c = omega arith

pub mark_end-requires-clause-row : goal.mark_end-requires-clause-row
mark_end-requires-clause-row g c = omega (arith, c.in-Row.ensures.learned.0.known, c.learn.ensures.cache.shape.few)

pub hits_at_end-answer-requires-clause-visits : goal.hits_at_end-answer-requires-clause-visits
hits_at_end-answer-requires-clause-visits g c =
    let fewer = few (members c.learn.new.sets.current) c.learn.ensures.room.now in
    omega (arith, c.learn.ensures.visits, fewer, c.learn.ensures.room.now_size, c.args.self.now.states.ok.0)

pub hits_at_end-requires-clause-visits : goal.hits_at_end-requires-clause-visits
hits_at_end-requires-clause-visits g c =
    let fewer = few (members c.learn.new.sets.current) c.learn.ensures.room.now in
    omega (arith, c.learn.ensures.visits, fewer, c.learn.ensures.room.now_size, c.args.self.now.states.ok.0)
