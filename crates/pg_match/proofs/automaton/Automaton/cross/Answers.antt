use Rattle.std.proofs.Common.{◌/◌, ◌+◌, ℕ, get_or, length, arith, refl, subst, sym, true≢false}
use Rattle.std.proofs.lemmas.Option.{slice_get-get_or}
use Rattle.pg_match.specs.Dfas.{In, IsDfaOf}
use Rattle.pg_match.specs.Steps.{Has}
use Rattle.pg_match.specs.Views.{nfa, members, dfa}
use Rattle.pg_match.proofs.StateSetLemmas.{few}
use Rattle.pg_match.proofs.StandsLemmas.{stands_next, run_before}
use Rattle.pg_match.proofs.StartLemmas.{stands_whole}
use Rattle.pg_match.proofs.CacheLemmas.{in_table}
use Rattle.pg_match.proofs.VisitLemmas.{visits_on, visits_later, visits_small, visits_more, told_on}
use Rattle.pg_match.proofs.automaton.Automaton.cross.Goals as goal

pub returns-in-Hit-clause-crossed : goal.returns-in-Hit-clause-crossed
returns-in-Hit-clause-crossed g c = (
  λ t.
      let cursor = c.args.cursor in
      let here = c.requires.cursor in
      run_before (nfa c.args.self.now) c.args.line.now cursor.from cursor.place _
      (In (dfa c.args.cache.now) (cursor.state / 256)) here.stands c.requires.built.runs
      (slice_get-get_or c.args.line.now cursor.place 0 here.within) here.within c.in-Hit.ensures.learned,
  λ run. refl,
)

pub returns-in-Dead-clause-crossed : goal.returns-in-Dead-clause-crossed
returns-in-Dead-clause-crossed g c = (
  λ yes. absurd (true≢false (sym yes)),
  λ run.
      let cursor = c.args.cursor in
      let here = c.requires.cursor in
      let l = c.args.line.now in
      absurd (c.in-Dead.ensures.learned l cursor.from cursor.place here.within here.stands
      (slice_get-get_or l cursor.place 0 here.within) run),
)

pub returns-in-Row-clause-crossed : goal.returns-in-Row-clause-crossed
returns-in-Row-clause-crossed g c =
    let cursor = c.args.cursor in
    let here = c.requires.cursor in
    let l = c.args.line.now in
    let learned = c.in-Row.ensures.learned in (
      omega arith,
      record {
        within = c.requires.more;
        near = omega (arith, here.near);
        row = learned.0;
        stands = stands_next (nfa c.args.self.now) l cursor.from cursor.place _
            (In (dfa c.args.cache.now) (cursor.state / 256))
            (In (dfa c.learn.new.cache) (c.in-Row.state / 256))
            (slice_get-get_or l cursor.place 0 here.within) here.within here.stands learned.2 here.near
            c.requires.built.runs
            learned.1;
      },
      (λ run. run, λ run. run),
    )

pub go_without-requires-clause-stands : goal.go_without-requires-clause-stands
go_without-requires-clause-stands g c =
    let m = nfa c.args.self.now in
    let l = c.args.line.now in
    let from = c.args.cursor.from in
    let p = c.args.cursor.place in
    let here = c.requires.cursor in
    let learned = c.in-Lost.ensures.learned in
    let U = Has (members c.learn.new.sets.current) in
    stands_whole m c.args.self.now.seeds.items c.requires.built.seeds l from (p + 1) U (omega arith) here.near
    (stands_next m l from p _ (In (dfa c.args.cache.now) (c.args.cursor.state / 256)) U
    (slice_get-get_or l p 0 here.within) here.within here.stands learned.1 here.near c.requires.built.runs learned.0)

pub returns-in-Hit-clause-visits : goal.returns-in-Hit-clause-visits
returns-in-Hit-clause-visits g c =
    let n : ℕ = length c.args.self.now.states.items in
    let p = c.args.cursor.place in
    let fewer = few (members c.learn.new.sets.current) c.in-Hit.ensures.room.now in
    let size = c.in-Hit.ensures.room.now_size in
    let v = visits_on p p n c.args.sets.now.visits c.learn.new.sets.visits c.requires.visits (omega arith)
    (omega (arith, c.in-Hit.ensures.visits)) in
    visits_later (p + 1) (length c.args.line.now) n c.learn.new.sets.visits v (omega (arith, c.requires.more))

pub learn-requires-clause-visits : goal.learn-requires-clause-visits
learn-requires-clause-visits g c =
    let size = c.args.self.now.states.ok.0 in
    let low = visits_small c.args.cursor.place (length c.args.self.now.states.items) c.args.sets.now.visits
    c.requires.visits (omega (arith, c.requires.more, c.requires.short)) (omega arith) in
    omega (arith, low)

pub go_without-requires-clause-visits : goal.go_without-requires-clause-visits
go_without-requires-clause-visits g c =
    visits_more _ c.args.sets.now.visits c.learn.new.sets.visits _ c.requires.visits c.in-Lost.ensures.visits

pub returns-in-Dead-clause-visits : goal.returns-in-Dead-clause-visits
returns-in-Dead-clause-visits g c =
    let n : ℕ = length c.args.self.now.states.items in
    let p = c.args.cursor.place in
    let fewer = few (members c.learn.new.sets.current) c.in-Dead.ensures.room.now in
    let size = c.in-Dead.ensures.room.now_size in
    let v = visits_on p p n c.args.sets.now.visits c.learn.new.sets.visits c.requires.visits (omega arith)
    (omega (arith, c.in-Dead.ensures.visits)) in
    visits_later (p + 1) (length c.args.line.now) n c.learn.new.sets.visits v (omega (arith, c.requires.more))

pub returns-in-Row-clause-visits : goal.returns-in-Row-clause-visits
returns-in-Row-clause-visits g c =
    let n : ℕ = length c.args.self.now.states.items in
    let p = c.args.cursor.place in
    let fewer = few (members c.learn.new.sets.current) c.in-Row.ensures.room.now in
    let size = c.in-Row.ensures.room.now_size in
    visits_on p p n c.args.sets.now.visits c.learn.new.sets.visits c.requires.visits (omega arith)
    (omega (arith, c.in-Row.ensures.visits))

pub returns-in-Lost-clause-told : goal.returns-in-Lost-clause-told
returns-in-Lost-clause-told g c = told_on _ _ _ _ _ _ c.learn.ensures.told c.go_without.ensures.told

pub index-requires : goal.index-requires
index-requires g c =
    let size = c.args.cache.now.steps.ok.0 in
    let inside = in_table (nfa c.args.self.now) (dfa c.args.cache.now) c.args.cursor.state
    (get_or c.args.line.now c.args.cursor.place 0) c.requires.cache c.requires.cursor.row
    (c.type_inv.line c.args.cursor.place).fits in
    omega (arith, inside, size)

pub overflow_cast-cursor-2 : goal.overflow_cast-cursor-2
overflow_cast-cursor-2 g c = record {
  fits = omega (arith, c.requires.cursor.row.known, c.requires.cache.shape.few);
}

pub returns-then-index-eq-LOST-clause-cache : goal.returns-then-index-eq-LOST-clause-cache
returns-then-index-eq-LOST-clause-cache g c =
    subst (λ t. IsDfaOf (nfa c.args.self.now) t) (sym c.leave.ensures.same) c.requires.cache

pub returns-in-Lost-clause-cache : goal.returns-in-Lost-clause-cache
returns-in-Lost-clause-cache g c =
    subst (λ t. IsDfaOf (nfa c.args.self.now) t) (sym c.go_without.ensures.same) c.in-Lost.ensures.cache
