use Rattle.std.proofs.Common.{◌/◌, ◌∙◌, ◌≤◌, IsTrue, false, length, arith, sym, refl, true≢false}
use Rattle.std.proofs.lemmas.Option.{slice_get-get_or}
use Rattle.pg_match.specs.Dfas.{In}
use Rattle.pg_match.specs.Stands.{NoneBefore}
use Rattle.pg_match.specs.Starts.{WithSeeds}
use Rattle.pg_match.specs.Steps.{Has}
use Rattle.pg_match.specs.Views.{nfa, members, dfa}
use Rattle.pg_match.proofs.CursorLemmas.{stands_begun, runs_same, crosses_from}
use Rattle.pg_match.proofs.StandsLemmas.{stands_next, run_before}
use Rattle.pg_match.proofs.StartLemmas.{goes_whole, plain_whole}
use Rattle.pg_match.proofs.CacheLemmas.{stands_at}
use Rattle.pg_match.proofs.VisitLemmas.{visits_small, visits_later, visits_more, visits_from, product_fits}
use Rattle.pg_match.proofs.automaton.Automaton.leave.Goals as goal
use Rattle.pg_match.proofs.automaton.Automaton.leave.Goals.{in-Known, in-Known-2}

pub go_without-requires-clause-stands : goal.go_without-requires-clause-stands
go_without-requires-clause-stands g c =
    stands_begun (nfa c.args.self.now) c.args.self.now.seeds.items c.requires.built.seeds c.args.line.now
    c.match-scan.start
    (Has (members c.clear.new.self)) (omega (arith, c.if-start-gt0.true))
    (λ q h. (let e = c.clear.ensures.empty.1 q in omega arith))

pub returns-then-sets-start-clause-crossed : goal.returns-then-sets-start-clause-crossed
returns-then-sets-start-clause-crossed g c =
    let m = nfa c.args.self.now in
    let l = c.args.line.now in
    let from = c.args.cursor.from in
    let start = c.match-scan.start in
    let known : (from ≤ start) × NoneBefore m l from start = elim c.match-scan.branch [
      | in-Known w ↦ rw w.start-is (w.in-Known.ensures.0, w.in-Known.ensures.2)
      | in-Known-2 w ↦ rw w.start-is (w.in-Known.ensures.0, w.in-Known.ensures.2)
    ] in
    crosses_from m (dfa c.args.cache.now) l c.args.cursor
    (record { from = start; place = c.args.cursor.place; state = c.args.cursor.state }) c.go_without.result refl
    (runs_same m l from start known.0 known.1) c.go_without.ensures.crossed

pub returns-then-hits_before-clause-crossed : goal.returns-then-hits_before-clause-crossed
returns-then-hits_before-clause-crossed g c = (
  λ t.
      let m = nfa c.args.self.now in
      let l = c.args.line.now in
      let cursor = c.args.cursor in
      let S = Has (members c.load.new.set) in
      let here = c.requires.cursor in
      let s = stands_at m l cursor.from cursor.place (In (dfa c.args.cache.now) (cursor.state / 256)) S
      c.load.ensures.same here.stands in
      run_before m l cursor.from cursor.place _ S s c.requires.built.runs
      (slice_get-get_or l cursor.place 0 here.within)
      here.within (c.hits_before.ensures.0 c.if-hits_before.true),
  λ run. refl,
)

pub go_without-requires-2-clause-stands : goal.go_without-requires-2-clause-stands
go_without-requires-2-clause-stands g c =
    let m = nfa c.args.self.now in
    let l = c.args.line.now in
    let from = c.args.cursor.from in
    let p = c.args.cursor.place in
    let here = c.requires.cursor in
    let S = Has (members c.load.new.set) in
    let seeds = c.args.self.now.seeds.items in
    let byte = slice_get-get_or l p 0 here.within in
    let s = stands_at m l from p (In (dfa c.args.cache.now) (c.args.cursor.state / 256)) S c.load.ensures.same
    here.stands in
    let none = plain_whole seeds S in
    stands_next m l from p _ (WithSeeds seeds (IsTrue false) S) _ byte here.within
    (stands_at m l from p S (WithSeeds seeds (IsTrue false) S) none s)
    (goes_whole m seeds c.requires.built.seeds l p _ _ S (Has (members c.go_on.new.sets.current)) byte
    c.go_on.ensures.goes)
    here.near c.requires.built.runs
    (λ h. true≢false (sym (c.hits_before.ensures.1 ((none 0).1 h.0, h.1)) ∙ c.if-hits_before.false))

pub returns-in-NoHit-clause-visits : goal.returns-in-NoHit-clause-visits
returns-in-NoHit-clause-visits g c =
    visits_later c.args.cursor.place (length c.args.line.now) (length c.args.self.now.states.items)
    c.args.sets.now.visits c.requires.visits (omega (arith, c.requires.cursor.within))

pub returns-then-hits_before-clause-visits : goal.returns-then-hits_before-clause-visits
returns-then-hits_before-clause-visits g c =
    visits_later c.args.cursor.place (length c.args.line.now) (length c.args.self.now.states.items)
    c.args.sets.now.visits c.requires.visits (omega (arith, c.requires.cursor.within))

pub go_without-requires-2-clause-visits : goal.go_without-requires-2-clause-visits
go_without-requires-2-clause-visits g c =
    visits_more _ c.args.sets.now.visits c.go_on.new.sets.visits _ c.requires.visits
    (omega (arith, c.go_on.ensures.visits))

pub go_without-requires-clause-within : goal.go_without-requires-clause-within
go_without-requires-clause-within g c = elim c.match-scan.branch [
  | in-Known w ↦ rw w.start-is w.in-Known.ensures.1
  | in-Known-2 w ↦ rw w.start-is w.in-Known.ensures.1
]

pub overflow_mul-start : goal.overflow_mul-start
overflow_mul-start g c =
    let within : c.match-scan.start ≤ length c.args.line.now = elim c.match-scan.branch [
      | in-Known w ↦ rw w.start-is w.in-Known.ensures.1
      | in-Known-2 w ↦ rw w.start-is w.in-Known.ensures.1
    ] in
    let size = c.args.self.now.states.ok.0 in
    record {
      fits = product_fits _ (length c.args.self.now.states.items) _ (c.len.ensures ∙ size)
          (omega (arith, within, c.requires.short)) (omega arith);
    }

pub go_without-requires-clause-visits : goal.go_without-requires-clause-visits
go_without-requires-clause-visits g c =
    visits_from _ _ _ c.args.sets.now.visits _ (c.len.ensures ∙ c.args.self.now.states.ok.0) c.if-sets-start.true

pub overflow_cast-cursor : goal.overflow_cast-cursor
overflow_cast-cursor g c = record {
  fits = omega (arith, c.requires.cursor.row.known, c.requires.cache.shape.few);
}

pub go_on-requires-clause-visits : goal.go_on-requires-clause-visits
go_on-requires-clause-visits g c =
    let size = c.args.self.now.states.ok.0 in
    let low = visits_small c.args.cursor.place (length c.args.self.now.states.items) c.args.sets.now.visits
    c.requires.visits (omega (arith, c.requires.cursor.within, c.requires.short)) (omega arith) in
    omega (arith, low)

pub returns-then-sets-start-clause-told : goal.returns-then-sets-start-clause-told
returns-then-sets-start-clause-told g c = omega (arith, c.clear.ensures.added, c.go_without.ensures.told)

pub returns-clause-told : goal.returns-clause-told
returns-clause-told g c =
    omega (arith, c.load.ensures.added, c.go_on.ensures.told, c.go_without-2.ensures.told)
