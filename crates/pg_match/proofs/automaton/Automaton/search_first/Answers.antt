use Rattle.std.proofs.Common.{◌≡◌, ◌<◌, ◌↔◌, ◌∙◌, ℕ, List, Bool, Option, Some, IsTrue, length, arith, sym, subst, refl}
use Rattle.std.proofs.Common.{true≢false}
use Rattle.std.proofs.lemmas.Option.{slice_get-get_or}
use Rattle.pg_match.specs.Automata.{Nfa}
use Rattle.pg_match.specs.Stands.{HasRun}
use Rattle.pg_match.specs.Starts.{Searched}
use Rattle.pg_match.specs.Steps.{Has}
use Rattle.pg_match.specs.Views.{nfa, members}
use Rattle.pg_match.proofs.VisitLemmas.{visits_reached, told_on}
use Rattle.pg_match.proofs.StateSetLemmas.{few}
use Rattle.pg_match.proofs.StandsLemmas.{stands_first, stands_next, run_before}
use Rattle.pg_match.proofs.StartLemmas.{stands_whole}
use Rattle.pg_match.proofs.automaton.Automaton.search_first.Goals as goal

pub returns-then-hits_before-clause-exact : goal.returns-then-hits_before-clause-exact
returns-then-hits_before-clause-exact g c = (
  λ t.
      let m = nfa c.args.self.now in
      let l = c.args.line.now in
      let S = Has (members c.args.sets.now.current) in
      let lt : 0 < length l = omega (arith, c.requires.bytes) in
      run_before m l 0 0 _ S (stands_first m l S c.requires.begun) c.requires.built.runs (slice_get-get_or l 0 0 lt) lt
      (c.hits_before.ensures.0 c.if-hits_before.true),
  λ run. refl,
)

some_answer : (m : Nfa) (seeds l : List ℕ) (p : ℕ) (S : ℕ → Type 0) (o : Option Bool) (answer : Bool)
    → o ≡ Some answer → Searched m seeds l 0 p S o → IsTrue answer ↔ HasRun m l 0
some_answer m seeds l p S o answer e h = subst (Searched m seeds l 0 p S) e h

pub returns-clause-exact : goal.returns-clause-exact
returns-clause-exact g c =
    let m = nfa c.args.self.now in
    let l = c.args.line.now in
    let S = Has (members c.args.sets.now.current) in
    let lt : 0 < length l = omega (arith, c.requires.bytes) in
    let U = Has (members c.go.new.sets.current) in
    some_answer m c.args.self.now.seeds.items l _ _ _ c.unwrap.result c.unwrap.ensures
    (c.search_on.ensures.searched 0 (omega arith)
    (stands_whole m c.args.self.now.seeds.items c.requires.built.seeds l 0 1 U (omega arith) (omega arith)
    (stands_next m l 0 0 _ S U (slice_get-get_or l 0 0 lt) lt (stands_first m l S c.requires.begun)
    c.go.ensures.goes (omega arith) c.requires.built.runs
    (λ h. true≢false (sym (c.hits_before.ensures.1 h) ∙ c.if-hits_before.false)))))

pub search_on-requires-clause-visits : goal.search_on-requires-clause-visits
search_on-requires-clause-visits g c =
    let fewer = few (members c.args.sets.now.current) c.requires.room.now in
    let size = c.requires.room.now_size in
    omega (arith, c.go.ensures.visits, c.requires.visits)

pub returns-clause-visits : goal.returns-clause-visits
returns-clause-visits g c =
    let sets = c.search_on.new.sets in
    let found = c.search_on.ensures in
    visits_reached c.search_on.result.1 _ _ sets.visits sets.current.len _ found.visits
    (few (members sets.current) found.room.now) found.room.now_size found.within

pub returns-then-hits_before-clause-visits : goal.returns-then-hits_before-clause-visits
returns-then-hits_before-clause-visits g c =
    visits_reached 0 (length c.args.line.now) (length c.args.self.now.states.items) c.args.sets.now.visits
    c.args.sets.now.current.len _ (omega (arith, c.requires.visits))
    (few (members c.args.sets.now.current) c.requires.room.now) c.requires.room.now_size (omega arith)

pub returns-clause-told : goal.returns-clause-told
returns-clause-told g c = told_on _ _ _ _ _ _ c.go.ensures.told c.search_on.ensures.told
