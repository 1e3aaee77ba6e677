use Rattle.std.proofs.Common.{ℕ, arith, refl, sym, subst}
use Rattle.std.specs.Prelude.{IsNone}
use Rattle.pg_match.specs.Starts.{Searched}
use Rattle.pg_match.specs.Steps.{Has}
use Rattle.pg_match.specs.Views.{nfa, members, dfa}
use Rattle.pg_match.proofs.VisitLemmas.{visits_reached, visits_back}
use Rattle.pg_match.proofs.CursorLemmas.{runs_ended, cursor_back}
use Rattle.pg_match.proofs.StateSetLemmas.{few}
use Rattle.pg_match.proofs.automaton.Automaton.go_without.Goals as goal

pub returns-in-None-clause-crossed : goal.returns-in-None-clause-crossed
returns-in-None-clause-crossed g c =
    let m = nfa c.args.self.now in
    let l = c.args.line.now in
    let seeds = c.args.self.now.seeds.items in
    let from = c.args.cursor.from in
    let here = c.search_on-answer.result.1 in
    let S = Has (members c.search_on-answer.new.sets.current) in
    let found = c.search_on-answer.ensures in
    let left = found.left (subst (λ o. IsNone o) (sym c.in-None.is) refl) in
    let empty : (q : ℕ) → S q → ⊥ = λ q h. (let f = found.room.now.found q h in omega (arith, f.1, left.1)) in
    let stands = subst (λ o. Searched m seeds l from here S o) c.in-None.is
    (found.searched from c.requires.near c.requires.stands) in (
      omega (arith, left.0),
      cursor_back m (dfa c.args.cache.now) l here c.requires.cache (omega (arith, left.0)) found.within,
      runs_ended m seeds c.requires.built.seeds l from here S (omega (arith, c.requires.near, found.onward)) empty
          stands,
    )

pub returns-in-Some-clause-crossed : goal.returns-in-Some-clause-crossed
returns-in-Some-clause-crossed g c =
    let m = nfa c.args.self.now in
    let l = c.args.line.now in
    let seeds = c.args.self.now.seeds.items in
    let from = c.args.cursor.from in
    let here = c.search_on-answer.result.1 in
    let S = Has (members c.search_on-answer.new.sets.current) in
    subst (λ o. Searched m seeds l from here S o) c.in-Some.is
    (c.search_on-answer.ensures.searched from c.requires.near c.requires.stands)

pub returns-in-Some-clause-visits : goal.returns-in-Some-clause-visits
returns-in-Some-clause-visits g c =
    let found = c.search_on-answer.ensures in
    let sets = c.search_on-answer.new.sets in
    visits_reached c.search_on-answer.result.1 _ _ sets.visits sets.current.len _ found.visits
    (few (members sets.current) found.room.now) found.room.now_size found.within

pub returns-in-None-clause-visits : goal.returns-in-None-clause-visits
returns-in-None-clause-visits g c =
    let found = c.search_on-answer.ensures in
    let left = found.left (subst (λ o. IsNone o) (sym c.in-None.is) refl) in
    visits_back _ c.search_on-answer.result.1 _ c.search_on-answer.new.sets.visits _ found.visits left.1 left.0
