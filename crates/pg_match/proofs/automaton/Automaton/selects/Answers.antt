use Rattle.std.proofs.Common.{◌≡◌, false, refl}
use Rattle.pg_match.specs.Views.{nfa}
use Rattle.pg_match.proofs.StandsLemmas.{none_so, exact_so}
use Rattle.pg_match.proofs.automaton.Automaton.selects.Goals as goal

pub returns-then-not-self-clause-exact : goal.returns-then-not-self-clause-exact
returns-then-not-self-clause-exact g c = λ patterns a.
    let none : c.args.self.now.some ≡ false = cc in
    none_so (nfa c.args.self.now) patterns c.args.line.now a none

pub returns-in-Some-clause-exact : goal.returns-in-Some-clause-exact
returns-in-Some-clause-exact g c = λ patterns a.
    exact_so (nfa c.args.self.now) patterns c.args.line.now c.recall.result a c.if-not-self.false c.recall.ensures.exact

pub returns-in_default-clause-exact : goal.returns-in_default-clause-exact
returns-in_default-clause-exact g c = λ patterns a.
    exact_so (nfa c.args.self.now) patterns c.args.line.now c.search.result a c.if-not-self.false c.search.ensures.exact

pub recall-requires-clause-visits : goal.recall-requires-clause-visits
recall-requires-clause-visits g c = refl

pub search-requires-clause-visits : goal.search-requires-clause-visits
search-requires-clause-visits g c = refl
