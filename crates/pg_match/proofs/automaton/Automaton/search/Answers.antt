use Rattle.std.proofs.Common.{◌∙◌, length, true, refl, sym, subst}
use Rattle.std.proofs.lemmas.Bool.{eqb-true}
use Rattle.pg_match.specs.Stands.{Stands}
use Rattle.pg_match.specs.Steps.{Has}
use Rattle.pg_match.specs.Views.{nfa, members}
use Rattle.pg_match.proofs.StandsLemmas.{stands_first}
use Rattle.pg_match.proofs.CacheLemmas.{ended_so}
use Rattle.pg_match.proofs.automaton.Automaton.search.Goals as goal

pub returns-then-is_empty-clause-exact : goal.returns-then-is_empty-clause-exact
returns-then-is_empty-clause-exact g c =
    let m = nfa c.args.self.now in
    let l = c.args.line.now in
    let S = Has (members c.begin.new.sets.current) in
    let none = eqb-true (length l) 0 (sym c.is_empty.ensures ∙ c.if-is_empty.true) in
    ended_so m l 0 S c.hits_at_end.result true c.requires.built.runs
    (subst (λ p. Stands m l 0 p S) (sym none) (stands_first m l S c.begin.ensures.starts))
    (λ t. none) (λ e. refl) c.hits_at_end.ensures.answer
