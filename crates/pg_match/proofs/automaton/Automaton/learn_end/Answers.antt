use Rattle.std.proofs.Common.{◌≡◌, ℕ, ◌+◌, ◌≤◌, false, arith, subst}
use Rattle.pg_match.specs.Dfas.{In}
use Rattle.pg_match.specs.Steps.{Has}
use Rattle.pg_match.specs.Views.{nfa, members, dfa}
use Rattle.pg_match.proofs.AnchoredLemmas.{alone_marked_end}
use Rattle.pg_match.proofs.CacheLemmas.{answers_same, same_back}
use Rattle.pg_match.proofs.StateSetLemmas.{few}
use Rattle.pg_match.proofs.automaton.Automaton.learn_end.Goals as goal

visits_end : (n v w k j : ℕ) → w + k ≡ v + j → j ≤ n → w ≤ v + n
visits_end n v w k j same few = omega arith

pub returns-clause-cache : goal.returns-clause-cache
returns-clause-cache g c =
    let m = nfa c.args.self.now in
    let old = dfa c.args.cache.now in
    let r = c.args.row in
    let S = Has (members c.load.new.set) in
    alone_marked_end m old (dfa c.mark_end.new.self) r c.hits_at_end-answer.result c.requires.cache
    c.mark_end.ensures.marked c.requires.known
    (answers_same m false S (In old r) c.hits_at_end-answer.result (same_back (In old r) S c.load.ensures.same)
    c.hits_at_end-answer.ensures.answer)

pub returns-clause-visits : goal.returns-clause-visits
returns-clause-visits g c =
    let w = members c.hits_at_end-answer.new.sets.current in
    let room = c.hits_at_end-answer.ensures.room in
    visits_end _ _ _ _ w.len c.hits_at_end-answer.ensures.visits (subst (λ n. w.len ≤ n) room.now_size (few w room.now))
