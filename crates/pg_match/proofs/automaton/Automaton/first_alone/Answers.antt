use Rattle.std.proofs.Common.{◌≡◌, ◌+◌, ◌<◌, ◌≤◌, ℕ, subst, sym, arith, length, not, eqb}
use Rattle.std.proofs.lemmas.List.{get_or_read}
use Rattle.pg_match.proofs.StateSetLemmas.{few}
use Rattle.pg_match.specs.Dfas.{Grown, IsShape}
use Rattle.pg_match.specs.Views.{nfa, members, dfa}
use Rattle.pg_match.proofs.AnchoredLemmas.{alone_added, accepts_so}
use Rattle.pg_match.proofs.VisitLemmas.{visited}
use Rattle.pg_match.proofs.automaton.Automaton.first_alone.Goals as goal

counted : (n m : ℕ) → n ≡ m + 1 → m < n
counted n m more = omega arith

pub add-requires-clause-shape : goal.add-requires-clause-shape
add-requires-clause-shape g c =
    let begun = c.begin.ensures.room in
    subst (λ n. IsShape n (dfa c.args.cache.now)) (sym begun.now_size) c.requires.cache.shape

pub returns-clause-cache : goal.returns-clause-cache
returns-clause-cache g c =
    let begun = c.begin in
    let old = dfa c.args.cache.now in
    let new = dfa c.add.new.self in
    let s = members begun.new.sets.current in
    let mark_0 = c.index.result.now in
    let flag = not (eqb mark_0 0) in
    let some = c.requires.built.runs.start in
    let size = begun.ensures.room.now_size in
    let inside : 0 < length s.marks = omega arith in
    alone_added (nfa c.args.self.now) old new s flag c.add.result c.requires.cache
    (λ t. subst (λ n. Grown n old new s flag) size (c.add.ensures.grown t))
    c.add.ensures.full
    (accepts_so s mark_0 (get_or_read s.marks 0 mark_0 inside c.index.ensures 0)) (λ less. begun.ensures.starts)

pub returns-clause-visits : goal.returns-clause-visits
returns-clause-visits g c =
    let sets = c.begin.new.sets in
    let begun = c.begin.ensures in
    let s = members sets.current in
    let fits = subst (λ n. s.len ≤ n) begun.room.now_size (few s begun.room.now) in
    visited c.args.sets.now.visits sets.visits s.len _ begun.visits fits

pub returns-clause-more : goal.returns-clause-more
returns-clause-more g c = λ t. counted _ _ (c.add.ensures.grown t).count
