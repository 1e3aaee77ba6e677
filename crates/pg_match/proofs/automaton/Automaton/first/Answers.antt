use Rattle.std.proofs.Common.{◌≡◌, ◌+◌, ◌<◌, ◌≤◌, ◌^◌, ℕ, subst, sym, arith, true, true≢false}
use Rattle.pg_match.proofs.StateSetLemmas.{few}
use Rattle.pg_match.specs.Dfas.{Grown, IsShape}
use Rattle.pg_match.specs.Views.{nfa, members, dfa}
use Rattle.pg_match.proofs.CacheLemmas.{dfa_added}
use Rattle.pg_match.proofs.VisitLemmas.{visited}
use Rattle.pg_match.proofs.automaton.Automaton.first.Goals as goal

at_most : (v n : ℕ) → v ≤ v + n
at_most v n = omega arith

below_more : (v : ℕ) → v < 2 ^ 98 → v < 2 ^ 100
below_more v small = omega arith

counted : (n m : ℕ) → n ≡ m + 1 → 1 ≤ n
counted n m more = omega arith

pub returns-then-cache-gt0-clause-cache : goal.returns-then-cache-gt0-clause-cache
returns-then-cache-gt0-clause-cache g c = c.refresh.ensures (nfa c.args.self.now) c.requires.cache

pub add-requires-clause-shape : goal.add-requires-clause-shape
add-requires-clause-shape g c =
    subst (λ n. IsShape n (dfa c.refresh.new.self)) (sym c.begin.ensures.room.now_size)
    (c.refresh.ensures (nfa c.args.self.now) c.requires.cache).shape

pub returns-clause-cache : goal.returns-clause-cache
returns-clause-cache g c =
    let old = dfa c.refresh.new.self in
    let new = dfa c.add.new.self in
    let s = members c.begin.new.sets.current in
    dfa_added (nfa c.args.self.now) old new s true c.add.result
    (c.refresh.ensures (nfa c.args.self.now) c.requires.cache)
    (λ t. subst (λ n. Grown n old new s true) c.begin.ensures.room.now_size (c.add.ensures.grown t))
    c.add.ensures.full
    (λ z. c.begin.ensures.starts)

pub returns-then-cache-gt0-clause-visits : goal.returns-then-cache-gt0-clause-visits
returns-then-cache-gt0-clause-visits g c = at_most c.args.sets.now.visits _

pub returns-then-cache-gt0-clause-some : goal.returns-then-cache-gt0-clause-some
returns-then-cache-gt0-clause-some g c = λ _. c.if-cache-gt0.true

pub returns-then-cache-gt0-clause-full : goal.returns-then-cache-gt0-clause-full
returns-then-cache-gt0-clause-full g c = λ h. absurd (true≢false h)

pub begin-requires-clause-visits : goal.begin-requires-clause-visits
begin-requires-clause-visits g c = below_more c.args.sets.now.visits c.requires.visits

pub returns-clause-visits : goal.returns-clause-visits
returns-clause-visits g c =
    let s = members c.begin.new.sets.current in
    let fits = subst (λ n. s.len ≤ n) c.begin.ensures.room.now_size (few s c.begin.ensures.room.now) in
    visited c.args.sets.now.visits c.begin.new.sets.visits s.len _ c.begin.ensures.visits fits

pub returns-clause-some : goal.returns-clause-some
returns-clause-some g c = λ t. counted _ _ (c.add.ensures.grown t).count

pub returns-clause-full : goal.returns-clause-full
returns-clause-full g c = λ _. (c.begin.ensures.visits, c.begin.ensures.starts)
