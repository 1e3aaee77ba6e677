use Rattle.std.proofs.Common.{arith, subst}
use Rattle.pg_match.specs.Closures.{Followed}
use Rattle.pg_match.specs.Views.{members}
use Rattle.pg_match.proofs.StateSetLemmas.{read_listed, listed_in, list_long, few}
use Rattle.pg_match.proofs.ClosureLemmas.{reaching_first, reaching_next, reached}
use Rattle.pg_match.proofs.closure.reach.Goals as goal

pub loop-next-init : goal.loop-next-init
loop-next-init g c =
    reaching_first _ _ _ _ _ _ _ c.insert.ensures.inserted c.insert.ensures.counted c.requires.good c.requires.closed
    c.requires.ordered c.requires.below

pub follow-requires-clause-within : goal.follow-requires-clause-within
follow-requires-clause-within g c =
    let s = members c.loop-next.set in
    let good = c.loop-next.invariant.good in
    let e = read_listed s c.loop-next.next _ good c.loop-next-test.true c.index-from.ensures in
    let n = listed_in s c.loop-next.next good c.loop-next-test.true in
    omega (arith, e, n)

pub loop-next-preserved : goal.loop-next-preserved
loop-next-preserved g c =
    let s = members c.loop-next.set in
    let good = c.loop-next.invariant.good in
    let e = read_listed s c.loop-next.next _ good c.loop-next-test.true c.index-from.ensures in
    reaching_next _ _ _ _ _ _ _ _ _ c.loop-next.invariant c.loop-next-test.true
    (subst (λ q. Followed c.args.states.now c.args.line.now c.args.place s (members c.follow.new.set) q c.args.mark) e
    c.follow.ensures)

pub insert-requires-clause-within : goal.insert-requires-clause-within
insert-requires-clause-within g c = omega arith

pub insert-requires-clause-some : goal.insert-requires-clause-some
insert-requires-clause-some g c = omega arith

pub follow-requires-clause-size : goal.follow-requires-clause-size
follow-requires-clause-size g c = omega arith

pub follow-requires-clause-some : goal.follow-requires-clause-some
follow-requires-clause-some g c = omega arith

pub returns-clause-reached : goal.returns-clause-reached
returns-clause-reached g c = reached _ _ _ _ _ _ _ _ c.loop-next.invariant c.loop-next-test.false

pub index-from-requires : goal.index-from-requires
index-from-requires g c = let long = list_long (members c.loop-next.set) c.loop-next.invariant.good in omega arith

pub overflow_add-next : goal.overflow_add-next
overflow_add-next g c = let most = few (members c.loop-next.set) c.loop-next.invariant.good in omega arith

pub loop-next-smaller : goal.loop-next-smaller
loop-next-smaller g c =
    let most = few (members c.loop-next.set) c.loop-next.invariant.good in
    omega (arith, c.loop-next.invariant.size)
