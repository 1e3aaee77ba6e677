use Rattle.std.proofs.Common.{arith, subst}
use Rattle.pg_match.specs.Steps.{Spread}
use Rattle.pg_match.specs.Views.{members}
use Rattle.pg_match.proofs.StateSetLemmas.{read_listed, listed_in, list_long, few}
use Rattle.pg_match.proofs.StepLemmas.{closing_first, closing_next, all_closed}
use Rattle.pg_match.proofs.nfa_search.close.Goals as goal

pub loop-next-init : goal.loop-next-init
loop-next-init g c = closing_first _ _ _ _ c.requires.good

pub spread-requires-clause-within : goal.spread-requires-clause-within
spread-requires-clause-within g c =
    let good = c.loop-next.invariant.good in
    let e = read_listed (members c.loop-next.set) c.loop-next.next _ good c.loop-next-test.true c.index-from.ensures in
    let n = listed_in (members c.loop-next.set) c.loop-next.next good c.loop-next-test.true in
    omega (arith, e, n)

pub loop-next-preserved : goal.loop-next-preserved
loop-next-preserved g c =
    let good = c.loop-next.invariant.good in
    let e = read_listed (members c.loop-next.set) c.loop-next.next _ good c.loop-next-test.true c.index-from.ensures in
    closing_next _ _ _ _ _ _ _ c.loop-next.invariant c.loop-next-test.true
    (subst (λ q. Spread c.args.states.now c.args.edges.first c.args.edges.last (members c.loop-next.set)
    (members c.spread.new.set) q) e c.spread.ensures)

pub returns : goal.returns
returns g c = all_closed _ _ _ _ _ _ c.loop-next.invariant c.loop-next-test.false

pub spread-requires-clause-size : goal.spread-requires-clause-size
spread-requires-clause-size g c = omega arith

pub index-from-requires : goal.index-from-requires
index-from-requires g c = let long = list_long (members c.loop-next.set) c.loop-next.invariant.good in omega arith

pub overflow_add-next : goal.overflow_add-next
overflow_add-next g c = let most = few (members c.loop-next.set) c.loop-next.invariant.good in omega arith

pub loop-next-smaller : goal.loop-next-smaller
loop-next-smaller g c =
    let most = few (members c.loop-next.set) c.loop-next.invariant.good in
    omega (arith, c.loop-next.invariant.size)
