use Rattle.pg_match.specs.Steps.{Moved}
use Rattle.std.proofs.Common.{◌≡◌, ◌<◌, length, get_or, arith, sym, refl, subst}
use Rattle.std.specs.Prelude.{slice_get, Some}
use Rattle.pg_match.specs.declared.state.State.TheVariants.{Fail}
use Rattle.pg_match.specs.Views.{members}
use Rattle.pg_match.specs.StateSets.{listed}
use Rattle.pg_match.proofs.StateSetLemmas.{read_listed, listed_in, list_long}
use Rattle.pg_match.proofs.ClosureLemmas.{stands}
use Rattle.pg_match.proofs.StepLemmas.{moved_over, moved_next, moved_none, moved_refused, moved_first}
use Rattle.pg_match.proofs.nfa_search.move_by.Goals as goal
use Rattle.pg_match.proofs.nfa_search.move_by.Goals.{in-Read+then-contains, in-Read+else-contains, in_default}

pub bounds-states-state : goal.bounds-states-state
bounds-states-state g c =
    let lt : c.loop-k.k < c.args.current.now.len = omega arith in
    let e = read_listed (members c.args.current.now) c.loop-k.k _ c.requires.good lt c.index-state.ensures in
    let n = listed_in (members c.args.current.now) c.loop-k.k c.requires.good lt in
    omega (arith, e, n)

pub loop-k-preserved : goal.loop-k-preserved
loop-k-preserved g c =
    let now = (members c.args.current.now) in
    let t = c.args.states.now in
    let b = c.args.byte in
    let k = c.loop-k.k in
    let lt : c.loop-k.k < c.args.current.now.len = omega arith in
    let e : c.index-state.result.now ≡ listed now k =
    read_listed (members c.args.current.now) c.loop-k.k _ c.requires.good lt c.index-state.ensures in
    let n = listed_in now k c.requires.good lt in
    let inside : c.index-state.result.now < length c.args.states.now = omega (arith, e, n) in
    record {
      moved = elim c.match-states-state.branch [
        | in-Read+then-contains w ↦
            let is = rw e at (stands _ _ _ inside w.in-Read.is) in
            rw w.next-is (moved_next t b now _ _ k w.in-Read.set w.in-Read.to c.loop-k.invariant.moved lt
            c.requires.good is
            (sym w.if-contains.ensures) w.insert.ensures.inserted)
        | in-Read+else-contains w ↦
            let is = rw e at (stands _ _ _ inside w.in-Read.is) in
            rw w.next-is (moved_over t b now _ k c.loop-k.invariant.moved
            (moved_refused t b now k w.in-Read.set w.in-Read.to is (sym w.if-contains.ensures)))
        | in_default w ↦
            let st = get_or t c.index-state.result.now Fail in
            let is = subst (λ q. slice_get t q ≡ Some st) e (stands _ _ _ inside refl) in
            rw w.next-is (moved_over t b now _ k c.loop-k.invariant.moved
            (moved_none t b now k st is w.in_default.not-Read))
      ];
      counted = elim c.match-states-state.branch [
        | in-Read+then-contains w ↦ rw w.next-is (omega (
          arith,
          c.loop-k.invariant.counted,
          w.insert.ensures.counted,
        ))
        | in-Read+else-contains w ↦ rw w.next-is c.loop-k.invariant.counted
        | in_default w ↦ rw w.next-is c.loop-k.invariant.counted
      ];
    }

pub offset_bounds-states-state : goal.offset_bounds-states-state
offset_bounds-states-state g c = omega arith

pub index-state-requires : goal.index-state-requires
index-state-requires g c = let long = list_long (members c.args.current.now) c.requires.good in omega arith

pub insert-requires-clause-within : goal.insert-requires-clause-within
insert-requires-clause-within g c =
    let lt : c.loop-k.k < c.args.current.now.len = omega arith in
    let e = read_listed (members c.args.current.now) c.loop-k.k _ c.requires.good lt c.index-state.ensures in
    let n = listed_in (members c.args.current.now) c.loop-k.k c.requires.good lt in
    let to = rw c.in-Read.is at (c.requires.tidy c.index-state.result.now Fail (omega (arith, e, n))) in
    omega (arith, to, c.loop-k.invariant.moved.size)

pub insert-requires-clause-some : goal.insert-requires-clause-some
insert-requires-clause-some g c = omega arith

pub loop-k-init : goal.loop-k-init
loop-k-init g c = record {
  moved = moved_first _ _ _ _ c.clear.ensures.good c.clear.ensures.empty (omega arith);
  counted = omega (arith, c.clear.ensures.added, c.clear.ensures.empty.0);
}

pub returns-clause-moved : goal.returns-clause-moved
returns-clause-moved g c =
    let end : c.loop-k.k ≡ c.args.current.now.len = omega arith in
    subst (λ k. Moved c.args.states.now c.args.byte (members c.args.current.now) (members c.loop-k.next) k) end
    c.loop-k.invariant.moved
