use Rattle.std.proofs.Common.{◌≡◌, ◌<◌, length, get_or, Some, arith, sym, refl, subst}
use Rattle.std.proofs.lemmas.Option.{slice_get-get_or}
use Rattle.std.specs.Prelude.{slice_get}
use Rattle.pg_match.specs.declared.state.State.TheVariants.{Fail}
use Rattle.pg_match.specs.StateSets.{listed}
use Rattle.pg_match.specs.Views.{members}
use Rattle.pg_match.proofs.StateSetLemmas.{read_thread, read_listed, listed_in, list_long}
use Rattle.pg_match.proofs.ClosureLemmas.{stands, stepping_over, stepping_next, no_byte, byte_edge, byte_only}
use Rattle.pg_match.proofs.ClosureLemmas.{byte_none, stepping_first, stepped}
use Rattle.pg_match.proofs.closure.step.Goals as goal
use Rattle.pg_match.proofs.closure.step.Goals.{then-mark-limit+in-Read+then-contains}
use Rattle.pg_match.proofs.closure.step.Goals.{then-mark-limit+in-Read+else-contains, then-mark-limit+in_default}
use Rattle.pg_match.proofs.closure.step.Goals.{else-mark-limit}

pub index-mark-requires : goal.index-mark-requires
index-mark-requires g c =
    let lt : c.loop-k.k < c.args.current.now.len = omega arith in
    let e = read_listed (members c.args.current.now) c.loop-k.k _ c.requires.good lt c.index-state.ensures in
    let n = listed_in (members c.args.current.now) c.loop-k.k c.requires.good lt in
    omega (arith, e, n)

pub bounds-states-state : goal.bounds-states-state
bounds-states-state g c =
    let lt : c.loop-k.k < c.args.current.now.len = omega arith in
    let e = read_listed (members c.args.current.now) c.loop-k.k _ c.requires.good lt c.index-state.ensures in
    let n = listed_in (members c.args.current.now) c.loop-k.k c.requires.good lt in
    omega (arith, e, n)

pub reach-requires-clause-some : goal.reach-requires-clause-some
reach-requires-clause-some g c =
    let lt : c.loop-k.k < c.args.current.now.len = omega arith in
    let r = read_thread (members c.args.current.now) c.loop-k.k _ _ c.requires.good lt c.index-state.ensures
    c.index-mark.ensures in
    omega (arith, r.1, r.3)

pub reach-requires-clause-below : goal.reach-requires-clause-below
reach-requires-clause-below g c =
    let lt : c.loop-k.k < c.args.current.now.len = omega arith in
    let r = read_thread (members c.args.current.now) c.loop-k.k _ _ c.requires.good lt c.index-state.ensures
    c.index-mark.ensures in
    λ q. let b = c.loop-k.invariant.stepping.below c.loop-k.k (omega arith) lt q in omega (arith, r.1, b)

pub loop-k-preserved : goal.loop-k-preserved
loop-k-preserved g c =
    let lt : c.loop-k.k < c.args.current.now.len = omega arith in
    let r = read_thread (members c.args.current.now) c.loop-k.k _ _ c.requires.good lt c.index-state.ensures
    c.index-mark.ensures in
    let inside : c.index-state.result.now < length c.args.states.now = omega (arith, r.0, r.2) in
    let byte = slice_get-get_or c.args.line.now c.args.place 0 c.requires.place in
    let t = c.args.states.now in
    let l = c.args.line.now in
    let i = c.args.place in
    let now = (members c.args.current.now) in
    let limit = c.args.limit in
    let q0 = listed now c.loop-k.k in
    record {
      stepping = elim c.if-mark-limit.branch [
        | then-mark-limit+in-Read+then-contains w ↦
            let is = rw r.0 at (stands _ _ _ inside w.in-Read.is) in
            let reached = rw r.1 at w.reach.ensures.reached in
            rw w.next-is
            (stepping_next t l i now limit _ _ _ w.in-Read.to c.loop-k.invariant.stepping lt c.requires.good
            c.requires.ordered
            (byte_edge t l i now limit q0 w.in-Read.to _ w.in-Read.set is byte (sym w.if-contains.ensures))
            (λ q e. byte_only t l i now limit q0 w.in-Read.to q w.in-Read.set is e) reached)
        | then-mark-limit+in-Read+else-contains w ↦
            let is = rw r.0 at (stands _ _ _ inside w.in-Read.is) in
            rw w.next-is
            (stepping_over t l i now limit _ _ c.loop-k.invariant.stepping
            (λ q early e. byte_none t l i now limit q0 w.in-Read.to _ q w.in-Read.set is byte
            (sym w.if-contains.ensures) e))
        | then-mark-limit+in_default w ↦
            let st = get_or t c.index-state.result.now Fail in
            let is = subst (λ q. slice_get t q ≡ Some st) r.0 (stands _ _ _ inside refl) in
            rw w.next-is
            (stepping_over t l i now limit _ _ c.loop-k.invariant.stepping
            (λ q early e. no_byte t l i now limit q0 st is w.in_default.not-Read q e))
        | else-mark-limit w ↦ rw w.next-is (stepping_over t l i now limit _ _ c.loop-k.invariant.stepping
            (λ q early edge. omega (arith, r.1, w.if-mark-limit.false)))
      ];
      counted = elim c.if-mark-limit.branch [
        | then-mark-limit+in-Read+then-contains w ↦ rw w.next-is (omega (
          arith,
          c.loop-k.invariant.counted,
          w.reach.ensures.reached.counted,
        ))
        | then-mark-limit+in-Read+else-contains w ↦ rw w.next-is c.loop-k.invariant.counted
        | then-mark-limit+in_default w ↦ rw w.next-is c.loop-k.invariant.counted
        | else-mark-limit w ↦ rw w.next-is c.loop-k.invariant.counted
      ];
    }

pub bounds-line-place : goal.bounds-line-place
bounds-line-place g c = omega arith

pub offset_bounds-states-state : goal.offset_bounds-states-state
offset_bounds-states-state g c = omega arith

pub overflow_add-place : goal.overflow_add-place
overflow_add-place g c = omega arith

pub reach-requires-clause-size : goal.reach-requires-clause-size
reach-requires-clause-size g c = omega arith

pub index-state-requires : goal.index-state-requires
index-state-requires g c = let long = list_long (members c.args.current.now) c.requires.good in omega arith

pub reach-requires-clause-within : goal.reach-requires-clause-within
reach-requires-clause-within g c =
    let lt : c.loop-k.k < c.args.current.now.len = omega arith in
    let e = read_listed (members c.args.current.now) c.loop-k.k _ c.requires.good lt c.index-state.ensures in
    let n = listed_in (members c.args.current.now) c.loop-k.k c.requires.good lt in
    rw c.in-Read.is at (c.requires.tidy c.index-state.result.now Fail (omega (arith, e, n)))

pub loop-k-init : goal.loop-k-init
loop-k-init g c = record {
  stepping = stepping_first _ _ _ _ _ _ c.clear.ensures.good c.clear.ensures.empty (omega arith);
  counted = omega (arith, c.clear.ensures.added, c.clear.ensures.empty.0);
}

pub returns-clause-stepped : goal.returns-clause-stepped
returns-clause-stepped g c = stepped _ _ _ _ _ _ c.loop-k.k c.loop-k.invariant.stepping (omega arith) c.requires.good
