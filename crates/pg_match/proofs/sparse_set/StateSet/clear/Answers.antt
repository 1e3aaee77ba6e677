use Rattle.std.proofs.Common.{◌≡◌, ◌<◌, inl, inr, ap, refl, arith, length}
use Rattle.std.specs.Prelude.{slice_index}
use Rattle.std.proofs.lemmas.List.{get_or_read}
use Rattle.std.proofs.lemmas.Bool.{cases_lt}
use Rattle.pg_match.specs.StateSets.{mark, listed}
use Rattle.pg_match.specs.Views.{members}
use Rattle.pg_match.proofs.StateSetLemmas.{empty_good, listed_in, list_long}
use Rattle.pg_match.proofs.sparse_set.StateSet.clear.Goals as goal

pub index_mut-requires : goal.index_mut-requires
index_mut-requires g c =
    let old = members c.args.self.now in
    let lt : c.loop-k.k < old.len = omega arith in
    let inside = listed_in old c.loop-k.k c.requires lt in
    let same : listed (members c.loop-k.self) c.loop-k.k ≡ listed old c.loop-k.k =
    ap (λ s. slice_index s c.loop-k.k) c.loop-k.invariant.order in
    let n : length c.loop-k.self.order.items ≡ length old.order = ap length c.loop-k.invariant.order in
    let room = c.requires.room in
    let read = get_or_read c.loop-k.self.order.items c.loop-k.k _
    (omega (arith, list_long old c.requires)) c.index-state.ensures 0 in
    omega (arith, read, same, inside)

pub returns-clause-good : goal.returns-clause-good
returns-clause-good g c =
    let len : length c.loop-k.self.order.items ≡ length c.args.self.now.order.items =
    ap length c.loop-k.invariant.order in
    let room = c.requires.room in
    empty_good _ (omega arith) refl (λ q. elim (cases_lt 0 (mark (members c.loop-k.self) q)) [
      | inl some ↦
          let w = c.loop-k.invariant.left q some in
          let f = c.requires.found q w.0 in
          absurd (w.1 f.0 (omega (arith, f.1)) f.2)
      | inr none ↦ omega arith
    ])

pub loop-k-init : goal.loop-k-init
loop-k-init g c =
    record {
      order = refl;
      same_len = refl;
      same_added = refl;
      size = refl;
      left = λ q some. (some, λ j lt. absurd (omega arith));
    }

pub index-state-requires : goal.index-state-requires
index-state-requires g c =
    let old = members c.args.self.now in
    let n : length c.loop-k.self.order.items ≡ length old.order = ap length c.loop-k.invariant.order in
    omega (arith, n, list_long old c.requires)

pub returns-clause-empty : goal.returns-clause-empty
returns-clause-empty g c = (
  refl,
  λ q. elim (cases_lt 0 (mark (members c.loop-k.self) q)) [
    | inl some ↦
        let w = c.loop-k.invariant.left q some in
        let f = c.requires.found q w.0 in
        absurd (w.1 f.0 (omega (arith, f.1)) f.2)
    | inr none ↦ omega arith
  ],
)
