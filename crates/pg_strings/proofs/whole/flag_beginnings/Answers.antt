use Rattle.std.proofs.Common.{◌≡◌, ◌<◌, length, take, true, arith, subst}
use Rattle.std.specs.Prelude.{slice_index_or}
use Rattle.std.proofs.lemmas.List.{get_or_default}
use Rattle.pg_strings.specs.Whole.{flag_by, hash_behind}
use Rattle.pg_strings.proofs.whole.flag_beginnings.Goals as goal

pub loop-at-init : goal.loop-at-init
loop-at-init g c = record {
  all = c.requires;
  prefix = c.empty-prefix.ensures c.args.string.now 0 (omega arith);
  own = λ i low. absurd (omega (arith, low));
  kept = λ k set. set;
}

pub returns-clause-own : goal.returns-clause-own
returns-clause-own g c = λ k d less.
    let lengths = c.args.lengths.now in
    let string = c.args.string.now in
    let last = c.loop-at.auto.at-end in
    subst (λ len. len < length string
    → slice_index_or c.loop-at.flags.items (flag_by (hash_behind 0 (take len string))) true ≡ true)
    (get_or_default lengths k 0 d less)
    (c.loop-at.invariant.own k (omega (arith, less, last, c.loop-at-test.false)))
