use Rattle.std.proofs.Common.{◌+◌, ℕ, map, arith}
use Rattle.pg_pattern.specs.Strings.{items_of}
use Rattle.pg_strings.specs.Sets.{SomeStands}
use Rattle.pg_strings.proofs.PlaceLemmas.{nowhere_joined, nowhere_at, four_clear}
use Rattle.pg_strings.proofs.set.StringSet.skip_all.Goals as goal

pub loop-place-preserved : goal.loop-place-preserved
loop-place-preserved g c =
    let P : ℕ → Type 0 = SomeStands (map items_of c.args.self.now.strings.items) c.args.bytes.now in
    record {
      low = let low = c.loop-place.invariant.low in omega (arith, low);
      high = omega (arith, c.loop-place-test.true);
      none = nowhere_joined P c.args.from c.loop-place.place (c.loop-place.place + 4) c.loop-place.invariant.none
          (four_clear P c.loop-place.place _ _ _ _ c.may_stand-one.ensures c.may_stand-two.ensures
          c.may_stand-three.ensures
          c.may_stand-four.ensures c.if-one-two.false);
    }

pub loop-place-2-preserved : goal.loop-place-2-preserved
loop-place-2-preserved g c =
    let P : ℕ → Type 0 = SomeStands (map items_of c.args.self.now.strings.items) c.args.bytes.now in
    record {
      low = let low = c.loop-place-2.invariant.low in omega (arith, low);
      high = omega (arith, c.loop-place-2-test.true);
      none = nowhere_joined P c.args.from c.loop-place-2.place (c.loop-place-2.place + 1) c.loop-place-2.invariant.none
          (nowhere_at P c.loop-place-2.place (c.may_stand.ensures c.if-not-may_stand.true));
    }
