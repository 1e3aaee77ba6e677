use Rattle.std.proofs.Common.{◌≡◌, ◌<◌, [], length, map, arith, sym, ap, ◌∙◌, subst, get_or, take}
use Rattle.pg_strings.specs.Keys.{key, home, AreChains, AreFlagged, AreLong}
use Rattle.pg_pattern.specs.Strings.{items_of}
use Rattle.pg_strings.specs.Short.{KnowsShort}
use Rattle.pg_strings.specs.Whole.{KnowsWhole}
use Rattle.std.proofs.lemmas.List.{length-map}
use Rattle.std.proofs.lemmas.Grind.{common_steps}
use Rattle.pg_strings.proofs.PlaceLemmas.{string_at, flagged_more, homes_more, take_whole}
use Rattle.pg_strings.proofs.set.StringSet.new.Goals as goal

pub loop-place-preserved : goal.loop-place-preserved
loop-place-preserved g c =
    let vecs = c.args.strings.items in
    let strings = map items_of vecs in
    let factor = c.factor_of-factor.result in
    let i = c.loop-place.place in
    let flags = c.loop-place.invariant.flags in
    let few : i < length vecs = omega (arith, c.loop-place-test.true, c.len-place-end.ensures) in
    let less : i < length strings = omega (arith, few, length-map vecs items_of) in
    let string = string_at vecs i c.index.result.now few c.index.ensures in
    let is : c.last_key_at-key.result ≡ key factor (get_or strings i []) =
    c.last_key_at-key.ensures.value ∙ ap (λ t. key factor t) (c.deref.ensures.value ∙ sym string) in
    record {
      flags = grind (arith, common_steps, flags);
      flagged = flagged_more factor c.loop-place.flags.items strings i c.last_key_at-key.result less
          (omega (arith, c.last_key_at-key.ensures.few, flags)) is c.loop-place.invariant.flagged;
      linked = subst (λ homes. AreChains c.push.new.self.first.items c.push.new.self.next.items homes)
          (homes_more factor strings i c.last_key_at-key.result less is)
          (c.in_ok-push.ensures _ c.loop-place.invariant.linked);
    }

pub invariant_of-result : goal.invariant_of-result
invariant_of-result g c =
    let vecs = c.args.strings.items in
    let strings = map items_of vecs in
    let factor = c.factor_of-factor.result in
    let last = c.loop-place.auto.place-end in
    let all : take c.loop-place.place strings ≡ strings =
    take_whole strings c.loop-place.place (omega (
      arith,
      last,
      c.loop-place-test.false,
      c.len-place-end.ensures,
      length-map vecs items_of,
    )) in
    record {
      knows_whole = subst (λ xs. KnowsWhole c.in_ok-whole.whole (map items_of xs)) c.as_slice-3.ensures.value
          c.in_ok-whole.ensures;
      knows_short = subst (λ xs. KnowsShort c.in_ok-short.short (map items_of xs)) c.as_slice-2.ensures.value
          c.in_ok-short.ensures;
      weighs = c.factor_of-factor.ensures;
      long = subst (λ xs. AreLong c.width_of-width.result (map items_of xs)) c.as_slice.ensures.value
          c.width_of-width.ensures.long;
      keys = c.loop-place.invariant.flags;
      flagged = subst (λ xs. AreFlagged factor c.loop-place.flags.items xs) all c.loop-place.invariant.flagged;
      linked = subst (λ xs. AreChains c.loop-place.chains.first.items c.loop-place.chains.next.items (map
          (home factor) xs)) all
          c.loop-place.invariant.linked;
    }
