use Rattle.std.proofs.Common.{◌≡◌, ◌-◌, ◌<◌, ◌≤◌, ℕ, List, [], length, map, ◌/◌, arith, sym, ap}
use Rattle.std.proofs.Common.{subst, get_or, ◌∙◌, inl, inr, drop}
use Rattle.std.proofs.lemmas.Bool.{cases_lt}
use Rattle.std.proofs.lemmas.List.{get_or_default, length-map}
use Rattle.pg_strings.specs.Keys.{key, home}
use Rattle.pg_pattern.specs.Strings.{items_of}
use Rattle.pg_strings.specs.Sets.{StandsAs}
use Rattle.pg_strings.proofs.WalkLemmas.{IsWalked, walk_first, walk_next, walk_ends, walk_weaker, link_falls}
use Rattle.pg_strings.proofs.PlaceLemmas.{string_at}
use Rattle.pg_strings.proofs.LongestLemmas.{longest_told, short_kept, some_bytes}
use Rattle.pg_strings.proofs.set.StringSet.longest_at.Goals as goal

pub loop-link-init : goal.loop-link-init
loop-link-init g c =
    let set = c.args.self.now in
    let vecs = set.strings.items in
    let h = c.last_key_at-key.result / 16 in
    let short = c.short_at-longest.result in
    let P : List ℕ → Type 0 =
    λ string. StandsAs c.args.bounds c.args.bytes.now c.args.place string → length string ≤ short in
    let walk = walk_first P (home set.factor) (map items_of vecs) set.chains.first.items set.chains.next.items h
    c.index-link.result.now (omega (arith, c.last_key_at-key.ensures.few)) set.linked c.index-link.ensures in
    record {
      within = omega (arith, walk.0, length-map vecs items_of);
      walked = walk.1;
      short = c.short_at-longest.ensures;
    }

pub loop-link-smaller : goal.loop-link-smaller
loop-link-smaller g c =
    let set = c.args.self.now in
    let vecs = set.strings.items in
    let within = c.loop-link.invariant.within in
    link_falls (home set.factor) (map items_of vecs) set.chains.first.items set.chains.next.items c.loop-link.link
    c.index-link-in-loop-link.result.now set.linked c.loop-link-test.true
    (omega (arith, within, length-map vecs items_of)) c.index-link-in-loop-link.ensures

pub loop-link-preserved : goal.loop-link-preserved
loop-link-preserved g c =
    let set = c.args.self.now in
    let bytes = c.args.bytes.now in
    let bounds = c.args.bounds in
    let place = c.args.place in
    let vecs = set.strings.items in
    let strings = map items_of vecs in
    let h = c.last_key_at-key.result / 16 in
    let i = c.loop-link.link - 1 in
    let some = c.loop-link-test.true in
    let within = c.loop-link.invariant.within in
    let less : i < length vecs = omega (arith, within, some) in
    let len = length-map vecs items_of in
    let string : get_or strings i [] ≡ c.deref.result.now =
    string_at vecs i c.index.result.now less c.index.ensures ∙ sym c.deref.ensures.value in
    let longer = c.longer-longest.ensures in
    let kept = c.longer-longest.result in
    let P : List ℕ → Type 0 = λ s. StandsAs bounds bytes place s → length s ≤ kept in
    let walked = walk_weaker (λ s. StandsAs bounds bytes place s → length s ≤ c.loop-link.longest) P (home set.factor)
    strings c.loop-link.link h (λ s short occurs. omega (arith, short occurs, longer.low))
    c.loop-link.invariant.walked in
    let walk = walk_next P (home set.factor) strings set.chains.first.items set.chains.next.items c.loop-link.link h
    c.index-link-in-loop-link.result.now set.linked some (omega (arith, within, len)) walked
    (subst P (sym string) longer.own) c.index-link-in-loop-link.ensures in
    record {
      within = omega (arith, walk.0, within, some);
      walked = walk.1;
      short = short_kept strings bounds bytes place i c.loop-link.longest c.deref.result.now kept
          (omega (arith, less, len)) string longer.low longer.stands c.loop-link.invariant.short;
    }

pub returns : goal.returns
returns g c =
    let set = c.args.self.now in
    let bytes = c.args.bytes.now in
    let bounds = c.args.bounds in
    let longest = c.loop-link.longest in
    let strings = map items_of set.strings.items in
    let h = c.last_key_at-key.result / 16 in
    let at : h ≡ key set.factor (drop c.args.place bytes) / 16 = ap (λ n. n / 16) c.last_key_at-key.ensures.value in
    let P : List ℕ → Type 0 = λ s. StandsAs bounds bytes c.args.place s → length s ≤ longest in
    let test = c.loop-link-test.false in
    let end : c.loop-link.link ≡ 0 = omega (arith, test) in
    let walked = subst (λ link. IsWalked P (home set.factor) strings link h) end c.loop-link.invariant.walked in
    longest_told strings bounds bytes c.args.place longest (some_bytes set.width strings set.long)
    c.loop-link.invariant.short.stands (λ k d less stands. elim (cases_lt (length (get_or strings k d)) 3) [
      | inl before ↦ c.loop-link.invariant.short.longest k d less stands (omega (arith, before))
      | inr behind ↦
          walk_ends P set.factor set.width strings bytes c.args.place h set.weighs set.long at walked k
          (get_or strings k d) less (get_or_default strings k (get_or strings k d) d less) behind stands.0 stands
    ]) c.unless_zero.result c.unless_zero.ensures
