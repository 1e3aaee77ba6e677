use Rattle.std.proofs.Common.{◌≡◌, ◌+◌, ◌-◌, ◌<◌, ℕ, List, length, map, false, true, ◌/◌, arith, sym, ap, ◌∙◌}
use Rattle.std.proofs.Common.{subst, get_or, []}
use Rattle.std.proofs.lemmas.List.{get_or_default, length-map}
use Rattle.pg_strings.specs.Keys.{home}
use Rattle.pg_pattern.specs.Strings.{items_of}
use Rattle.pg_strings.specs.Sets.{StandsAs}
use Rattle.pg_strings.proofs.WalkLemmas.{IsWalked, walk_first, walk_next, walk_ends, link_falls}
use Rattle.pg_strings.proofs.WalkLemmas.{spent_more, spent_all}
use Rattle.pg_strings.proofs.PlaceLemmas.{stands, string_at}
use Rattle.pg_strings.proofs.ShortLemmas.{none_stands, short_stands}
use Rattle.pg_strings.proofs.set.StringSet.look_at.Goals as goal

pub loop-link-init : goal.loop-link-init
loop-link-init g c =
    let set = c.args.self.now in
    let vecs = set.strings.items in
    let strings = map items_of vecs in
    let h = c.last_key_at-key.result / 16 in
    let P : List ℕ → Type 0 = λ string. StandsAs c.args.bounds c.args.bytes.now c.args.place string → ⊥ in
    let walk = walk_first P (home set.factor) strings set.chains.first.items set.chains.next.items h
    c.index-link.result.now (omega (arith, c.last_key_at-key.ensures.few)) set.linked c.index-link.ensures in
    record {
      within = omega (arith, walk.0, length-map vecs items_of);
      walked = walk.1;
      less = omega arith;
      cost = omega arith;
    }

pub loop-link-smaller : goal.loop-link-smaller
loop-link-smaller g c =
    let set = c.args.self.now in
    let vecs = set.strings.items in
    let within = c.loop-link.invariant.within in
    link_falls (home set.factor) (map items_of vecs) set.chains.first.items set.chains.next.items c.loop-link.link
    c.index-link-in-loop-link.result.now set.linked c.loop-link-test.true
    (omega (arith, within, length-map vecs items_of)) c.index-link-in-loop-link.ensures

pub loop-link-preserved : goal.loop-link-preserved
loop-link-preserved g c =
    let set = c.args.self.now in
    let vecs = set.strings.items in
    let strings = map items_of vecs in
    let P : List ℕ → Type 0 = λ string. StandsAs c.args.bounds c.args.bytes.now c.args.place string → ⊥ in
    let h = c.last_key_at-key.result / 16 in
    let i = c.loop-link.link - 1 in
    let some = c.loop-link-test.true in
    let within = c.loop-link.invariant.within in
    let less : i < length vecs = omega (arith, within, some) in
    let len = length-map vecs items_of in
    let string = string_at vecs i c.index.result.now less c.index.ensures in
    let last : P (get_or strings i []) = λ occurs.
    let yes : true ≡ false = sym (c.stands_within.ensures.stands.1 (subst
    (StandsAs c.args.bounds c.args.bytes.now c.args.place)
    (string ∙ sym c.deref.ensures.value) occurs)) ∙ c.if-stands_within.false in
    cc in
    let walk = walk_next P (home set.factor) strings set.chains.first.items set.chains.next.items c.loop-link.link h
    c.index-link-in-loop-link.result.now set.linked some (omega (arith, within, len)) c.loop-link.invariant.walked last
    c.index-link-in-loop-link.ensures in
    let less' = c.loop-link.invariant.less in
    let size : length c.deref.result.now ≡ length (get_or strings i []) = ap length (c.deref.ensures.value
    ∙ sym string) in
    record {
      within = omega (arith, walk.0, within, some);
      walked = walk.1;
      less = omega (arith, c.stands_within.ensures.less, less');
      cost = spent_more (λ s. 1 + length s) strings c.loop-link.link c.index-link-in-loop-link.result.now
          c.args.budget.now.left c.loop-link.budget.left c.stands_within.new.budget.left some
          (omega (arith, within, len)) walk.0 c.loop-link.invariant.cost
          (omega (arith, size, c.stands_within.ensures.cost));
    }

pub returns-then-budget-eq0-clause-cost : goal.returns-then-budget-eq0-clause-cost
returns-then-budget-eq0-clause-cost g c =
    spent_all (λ s. 1 + length s) (map items_of c.args.self.now.strings.items) c.loop-link.link c.args.budget.now.left
    c.loop-link.budget.left c.loop-link.invariant.cost

pub returns-then-stands_within-clause-look : goal.returns-then-stands_within-clause-look
returns-then-stands_within-clause-look g c =
    let vecs = c.args.self.now.strings.items in
    let i = c.loop-link.link - 1 in
    let within = c.loop-link.invariant.within in
    let less : i < length vecs = omega (arith, within, c.loop-link-test.true) in
    let at = string_at vecs i c.index.result.now less c.index.ensures in (
      let begins : c.may_begin.result ≡ true = cc in c.may_begin.ensures.0 begins,
      stands (map items_of vecs) c.args.bounds c.args.bytes.now c.args.place i
          (omega (arith, less, length-map vecs items_of))
          (subst (StandsAs c.args.bounds c.args.bytes.now c.args.place) (c.deref.ensures.value ∙ sym at)
          (c.stands_within.ensures.stands.0 c.if-stands_within.true)),
    )

pub returns-then-stands_within-clause-cost : goal.returns-then-stands_within-clause-cost
returns-then-stands_within-clause-cost g c =
    let vecs = c.args.self.now.strings.items in
    let strings = map items_of vecs in
    let i = c.loop-link.link - 1 in
    let within = c.loop-link.invariant.within in
    let some = c.loop-link-test.true in
    let less : i < length vecs = omega (arith, within, some) in
    let string = string_at vecs i c.index.result.now less c.index.ensures in
    let size : length c.deref.result.now ≡ length (get_or strings i []) = ap length (c.deref.ensures.value
    ∙ sym string) in
    spent_more (λ s. 1 + length s) strings c.loop-link.link 0 c.args.budget.now.left c.loop-link.budget.left
    c.stands_within.new.budget.left some (omega (arith, within, length-map vecs items_of)) (omega arith)
    c.loop-link.invariant.cost (omega (arith, size, c.stands_within.ensures.cost))

pub returns-clause-look : goal.returns-clause-look
returns-clause-look g c =
    let set = c.args.self.now in
    let strings = map items_of set.strings.items in
    let h = c.last_key_at-key.result / 16 in
    let P : List ℕ → Type 0 = λ string. StandsAs c.args.bounds c.args.bytes.now c.args.place string → ⊥ in
    let test = c.loop-link-test.false in
    let end : c.loop-link.link ≡ 0 = omega (arith, test) in
    let walked = subst (λ link. IsWalked P (home set.factor) strings link h) end c.loop-link.invariant.walked in
    let test' = c.if-short_at-gt0.false in
    λ hit. none_stands set.width strings c.args.bounds c.args.bytes.now c.args.place c.short_at.result set.long
    c.short_at.ensures (omega (arith, test'))
    (λ k d less stands long. walk_ends P set.factor set.width strings c.args.bytes.now c.args.place h set.weighs
    set.long (ap (λ k. k / 16) c.last_key_at-key.ensures.value) walked k (get_or strings k d) less
    (get_or_default strings k (get_or strings k d) d less) long stands.0 stands) hit.1

pub returns-then-short_at-gt0-clause-look : goal.returns-then-short_at-gt0-clause-look
returns-then-short_at-gt0-clause-look g c = (
  let begins : c.may_begin.result ≡ true = cc in c.may_begin.ensures.0 begins,
  short_stands (map items_of c.args.self.now.strings.items) c.args.bounds c.args.bytes.now c.args.place
      c.short_at.result c.short_at.ensures c.if-short_at-gt0.true,
)
