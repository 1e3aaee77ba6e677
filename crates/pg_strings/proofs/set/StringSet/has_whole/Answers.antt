use Rattle.std.proofs.Common.{◌≡◌, ◌-◌, ◌<◌, ℕ, List, [], length, map, get_or, true, false, arith, refl, sym}
use Rattle.std.proofs.Common.{subst, ap, ◌∙◌}
use Rattle.std.proofs.lemmas.List.{length-map}
use Rattle.pg_pattern.specs.Strings.{items_of}
use Rattle.pg_strings.specs.Whole.{home_by, whole_home}
use Rattle.pg_strings.proofs.WalkLemmas.{IsWalked, walk_first, walk_next, link_falls}
use Rattle.pg_strings.proofs.PlaceLemmas.{string_at}
use Rattle.pg_strings.proofs.WholeLemmas.{none_is, one_is}
use Rattle.pg_strings.proofs.set.StringSet.has_whole.Goals as goal

pub loop-link-init : goal.loop-link-init
loop-link-init g c =
    let vecs = c.args.self.now.strings.items in
    let P : List ℕ → Type 0 = λ string. string ≡ c.args.text.now → ⊥ in
    let whole = c.args.whole.now in
    let walk = walk_first P whole_home (map items_of vecs) whole.chains.first.items whole.chains.next.items
    c.chain_of.result c.index-link.result.now c.chain_of.ensures.few c.requires.whole.chains.linked
    c.index-link.ensures in
    record {
      within = omega (arith, walk.0, length-map vecs items_of);
      walked = subst (λ h. IsWalked P whole_home (map items_of vecs) c.index-link.result.now h)
          (c.chain_of.ensures.value ∙ ap home_by c.requires.hash) walk.1;
    }

pub loop-link-smaller : goal.loop-link-smaller
loop-link-smaller g c =
    let vecs = c.args.self.now.strings.items in
    let whole = c.args.whole.now in
    let within = c.loop-link.invariant.within in
    link_falls whole_home (map items_of vecs) whole.chains.first.items whole.chains.next.items c.loop-link.link
    c.index-link-in-loop-link.result.now c.requires.whole.chains.linked c.loop-link-test.true
    (omega (arith, within, length-map vecs items_of)) c.index-link-in-loop-link.ensures

pub loop-link-preserved : goal.loop-link-preserved
loop-link-preserved g c =
    let vecs = c.args.self.now.strings.items in
    let strings = map items_of vecs in
    let text = c.args.text.now in
    let whole = c.args.whole.now in
    let P : List ℕ → Type 0 = λ string. string ≡ text → ⊥ in
    let i = c.loop-link.link - 1 in
    let some = c.loop-link-test.true in
    let within = c.loop-link.invariant.within in
    let less : i < length vecs = omega (arith, within, some) in
    let len = length-map vecs items_of in
    let string = string_at vecs i c.index.result.now less c.index.ensures in
    let last : P (get_or strings i []) = λ same.
    let yes : true ≡ false = sym (c.is_text.ensures.1 (c.deref.ensures.value ∙ (sym string ∙ same)))
    ∙ c.if-is_text.false in
    cc in
    let walk = walk_next P whole_home strings whole.chains.first.items whole.chains.next.items c.loop-link.link
    (whole_home text) c.index-link-in-loop-link.result.now c.requires.whole.chains.linked some
    (omega (arith, within, len))
    c.loop-link.invariant.walked last c.index-link-in-loop-link.ensures in
    record { within = omega (arith, walk.0, within, some); walked = walk.1 }

pub returns-then-is_text : goal.returns-then-is_text
returns-then-is_text g c =
    let vecs = c.args.self.now.strings.items in
    let i = c.loop-link.link - 1 in
    let within = c.loop-link.invariant.within in
    let less : i < length vecs = omega (arith, within, c.loop-link-test.true) in
    let string = string_at vecs i c.index.result.now less c.index.ensures in (
      λ yes. one_is (map items_of vecs) c.args.text.now i (omega (arith, less, length-map vecs items_of))
          (string ∙ (sym c.deref.ensures.value ∙ c.is_text.ensures.0 c.if-is_text.true)),
      λ among. refl,
    )

pub returns : goal.returns
returns g c =
    let strings = map items_of c.args.self.now.strings.items in
    let text = c.args.text.now in
    let test = c.loop-link-test.false in
    let end : c.loop-link.link ≡ 0 = omega (arith, test) in
    let walked = subst (λ link. IsWalked (λ string. string ≡ text → ⊥) whole_home strings link (whole_home text)) end
    c.loop-link.invariant.walked in
    (λ yes. absurd (cc), λ among. absurd (none_is strings text (whole_home text) refl walked among))
