use Rattle.std.proofs.Common.{◌≡◌, ◌<◌, ◌++◌, ◌∷◌, [], length, map, arith, sym, ap, ◌∙◌, subst, get_or, take}
use Rattle.std.proofs.lemmas.List.{length-map, take_more}
use Rattle.std.proofs.lemmas.List.Sorted.{IsNonDecreasingBy-from_sort}
use Rattle.std.specs.List.{All}
use Rattle.pg_pattern.specs.Strings.{items_of}
use Rattle.pg_strings.specs.Whole.{AreIndexed, IsFlaggedAt}
use Rattle.pg_strings.proofs.PlaceLemmas.{string_at, take_whole}
use Rattle.pg_strings.proofs.WholeLemmas.{whole_moved}
use Rattle.pg_strings.proofs.whole.WholeStrings.new.Goals as goal

pub loop-place-preserved : goal.loop-place-preserved
loop-place-preserved g c =
    let vecs = c.args.strings.now in
    let strings = map items_of vecs in
    let i = c.loop-place.place in
    let few : i < length vecs = c.loop-place-test.true in
    let less : i < length strings = omega (arith, few, length-map vecs items_of) in
    let string : get_or strings i [] ≡ c.deref.result.now =
    string_at vecs i c.index-strings-place.result few c.index-strings-place.is ∙ sym c.deref.ensures.value in
    let whole = c.push.new.self in
    subst (λ xs. AreIndexed whole.lengths.items whole.chains.first.items whole.chains.next.items xs)
    (ap (λ t. take i strings ++ t ∷ []) (sym string) ∙ sym (take_more strings i [] less))
    (c.in_ok-push.ensures (take i strings) c.loop-place.invariant)

pub returns : goal.returns
returns g c =
    let strings = map items_of c.args.strings.now in
    let whole = c.loop-place.whole in
    let last = c.loop-place.auto.place-end in
    let all : take c.loop-place.place strings ≡ strings =
    take_whole strings c.loop-place.place (omega (
      arith,
      last,
      c.loop-place-test.false,
      length-map c.args.strings.now items_of,
    )) in
    record {
      chains = whole_moved whole.lengths.items c.sort_unstable.new.self.items whole.chains.first.items
          whole.chains.next.items strings c.sort_unstable.ensures.permutation
          (subst (λ xs. AreIndexed whole.lengths.items whole.chains.first.items whole.chains.next.items xs) all
          c.loop-place.invariant);
      rises = IsNonDecreasingBy-from_sort (λ x. x) c.sort_unstable.new.self.items c.sort_unstable.ensures.sorted;
      all_flags = c.in_ok-whole.ensures.all;
      flagged = subst (λ lengths. All (IsFlaggedAt lengths c.in_ok-whole.field-0.items) strings)
          c.as_slice.ensures.value c.in_ok-whole.ensures.flagged;
    }
