use Rattle.std.proofs.Common.{◌≡◌, ◌<◌, ◌++◌, ◌∷◌, [], length, map, arith, sym, ap, ◌∙◌, subst, get_or, take}
use Rattle.std.proofs.lemmas.List.{length-map, take_more}
use Rattle.pg_pattern.specs.Strings.{items_of}
use Rattle.pg_strings.specs.Short.{AreTables}
use Rattle.pg_strings.proofs.PlaceLemmas.{string_at}
use Rattle.pg_strings.proofs.short.ShortStrings.new.Goals as goal

pub loop-place-preserved : goal.loop-place-preserved
loop-place-preserved g c =
    let vecs = c.args.strings.now in
    let strings = map items_of vecs in
    let i = c.loop-place.place in
    let few : i < length vecs = c.loop-place-test.true in
    let less : i < length strings = omega (arith, few, length-map vecs items_of) in
    let string : get_or strings i [] ≡ c.deref.result.now =
    string_at vecs i c.index-strings-place.result few c.index-strings-place.is ∙ sym c.deref.ensures.value in
    subst (λ xs. AreTables c.learn.new.self.singles.items c.learn.new.self.pairs.items xs)
    (ap (λ t. take i strings ++ t ∷ []) (sym string) ∙ sym (take_more strings i [] less))
    (c.learn.ensures (take i strings) c.loop-place.invariant)
