use Rattle.std.proofs.Common.{◌≡◌, ◌<◌, [], length, map, take, arith, sym, ◌∙◌, subst, get_or}
use Rattle.std.specs.List.{All}
use Rattle.std.proofs.lemmas.List.{length-map, take_more}
use Rattle.std.proofs.lemmas.List.Elements.{All-push, All-weaker}
use Rattle.pg_pattern.specs.Strings.{items_of}
use Rattle.pg_strings.specs.Whole.{IsFlaggedAt}
use Rattle.pg_strings.proofs.PlaceLemmas.{string_at, take_whole}
use Rattle.pg_strings.proofs.WholeLemmas.{flagged_kept}
use Rattle.pg_strings.proofs.whole.flags_of.Goals as goal

pub loop-place-preserved : goal.loop-place-preserved
loop-place-preserved g c =
    let vecs = c.args.strings.now in
    let strings = map items_of vecs in
    let lengths = c.args.lengths.now in
    let i = c.loop-place.place in
    let flags = c.flag_beginnings.new.flags.items in
    let few : i < length vecs = c.loop-place-test.true in
    let less : i < length strings = omega (arith, few, length-map vecs items_of) in
    let string : get_or strings i [] ≡ c.deref.result.now =
    string_at vecs i c.index-strings-place.result few c.index-strings-place.is ∙ sym c.deref.ensures.value in
    record {
      all = c.flag_beginnings.ensures.all;
      flagged = subst (All (IsFlaggedAt lengths flags)) (sym (take_more strings i [] less))
          (All-push (IsFlaggedAt lengths flags) (take i strings) (get_or strings i [])
          (All-weaker (IsFlaggedAt lengths c.loop-place.flags.items) (IsFlaggedAt lengths flags)
          (flagged_kept lengths c.loop-place.flags.items flags c.flag_beginnings.ensures.kept) (take i strings)
          c.loop-place.invariant.flagged)
          (subst (IsFlaggedAt lengths flags) (sym string) c.flag_beginnings.ensures.own));
    }

pub returns-clause-flagged : goal.returns-clause-flagged
returns-clause-flagged g c =
    let strings = map items_of c.args.strings.now in
    let last = c.loop-place.auto.place-end in
    subst (All (IsFlaggedAt c.args.lengths.now c.loop-place.flags.items))
    (take_whole strings c.loop-place.place
    (omega (arith, last, c.loop-place-test.false, length-map c.args.strings.now items_of)))
    c.loop-place.invariant.flagged
