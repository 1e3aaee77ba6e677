use Rattle.std.proofs.Common.{◌<◌, length, map, inl, inr, arith, subst, sym, ◌∙◌}
use Rattle.std.proofs.lemmas.Bool.{false≢true}
use Rattle.std.proofs.lemmas.List.{get_or_default}
use Rattle.pg_pattern.specs.Strings.{items_of}
use Rattle.pg_strings.proofs.WholeLemmas.{IsLongestOf, longest_more, longest_later, longest_of_all}
use Rattle.pg_strings.proofs.LongestLemmas.{some_bytes}
use Rattle.pg_strings.proofs.set.StringSet.longest_whole.Goals as goal
use Rattle.pg_strings.proofs.set.StringSet.longest_whole.Goals.{then-stands_whole, else-stands_whole}

pub loop-at-init : goal.loop-at-init
loop-at-init g c = record {
  prefix = c.empty-prefix.ensures c.args.bytes.now c.args.place c.requires.place;
  longest = record { stands = λ some. absurd (omega (arith, some)); most = λ i less. absurd (omega (arith, less)) };
}

pub loop-at-preserved : goal.loop-at-preserved
loop-at-preserved g c =
    let strings = map items_of c.args.self.now.strings.items in
    let lengths = c.args.whole.now.lengths.items in
    let at = c.loop-at.at in
    let len = c.index-len.result.now in
    let less : at < length lengths = omega (arith, c.loop-at-test.true, c.len-at-end.ensures) in
    let is = c.index-len.ensures ∙ get_or_default lengths at len 0 less in
    record {
      prefix = c.stands_whole.ensures.prefix;
      longest = longest_more strings c.args.bounds c.args.bytes.now c.args.place lengths at len c.loop-at.longest
          c.if-stands_whole.longest (sym is) (elim c.if-stands_whole.branch [
            | then-stands_whole w ↦
                inl (c.stands_whole.ensures.stands.0 w.if-stands_whole.true, w.longest-is ∙ w.max-longest.ensures)
            | else-stands_whole w ↦ inr (
              λ there. false≢true (sym w.if-stands_whole.false ∙ c.stands_whole.ensures.stands.1 there),
              w.longest-is,
            )
          ]) c.loop-at.invariant.longest;
    }

pub returns-then-is_last : goal.returns-then-is_last
returns-then-is_last g c =
    let set = c.args.self.now in
    let strings = map items_of set.strings.items in
    let whole = c.args.whole.now in
    let lengths = whole.lengths.items in
    let at = c.loop-at.at in
    let len = c.index-len.result.now in
    let longest = c.if-stands_whole.longest in
    let less : at < length lengths = omega (arith, c.loop-at-test.true, c.len-at-end.ensures) in
    let is = c.index-len.ensures ∙ get_or_default lengths at len 0 less in
    let found = longest_more strings c.args.bounds c.args.bytes.now c.args.place lengths at len c.loop-at.longest
    longest (sym is) (elim c.if-stands_whole.branch [
      | then-stands_whole w ↦
          inl (c.stands_whole.ensures.stands.0 w.if-stands_whole.true, w.longest-is ∙ w.max-longest.ensures)
      | else-stands_whole w ↦ inr (
        λ there. false≢true (sym w.if-stands_whole.false ∙ c.stands_whole.ensures.stands.1 there),
        w.longest-is,
      )
    ]) c.loop-at.invariant.longest in
    let last = c.is_last.ensures c.if-is_last.true c.args.bytes.now c.args.place c.stands_whole.ensures.prefix in
    longest_of_all lengths whole.chains.first.items whole.chains.next.items strings c.args.bounds c.args.bytes.now
    c.args.place longest c.requires.whole.chains (some_bytes set.width strings set.long)
    (longest_later strings c.args.bounds c.args.bytes.now c.args.place lengths at longest c.requires.whole.rises last
    found) c.unless_zero.result c.unless_zero.ensures

pub returns : goal.returns
returns g c =
    let set = c.args.self.now in
    let strings = map items_of set.strings.items in
    let whole = c.args.whole.now in
    let lengths = whole.lengths.items in
    let last = c.loop-at.auto.at-end in
    longest_of_all lengths whole.chains.first.items whole.chains.next.items strings c.args.bounds c.args.bytes.now
    c.args.place c.loop-at.longest c.requires.whole.chains (some_bytes set.width strings set.long)
    (subst (λ n. IsLongestOf strings c.args.bounds c.args.bytes.now c.args.place lengths n c.loop-at.longest)
    (omega (arith, last, c.loop-at-test.false, c.len-at-end.ensures)) c.loop-at.invariant.longest)
    c.unless_zero-2.result c.unless_zero-2.ensures
