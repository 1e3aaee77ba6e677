use Rattle.std.proofs.Common.{◌<◌, ◌+◌, length, map, arith, subst, sym}
use Rattle.std.proofs.Common.{◌∙◌}
use Rattle.std.proofs.lemmas.Bool.{false≢true}
use Rattle.std.proofs.lemmas.List.{get_or_default}
use Rattle.std.proofs.lemmas.List.Sums.{sum_by_more, sum_by_more_le}
use Rattle.pg_pattern.specs.Strings.{items_of}
use Rattle.pg_strings.proofs.WholeLemmas.{NoneOf, none_at_all, none_later, none_more}
use Rattle.pg_strings.proofs.set.StringSet.look_whole.Goals as goal

pub loop-at-init : goal.loop-at-init
loop-at-init g c = record {
  prefix = c.empty-prefix.ensures c.args.bytes.now c.args.place c.requires.place;
  none = λ i low. absurd (omega (arith, low));
  less = omega arith;
  cost = omega arith;
}

pub loop-at-preserved : goal.loop-at-preserved
loop-at-preserved g c =
    let strings = map items_of c.args.self.now.strings.items in
    let lengths = c.args.whole.now.lengths.items in
    let at = c.loop-at.at in
    let len = c.index-len.result.now in
    let less : at < length lengths = omega (arith, c.loop-at-test.true, c.len-at-end.ensures) in
    let is = c.index-len.ensures ∙ get_or_default lengths at len 0 less in
    let before = c.loop-at.invariant.less in
    let cost = c.loop-at.invariant.cost in
    let more = sum_by_more (λ n. 1 + n) lengths at 0 less in
    record {
      prefix = c.stands_whole.ensures.prefix;
      none = none_more strings c.args.bounds c.args.bytes.now c.args.place lengths at len (sym is)
          (λ there. false≢true (sym c.if-stands_whole.false ∙ c.stands_whole.ensures.stands.1 there))
          c.loop-at.invariant.none;
      less = omega (arith, c.spend.ensures, before);
      cost = omega (arith, c.spend.ensures, c.cost.ensures, cost, more, is);
    }

pub returns-clause-look : goal.returns-clause-look
returns-clause-look g c = λ hit.
    let strings = map items_of c.args.self.now.strings.items in
    let whole = c.args.whole.now in
    let lengths = whole.lengths.items in
    let last = c.loop-at.auto.at-end in
    none_at_all lengths whole.chains.first.items whole.chains.next.items strings c.args.bounds c.args.bytes.now
    c.args.place c.requires.whole.chains
    (subst (NoneOf strings c.args.bounds c.args.bytes.now c.args.place lengths)
    (omega (arith, last, c.loop-at-test.false, c.len-at-end.ensures)) c.loop-at.invariant.none) hit.1

pub returns-then-stands_whole-clause-cost : goal.returns-then-stands_whole-clause-cost
returns-then-stands_whole-clause-cost g c =
    let lengths = c.args.whole.now.lengths.items in
    let at = c.loop-at.at in
    let len = c.index-len.result.now in
    let less : at < length lengths = omega (arith, c.loop-at-test.true, c.len-at-end.ensures) in
    let is = c.index-len.ensures ∙ get_or_default lengths at len 0 less in
    let cost = c.loop-at.invariant.cost in
    let more = sum_by_more_le (λ n. 1 + n) lengths at 0 less in
    let worth = c.requires.whole.chains.worth in
    omega (arith, c.spend.ensures, c.cost.ensures, cost, more, is, worth)

pub returns-then-is_last-clause-look : goal.returns-then-is_last-clause-look
returns-then-is_last-clause-look g c = λ hit.
    let strings = map items_of c.args.self.now.strings.items in
    let whole = c.args.whole.now in
    let lengths = whole.lengths.items in
    let at = c.loop-at.at in
    let len = c.index-len.result.now in
    let less : at < length lengths = omega (arith, c.loop-at-test.true, c.len-at-end.ensures) in
    let is = c.index-len.ensures ∙ get_or_default lengths at len 0 less in
    let last = c.is_last.ensures c.if-is_last.true c.args.bytes.now c.args.place c.stands_whole.ensures.prefix in
    none_at_all lengths whole.chains.first.items whole.chains.next.items strings c.args.bounds c.args.bytes.now
    c.args.place c.requires.whole.chains
    (none_later strings c.args.bounds c.args.bytes.now c.args.place lengths at c.requires.whole.rises last
    (none_more strings c.args.bounds c.args.bytes.now c.args.place lengths at len (sym is)
    (λ there. false≢true (sym c.if-stands_whole.false ∙ c.stands_whole.ensures.stands.1 there))
    c.loop-at.invariant.none)) hit.1

pub returns-then-is_last-clause-cost : goal.returns-then-is_last-clause-cost
returns-then-is_last-clause-cost g c =
    let lengths = c.args.whole.now.lengths.items in
    let at = c.loop-at.at in
    let len = c.index-len.result.now in
    let less : at < length lengths = omega (arith, c.loop-at-test.true, c.len-at-end.ensures) in
    let is = c.index-len.ensures ∙ get_or_default lengths at len 0 less in
    let cost = c.loop-at.invariant.cost in
    let more = sum_by_more_le (λ n. 1 + n) lengths at 0 less in
    let worth = c.requires.whole.chains.worth in
    omega (arith, c.spend.ensures, c.cost.ensures, cost, more, is, worth)
