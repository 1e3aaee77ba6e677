use Rattle.std.proofs.Common.{◌≡◌, ◌+◌, ◌-◌, ◌∷◌, [], ◌++◌, length, take, drop, Some, sym, ap, ◌∙◌}
use Rattle.std.specs.Prelude.{position}
use Rattle.pg_grammar.specs.Slices.{bytes_of}
use Rattle.pg_grammar.proofs.SplitLemmas.{newline}
use Rattle.pg_grammar.proofs.ListLemmas.{bytes-pushed, within-more, split-more, lines-more, split-end, lines-end}
use Rattle.pg_syntax.proofs.list.push_ended.Goals as goal

pub loop-len-preserved : goal.loop-len-preserved
loop-len-preserved g c =
    let text = c.args.text.now in
    let start = c.loop-len.start in
    let len = c.in-Some.len in
    let done = bytes_of c.loop-len.texts.items in
    let found : position newline (take (length text - start) (drop start text)) ≡ Some len = sym c.in-Some.ensures in
    let pushed : bytes_of c.push.new.self.items ≡ done ++ take ((start + len) - start) (drop start text) ∷ [] =
    bytes-pushed c.push.new.self.items c.loop-len.texts.items _ c.in_ok-push.ensures.items in
    record {
      within = within-more text start len c.loop-len.invariant.within found;
      split = split-more (bytes_of c.push.new.self.items) done text start len pushed found ∙ c.loop-len.invariant.split;
      lines = lines-more (bytes_of c.push.new.self.items) done text start len pushed found ∙ c.loop-len.invariant.lines;
    }

pub returns-clause-split : goal.returns-clause-split
returns-clause-split g c = ap (λ t. bytes_of c.loop-len.texts.items ++ t)
    (split-end c.args.text.now c.loop-len.start (sym c.in_default.ensures)) ∙ c.loop-len.invariant.split

pub returns-clause-lines : goal.returns-clause-lines
returns-clause-lines g c = ap (λ t. bytes_of c.loop-len.texts.items ++ t)
    (lines-end c.args.text.now c.loop-len.start (sym c.in_default.ensures)) ∙ c.loop-len.invariant.lines
