use Rattle.std.proofs.Common.{◌≡◌, ◌+◌, ◌-◌, ◌&&◌, false, eqb, take, drop, get_or, sym, ap, ◌∙◌, arith}
use Rattle.std.proofs.lemmas.Bool.Decides.{nat_tests}
use Rattle.pg_syntax.specs.BracketReading.{until}
use Rattle.pg_syntax.proofs.BracketContents.{with_front, front_more, front_take, until_later, until_end}
use Rattle.pg_syntax.proofs.element.content_end.Goals as goal
use Rattle.pg_syntax.proofs.element.content_end.Goals.{else-text-at-via-then-text-at+else-text-at-eq93}
use Rattle.pg_syntax.proofs.element.content_end.Goals.{else-text-at-via-else-text-at}

pub loop-at-preserved : goal.loop-at-preserved
loop-at-preserved c =
    let text = c.args.text.now in
    let at = c.loop-at.at in
    let from = c.args.from in
    let differs : (eqb (get_or text at 0) c.args.mark && eqb (get_or text (at + 1) 0) 93) ≡ false =
    elim c.else-text-at.branch [
      | else-text-at-via-then-text-at+else-text-at-eq93 w ↦ grind (arith, nat_tests, w.if-text-at-eq93.false)
      | else-text-at-via-else-text-at w ↦ grind (arith, nat_tests, w.if-text-at.false)
    ] in
    record {
      above = omega arith;
      within = omega arith;
      reads =
          c.loop-at.invariant.reads
          ∙ (ap (with_front (take (at - from) (drop from text)))
          (until_later c.args.mark text at c.loop-at-test.true differs)
          ∙ (front_more (take (at - from) (drop from text)) (get_or text at 0) (until c.args.mark (drop (at + 1) text))
          ∙ ap (λ w. with_front w (until c.args.mark (drop (at + 1) text)))
          (sym (front_take text from at c.loop-at.invariant.above (omega arith)))));
    }

pub returns : goal.returns
returns c = c.loop-at.invariant.reads ∙ ap
    (with_front (take (c.loop-at.at - c.args.from) (drop c.args.from c.args.text.now)))
    (until_end c.args.mark c.args.text.now c.loop-at.at c.loop-at-test.false)
