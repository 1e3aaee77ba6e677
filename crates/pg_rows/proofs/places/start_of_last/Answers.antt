use Rattle.std.proofs.Common.{◌≡◌, ◌+◌, ◌-◌, ◌<◌, ℕ, arith, subst}
use Rattle.pg_rows.proofs.PlaceLemmas.{LastLines, last_more, last_kept, some_before}
use Rattle.pg_rows.proofs.places.start_of_last.Goals as goal

pub loop-left-preserved : goal.loop-left-preserved
loop-left-preserved c =
    let done = c.args.count - c.loop-left.left in
    let begins = c.begin_of_line-start.ensures in
    let few = c.loop-left.invariant.few in
    let same : done + 1 ≡ c.args.count - (c.loop-left.left - 1) = omega (arith, few, c.loop-left-test.true) in
    let less : done < c.args.count = omega (arith, few, c.loop-left-test.true) in
    let some = some_before c.args.end c.args.text.now c.loop-left.start done c.args.count c.loop-left.invariant.last
    c.requires.within less in
    let more = last_more c.args.end c.args.text.now c.loop-left.start done c.begin_of_line-start.result
    c.loop-left.invariant.last some begins.low begins.clear begins.whole in
    let P : ℕ → Type 0 = λ n. LastLines c.args.end c.args.text.now c.begin_of_line-start.result n in
    record { few = omega (arith, few); last = subst P same more }

pub returns-clause-last : goal.returns-clause-last
returns-clause-last c =
    let same : c.args.count - c.loop-left.left ≡ c.args.count = omega (arith, c.loop-left-test.false) in
    let P : ℕ → Type 0 = λ n. LastLines c.args.end c.args.text.now c.loop-left.start n in
    last_kept c.args.end c.args.text.now c.loop-left.start c.args.count (subst P same c.loop-left.invariant.last)
