use Rattle.std.proofs.Common.{◌≡◌, ◌+◌, ◌-◌, ℕ, arith, subst}
use Rattle.pg_rows.specs.Places.{FirstLines}
use Rattle.pg_rows.proofs.PlaceLemmas.{first_more}
use Rattle.pg_rows.proofs.places.end_of_first.Goals as goal

pub loop-left-preserved : goal.loop-left-preserved
loop-left-preserved c =
    let done = c.args.count - c.loop-left.left in
    let next = c.end_of_line-at.ensures in
    let less = c.if-at-text.true in
    let few = c.loop-left.invariant.few in
    let same : done + 1 ≡ c.args.count - (c.loop-left.left - 1) = omega (arith, few, c.loop-left-test.true) in
    let more = first_more c.args.end c.args.text.now c.loop-left.at done c.end_of_line-at.result
    c.loop-left.invariant.first less (next.low less) next.high (next.one less) next.apart next.whole in
    let P : ℕ → Type 0 = λ n. FirstLines c.args.end c.args.text.now c.end_of_line-at.result n in
    record { few = omega (arith, few); first = subst P same more }
