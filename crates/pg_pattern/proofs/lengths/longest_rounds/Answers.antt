use Rattle.std.proofs.Common.{◌*◌, arith, refl, subst}
use Rattle.std.specs.Prelude.{IfSome}
use Rattle.pg_pattern.specs.Lengths.{HasAtMost, HaveAtMost}
use Rattle.pg_pattern.proofs.LengthLemmas.{checked_gives, no_round, rounds_long}
use Rattle.pg_pattern.proofs.lengths.longest_rounds.Goals as goal

pub returns-then-count-eq0 : goal.returns-then-count-eq0
returns-then-count-eq0 c = λ p each. no_round p c.args.count 0 (omega arith)

pub returns : goal.returns
returns c = λ p each.
    let count = c.args.count in
    let one = c.in_ok-each.field-0 in
    let long = subst (λ o. IfSome o (HasAtMost p)) c.in_ok-each.was each in
    checked_gives c.checked_mul.result _ (one * count) c.checked_mul.ensures (HaveAtMost p count)
    (rounds_long p one count (one * count) long refl)
