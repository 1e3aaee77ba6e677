use Rattle.std.proofs.Common.{◌≡◌, ◌%◌, true, inl, inr, subst, sym, arith}
use Rattle.std.proofs.lemmas.Bool.{cases_lt}
use Rattle.pg_literal.specs.Ranges.{in_range}
use Rattle.pg_literal.proofs.RangeLemmas.{in_stretch}
use Rattle.pg_literal.proofs.ranges.range_between.Goals as goal

pub returns : goal.returns
returns c = λ b from before in_set.
    let first = c.loop-first.first in
    let last = c.loop-last.last in
    let span = sym c.saturating_sub.ensures in
    elim (cases_lt b first) [
      | inl less ↦ absurd (c.loop-last.invariant.before b from less in_set)
      | inr more ↦ elim (cases_lt b last) [
        | inl inside ↦
            subst (λ n. in_range (record { low = first % 256; span = n }) (b % 256) ≡ true) span
            (in_stretch first last b more inside (omega arith))
        | inr beyond ↦ absurd (c.loop-last.invariant.behind b beyond before in_set)
      ]
    ]
