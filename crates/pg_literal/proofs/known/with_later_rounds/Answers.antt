use Rattle.std.proofs.Common.{◌-◌, inl, arith, rules, refl}
use Rattle.pg_pattern.proofs.PatternLemmas.{pattern-set}
use Rattle.pg_literal.proofs.KnownLemmas.{extends_rounds}
use Rattle.pg_literal.proofs.known.with_later_rounds.Goals as goal

pub returns-in_ok-behind-in-Set : goal.returns-in_ok-behind-in-Set
returns-in_ok-behind-in-Set g c = λ fold whole first.
    let rounds = c.min.result in
    let behind = c.in_ok-behind-in-Set.ensures fold in
    let once = rw (pattern-set _ _ c.in-Set.is) at first in
    rw (pattern-set _ _ c.in-Set.is)
    (extends_rounds fold _ (rounds - 1) rounds _ _ _ _ _ _ (omega arith) (omega arith)
    (rw c.min.ensures (c.in_ok-hidden-in-Set.ensures fold)) behind once)

pub returns-in_default : goal.returns-in_default
returns-in_default g c = λ fold whole first.
    extends_rounds fold _ 0 1 _ _ _ _ _ _ refl (search rules) (inl c.with_other_rounds.ensures) refl first
