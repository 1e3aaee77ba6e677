use Rattle.std.proofs.Common.{rules, arith, refl}
use Rattle.pg_match.proofs.StateSetLemmas.{empty_good}
use Rattle.pg_match.proofs.CacheLemmas.{zeros}
use Rattle.pg_match.proofs.sparse_set.StateSet.new.Goals as goal

pub returns-clause-size : goal.returns-clause-size
returns-clause-size g c = omega (arith, c.in_ok-marks.ensures.len, c.in_ok-marks.marks.ok.0)

pub returns-clause-empty : goal.returns-clause-empty
returns-clause-empty g c =
    let zero = zeros _ c.args.states (c.in_ok-marks.ensures.items_if_clones_equal (λ y h. search rules)) in
    (refl, zero)

pub returns-clause-good : goal.returns-clause-good
returns-clause-good g c =
    let zero = zeros _ c.args.states (c.in_ok-marks.ensures.items_if_clones_equal (λ y h. search rules)) in
    let order = c.in_ok-order.order.ok.0 in
    let marks = c.in_ok-marks.marks.ok.0 in
    empty_good _ (omega (arith, c.in_ok-order.ensures.len, c.in_ok-marks.ensures.len)) refl zero
