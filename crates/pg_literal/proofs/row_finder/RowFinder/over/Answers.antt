use Rattle.std.proofs.Common.{IfSome, subst, arith}
use Rattle.pg_literal.specs.CoveredSets.{IsCoveredSet, IsOnlyByte}
use Rattle.pg_literal.specs.Rows.{row_along}
use Rattle.pg_literal.proofs.row_finder.RowFinder.over.Goals as goal

pub invariant_of-result-clause-ordered : goal.invariant_of-result-clause-ordered
invariant_of-result-clause-ordered g c =
    omega (arith, c.covered_at-near.ensures.offset, c.covered_at-far.ensures.offset)

pub invariant_of-result-clause-only_is : goal.invariant_of-result-clause-only_is
invariant_of-result-clause-only_is g c =
    subst (λ xs. IfSome c.cheaper_byte-only.result (IsOnlyByte (row_along xs))) c.deref-4.ensures.value
    c.cheaper_byte-only.ensures

pub invariant_of-result-clause-far_is : goal.invariant_of-result-clause-far_is
invariant_of-result-clause-far_is g c =
    subst (λ xs. IsCoveredSet (row_along xs) c.covered_at-far.result) c.deref-3.ensures.value
    c.covered_at-far.ensures.set
