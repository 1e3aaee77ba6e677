use Rattle.std.proofs.Common.{inl, inr, refl, arith}
use Rattle.pg_literal.proofs.RangeLemmas.{told_by_mask}
use Rattle.pg_literal.proofs.ranges.lanes_before_both.Goals as goal

pub returns-then-found-eq0-clause-none : goal.returns-then-found-eq0-clause-none
returns-then-found-eq0-clause-none c =
    (told_by_mask c.args.near c.args.far 32 (omega arith) c.fits-near.0 c.fits-far.0 _ 32 refl
    (inl (c.if-found-eq0.true, refl))).1

pub returns-else-found-eq0-clause-few : goal.returns-else-found-eq0-clause-few
returns-else-found-eq0-clause-few c =
    (told_by_mask c.args.near c.args.far 32 (omega arith) c.fits-near.0 c.fits-far.0 _ _ refl
    (inr (c.if-found-eq0.false, refl))).0

pub returns-else-found-eq0-clause-none : goal.returns-else-found-eq0-clause-none
returns-else-found-eq0-clause-none c =
    (told_by_mask c.args.near c.args.far 32 (omega arith) c.fits-near.0 c.fits-far.0 _ _ refl
    (inr (c.if-found-eq0.false, refl))).1
