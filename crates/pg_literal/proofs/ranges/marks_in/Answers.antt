use Rattle.std.proofs.Common.{ℕ}
use Rattle.std.proofs.lemmas.Simd.{zip2_splat}
use Rattle.pg_literal.proofs.RangeLemmas.{marks_below}
use Rattle.pg_literal.proofs.ranges.marks_in.Goals as goal

pub returns : goal.returns
returns c =
    marks_below _ c.args.lanes _ 32 c.args.range.span c.fits-lanes.0
    (zip2_splat {Y = ℕ} {Z = ℕ} _ c.args.lanes 32 c.args.range.low c.fits-lanes.0)
