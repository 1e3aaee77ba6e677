use Rattle.std.proofs.Common.{arith}
use Rattle.pg_syntax.proofs.BracketSteps.{ranged}
use Rattle.pg_syntax.proofs.element.Element.range.Goals as goal

pub returns : goal.returns
returns c =
    ranged c.in_ok-low.low c.in_ok-high.high _ _ _ c.in_ok-low.ensures c.in_ok-high.ensures (omega arith)
    c.between.ensures
