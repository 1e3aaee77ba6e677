use Rattle.std.proofs.Common.{◌%◌, inl, inr}
use Rattle.std.proofs.lemmas.Bool.{cases_lt, or_left, or_right}
use Rattle.pg_literal.specs.Ranges.{in_range}
use Rattle.pg_literal.proofs.ranges.RangePair.between.Goals as goal

pub returns : goal.returns
returns c = λ b from before in_set.
    elim (cases_lt b c.args.cut) [
      | inl less ↦
          or_left _ (in_range c.range_between-2.result (b % 256)) (c.range_between.ensures b from less in_set)
      | inr more ↦
          or_right (in_range c.range_between.result (b % 256)) _ (c.range_between-2.ensures b more before in_set)
    ]
