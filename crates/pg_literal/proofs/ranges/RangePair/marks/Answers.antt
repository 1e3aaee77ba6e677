use Rattle.std.proofs.Common.{◌∙◌}
use Rattle.std.proofs.lemmas.Simd.{zip2_of_maps}
use Rattle.pg_literal.specs.Ranges.{in_range, bit_of}
use Rattle.pg_literal.proofs.RangeLemmas.{mark_either}
use Rattle.pg_literal.proofs.ranges.RangePair.marks.Goals as goal

pub returns : goal.returns
returns c =
    zip2_of_maps _ (λ b. bit_of (in_range c.args.self.first b)) (λ b. bit_of (in_range c.args.self.second b))
    c.args.lanes
    c.marks_in.ensures c.marks_in-2.ensures
    ∙ mark_either (in_range c.args.self.first) (in_range c.args.self.second) c.args.lanes
