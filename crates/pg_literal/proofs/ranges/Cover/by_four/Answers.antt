use Rattle.std.proofs.Common.{◌%◌, inl, inr}
use Rattle.std.proofs.lemmas.Bool.{cases_lt, or_left, or_right}
use Rattle.pg_bytes.specs.ByteSets.{bytes}
use Rattle.pg_literal.specs.Ranges.{covered, in_pair}
use Rattle.pg_literal.specs.declared.ranges.Cover.TheVariants.{Four}
use Rattle.pg_literal.proofs.RangeLemmas.{all_around}
use Rattle.pg_literal.proofs.ranges.Cover.by_four.Goals as goal

pub returns : goal.returns
returns c =
    let pair = c.between.result in
    let other = c.between-2.result in
    all_around (bytes c.args.set.now) (covered (Four pair other)) c.next_cut-first.result
    c.next_cut-first.ensures.within
    (λ b from before in_set. elim (cases_lt b c.next_cut-third.result) [
      | inl less ↦ or_left _ (in_pair other (b % 256)) (c.between.ensures b from less in_set)
      | inr more ↦ or_right (in_pair pair (b % 256)) _ (c.between-2.ensures b more before in_set)
    ])
