use Rattle.pg_bytes.specs.ByteSets.{bytes}
use Rattle.pg_literal.specs.Ranges.{covered}
use Rattle.pg_literal.specs.declared.ranges.Cover.TheVariants.{Two}
use Rattle.pg_literal.proofs.RangeLemmas.{all_around}
use Rattle.pg_literal.proofs.ranges.Cover.by_two.Goals as goal

pub returns : goal.returns
returns c =
    all_around (bytes c.args.set.now) (covered (Two c.between.result)) c.next_cut-first.result
    c.next_cut-first.ensures.within c.between.ensures
