use Rattle.std.proofs.Common.{◌∙◌}
use Rattle.pg_bytes.specs.Sets.{union}
use Rattle.pg_bytes.proofs.classes.space.Goals as goal

pub returns : goal.returns
returns c = c.union.ensures ∙ (λ i. union (c.between.ensures i) (c.one.ensures i))
