use Rattle.std.proofs.Common.{ap, ◌∙◌}
use Rattle.pg_bytes.specs.Sets.{with}
use Rattle.pg_bytes.proofs.byte_set.ByteSet.one.Goals as goal

pub returns : goal.returns
returns c = c.insert.ensures ∙ ap (with c.args.byte) c.empty-set.ensures
