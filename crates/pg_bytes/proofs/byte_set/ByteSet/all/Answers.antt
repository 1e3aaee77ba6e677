use Rattle.std.proofs.Common.{ap, ◌∙◌}
use Rattle.std.proofs.Math.Path.{fun_ext}
use Rattle.pg_bytes.specs.Sets.{all, complement}
use Rattle.std.proofs.Math.Bool.{and-true}
use Rattle.pg_bytes.proofs.byte_set.ByteSet.all.Goals as goal

pub returns : goal.returns
returns c = c.complement.ensures ∙ (ap complement c.empty.ensures ∙ fun_ext (λ n. and-true (all n)))
