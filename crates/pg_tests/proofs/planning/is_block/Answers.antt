use Rattle.std.proofs.Common.{arith}
use Rattle.std.proofs.lemmas.Bool.Decides.{Decides-eqb}
use Rattle.std.proofs.lemmas.Slice.Eq.{ends_is}
use Rattle.pg_tests.proofs.planning.is_block.Goals as goal

pub returns-then-bytes-le100 : goal.returns-then-bytes-le100
returns-then-bytes-le100 c = λ t. record {
  short = omega arith;
  ends = (_, (ends_is Decides-eqb _ _ _ c.ends_with.ensures.value).0 t);
}
