use Rattle.std.proofs.Common.{◌<◌, length}
use Rattle.pg_literal.proofs.covered.rarest_two.Given as goal

abbrev pub invariant-loop-k : goal.invariant-loop-k
invariant-loop-k l = record {
  rarest : l.rarest < length l.sets;
  next : l.next < length l.sets;
}
