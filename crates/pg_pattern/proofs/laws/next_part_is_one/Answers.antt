use Rattle.pg_pattern.proofs.HitLaws.{next_is_one}
use Rattle.pg_pattern.proofs.laws.next_part_is_one.Goals as goal

pub returns : goal.returns
returns c = λ patterns bounds line place i j i' j' a b. next_is_one patterns bounds line place i j i' j' a b
