use Rattle.std.proofs.Common.{rules}
use Rattle.pg_bytes.proofs.byte_set.ByteSet.empty.Goals as goal

pub returns : goal.returns
returns c = search rules
