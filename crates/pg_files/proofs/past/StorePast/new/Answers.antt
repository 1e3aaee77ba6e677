use Rattle.std.proofs.Common.{refl}
use Rattle.pg_files.proofs.past.StorePast.new.Goals as goal

pub returns : goal.returns
returns c = refl
