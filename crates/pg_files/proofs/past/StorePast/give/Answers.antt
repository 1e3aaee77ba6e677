use Rattle.std.proofs.Common.{rules}
use Rattle.pg_files.proofs.past.StorePast.give.Goals as goal

pub returns : goal.returns
returns c = search rules
