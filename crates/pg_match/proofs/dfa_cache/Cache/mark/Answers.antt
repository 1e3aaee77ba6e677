use Rattle.std.proofs.Common.{refl}
use Rattle.pg_match.proofs.dfa_cache.Cache.mark.Goals as goal

pub returns-clause-marked : goal.returns-clause-marked
returns-clause-marked g c =
    record {
      steps = refl;
      ends = refl;
      sets = record { pool = refl; cuts = refl; flags = refl; count = refl };
    }
