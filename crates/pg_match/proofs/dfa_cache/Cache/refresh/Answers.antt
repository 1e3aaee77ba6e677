use Rattle.std.proofs.Common.{length}
use Rattle.pg_match.proofs.CacheLemmas.{blank_dfa}
use Rattle.pg_match.proofs.dfa_cache.Cache.refresh.Goals as goal

pub returns-then-self-ge-PATIENCE : goal.returns-then-self-ge-PATIENCE
returns-then-self-ge-PATIENCE g c = λ m cache. blank_dfa m _ (c.forget.ensures (length m.states) cache.shape)
