use Rattle.pg_match.proofs.CacheLemmas.{Copying}
use Rattle.pg_match.specs.Views.{members, dfa, SameLimits}
use Rattle.pg_match.proofs.dfa_cache.Cache.write.Given as goal

abbrev pub invariant-loop-k : goal.invariant-loop-k
invariant-loop-k g l = record {
  copying : Copying (dfa l.fn.self) (dfa l.self) (members l.set) l.start l.k;
  limits : SameLimits l.fn.self l.self;
}
