use Rattle.std.proofs.Common.{◌≡◌}
use Rattle.pg_match.proofs.CacheLemmas.{Loading}
use Rattle.pg_match.specs.Closures.{AllBelow}
use Rattle.pg_match.specs.Views.{members, dfa}
use Rattle.pg_match.proofs.dfa_cache.Cache.load.Given as goal

abbrev pub invariant-loop-k : goal.invariant-loop-k
invariant-loop-k g l = record {
  loading : Loading (dfa l.self) l.row (members l.fn.set) (members l.set) l.k;
  ones : AllBelow (members l.set) 1;
  added : (members l.set).added ≡ (members l.fn.set).added;
}
