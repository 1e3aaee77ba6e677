use Rattle.pg_match.proofs.dfa_cache.Cache.find.Goals as goal

pub returns-then-is_same-clause-same : goal.returns-then-is_same-clause-same
returns-then-is_same-clause-same g c = c.is_same.ensures c.if-is_same.true
