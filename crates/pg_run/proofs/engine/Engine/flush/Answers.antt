use Rattle.pg_run.proofs.engine.Engine.flush.Goals as goal

pub search_round-requires-clause-holds : goal.search_round-requires-clause-holds
search_round-requires-clause-holds g c κs within = c.requires.holds
