use Rattle.pg_pattern.proofs.TestLemmas.{match_decided, hits_decided}
use Rattle.pg_pattern.proofs.laws.hits_are_decided.Goals as goal

pub returns-clause-matches : goal.returns-clause-matches
returns-clause-matches c = λ pattern line. match_decided line pattern

pub returns-clause-hits : goal.returns-clause-hits
returns-clause-hits c = hits_decided
