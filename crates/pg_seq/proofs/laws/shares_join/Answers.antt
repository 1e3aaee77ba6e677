use Rattle.pg_seq.proofs.ShareLemmas.{outputs_join, plain_join, statuses_join}
use Rattle.pg_seq.proofs.laws.shares_join.Goals as goal

pub returns-clause-plain : goal.returns-clause-plain
returns-clause-plain c = plain_join

pub returns-clause-output : goal.returns-clause-output
returns-clause-output c = outputs_join

pub returns-clause-status : goal.returns-clause-status
returns-clause-status c = statuses_join
