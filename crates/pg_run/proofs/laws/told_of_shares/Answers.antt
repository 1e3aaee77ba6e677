use Rattle.pg_run.proofs.ToldLemmas.{told_join}
use Rattle.pg_run.proofs.laws.told_of_shares.Goals as goal

pub returns : goal.returns
returns c = told_join
