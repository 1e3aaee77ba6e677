use Rattle.pg_seq.proofs.SettleLemmas.{suffice_settled}
use Rattle.pg_seq.proofs.laws.lines_that_suffice_settle.Goals as goal

pub returns : goal.returns
returns c = suffice_settled
