use Rattle.pg_seq.proofs.LongerLemmas.{longer_same}
use Rattle.pg_seq.proofs.laws.left_files_may_be_longer.Goals as goal

pub returns : goal.returns
returns c = longer_same
