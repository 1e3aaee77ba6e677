use Rattle.pg_seq.proofs.LongerLemmas.{quiet_later}
use Rattle.pg_seq.proofs.laws.later_files_stay_unread.Goals as goal

pub returns : goal.returns
returns c = quiet_later
