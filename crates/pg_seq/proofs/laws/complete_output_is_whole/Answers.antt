use Rattle.std.proofs.Common.{ap}
use Rattle.pg_rows.specs.Output.{output}
use Rattle.pg_plan.specs.Plan.{entries_of}
use Rattle.pg_plan.specs.History.{handed_after}
use Rattle.pg_seq.proofs.laws.complete_output_is_whole.Goals as goal

pub returns : goal.returns
unfolding handed_after
returns c = λ past h. ap (λ p. output past.query past.format (entries_of p)) h.1
