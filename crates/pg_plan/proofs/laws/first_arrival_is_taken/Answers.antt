use Rattle.pg_selection.specs.Search.{terminator}
use Rattle.pg_plan.specs.History.{plan}
use Rattle.pg_plan.proofs.ArrivalLaws.{first_is_taken}
use Rattle.pg_plan.proofs.BeginLemmas.{shape_of}
use Rattle.pg_plan.proofs.laws.first_arrival_is_taken.Goals as goal

pub returns : goal.returns
returns c = λ past found lawful. first_is_taken past found (shape_of (terminator past.query) (plan past) lawful)
