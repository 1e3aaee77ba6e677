use Rattle.pg_selection.specs.Search.{terminator}
use Rattle.pg_plan.specs.History.{plan}
use Rattle.pg_plan.proofs.BeginLemmas.{handed_begins, shape_of}
use Rattle.pg_plan.proofs.laws.handed_out_begins.Goals as goal

pub returns : goal.returns
returns c = λ past room lawful. handed_begins past room (shape_of (terminator past.query) (plan past) lawful)
