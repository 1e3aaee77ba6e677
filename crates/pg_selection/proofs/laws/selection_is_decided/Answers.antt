use Rattle.pg_selection.proofs.SelectLemmas.{selects_decides}
use Rattle.pg_selection.proofs.laws.selection_is_decided.Goals as goal

pub returns : goal.returns
returns c = selects_decides
