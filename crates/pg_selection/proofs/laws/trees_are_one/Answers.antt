use Rattle.pg_selection.proofs.TreeLemmas.{same_query}
use Rattle.pg_selection.proofs.laws.trees_are_one.Goals as goal

pub returns : goal.returns
returns c = same_query
