use Rattle.pg_board.proofs.MergeLemmas.{merge_length, merge_ends}
use Rattle.pg_board.proofs.laws.merges_are_whole.Goals as goal

pub returns-clause-length : goal.returns-clause-length
returns-clause-length g c = merge_length

pub returns-clause-end : goal.returns-clause-end
returns-clause-end g c = merge_ends
