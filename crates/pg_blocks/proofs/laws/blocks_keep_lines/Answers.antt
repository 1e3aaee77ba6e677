use Rattle.pg_blocks.proofs.EarlyLemmas.{all_are_cutting, all_have_lines, none_early}
use Rattle.pg_blocks.proofs.laws.blocks_keep_lines.Goals as goal

pub returns-clause-cutting : goal.returns-clause-cutting
returns-clause-cutting c = all_are_cutting

pub returns-clause-same : goal.returns-clause-same
returns-clause-same c = all_have_lines

pub returns-clause-by_size : goal.returns-clause-by_size
returns-clause-by_size c = none_early
