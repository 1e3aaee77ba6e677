use Rattle.pg_blocks.proofs.LineLaws.{lines_are_lines, lines_are_one}
use Rattle.pg_blocks.proofs.laws.lines_are_one.Goals as goal

pub returns-clause-exist : goal.returns-clause-exist
returns-clause-exist c = lines_are_lines

pub returns-clause-one : goal.returns-clause-one
returns-clause-one c = lines_are_one
