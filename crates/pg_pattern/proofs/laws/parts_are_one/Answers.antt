use Rattle.pg_pattern.proofs.PartLaws.{parts_are_parts, parts_are_one}
use Rattle.pg_pattern.proofs.laws.parts_are_one.Goals as goal

pub returns-clause-exist : goal.returns-clause-exist
returns-clause-exist c = parts_are_parts

pub returns-clause-one : goal.returns-clause-one
returns-clause-one c = parts_are_one
