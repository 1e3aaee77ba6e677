use Rattle.pg_blocks.proofs.CutExists.{cut_exists}
use Rattle.pg_blocks.proofs.CutLaws.{cut_is_cutting, cuts_are_one}
use Rattle.pg_blocks.proofs.laws.cuts_are_one.Goals as goal

pub returns-clause-exist : goal.returns-clause-exist
returns-clause-exist c = cut_exists

pub returns-clause-cutting : goal.returns-clause-cutting
returns-clause-cutting c = cut_is_cutting

pub returns-clause-one : goal.returns-clause-one
returns-clause-one c = cuts_are_one
