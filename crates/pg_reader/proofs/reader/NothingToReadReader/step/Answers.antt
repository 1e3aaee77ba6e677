use Rattle.std.proofs.Common.{refl}
use Rattle.pg_reader.proofs.reader.NothingToReadReader.step.Goals as goal

pub returns-clause-idle : goal.returns-clause-idle
returns-clause-idle g c = refl

pub returns-clause-same : goal.returns-clause-same
returns-clause-same g c = (refl, refl)
