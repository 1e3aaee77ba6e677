use Rattle.std.proofs.Common.{refl}
use Rattle.pg_reader.proofs.file_reader.FileReader.open.Goals as goal

pub returns-clause-cutter : goal.returns-clause-cutter
returns-clause-cutter g c = refl

pub returns-clause-came : goal.returns-clause-came
returns-clause-came g c = refl
