use Rattle.std.proofs.Common.{refl}
use Rattle.pg_reader.proofs.file_reader.FileReader.give_back.Goals as goal

pub returns-then-is_some-clause-cutter : goal.returns-then-is_some-clause-cutter
returns-then-is_some-clause-cutter g c = refl

pub returns-then-is_some-clause-came : goal.returns-then-is_some-clause-came
returns-then-is_some-clause-came g c = refl

pub returns-else-is_some-clause-cutter : goal.returns-else-is_some-clause-cutter
returns-else-is_some-clause-cutter g c = refl

pub returns-else-is_some-clause-came : goal.returns-else-is_some-clause-came
returns-else-is_some-clause-came g c = refl
