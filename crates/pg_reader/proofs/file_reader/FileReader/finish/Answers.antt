use Rattle.pg_reader.proofs.ReadLemmas.{stands_by}
use Rattle.pg_reader.proofs.file_reader.FileReader.finish.Goals as goal

pub returns-clause-all : goal.returns-clause-all
returns-clause-all g c = λ past stands. c.finish.ensures past (stands_by past c.replace-cutter.ensures.value stands)
