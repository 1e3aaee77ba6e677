use Rattle.std.proofs.Common.{refl}
use Rattle.pg_reader.proofs.GivenLemmas.{taken_grows}
use Rattle.pg_reader.proofs.ReadLemmas.{read_refused, refused_whole}
use Rattle.pg_reader.proofs.file_reader.FileReader.take_buffered.Goals as goal

pub returns-in-Err-clause-reads : goal.returns-in-Err-clause-reads
returns-in-Err-clause-reads g c =
    let e = c.in-Some.ensures in
    read_refused {past = g.F.Files.past} {list = g.F.Files.list} c.requires.more e.done e.same_list
    c.in-Some.taken.items c.in-Err.why e.taken.1 refl c.in-Err.ensures

pub returns-in-Err-clause-refused : goal.returns-in-Err-clause-refused
returns-in-Err-clause-refused g c =
    refused_whole c.requires.more c.in-Some.taken.items c.in-Err.why c.in-Some.ensures.taken.1 refl c.in-Err.ensures

pub returns-in-Err-clause-goes : goal.returns-in-Err-clause-goes
returns-in-Err-clause-goes g c = λ is.
    let e = c.in-Some.ensures in
    taken_grows c.in-Some.taken.items c.requires.fed.2.newest e.taken.0 e.taken.1
