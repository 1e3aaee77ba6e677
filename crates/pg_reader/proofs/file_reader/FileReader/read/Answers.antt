use Rattle.std.proofs.Common.{refl}
use Rattle.pg_reader.proofs.ReadLemmas.{fed_yet, same_fed}
use Rattle.pg_reader.proofs.file_reader.FileReader.read.Goals as goal

pub returns-then-self-eq0-clause-refused : goal.returns-then-self-eq0-clause-refused
returns-then-self-eq0-clause-refused g c = λ fed lost fault h refused.
    c.read_in_place.ensures.refused fed lost fault (fed_yet (c.if-take_buffered.ensures.none refl) h) refused

pub returns-clause-refused : goal.returns-clause-refused
returns-clause-refused g c = λ fed lost fault h refused.
    let yet = fed_yet (c.if-take_buffered.ensures.none refl) h in
    c.read_copied.ensures.refused fed lost fault (same_fed yet _ yet.cut refl) refused
