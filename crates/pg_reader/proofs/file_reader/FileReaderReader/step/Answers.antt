use Rattle.std.proofs.Common.{rules, refl}
use Rattle.pg_reader.proofs.ReadLemmas.{has_stayed, reads_further, same_fed}
use Rattle.pg_reader.proofs.file_reader.FileReaderReader.step.Goals as goal

pub read-requires : goal.read-requires
read-requires g c =
    let r = c.requires in
    let room = c.make_room.ensures in
    record { more = search rules; fed = (r.0, r.1, same_fed r.2 _ (room.keeps.stands r.0 r.2.cut) room.came) }

pub returns-clause-ready : goal.returns-clause-ready
returns-clause-ready g c =
    let r = c.requires in
    let room = c.make_room.ensures in
    let m = c.read.ensures.reads.feeds r.0 r.1 (same_fed r.2 _ (room.keeps.stands r.0 r.2.cut) room.came) in
    (_, m.lost, same_fed m.feeds _ m.feeds.cut refl)

pub returns-clause-reaches : goal.returns-clause-reaches
returns-clause-reaches g c = λ reader files before.
    let room = c.make_room.ensures in
    let read = reads_further (has_stayed _ room.keeps.stands room.came) c.read.ensures.reads in
    reads_further (reads_further before read) (has_stayed _ (λ fed stands. stands) refl)

pub returns-then-is_err-clause-ready : goal.returns-then-is_err-clause-ready
returns-then-is_err-clause-ready g c =
    let r = c.requires in
    let room = c.make_room.ensures in
    (r.0, r.1, same_fed r.2 _ (room.keeps.stands r.0 r.2.cut) room.came)

pub returns-then-is_err-clause-reaches : goal.returns-then-is_err-clause-reaches
returns-then-is_err-clause-reaches g c = λ reader files before.
    let room = c.make_room.ensures in
    reads_further before (has_stayed _ room.keeps.stands room.came)

pub returns-then-ahead-eq0-clause-reaches : goal.returns-then-ahead-eq0-clause-reaches
returns-then-ahead-eq0-clause-reaches g c = λ reader files before. before
