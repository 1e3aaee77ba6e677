use Rattle.std.proofs.Common.{◌≡◌, ◌∙◌, true, false, length, take, ap, sym, refl}
use Rattle.pg_blocks.specs.Cutter.{room_of}
use Rattle.pg_blocks.specs.Lending.{with_room}
use Rattle.pg_blocks.proofs.RoomLemmas.{written_room}
use Rattle.pg_blocks.proofs.FeedLemmas.{feeds_behind}
use Rattle.pg_files.specs.Given.{gave_bytes}
use Rattle.pg_reader.proofs.GivenLemmas.{read_some, read_none, read_grows}
use Rattle.pg_reader.proofs.ReadLemmas.{read_stopped, read_cut, read_refused, read_unread, refused_whole}
use Rattle.pg_reader.proofs.file_reader.FileReader.read_in_place.Goals as goal

pub returns-then-is_err-clause-reads : goal.returns-then-is_err-clause-reads
returns-then-is_err-clause-reads g c =
    read_unread {past = g.F.Files.past} {list = g.F.Files.list} c.requires.more refl refl refl refl
    (λ fed stands. c.make_room.ensures.keeps.stands fed stands)

pub returns-in_default-clause-reads : goal.returns-in_default-clause-reads
returns-in_default-clause-reads g c =
    let e = c.in_default.ensures in
    let made = c.make_room.new.self.cutter in
    let fits : length c.read.new.into ≡ length (room_of made) = e.size ∙ ap length c.room.ensures.value in
    read_stopped {past = g.F.Files.past} {list = g.F.Files.list} c.requires.more e.done e.same_list true e.given refl
    (λ end longest. refl)
    (λ fed stands. (written_room made c.read.new.into fits).0.stands fed (c.make_room.ensures.keeps.stands fed stands))

pub returns-then-count-eq0-clause-reads : goal.returns-then-count-eq0-clause-reads
returns-then-count-eq0-clause-reads g c =
    let e = c.in-Ok.ensures in
    let given = (g.F.Files.past c.args.files.now).given in
    let made = c.make_room.new.self.cutter in
    let fits : length c.read.new.into ≡ length (room_of made) = e.size ∙ ap length c.room.ensures.value in
    read_stopped {past = g.F.Files.past} {list = g.F.Files.list} c.requires.more e.done e.same_list false
    (e.given.1 ∙ read_none c.read.new.into c.in-Ok.count given c.if-count-eq0.true) refl (λ end longest. refl)
    (λ fed stands. (written_room made c.read.new.into fits).0.stands fed (c.make_room.ensures.keeps.stands fed stands))

pub returns-in-Err-clause-reads : goal.returns-in-Err-clause-reads
returns-in-Err-clause-reads g c =
    let e = c.in-Ok.ensures in
    let given = (g.F.Files.past c.args.files.now).given in
    let made = c.make_room.new.self.cutter in
    let fits : length c.read.new.into ≡ length (room_of made) = e.size ∙ ap length c.room.ensures.value in
    let lent = written_room made c.read.new.into fits in
    let keeps = c.make_room.ensures.keeps in
    read_refused {past = g.F.Files.past} {list = g.F.Files.list} c.requires.more e.done e.same_list
    (take c.in-Ok.count (room_of (with_room made c.read.new.into))) c.in-Err.fault
    (e.given.1 ∙ read_some c.read.new.into c.in-Ok.count given c.if-count-eq0.false
    ∙ ap (λ xs. gave_bytes (take c.in-Ok.count xs) given) (sym lent.1)) refl
    (feeds_behind refl (λ fed stands. lent.0.stands fed (keeps.stands fed stands)) c.in-Err.ensures.fed)

pub returns-in-Err-clause-refused : goal.returns-in-Err-clause-refused
returns-in-Err-clause-refused g c =
    let e = c.in-Ok.ensures in
    let given = (g.F.Files.past c.args.files.now).given in
    let made = c.make_room.new.self.cutter in
    let fits : length c.read.new.into ≡ length (room_of made) = e.size ∙ ap length c.room.ensures.value in
    let lent = written_room made c.read.new.into fits in
    let keeps = c.make_room.ensures.keeps in
    refused_whole c.requires.more (take c.in-Ok.count (room_of (with_room made c.read.new.into))) c.in-Err.fault
    (e.given.1 ∙ read_some c.read.new.into c.in-Ok.count given c.if-count-eq0.false
    ∙ ap (λ xs. gave_bytes (take c.in-Ok.count xs) given) (sym lent.1)) refl
    (feeds_behind refl (λ fed stands. lent.0.stands fed (keeps.stands fed stands)) c.in-Err.ensures.fed)

pub returns-in_default-fill-clause-reads : goal.returns-in_default-fill-clause-reads
returns-in_default-fill-clause-reads g c =
    let e = c.in-Ok.ensures in
    let given = (g.F.Files.past c.args.files.now).given in
    let made = c.make_room.new.self.cutter in
    let fits : length c.read.new.into ≡ length (room_of made) = e.size ∙ ap length c.room.ensures.value in
    let lent = written_room made c.read.new.into fits in
    let keeps = c.make_room.ensures.keeps in
    read_cut {past = g.F.Files.past} {list = g.F.Files.list} c.requires.more e.done e.same_list
    (take c.in-Ok.count (room_of (with_room made c.read.new.into)))
    (e.given.1 ∙ read_some c.read.new.into c.in-Ok.count given c.if-count-eq0.false
    ∙ ap (λ xs. gave_bytes (take c.in-Ok.count xs) given) (sym lent.1)) (c.make_room.ensures.came ∙ c.requires.more)
    (λ fed stands. c.in_default-fill.ensures.fed.ok fed (lent.0.stands fed (keeps.stands fed stands)))

pub returns-in_default-fill-clause-goes : goal.returns-in_default-fill-clause-goes
returns-in_default-fill-clause-goes g c = λ more.
    let e = c.in-Ok.ensures in
    read_grows c.read.new.into c.in-Ok.count c.requires.fed.2.newest e.given.0 c.if-count-eq0.false e.given.1
