use Rattle.pg_tests.proofs.ReadingLemmas.{may_open, opened_next}
use Rattle.pg_tests.proofs.planning.open_file.Goals as goal

pub open-requires : goal.open-requires
open-requires g c =
    let r = c.requires.between in
    (r.past, (r.stands, may_open c.args.sequencer.now c.args.file c.args.name.now r c.requires.few))

pub returns-in-Ok : goal.returns-in-Ok
returns-in-Ok g c =
    let r = c.requires.between in
    opened_next c.args.sequencer.now _ c.args.file c.args.name.now r (c.in-Ok.ensures.ok r.past r.stands)

pub open-requires-in-Err : goal.open-requires-in-Err
open-requires-in-Err g c =
    let r = c.requires.between in
    let stands = c.in-Err.ensures.err r.past r.stands in
    (r.past, (stands, may_open c.args.sequencer.now c.args.file c.args.name.now r c.requires.few))

pub returns-in_ok-open-in-Err : goal.returns-in_ok-open-in-Err
returns-in_ok-open-in-Err g c =
    let r = c.requires.between in
    let stands = c.in-Err.ensures.err r.past r.stands in
    opened_next c.args.sequencer.now _ c.args.file c.args.name.now r (c.in_ok-open-in-Err.ensures.ok r.past stands)
