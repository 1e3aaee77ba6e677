use Rattle.pg_tests.proofs.ReadingLemmas.{missed}
use Rattle.pg_tests.proofs.planning.miss_name.Goals as goal

pub miss-requires : goal.miss-requires
miss-requires g c =
    let r = c.requires in
    (r.past, (r.stands, (r.closed, tt)))

pub returns : goal.returns
returns g c =
    let r = c.requires in
    missed c.args.sequencer.now _ c.args.files c.args.name.now r (c.in_ok-miss.ensures.ok r.past r.stands)
