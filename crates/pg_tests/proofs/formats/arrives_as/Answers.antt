use Rattle.pg_tests.proofs.ReadingLemmas.{arrived_on}
use Rattle.pg_tests.proofs.formats.arrives_as.Goals as goal

pub returns : goal.returns
returns g c =
    let r = c.requires in
    let stands = c.arrive-answer.ensures.stands r.past r.stands in
    arrived_on c.args.sequencer.now _ c.args.file c.args.count c.args.found r stands
