use Rattle.pg_tests.proofs.ReadingLemmas.{ended}
use Rattle.pg_tests.proofs.planning.end_file.Goals as goal

pub end-requires : goal.end-requires
end-requires g c =
    let r = c.requires.1 in
    (r.past, (r.stands, (r.running, tt)))

pub returns : goal.returns
returns g c =
    let r = c.requires.1 in
    ended c.args.sequencer.now _ c.args.file c.requires.0 r (c.end.ensures r.past r.stands)
