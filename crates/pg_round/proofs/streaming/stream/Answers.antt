use Rattle.std.proofs.Common.{rules, refl, sym}
use Rattle.pg_round.proofs.streaming.stream.Goals as goal

pub join_mut-requires-after_bounds : goal.join_mut-requires-after_bounds
join_mut-requires-after_bounds g c κs within =
    let q = c.requires in (
      ((refl, q.finished), (q.ready, search rules)),
      ((q.take.0, q.take.1, q.sees), q.reader),
    )

-- What was lent to the closure is, once it is given back, what the closure left.
pub returns-clause-same : goal.returns-clause-same
returns-clause-same g c =
    let m = c.join_mut.ensures.1.met.0 in
    rw (c.take-1.given.1 (sym m.2)) c.join_mut.ensures.1.met.1.0

pub returns-clause-took : goal.returns-clause-took
returns-clause-took g c =
    let m = c.join_mut.ensures.1.met.0 in
    rw (c.take-1.given.1 (sym m.2), c.collector-1.given.1 (sym m.3), c.out-1.given.1 (sym m.4))
    c.join_mut.ensures.1.met.1.1.0

pub returns-clause-fault : goal.returns-clause-fault
returns-clause-fault g c = c.join_mut.ensures.1.met.1.1.1.0

pub returns-clause-read : goal.returns-clause-read
returns-clause-read g c =
    let m = c.join_mut.ensures.1.met.0 in
    rw (c.reader-1.given.1 (sym m.5), c.from-1.given.1 (sym m.6)) c.join_mut.ensures.1.met.1.1.1.1
