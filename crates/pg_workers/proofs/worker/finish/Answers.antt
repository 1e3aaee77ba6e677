use Rattle.std.proofs.Common.{refl, None}
use Rattle.pg_workers.specs.declared.worker.Worker.{Worker}
use Rattle.pg_workers.specs.Workers.{task_of}
use Rattle.pg_workers.proofs.GrowLemmas.{fits_of, below_of, tray_of, completed, finished_of}
use Rattle.pg_workers.proofs.worker.finish.Goals as goal

pub search_one-requires-clause-number : goal.search_one-requires-clause-number
search_one-requires-clause-number g c =
    below_of (task_of g.Q.BlockSearch.seen c.args.round) c.args.worker.now c.in-Some.number c.requires.worked
    c.in-Some.is

pub search_one-requires-clause-tray : goal.search_one-requires-clause-tray
search_one-requires-clause-tray g c =
    tray_of (task_of g.Q.BlockSearch.seen c.args.round) c.args.worker.now c.requires.worked

pub search_one-requires-clause-fits : goal.search_one-requires-clause-fits
search_one-requires-clause-fits g c =
    fits_of (task_of g.Q.BlockSearch.seen c.args.round) c.args.worker.now c.requires.worked

pub returns : goal.returns
returns g c =
    let t = task_of g.Q.BlockSearch.seen c.args.round in
    let w = c.args.worker.now in let pass = c.search_one.new.pass in
    let new : Worker g.row.A.Denot g.row.C.Denot =
    record { seat = w.seat; pass = pass; scratch = c.search_one.new.scratch; unfinished = None } in
    let work = completed t w pass c.in-Some.number c.requires.worked c.in-Some.is c.search_one.ensures.tray
    c.in_ok-search_one.ensures.ok in
    finished_of t new work c.search_one.ensures.fits refl
