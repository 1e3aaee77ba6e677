use Rattle.std.proofs.Common.{refl, None, Some}
use Rattle.pg_workers.specs.declared.worker.Worker.{Worker}
use Rattle.pg_workers.specs.Workers.{task_of}
use Rattle.pg_workers.proofs.GrowLemmas.{grown, work_of, fits_of, finished_of, left_of}
use Rattle.pg_workers.proofs.worker.search.Goals as goal

pub work-requires-clause-same : goal.work-requires-clause-same
work-requires-clause-same g c =
    let work = work_of (task_of g.Q.BlockSearch.seen c.args.round) c.args.worker.now c.requires.finished in
    (work.0, work.1)

pub work-requires-clause-fits : goal.work-requires-clause-fits
work-requires-clause-fits g c =
    fits_of (task_of g.Q.BlockSearch.seen c.args.round) c.args.worker.now c.requires.finished.0

pub returns-in-Ok-clause-worked : goal.returns-in-Ok-clause-worked
returns-in-Ok-clause-worked g c =
    let t = task_of g.Q.BlockSearch.seen c.args.round in let w = c.args.worker.now in let seat = c.work.new.seat in
    let pass = c.work.new.pass in let same = c.work.ensures.same in
    let new : Worker g.row.A.Denot g.row.C.Denot =
    record { seat = seat; pass = pass; scratch = c.work.new.scratch; unfinished = None } in
    let work = work_of t w c.requires.finished in
    let all = grown t w.seat.drawn seat.drawn w.pass.put pass.put work.2 c.in-Ok.ensures.ok.1 in
    (finished_of t new (same.0, same.1, all) c.work.ensures.fits refl).0

pub returns-in-Err-clause-worked : goal.returns-in-Err-clause-worked
returns-in-Err-clause-worked g c =
    let t = task_of g.Q.BlockSearch.seen c.args.round in let w = c.args.worker.now in let seat = c.work.new.seat in
    let pass = c.work.new.pass in let same = c.work.ensures.same in
    let n = c.in-Err.field-0.number in let left = c.in-Err.ensures.err in
    let new : Worker g.row.A.Denot g.row.C.Denot =
    record { seat = seat; pass = pass; scratch = c.work.new.scratch; unfinished = Some n } in
    let work = work_of t w c.requires.finished in
    let all = grown t w.seat.drawn left.1.0 w.pass.put pass.put work.2 left.1.2 in
    left_of t new left.1.0 n refl left.1.1 (same.0, same.1, all) left.0 c.work.ensures.fits
