use Rattle.std.proofs.lemmas.List.Elements.{All-set, All-weaker}
use Rattle.std.proofs.Common.{arith}
use Rattle.pg_workers.specs.declared.worker.Worker.{Worker}
use Rattle.pg_workers.specs.Workers.{task_of, HasWorked, HasFinished, AreBack}
use Rattle.pg_workers.proofs.ListLemmas.{all_at}
use Rattle.pg_workers.proofs.working.work_together.Goals as goal

pub start_all-started-requires-clause-finished : goal.start_all-started-requires-clause-finished
start_all-started-requires-clause-finished g c κs within = c.requires.finished

pub start_all-started-requires-clause-ready : goal.start_all-started-requires-clause-ready
start_all-started-requires-clause-ready g c κs within = c.requires.ready

pub index_mut-requires : goal.index_mut-requires
index_mut-requires g c = let n = c.start_all-started.ensures.finished.1 in omega arith

pub search-requires-clause-finished : goal.search-requires-clause-finished
search-requires-clause-finished g c =
    let P : Worker g.row.A.Denot g.row.C.Denot → Type 0 = HasFinished (task_of g.Q.BlockSearch.seen c.args.round) in
    let n = c.start_all-started.ensures.finished.1 in let l = c.start_all-started.new.workers.ok.0 in
    all_at P c.start_all-started.new.workers.items 1 c.index_mut.result.now c.start_all-started.ensures.finished.0
    (omega arith) c.index_mut.ensures.value

pub join_all-requires-clause-worked : goal.join_all-requires-clause-worked
join_all-requires-clause-worked g c =
    let t = task_of g.Q.BlockSearch.seen c.args.round in
    let P : Worker g.row.A.Denot g.row.C.Denot → Type 0 = HasWorked t in
    let Q : Worker g.row.A.Denot g.row.C.Denot → Type 0 = HasFinished t in
    let items = c.start_all-started.new.workers.items in
    All-set P items 1 c.search.new.worker c.search.ensures.worked
    (All-weaker Q P (λ w h. h.0) items c.start_all-started.ensures.finished.0)

pub join_all-requires-clause-room : goal.join_all-requires-clause-room
join_all-requires-clause-room g c =
    let n = c.start_all-started.ensures.count in let k = c.start_all-started.ensures.room in omega arith

pub returns : goal.returns
unfolding AreBack
returns g c =
    let n = c.start_all-started.ensures.count in let k = c.join_all.ensures.count in
    (omega (arith, c.args.workers.ok.0, c.join_all.new.workers.ok.0), c.join_all.ensures.worked)
