use Rattle.std.proofs.Common.{◌≡◌, ◌<◌, ◌≤◌, List, All, length, refl, sym, subst, arith}
use Rattle.std.proofs.lemmas.List.Elements.{All-set, AllWithin-more_set, AllWithin-none}
use Rattle.pg_workers.specs.declared.worker.Worker.{Worker}
use Rattle.pg_workers.specs.Workers.{task_of, HasWorked, HasFinished}
use Rattle.pg_workers.proofs.ListLemmas.{all_taken}
use Rattle.pg_workers.proofs.finishing.finish_all.Goals as goal

pub finish-requires-clause-worked : goal.finish-requires-clause-worked
finish-requires-clause-worked g c =
    let below : c.loop-worker.worker-index < length c.loop-worker.worker-items =
    omega (arith, c.loop-worker.auto.worker-items, c.loop-worker-test.true) in
    c.loop-worker.invariant.worked c.loop-worker.worker-index c.worker-item.result below

pub loop-worker-preserved : goal.loop-worker-preserved
loop-worker-preserved g c =
    let items = c.loop-worker.worker-items in let i = c.loop-worker.worker-index in
    let new = c.finish.new.worker in let t = task_of g.Q.BlockSearch.seen c.args.round in
    let done = c.in_ok-finish.ensures in
    let below : i < length items = omega (arith, c.loop-worker.auto.worker-items, c.loop-worker-test.true) in
    record {
      worked = All-set (HasWorked t) items i new done.0 c.loop-worker.invariant.worked;
      finished = AllWithin-more_set items i new below (HasFinished t) c.loop-worker.invariant.finished done;
    }

pub loop-worker-init : goal.loop-worker-init
loop-worker-init g c =
    let t = task_of g.Q.BlockSearch.seen c.args.round in
    record {
      worked = subst (λ (l : List (Worker g.row.A.Denot g.row.C.Denot)). All (HasWorked t) l)
          (sym c.deref_mut-worker-items.ensures.value) c.requires.worked;
      finished = AllWithin-none (HasFinished t) c.deref_mut-worker-items.result.now 0;
    }

pub returns : goal.returns
returns g c =
    let i = c.loop-worker.invariant in let items = c.loop-worker.worker-items in
    let whole : length items ≤ c.loop-worker.worker-index =
    omega (arith, c.loop-worker.auto.worker-items, c.loop-worker-test.false) in
    let same : c.args.workers.now.len ≡ length items =
    omega (arith, c.loop-worker.auto.worker-items, c.deref_mut-worker-items.ensures.len) in (
      refl,
      all_taken (HasFinished (task_of g.Q.BlockSearch.seen c.args.round)) c.args.workers.now.len items _ same
          (λ k d l. i.finished k d (omega arith) (omega (arith, whole))),
    )
