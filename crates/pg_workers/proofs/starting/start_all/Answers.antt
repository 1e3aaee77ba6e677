use Rattle.std.proofs.Common.{List, All, refl, ◌∙◌, sym, subst, arith}
use Rattle.pg_workers.specs.declared.worker.Worker.{Worker}
use Rattle.pg_workers.specs.declared.starting.StartedWorker.{StartedWorker}
use Rattle.pg_workers.specs.Workers.{task_of, HasFinished, IsStarted}
use Rattle.pg_workers.proofs.ListLemmas.{all_more, all_none}
use Rattle.pg_board.proofs.CountLemmas.{all_front, all_last}
use Rattle.pg_workers.proofs.starting.start_all.Goals as goal

pub start-requires-clause-finished : goal.start-requires-clause-finished
start-requires-clause-finished g c κs within =
    let P : Worker g.row.A.Denot g.row.C.Denot → Type 0 = HasFinished (task_of g.Q.BlockSearch.seen c.args.round) in
    all_last P c.pop.new.self.items c.in-Some.worker
    (subst (λ (l : List (Worker g.row.A.Denot g.row.C.Denot)). All P l) c.in-Some.ensures.items
    c.loop-workers.invariant.finished)

pub loop-workers-preserved : goal.loop-workers-preserved
loop-workers-preserved g c =
    let A : Type 0 = g.row.A.Denot in let C : Type 0 = g.row.C.Denot in
    let i = c.loop-workers.invariant in let pushed = c.push_reserved.ensures in
    let P : Worker A C → Type 0 = HasFinished (task_of g.Q.BlockSearch.seen c.args.round) in
    let S : Type 0 = StartedWorker A C g.row.Q.Denot in
    let Q : S → Type 0 = IsStarted g.Q.BlockSearch.seen c.args.round in
    record {
      least = (let t = c.loop-workers-test.true in let n = c.len-in-loop-workers.ensures in let b =
          c.in-Some.ensures.cases in omega arith);
      count = (let a = i.count in let b = c.in-Some.ensures.cases in let l = pushed.len in omega arith);
      room = (let a = i.room in let l = pushed.capacity in omega arith);
      finished = all_front P c.pop.new.self.items c.in-Some.worker
          (subst (λ (l : List (Worker A C)). All P l) c.in-Some.ensures.items i.finished);
      same = c.pop.ensures.capacity ∙ i.same;
      started = subst (λ (l : List S). All Q l) (sym pushed.items)
          (all_more Q c.loop-workers.all.items c.start.result i.started c.start.ensures);
    }

pub start-requires-clause-ready : goal.start-requires-clause-ready
start-requires-clause-ready g c κs within = c.requires.ready

pub loop-workers-init : goal.loop-workers-init
loop-workers-init g c =
    let A : Type 0 = g.row.A.Denot in let C : Type 0 = g.row.C.Denot in
    let S : Type 0 = StartedWorker A C g.row.Q.Denot in
    let Q : S → Type 0 = IsStarted g.Q.BlockSearch.seen c.args.round in
    let s = c.in-Ok.ensures in let a = s.len in let d = s.exact in let l = c.len.ensures in let q =
    c.requires.finished.1 in
    record {
      least = omega arith;
      count = omega arith;
      room = omega arith;
      finished = c.requires.finished.0;
      same = refl;
      started = subst (λ (l : List S). All Q l) (sym s.items) (all_none Q);
    }

pub push_reserved-requires : goal.push_reserved-requires
push_reserved-requires g c =
    let i = c.loop-workers.invariant in let a = i.count in let b = c.in-Some.ensures.cases in let d = i.room in
    omega arith

pub loop-workers-smaller : goal.loop-workers-smaller
loop-workers-smaller g c = let b = c.in-Some.ensures.cases in omega arith
