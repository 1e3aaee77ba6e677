use Rattle.std.proofs.Common.{List, All, refl, sym, subst, arith}
use Rattle.pg_workers.specs.declared.round.Round.{Round}
use Rattle.pg_workers.specs.declared.worker.Worker.{Worker}
use Rattle.pg_workers.specs.declared.starting.StartedWorker.{StartedWorker}
use Rattle.pg_workers.specs.Workers.{task_of, HasWorked, IsStarted}
use Rattle.pg_workers.proofs.ListLemmas.{all_more}
use Rattle.pg_workers.proofs.starting.join_all.Goals.{in-Running, in-Ended}
use Rattle.pg_board.proofs.CountLemmas.{all_front, all_last}
use Rattle.pg_workers.proofs.starting.join_all.Goals as goal

pub loop-started-preserved : goal.loop-started-preserved
loop-started-preserved g c =
    let A : Type 0 = g.row.A.Denot in let C : Type 0 = g.row.C.Denot in
    let i = c.loop-started.invariant in let pushed = c.push_reserved.ensures in
    let P : Worker A C → Type 0 = HasWorked (task_of g.Q.BlockSearch.seen c.args.round) in
    let S : Type 0 = StartedWorker A C g.row.Q.Denot in
    let Q : S → Type 0 = IsStarted g.Q.BlockSearch.seen c.args.round in
    let has : Q c.in-Some.started = all_last Q c.pop.new.self.items c.in-Some.started
    (subst (λ (l : List S). All Q l) c.in-Some.ensures.items i.started) in
    let worked : P c.match-started.worker = elim c.match-started.branch [
      | in-Running w ↦ subst P (sym w.worker-is)
          (subst (λ (r : Round g.row.Q.Denot A). HasWorked (task_of g.Q.BlockSearch.seen r) w.join-worker.result)
          (subst Q w.in-Running.is has) w.join-worker.ensures)
      | in-Ended w ↦ subst P (sym w.worker-is) (subst Q w.in-Ended.is has)
    ] in
    record {
      count = (let a = i.count in let b = c.in-Some.ensures.cases in let l = pushed.len in omega arith);
      room = (let a = i.room in let b = c.in-Some.ensures.cases in let l = pushed.len in let k =
          pushed.capacity in omega arith);
      started = all_front Q c.pop.new.self.items c.in-Some.started
          (subst (λ (l : List S). All Q l) c.in-Some.ensures.items i.started);
      worked = subst (λ (l : List (Worker A C)). All P l) (sym pushed.items)
          (all_more P c.loop-started.workers.items c.match-started.worker i.worked worked);
    }

pub push_reserved-requires : goal.push_reserved-requires
push_reserved-requires g c =
    let a = c.loop-started.invariant.room in let b = c.in-Some.ensures.cases in omega arith

pub loop-started-init : goal.loop-started-init
loop-started-init g c = record {
  count = refl;
  room = c.requires.room;
  started = c.requires.started;
  worked = c.requires.worked;
}

pub loop-started-smaller : goal.loop-started-smaller
loop-started-smaller g c = let b = c.in-Some.ensures.cases in omega arith

pub returns : goal.returns
returns g c =
    let i = c.loop-started.invariant in
    record { count = (let a = i.count in let n = c.in_default.ensures.cases in omega arith); worked = i.worked }
