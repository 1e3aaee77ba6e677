use Rattle.std.proofs.Common.{◌≡◌, List, All, [], ◌∷◌, ◌++◌, false, None, refl, sym, subst, arith}
use Rattle.pg_selection.specs.Searched.{SearchedBlock}
use Rattle.pg_board.specs.Board.{SeatView, seat_view}
use Rattle.pg_board.specs.Tray.{PutView, put_view}
use Rattle.pg_workers.specs.declared.worker.Worker.{Worker}
use Rattle.pg_workers.specs.Workers.{task_of, HasFinished}
use Rattle.pg_workers.proofs.ListLemmas.{all_more, all_none}
use Rattle.pg_workers.proofs.GrowLemmas.{finished_of, fresh_work}
use Rattle.pg_board.proofs.CountLemmas.{all_front, all_last}
use Rattle.pg_workers.proofs.opening.gather.Goals as goal

pub loop-seat-preserved : goal.loop-seat-preserved
loop-seat-preserved g c =
    let A : Type 0 = g.row.A.Denot in let C : Type 0 = g.row.C.Denot in
    let i = c.loop-seat.invariant in let pushed = c.push_reserved.ensures in
    let IsNewSeat : SeatView → Type 0 = λ s. s ≡ seat_view c.args.round.board.now [] false in
    let IsNewPass : PutView SearchedBlock A → Type 0 = λ p. p ≡ put_view c.args.round.tray.now [] in
    let IsFit : C → Type 0 = (g.Q.BlockSearch.seen c.args.round.query.now).fits in
    let P : Worker A C → Type 0 = HasFinished (task_of g.Q.BlockSearch.seen c.args.round) in
    let seats : All IsNewSeat (c.pop.new.self.items ++ c.in-Some.seat ∷ []) =
    subst (λ (l : List SeatView). All IsNewSeat l) c.in-Some.ensures.items i.seats in
    let passes : All IsNewPass (c.pop-in-Some.new.self.items ++ c.in-Some-pop.pass ∷ []) =
    subst (λ (l : List (PutView SearchedBlock A)). All IsNewPass l) c.in-Some-pop.ensures.items i.passes in
    let fits : All IsFit (c.pop-in-Some-2.new.self.items ++ c.in-Some-pop-2.scratch ∷ []) =
    subst (λ (l : List C). All IsFit l) c.in-Some-pop-2.ensures.items i.fits in
    let seat : IsNewSeat c.in-Some.seat = all_last IsNewSeat c.pop.new.self.items c.in-Some.seat seats in
    let pass : IsNewPass c.in-Some-pop.pass =
    all_last IsNewPass c.pop-in-Some.new.self.items c.in-Some-pop.pass passes in
    let fit : IsFit c.in-Some-pop-2.scratch =
    all_last IsFit c.pop-in-Some-2.new.self.items c.in-Some-pop-2.scratch fits in
    let worker : Worker A C =
    record {
      seat = c.in-Some.seat;
      pass = c.in-Some-pop.pass;
      scratch = c.in-Some-pop-2.scratch;
      unfinished = None;
    } in
    let t = task_of g.Q.BlockSearch.seen c.args.round in
    let new : P worker =
    finished_of t worker (fresh_work t c.in-Some.seat c.in-Some-pop.pass seat pass) fit refl in
    record {
      seats = all_front IsNewSeat c.pop.new.self.items c.in-Some.seat seats;
      passes = all_front IsNewPass c.pop-in-Some.new.self.items c.in-Some-pop.pass passes;
      fits = all_front IsFit c.pop-in-Some-2.new.self.items c.in-Some-pop-2.scratch fits;
      same = (let a = i.same in let b = c.in-Some.ensures.cases in let d = c.in-Some-pop.ensures.cases in omega arith);
      count = (let a = i.count in let b = c.in-Some.ensures.cases in let l = pushed.len in omega arith);
      left = (let a = i.left in let b = c.in-Some-pop-2.ensures.cases in let l = pushed.len in omega arith);
      enough = i.enough;
      room = (let a = i.room in let l = pushed.capacity in omega arith);
      finished = subst (λ (l : List (Worker A C)). All P l) (sym pushed.items)
          (all_more P c.loop-seat.workers.items worker i.finished new);
    }

pub loop-seat-init : goal.loop-seat-init
loop-seat-init g c =
    let A : Type 0 = g.row.A.Denot in let C : Type 0 = g.row.C.Denot in
    let P : Worker A C → Type 0 = HasFinished (task_of g.Q.BlockSearch.seen c.args.round) in
    let r = c.requires in
    let s = c.in_ok-workers.ensures in let a = s.len in let d = s.exact in let l = c.len.ensures in
    record {
      seats = r.seats;
      passes = r.passes.0;
      fits = r.scratches.0;
      same = r.passes.1;
      count = omega arith;
      left = omega arith;
      enough = r.scratches.1;
      room = omega arith;
      finished = subst (λ (l : List (Worker A C)). All P l) (sym s.items) (all_none P);
    }

pub push_reserved-requires : goal.push_reserved-requires
push_reserved-requires g c =
    let i = c.loop-seat.invariant in let a = i.count in let b = c.in-Some.ensures.cases in let d = i.room in
    omega arith

pub loop-seat-smaller : goal.loop-seat-smaller
loop-seat-smaller g c = let b = c.in-Some.ensures.cases in omega arith

pub returns-clause-workers : goal.returns-clause-workers
returns-clause-workers g c =
    let i = c.loop-seat.invariant in
    (i.finished, (let a = i.count in let n = c.in_default.ensures.cases in omega arith))

pub returns-clause-scratches : goal.returns-clause-scratches
returns-clause-scratches g c =
    let i = c.loop-seat.invariant in
    (i.fits, (let a = i.count in let l = i.left in let n = c.in_default.ensures.cases in omega arith))
