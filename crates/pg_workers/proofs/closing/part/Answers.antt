use Rattle.std.proofs.Common.{◌≡◌, inl, inr, ⊎_elim, true, List, All, Any, [], ◌∷◌, ◌++◌, refl, sym, subst, arith}
use Rattle.std.proofs.lemmas.Result.{err_from_is_err_and}
use Rattle.pg_selection.specs.Searched.{SearchedBlock}
use Rattle.pg_board.specs.Board.{SeatView}
use Rattle.pg_board.specs.Tray.{PutView}
use Rattle.pg_workers.specs.declared.worker.Worker.{Worker}
use Rattle.pg_workers.specs.Workers.{task_of, IsWork, HasFinished, AreWorks}
use Rattle.pg_workers.proofs.ListLemmas.{all_more, any_last, any_front, any_split, any_none}
use Rattle.pg_workers.proofs.GrowLemmas.{work_of, fits_of, works_more}
use Rattle.pg_board.proofs.CountLemmas.{all_front, all_last}
use Rattle.pg_workers.proofs.closing.part.Goals as goal

pub loop-worker-preserved : goal.loop-worker-preserved
loop-worker-preserved g c =
    let A : Type 0 = g.row.A.Denot in let C : Type 0 = g.row.C.Denot in
    let i = c.loop-worker.invariant in let t = task_of g.Q.BlockSearch.seen c.args.round in
    let s = c.push_reserved.ensures in let p = c.push_reserved-in-Some.ensures in let k = c.in_ok-push.ensures in
    let w : Worker A C = c.in-Some.worker in let rest : List (Worker A C) = c.pop.new.self.items in
    let P : Worker A C → Type 0 = HasFinished t in
    let IsFit : C → Type 0 = (g.Q.BlockSearch.seen c.args.round.query.now).fits in
    let WasSpent : Worker A C → Type 0 = λ w. w.seat.spent ≡ true in
    let IsSpent : SeatView → Type 0 = λ s. s.spent ≡ true in
    let all : All P (rest ++ w ∷ []) = subst (λ (l : List (Worker A C)). All P l) c.in-Some.ensures.items i.finished in
    let parts = c.apart-seat.result in let seat = parts.0 in let pass = parts.1 in let scratch = parts.2 in
    let same = c.apart-seat.ensures in let finished : P w = all_last P rest w all in
    let done : IsWork t seat pass =
    subst (λ (s : SeatView). IsWork t s pass) (sym same.0)
    (subst (λ (p : PutView SearchedBlock A). IsWork t w.seat p) (sym same.1) (work_of t w finished)) in
    let more = works_more t c.loop-worker.seats.items c.loop-worker.passes.items seat pass i.works done in
    let seats_spent : Any IsSpent (c.loop-worker.seats.items ++ seat ∷ [])
    → Any IsSpent c.push_reserved.new.self.items = subst (λ (l : List SeatView). Any IsSpent l) (sym s.items) in
    record {
      finished = all_front P rest w all;
      works = subst (λ (l : List SeatView). AreWorks t l c.push_reserved-in-Some.new.self.items) (sym s.items)
          (subst (λ (l : List (PutView SearchedBlock A)). AreWorks t (c.loop-worker.seats.items ++ seat ∷ []) l)
          (sym p.items) more);
      spent = ⊎_elim
          (λ before. ⊎_elim (λ left. inl left)
          (λ last. inr (seats_spent (any_last IsSpent c.loop-worker.seats.items seat
          (subst IsSpent (sym same.0) last))))
          (any_split WasSpent rest w (subst
          (λ (l : List (Worker A C)). Any WasSpent l) c.in-Some.ensures.items before)))
          (λ done. inr (seats_spent (any_front IsSpent c.loop-worker.seats.items seat done)))
          i.spent;
      fits = subst (λ (l : List C). All IsFit l) (sym k.items)
          (all_more IsFit c.loop-worker.scratches.items scratch i.fits
          (subst IsFit (sym same.2) (fits_of t w finished.0)));
      same = (let a = i.same in let l = s.len in let m = p.len in omega arith);
      count = (let a = i.count in let b = c.in-Some.ensures.cases in let l = s.len in omega arith);
      back = (let a = i.back in let b = c.in-Some.ensures.cases in let l = k.len in omega arith);
      room = (
        (let a = i.room.0 in let l = s.capacity in omega arith),
        (let a = i.room.1 in let l = p.capacity in omega arith),
      );
    }

pub loop-worker-init : goal.loop-worker-init
loop-worker-init g c =
    let s = c.in_ok-seats.ensures in let p = c.in_ok-passes.ensures in
    let a = s.len in let b = p.len in let d = s.exact in let e = p.exact in
    let l = c.len.ensures in let k = c.len-2.ensures in
    record {
      finished = c.requires.finished;
      works = rw (s.items, p.items) tt;
      spent = inl c.requires.spent;
      fits = c.requires.fits;
      same = omega arith;
      count = omega arith;
      back = refl;
      room = (omega arith, omega arith);
    }

pub push_reserved-requires : goal.push_reserved-requires
push_reserved-requires g c =
    let i = c.loop-worker.invariant in let a = i.count in let b = c.in-Some.ensures.cases in let d = i.room.0 in
    omega arith

pub push_reserved-requires-in-Some : goal.push_reserved-requires-in-Some
push_reserved-requires-in-Some g c =
    let i = c.loop-worker.invariant in
    let a = i.count in
    let e = i.same in
    let b = c.in-Some.ensures.cases in
    let d = i.room.1 in
    omega arith

pub returns-in_err-seats : goal.returns-in_err-seats
returns-in_err-seats g c =
    let p = err_from_is_err_and c.from_residual.result c.from_residual.ensures.1 in
    rw p.1 (record { works = tt; spent = tt; len = tt; fits = tt; count = tt })

pub returns-in_err-passes : goal.returns-in_err-passes
returns-in_err-passes g c =
    let p = err_from_is_err_and c.from_residual-in_err-passes.result c.from_residual-in_err-passes.ensures.1 in
    rw p.1 (record { works = tt; spent = tt; len = tt; fits = tt; count = tt })

pub returns-in_err-push : goal.returns-in_err-push
returns-in_err-push g c =
    let p = err_from_is_err_and c.from_residual-in_err-push.result c.from_residual-in_err-push.ensures.1 in
    rw p.1 (record { works = tt; spent = tt; len = tt; fits = tt; count = tt })

pub returns : goal.returns
returns g c =
    let WasSpent : Worker g.row.A.Denot g.row.C.Denot → Type 0 = λ w. w.seat.spent ≡ true in
    let i = c.loop-worker.invariant in let n = c.in_default.ensures.cases in
    record {
      works = i.works;
      spent = ⊎_elim (λ some. any_none WasSpent c.loop-worker.workers.items some
          (omega (arith, c.loop-worker.workers.ok.0))) (λ done. done) i.spent;
      len = (let a = i.count in omega arith);
      fits = i.fits;
      count = (let a = i.back in omega arith);
    }

pub loop-worker-smaller : goal.loop-worker-smaller
loop-worker-smaller g c = let b = c.in-Some.ensures.cases in omega arith
