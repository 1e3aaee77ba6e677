use Rattle.std.proofs.Common.{◌≡◌, ◌∙◌, ℕ, List, All, [], false, length, replicate, refl, sym, subst, ap, arith}
use Rattle.std.proofs.lemmas.List.{length-replicate}
use Rattle.pg_selection.specs.Searched.{SearchedBlock}
use Rattle.pg_board.specs.Board.{SeatView, seat_view}
use Rattle.pg_board.specs.Tray.{PutView, put_view}
use Rattle.pg_workers.proofs.ListLemmas.{all_copies}
use Rattle.pg_workers.proofs.opening.open_round.Goals as goal

-- a list of so many copies has their length
length_copies : {X : Type 0} (xs : List X) (n : ℕ) (x : X) → xs ≡ replicate n x → length xs ≡ n
length_copies xs n x is = ap length is ∙ length-replicate n x

pub gather-requires-clause-seats : goal.gather-requires-clause-seats
gather-requires-clause-seats g c =
    let new = seat_view c.in_ok-board.board [] false in
    let IsNew : SeatView → Type 0 = λ s. s ≡ new in
    subst (λ (l : List SeatView). All IsNew l) (sym c.in_ok-board.ensures.seats)
    (all_copies IsNew c.args.count new refl)

pub gather-requires-clause-passes : goal.gather-requires-clause-passes
gather-requires-clause-passes g c =
    let new : PutView SearchedBlock g.row.A.Denot = put_view c.in_ok-tray.tray [] in
    let IsNew : PutView SearchedBlock g.row.A.Denot → Type 0 = λ p. p ≡ new in
    let passes = length_copies c.in_ok-tray.passes.items c.args.count new c.in_ok-tray.ensures.passes in
    let seats = length_copies c.in_ok-board.seats.items c.args.count (seat_view c.in_ok-board.board [] false)
    c.in_ok-board.ensures.seats in (
      subst (λ (l : List (PutView SearchedBlock g.row.A.Denot)). All IsNew l) (sym c.in_ok-tray.ensures.passes)
          (all_copies IsNew c.args.count new refl),
      omega (arith, c.in_ok-board.seats.ok.0, c.in_ok-tray.passes.ok.0),
    )

pub gather-requires-clause-scratches : goal.gather-requires-clause-scratches
gather-requires-clause-scratches g c =
    let seats = length_copies c.in_ok-board.seats.items c.args.count (seat_view c.in_ok-board.board [] false)
    c.in_ok-board.ensures.seats in
    let few = c.requires.few.2 in
    (c.requires.fits, omega (arith, c.in_ok-board.seats.ok.0))

pub returns : goal.returns
returns g c =
    let seats = length_copies c.in_ok-board.seats.items c.args.count (seat_view c.in_ok-board.board [] false)
    c.in_ok-board.ensures.seats in
    let all = c.in_ok-workers.ensures.workers in let left = c.in_ok-workers.ensures.scratches in
    let many = all.1 in let rest = left.1 in
    record {
      board = c.in_ok-board.ensures.board;
      take = c.in_ok-tray.ensures.take;
      workers = (omega (arith, c.in_ok-board.seats.ok.0), all.0);
      scratches = (left.0, omega (arith, c.in_ok-board.seats.ok.0));
    }
