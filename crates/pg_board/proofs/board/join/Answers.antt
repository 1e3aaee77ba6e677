use Rattle.std.proofs.Common.{◌≡◌, ℕ, ◌+◌, List, All, [], ◌∷◌, ◌++◌, map, length, append_assoc, ap, ◌∙◌, sym, subst}
use Rattle.std.proofs.Common.{arith}
use Rattle.std.proofs.lemmas.List.{map-append}
use Rattle.atomic_table.specs.Table.{Me}
use Rattle.pg_board.specs.declared.draws.Draws.{Draws}
use Rattle.pg_board.specs.declared.draws.TokenView.{TokenView}
use Rattle.pg_board.specs.Board.{BoardView, SeatView, board_view}
use Rattle.pg_board.proofs.CountLemmas.{all_last, all_front}
use Rattle.pg_board.proofs.BoardLemmas.{joins, draws_of}
use Rattle.pg_board.proofs.board.join.Goals as goal

abbrev IsOf : BoardView → SeatView → Type 0
IsOf b s = s.board ≡ b

pub join_seat-requires : goal.join_seat-requires
join_seat-requires g c =
    let b : BoardView = board_view c.args.word.now.shared.table_id c.args.size in let i = c.loop-seat.invariant in
    let seat : SeatView = c.in-Some-pop.seat in let rest : List SeatView = c.pop-in-loop-seat.new.self.items in
    let e : ◌≡◌ {A = List SeatView} c.loop-seat.seats.items (rest ++ seat ∷ []) = c.in-Some-pop.ensures.items in
    let boards : All (IsOf b) (rest ++ seat ∷ []) = subst (λ (l : List SeatView). All (IsOf b) l) e i.boards in
    let token = c.into_token-token.ensures in (
      i.table,
      token.token.0 ∙ ap (λ (z : BoardView). z.table) (all_last (IsOf b) rest seat boards),
      token.token.1,
      (let w = c.requires.word in omega arith),
      joins _ _ _ _ _ i.some_seat,
    )

pub loop-seat-preserved : goal.loop-seat-preserved
loop-seat-preserved g c =
    let b : BoardView = board_view c.args.word.now.shared.table_id c.args.size in let i = c.loop-seat.invariant in
    let seat : SeatView = c.in-Some-pop.seat in let rest : List SeatView = c.pop-in-loop-seat.new.self.items in
    let e : ◌≡◌ {A = List SeatView} c.loop-seat.seats.items (rest ++ seat ∷ []) = c.in-Some-pop.ensures.items in
    let boards : All (IsOf b) (rest ++ seat ∷ []) = subst (λ (l : List SeatView). All (IsOf b) l) e i.boards in
    let joined = c.join_seat.ensures in let was : List Draws = c.loop-seat.whole.me.0.seats in
    let now_is : c.join_seat.new.seat.me.0.seats ≡ draws_of seat ∷ was =
    ap (λ (m : Me (Unit {0}) TokenView). m.0.seats) joined.2
    ∙ ap (λ (l : List Draws). l ++ was) c.into_token-token.ensures.seats in
    record {
      table = joined.0 ∙ i.table;
      some_seat = λ none_left. let l : ◌≡◌ {A = ℕ} (length was + 1) 0 =
          (let e : length was + 1 ≡ length (draws_of seat ∷ was) = omega arith in e)
          ∙ ap (length {A = Draws}) (sym now_is ∙ none_left) in absurd (omega arith);
      boards = all_front (IsOf b) rest seat boards;
      seats = ap (λ (l : List Draws). map draws_of rest ++ l) now_is
          ∙ sym (append_assoc (map draws_of rest) (draws_of seat ∷ []) was)
          ∙ ap (λ (l : List Draws). l ++ was) (sym (map-append draws_of rest (seat ∷ [])))
          ∙ ap (λ (l : List SeatView). map draws_of l ++ was) (sym e) ∙ i.seats;
    }
