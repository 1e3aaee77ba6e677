use Rattle.std.proofs.Common.{Bool, [], ◌∷◌, sym, ap, ◌∙◌, arith}
use Rattle.pg_board.specs.Draws.{draws}
use Rattle.pg_board.specs.Board.{BoardView, SeatView}
use Rattle.pg_board.specs.BoardRule.{first_drawn}
use Rattle.pg_board.proofs.BoardLemmas.{draws_one}
use Rattle.pg_board.proofs.board.Board.draw.Goals as goal

pub fetch_add-found-requires : goal.fetch_add-found-requires
fetch_add-found-requires g c = (
  ap (λ (v : SeatView). v.board.table) c.seat.view_is ∙ ap (λ (b : BoardView). b.table) c.requires
      ∙ sym (ap (λ (b : BoardView). b.table) c.self.view_is),
  (let w = c.self.invariant.0 in omega arith),
  draws_one _ _ _ _ (c.seat.invariant.1 ∙ ap
      (λ (b : Bool). draws (first_drawn c.seat.inside.token.me.0.seats) b ∷ []) c.if-seat.false),
)
