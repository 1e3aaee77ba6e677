use Rattle.std.proofs.Common.{sym, ap, ◌∙◌, arith}
use Rattle.pg_board.specs.Counts.{times}
use Rattle.pg_board.specs.Draws.{all_drawn, spent_count}
use Rattle.pg_board.specs.Board.{BoardView, SeatView}
use Rattle.pg_board.proofs.CountLemmas.{total_any}
use Rattle.pg_board.proofs.BoardLemmas.{drawn_by, spent_by}
use Rattle.pg_board.proofs.board.Board.close.Goals as goal

pub returns-clause-drawn : goal.returns-clause-drawn
returns-clause-drawn g c = λ x. ap (times x)
    (sym (ap all_drawn c.join-whole.ensures.seats ∙ drawn_by c.args.seats.items)) ∙ c.finish.ensures.drawn x

pub returns-clause-spent : goal.returns-clause-spent
returns-clause-spent g c = λ a.
    let some_spent = total_any (λ (s : SeatView). s.spent) c.args.seats.items a.0 a.1 a.2 a.3 a.4 in
    let count = ap spent_count c.join-whole.ensures.seats ∙ spent_by c.args.seats.items in
    c.finish.ensures.spent (omega arith) ∙ ap (λ (b : BoardView). b.limit) c.self.view_is
