use Rattle.std.proofs.Common.{◌≡◌, ℕ, ◌+◌, ◌-◌, List, [], ◌∷◌, ◌++◌, false, drop, take, replicate, vec_len, ap, ◌∙◌}
use Rattle.std.proofs.Common.{sym, arith}
use Rattle.atomic_table.specs.Table.{Me}
use Rattle.atomic_table.specs.Seated.{TableId}
use Rattle.pg_board.specs.declared.draws.TokenView.{TokenView}
use Rattle.pg_board.specs.declared.draws.Draws.{Draws}
use Rattle.pg_board.specs.declared.draws.BoardSize.{BoardSize}
use Rattle.pg_board.specs.Draws.{draws}
use Rattle.pg_board.specs.Board.{SeatView, board_view, seat_view}
use Rattle.pg_board.specs.BoardRule.{token_view, first_drawn}
use Rattle.pg_board.proofs.BoardLemmas.{splits, first_new, copies_more}
use Rattle.pg_board.proofs.board.cut.Goals as goal

abbrev Known : Type 0
Known = Me (Unit {0}) TokenView

-- the view of a seat with this token
abbrev with_token : TableId → Known → SeatView
with_token id me = seat_view (board_view id me.0.size) (first_drawn me.0.seats) false

pub split_seat-token-requires : goal.split_seat-token-requires
split_seat-token-requires g c = let i = c.loop.invariant
    in (i.table, (let w = c.requires.word.1 in omega arith), splits _ _ _)

pub loop-preserved : goal.loop-preserved
loop-preserved g c =
    let i = c.loop.invariant in let split = c.split_seat-token.ensures in let pushed = c.push_reserved.ensures in
    let size : BoardSize = c.args.size in let k : ℕ = vec_len c.loop.seats in let new : Draws = draws [] false in
    let first = first_new (size.seats - k) new (let l = i.some_left in omega arith) in
    let left : ◌≡◌ {A = Known} c.split_seat-token.new.seat.me
    (token_view size (replicate (size.seats - k - 1) new), []) =
    split.2 ∙ ap (λ (m : Known). (token_view m.0.size (drop 1 m.0.seats), m.1)) i.whole
    ∙ ap (λ (l : List Draws). (token_view size l, [])) first.0 in
    let right : ◌≡◌ {A = Known} c.split_seat-token.result.me (token_view size (new ∷ []), []) =
    split.4 ∙ ap (λ (m : Known). (token_view m.0.size (take 1 m.0.seats), [])) i.whole
    ∙ ap (λ (l : List Draws). (token_view size l, [])) first.1 in
    let seat : SeatView = seat_view (board_view c.args.word.now.shared.table_id size) [] false in
    let same : with_token c.split_seat-token.result.table_id c.split_seat-token.result.me ≡ seat =
    λ j. with_token ((split.3 ∙ i.table) j) (right j) in
    record {
      count = (let n = i.count in let l = pushed.len in omega arith);
      some_left = (let n = i.count in let l = pushed.len in let t = c.loop-test.true in omega arith);
      room = (let r = i.room in let l = pushed.capacity in omega arith);
      table = split.0 ∙ i.table;
      whole = left ∙ ap (λ (n : ℕ). (token_view size (replicate n new), []))
          (let l = pushed.len in let e : size.seats - k - 1 ≡ size.seats - vec_len c.push_reserved.new.self =
          omega arith in e);
      items = pushed.items ∙ ap (λ (s : SeatView). c.loop.seats.items ++ s ∷ []) same
          ∙ ap (λ (l : List SeatView). l ++ seat ∷ []) i.items ∙ copies_more k seat
          ∙ ap (λ (n : ℕ). replicate n seat) (sym pushed.len);
    }

pub returns : goal.returns
returns g c =
    let i = c.loop.invariant in let pushed = c.push_reserved-2.ensures in
    let size : BoardSize = c.args.size in let k : ℕ = vec_len c.loop.seats in let new : Draws = draws [] false in
    let last : k + 1 ≡ size.seats = (let n = i.count in let l = i.some_left in let t = c.loop-test.false in omega arith)
    in
    let whole : ◌≡◌ {A = Known} c.loop.whole.me (token_view size (new ∷ []), []) = i.whole
    ∙ ap (λ (n : ℕ). (token_view size (replicate n new), [])) (let e : size.seats - k ≡ 1 = omega arith in e) in
    let seat : SeatView = seat_view (board_view c.args.word.now.shared.table_id size) [] false in
    let same : with_token c.loop.whole.table_id c.loop.whole.me ≡ seat = λ j. with_token (i.table j) (whole j) in
    pushed.items ∙ ap (λ (s : SeatView). c.loop.seats.items ++ s ∷ []) same
    ∙ ap (λ (l : List SeatView). l ++ seat ∷ []) i.items ∙ copies_more k seat
    ∙ ap (λ (n : ℕ). replicate n seat) last
