-- What contracts see of a board and of its seats.
use Rattle.std.specs.Prelude.{◌≡◌, ℕ, ◌<◌, ◌≤◌, Bool, true, false, List, [], ◌∷◌, ◌++◌}
use base.Stored.{Coded, coded×, coded_ℕ, coded_list, coded_via}
use Rattle.std.specs.Coded.{coded_bool}
use Rattle.atomic_table.specs.Seated.{TableId, table_id_coded}
use Rattle.pg_board.specs.Draws.{draws, IsDraw}
use Rattle.pg_board.specs.declared.draws.BoardSize.{BoardSize}

-- a board: which one it is, the number above all that it has, and how many seats it has
pub record BoardView : Type 0 where
  pub table : TableId
  pub limit : ℕ
  pub seats : ℕ

-- a seat: its board, the numbers that it drew, in order, and whether it was told that none is left
pub record SeatView : Type 0 where
  pub board : BoardView
  pub drawn : List ℕ
  pub spent : Bool

abbrev pub board_view : TableId → BoardSize → BoardView
board_view table size = record { table = table; limit = size.limit; seats = size.seats }

abbrev pub board_size : BoardView → BoardSize
board_size b = record { limit = b.limit; seats = b.seats }

abbrev pub seat_view : BoardView → List ℕ → Bool → SeatView
seat_view board drawn spent = record { board = board; drawn = drawn; spent = spent }

abbrev pub board_view_coded : Coded BoardView
board_view_coded = coded_via (coded× table_id_coded (coded× coded_ℕ coded_ℕ))
    (λ (b : BoardView). (b.table, (b.limit, b.seats)))
    (λ x y e i. record { table = (e i).0; limit = (e i).1.0; seats = (e i).1.1 })

abbrev pub seat_view_coded : Coded SeatView
seat_view_coded = coded_via (coded× board_view_coded (coded× (coded_list coded_ℕ) coded_bool))
    (λ (s : SeatView). (s.board, (s.drawn, s.spent)))
    (λ x y e i. record { board = (e i).0; drawn = (e i).1.0; spent = (e i).1.1 })

-- the table with this key is the one word of a board of this size, which has a seat
abbrev pub IsWordOf : BoardSize → TableId → BoardSize → Type 0
IsWordOf size table key = (table.words ≡ 1) × (table.slots ≡ 0) × (key ≡ size) × (0 < size.seats)

-- a token is of the table with this key, which has one word and is for the seats of a board of this size
abbrev pub SeatsAll : BoardSize → TableId → TableId → BoardSize → Type 0
SeatsAll size token table key = (token ≡ table) × (table.words ≡ 1) × (key ≡ size) × (0 < size.seats)

-- a token is of the table with this key, which is the one word of a board of this size
abbrev pub IsTokenOf : BoardSize → TableId → TableId → BoardSize → Type 0
IsTokenOf size token table key = (token ≡ table) × (table.words ≡ 1) × (table.slots ≡ 0) × (key ≡ size)

-- the seat was and is not spent, and drew this number last
abbrev pub HasDrawn : SeatView → SeatView → ℕ → Type 0
HasDrawn old new k = (old.spent ≡ false) × (new.spent ≡ false) × (new.drawn ≡ old.drawn ++ k ∷ [])

-- the seat's draw of this number is one draw of the board
abbrev pub IsDrawOf : BoardView → SeatView → SeatView → ℕ → Type 0
IsDrawOf b old new k = IsDraw (board_size b) k (draws old.drawn false) (draws new.drawn false)

-- in one draw of the board, whose word was past the limit, the seat was told that no number is left
abbrev pub IsToldNone : BoardView → SeatView → SeatView → Type 0
IsToldNone b old new =
    (word : ℕ) × (b.limit ≤ word) × IsDraw (board_size b) word (draws old.drawn false) (draws new.drawn true)
