-- The rule of a board's one word, which each step keeps.
use Rattle.std.specs.Prelude.{◌≡◌, ◌≢◌, ℕ, ◌^◌, ◌<◌, ◌≤◌, min, false, true, List, [], ◌∷◌, ◌++◌, length, flat_map}
use mathlib.Core.Option.{some}
use lib.ListN.{get_elem?}
use Rattle.atomic_table.specs.Table.{State, Me, Step}
use Rattle.pg_board.specs.Draws.{draws, all_drawn, IsLawful, IsDraw}
use Rattle.pg_board.specs.declared.draws.BoardSize.{BoardSize}
use Rattle.pg_board.specs.declared.draws.Draws.{Draws}
use Rattle.pg_board.specs.declared.draws.TokenView.{TokenView}

abbrev pub token_view : BoardSize → List Draws → TokenView
token_view size seats = record { size = size; seats = seats }

-- a token that stands for no seat any more
abbrev pub no_seats : TokenView
no_seats = token_view record { limit = 0; seats = 0 } []

-- the seats for which the tokens stand
abbrev pub seats_of : List TokenView → List Draws
seats_of views = flat_map (λ v. v.seats) views

-- the numbers that the first of the seats drew
abbrev pub first_drawn : List Draws → List ℕ
first_drawn [] = []
first_drawn (d ∷ ds) = d.drawn

-- The draws of all seats are lawful, as many numbers were drawn as stand below the word and the limit, and each token
-- that stands for a seat knows the board's size.
pub record FollowsRule (size : BoardSize) (word : ℕ) (views : List TokenView) : Type 0 where
  pub fits : (size.limit < 2 ^ 32) × (size.seats < 2 ^ 32)
  pub lawful : IsLawful size word (seats_of views)
  pub lengths : length (all_drawn (seats_of views)) ≡ min word size.limit
  pub sized : (at : ℕ) (v : TokenView) → get_elem? views at ≡ some v → v.seats ≢ [] → v.size ≡ size

-- the board has one word, and keeps its rule
abbrev pub KeepsBoard : BoardSize → State (Unit {0}) TokenView → Type 0
KeepsBoard size s = (word : ℕ) × (s.words ≡ word ∷ []) × FollowsRule size word s.views

-- what a draw tells: the seat drew the number found, if that is below the limit, and else the seat is spent
abbrev pub DrawsOne : Step (Unit {0}) → Me (Unit {0}) TokenView → ℕ → Me (Unit {0}) TokenView → Type 0
DrawsOne _ m found w =
    let drawn : List ℕ = first_drawn m.0.seats in let more : List ℕ = drawn ++ found ∷ [] in
    (w.1 ≡ m.1)
    × (found < m.0.size.limit →
    (w.0 ≡ token_view m.0.size (draws more false ∷ [])) × IsDraw m.0.size found (draws drawn false) (draws more false))
    × (m.0.size.limit ≤ found →
    (w.0 ≡ token_view m.0.size (draws drawn true ∷ [])) × IsDraw m.0.size found (draws drawn false) (draws drawn true))
