-- Which numbers the seats of a board have drawn.
use Rattle.std.specs.Prelude.{◌≡◌, ℕ, ◌+◌, min, Bool, List, ◌∷◌, ◌++◌, length, flat_map, if◌then◌else◌}
use Rattle.pg_board.specs.Counts.{total, times, once_below}
use Rattle.pg_board.specs.declared.draws.BoardSize.{BoardSize}
use Rattle.pg_board.specs.declared.draws.Draws.{Draws}

-- a seat that drew these numbers, in this order, and was or wasn't told that none is left
abbrev pub draws : List ℕ → Bool → Draws
draws drawn spent = record { drawn = drawn; spent = spent }

-- the numbers that all seats drew
abbrev pub all_drawn : List Draws → List ℕ
all_drawn seats = flat_map (λ d. d.drawn) seats

-- how many seats were told that no number is left
abbrev pub spent_count : List Draws → ℕ
spent_count seats = total (λ d. if d.spent then 1 else 0) seats

-- The draws of all seats of a board whose word is this number: each number below the word and the limit was drawn once
-- and no other at all, and the word counts the numbers drawn and the spent seats.
pub record IsLawful (size : BoardSize) (word : ℕ) (seats : List Draws) : Type 0 where
  pub all_seats : length seats ≡ size.seats
  pub each_once : (x : ℕ) → times x (all_drawn seats) ≡ once_below x (min word size.limit)
  pub counted : word ≡ length (all_drawn seats) + spent_count seats

-- One draw of one seat, which took the word from this number to the next: the draws of all seats were lawful before it
-- and are after it, and the other seats' are the same.
pub record IsDraw (size : BoardSize) (word : ℕ) (before after : Draws) : Type 0 where
  pub front : List Draws
  pub back : List Draws
  pub lawful_before : IsLawful size word (front ++ before ∷ back)
  pub lawful_after : IsLawful size (word + 1) (front ++ after ∷ back)
