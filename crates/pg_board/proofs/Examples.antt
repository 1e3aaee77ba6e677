-- Worked examples of the definitions.
use Rattle.std.specs.Prelude.{◌≡◌, ℕ, ◌+◌, List, [], ◌∷◌, true, false, length, refl}
use Rattle.pg_board.specs.declared.draws.Draws.{Draws}
use Rattle.pg_board.specs.Counts.{times, once_below}
use Rattle.pg_board.specs.Draws.{draws, all_drawn, spent_count}
use Rattle.pg_board.specs.Merge.{given_to}

-- two numbers were drawn and one seat is spent, so the word is 3
abbrev two_seats : List Draws
two_seats = draws (0 ∷ []) false ∷ draws (1 ∷ []) true ∷ []

counted : length (all_drawn two_seats) + spent_count two_seats ≡ 3
counted = refl

drawn_once : times 1 (all_drawn two_seats) ≡ once_below 1 2
drawn_once = refl

never_drawn : times 2 (all_drawn two_seats) ≡ once_below 2 2
never_drawn = refl

-- of three values the first and the last are given to the list 0, the other one to the list 1, none to the list 2
abbrev given : List (ℕ × ℕ)
given = (0, 5) ∷ (1, 7) ∷ (0, 6) ∷ []

first_list : given_to 0 given ≡ 5 ∷ 6 ∷ []
first_list = refl

second_list : given_to 1 given ≡ 7 ∷ []
second_list = refl

no_list : given_to 2 given ≡ []
no_list = refl
