-- Sums and counts over lists.
use Rattle.std.specs.Prelude.{ℕ, ◌+◌, List, [], ◌∷◌, ◌==◌, nat_lt, if◌then◌else◌}

-- f of each member, added up
abbrev pub total : {X : Type 0} → (X → ℕ) → List X → ℕ
total f [] = 0
total f (x ∷ xs) = f x + total f xs

-- how often the number x stands in the list
abbrev pub times : ℕ → List ℕ → ℕ
times x ys = total (λ y. if y == x then 1 else 0) ys

-- 1 where x is below n, and else 0
abbrev pub once_below : ℕ → ℕ → ℕ
once_below x n = if nat_lt x n then 1 else 0
