-- How the functions of this crate read bounds from left to right. They are proved against this; what bounds are stands
-- in Intervals, and the two are proved to agree.
use Rattle.std.specs.Prelude.{ℕ, ◌+◌, ◌-◌, ◌*◌, ◌==◌, nat_le, List, [], ◌∷◌}
use Rattle.std.specs.Prelude.{Option, Some, None, if◌then◌else◌, option_and_then}
use Rattle.pg_bytes.specs.Classes.{digit}

-- the number that the digits at the front write behind n, and what is left after them
abbrev pub number_from : ℕ → List ℕ → ℕ × List ℕ
number_from n [] = (n, [])
number_from n (c ∷ t) = if digit c then number_from (10 * n + (c - 48)) t else (n, c ∷ t)

-- a number of at most 255
abbrev pub small : ℕ × List ℕ → Option (ℕ × List ℕ)
small x = if nat_le x.0 255 then Some (x.0, x.1) else None

-- the number at the front, if it is at most 255
unfoldable pub number_at : List ℕ → Option (ℕ × List ℕ)
number_at [] = None
number_at (c ∷ t) = if digit c then small (number_from 0 (c ∷ t)) else None

-- what is left after these bytes, if they stand at the front
abbrev pub strip : List ℕ → List ℕ → Option (List ℕ)
strip [] t = Some t
strip (c ∷ cs) [] = None
strip (c ∷ cs) (b ∷ t) = if b == c then strip cs t else None

-- the least and the greatest count, and what is left
abbrev pub Bounds : Type 0
Bounds = Option (ℕ × Option ℕ × List ℕ)

-- these bounds, if their interval is closed here
abbrev pub closed_by : List ℕ → ℕ → Option ℕ → List ℕ → Bounds
closed_by close m n t = option_and_then (λ rest. Some (m, n, rest)) (strip close t)

-- the first of two that is there
abbrev pub or_else : Bounds → Bounds → Bounds
or_else None b = b
or_else (Some a) b = Some a

-- the bounds from m to a number that was read
abbrev pub upper_at : List ℕ → ℕ → Option (ℕ × List ℕ) → Bounds
upper_at close m None = None
upper_at close m (Some x) = if nat_le m x.0 then closed_by close m (Some x.0) x.1 else None

-- the bounds behind the least count, which a comma follows
abbrev pub most_at : List ℕ → ℕ → List ℕ → Bounds
most_at close m [] = None
most_at close m (c ∷ t) = if c == 44 then or_else (closed_by close m None t) (upper_at close m (number_at t)) else None

-- the bounds behind a number that was read
abbrev pub least_at : List ℕ → Option (ℕ × List ℕ) → Bounds
least_at close None = None
least_at close (Some x) = or_else (closed_by close x.0 (Some x.0) x.1) (most_at close x.0 x.1)

-- the bounds at the front up to what closes their interval
unfoldable pub bounds : List ℕ → List ℕ → Bounds
bounds close t = least_at close (number_at t)
