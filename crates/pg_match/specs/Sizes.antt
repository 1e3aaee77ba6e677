-- How many states an automaton has for a list of patterns.
use Rattle.std.specs.Prelude.{ℕ, ◌+◌, ◌-◌, ◌*◌, List, length, sum_by, Option, Some, None}
use Rattle.pg_pattern.specs.Patterns.{Pattern, Empty, Set, Begin, End, Cat, Alt, Rep}

-- a repetition of a pattern of a size: its copies, and a state for each of them that may be left out, or one for the
-- loop
abbrev pub repeated_size : ℕ → ℕ → Option ℕ → ℕ
repeated_size size least None = (least + 1) * size + 1
repeated_size size least (Some most) = most * size + (most - least)

abbrev pub size_of : Pattern → ℕ
size_of Empty = 1
size_of (Set s) = 1
size_of Begin = 1
size_of End = 1
size_of (Cat p q) = size_of p + size_of q
size_of (Alt p q) = size_of p + size_of q + 1
size_of (Rep p least most) = repeated_size (size_of p) least most

-- the states of all patterns, one for each but the first to choose among them, and one where a match ends
abbrev pub list_size : List Pattern → ℕ
list_size patterns = sum_by size_of patterns + (length patterns - 1) + 1
