-- Trees as plain data, without where they lie in memory.
use Rattle.std.specs.Prelude.{ℕ, ◌≤◌, Bool, Option, IfSome, if◌then◌else◌}
use Rattle.pg_bytes.specs.Sets.{Bytes, closed}

-- the empty string, one byte of a set, the ends of a line, two parts in their order, one of two, and repetitions
-- between a least count and, where it is given, a greatest
pub data Pattern : Type 0 where
  Empty : Pattern
  Set : Bytes → Pattern
  Begin : Pattern
  End : Pattern
  Cat : Pattern → Pattern → Pattern
  Alt : Pattern → Pattern → Pattern
  Rep : Pattern → ℕ → Option ℕ → Pattern

-- no repetition has a least count above its greatest
abbrev pub IsProper : Pattern → Type 0
IsProper Empty = Unit {0}
IsProper (Set s) = Unit {0}
IsProper Begin = Unit {0}
IsProper End = Unit {0}
IsProper (Cat p q) = IsProper p × IsProper q
IsProper (Alt p q) = IsProper p × IsProper q
IsProper (Rep p m n) = IsProper p × IfSome n (λ n. m ≤ n)

-- the set, with both cases of its letters where case is folded (XCU grep, -i)
abbrev pub folded : Bool → Bytes → Bytes
folded fold s = if fold then closed s else s
