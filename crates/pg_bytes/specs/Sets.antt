-- Sets of bytes, as tests of numbers.
use Rattle.std.specs.Prelude.{ℕ, ◌+◌, ◌-◌, Bool, false, not, ◌&&◌, ◌||◌, ◌==◌, nat_le, nat_lt, if◌then◌else◌}

-- a set of numbers; that of a byte set has no number from 256 on
abbrev pub Bytes : Type 0
Bytes = ℕ → Bool

-- no number
abbrev pub empty : Bytes
empty n = false

-- all bytes
abbrev pub all : Bytes
all n = nat_lt n 256

-- the one number
abbrev pub one : ℕ → Bytes
one b n = n == b

-- the set and the number
abbrev pub with : ℕ → Bytes → Bytes
with b s n = s n || n == b

-- the numbers from low to high, both included
abbrev pub between : ℕ → ℕ → Bytes
between low high n = nat_le low n && nat_le n high

-- the numbers below a bound
abbrev pub below : ℕ → Bytes
below bound n = nat_lt n bound

-- what is in one of the two sets
abbrev pub union : Bytes → Bytes → Bytes
union s t n = s n || t n

-- the bytes that aren't in the set
abbrev pub complement : Bytes → Bytes
complement s n = all n && not (s n)

-- the upper case letters (XBD 7.3.1, upper)
abbrev pub upper : Bytes
upper = between 65 90

-- the lower case letters (XBD 7.3.1, lower)
abbrev pub lower : Bytes
lower = between 97 122

-- the letter in its other case, and any other number as it is (XBD 7.3.1, toupper and tolower)
abbrev pub other_case : ℕ → ℕ
other_case n = if upper n then n + 32 else if lower n then n - 32 else n

-- the letter in lower case, and any other number as it is (XBD 7.3.1, tolower)
abbrev pub lower_case : ℕ → ℕ
lower_case n = if upper n then n + 32 else n

-- the set with the other case of each letter in it
abbrev pub closed : Bytes → Bytes
closed s n = s n || s (other_case n)
