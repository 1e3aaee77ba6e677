-- A byte set of the program as a set of numbers.
use Rattle.std.specs.Prelude.{ℕ, ◌/◌, ◌%◌, List, ◌&&◌, ◌==◌, nat_lt, slice_index}
use Rattle.std.specs.Int.{bit_at}
use Rattle.pg_bytes.specs.Sets.{Bytes}
use Rattle.pg_bytes.specs.declared.byte_set.ByteSet.{ByteSet}

-- the numbers below 256 whose bits are set in a list of 64-bit words
abbrev pub in_words : List ℕ → Bytes
in_words words n = nat_lt n 256 && bit_at (slice_index words (n / 64)) (n % 64) == 1

-- the members of a byte set
abbrev pub bytes : ByteSet → Bytes
bytes s = in_words s.words
