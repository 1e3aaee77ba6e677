-- Ranges of bytes that cover a set.
use Rattle.std.specs.Prelude.{ℕ, ◌+◌, ◌-◌, ◌%◌, Bool, ◌||◌, nat_le, if◌then◌else◌}
use Rattle.pg_literal.specs.declared.ranges.ByteRange.{ByteRange}
use Rattle.pg_literal.specs.declared.ranges.RangePair.{RangePair}
use Rattle.pg_literal.specs.declared.ranges.Cover.{Cover}
use Rattle.pg_literal.specs.declared.ranges.Cover.TheVariants.{Two, Four}

-- the byte is the lowest one of the range, or as far behind it as the range goes, where 0 stands behind 255
abbrev pub in_range : ByteRange → ℕ → Bool
in_range range b = nat_le ((b + (256 - range.low)) % 256) range.span

-- the byte is in one of the two ranges
abbrev pub in_pair : RangePair → ℕ → Bool
in_pair pair b = in_range pair.first b || in_range pair.second b

-- the byte is in one of the ranges
abbrev pub covered : Cover → ℕ → Bool
covered (Two pair) b = in_pair pair b
covered (Four pair other) b = in_pair pair b || in_pair other b

-- one where a test is passed, and zero elsewhere
abbrev pub bit_of : Bool → ℕ
bit_of is_passed = if is_passed then 1 else 0
