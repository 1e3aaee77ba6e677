-- Where a match may begin and end.
use Rattle.std.specs.Prelude.{◌≡◌, ℕ, ◌-◌, ◌⊎◌, Bool, true, false, ◌==◌, ◌&&◌}
use Rattle.std.specs.Prelude.{◌||◌, not, nat_le, List, length, slice_index}
use Rattle.pg_pattern.specs.declared.bounds.Bounds.{Bounds}
use Rattle.pg_pattern.specs.declared.bounds.Bounds.TheVariants.{Any, Word, Whole}

-- a letter, a digit or `_` (GNU grep, -w)
abbrev pub is_word_byte : ℕ → Bool
is_word_byte b =
    b == 95 || (nat_le 48 b && nat_le b 57) || (nat_le 65 b && nat_le b 90) || (nat_le 97 b && nat_le b 122)

-- any match counts; with -w one with no word byte before it; with -x one from the start of the line (XCU grep, -x; GNU
-- grep, -w)
abbrev pub MayBegin : Bounds → List ℕ → ℕ → Type 0
MayBegin Any line i = Unit {0}
MayBegin Word line i = (i ≡ 0) ⊎ (is_word_byte (slice_index line (i - 1)) ≡ false)
MayBegin Whole line i = i ≡ 0

-- any match counts; with -w one that no word byte follows; with -x one up to the end of the line (XCU grep, -x; GNU
-- grep, -w)
abbrev pub MayEnd : Bounds → List ℕ → ℕ → Type 0
MayEnd Any line j = Unit {0}
MayEnd Word line j = (j ≡ length line) ⊎ (is_word_byte (slice_index line j) ≡ false)
MayEnd Whole line j = j ≡ length line

-- `MayEnd`, as a test
abbrev pub may_end : Bounds → List ℕ → ℕ → Bool
may_end Any line j = true
may_end Word line j = j == length line || not (is_word_byte (slice_index line j))
may_end Whole line j = j == length line
