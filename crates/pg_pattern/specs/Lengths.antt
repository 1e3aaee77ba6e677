-- How many bytes the matches of a pattern have.
use Rattle.std.specs.Prelude.{ℕ, ◌+◌, ◌≤◌, List}
use Rattle.pg_pattern.specs.Patterns.{Pattern}
use Rattle.pg_pattern.specs.Matches.{Match, Chain}
use Rattle.pg_pattern.specs.Hits.{Hit}
use Rattle.pg_pattern.specs.declared.bounds.Bounds.{Bounds}
use Rattle.pg_pattern.specs.declared.bounds.Bounds.TheVariants.{Any, Word, Whole}

-- each match has at most so many bytes
abbrev pub HasAtMost : Pattern → ℕ → Type 0
HasAtMost p bytes = (line : List ℕ) (i j : ℕ) → Match p line i j → j ≤ i + bytes

-- at most so many matches, one behind the other, have together at most so many bytes
abbrev pub HaveAtMost : Pattern → ℕ → ℕ → Type 0
HaveAtMost p most bytes =
    (line : List ℕ) (count i j : ℕ) → count ≤ most → Chain (Match p line) count i j → j ≤ i + bytes

-- where a match begins, one ends within so many bytes
abbrev pub EndsWithin : Pattern → ℕ → Type 0
EndsWithin p bytes =
    (line : List ℕ) (i j : ℕ) → Match p line i j → (k : ℕ) × (k ≤ i + bytes) × Match p line i k

-- where a match begins that may count, one ends within so many bytes that does: some match, where any counts, else each
abbrev pub IsReachOf : Bounds → ℕ → Pattern → Type 0
IsReachOf Any bytes p = EndsWithin p bytes
IsReachOf Word bytes p = HasAtMost p bytes
IsReachOf Whole bytes p = HasAtMost p bytes

-- where a hit begins, one ends within so many bytes
abbrev pub HitsEndWithin : List Pattern → Bounds → ℕ → Type 0
HitsEndWithin patterns bounds bytes =
    (line : List ℕ) (i j : ℕ) → Hit patterns bounds line i j
    → (k : ℕ) × (k ≤ i + bytes) × Hit patterns bounds line i k
