-- What is said of a pattern and of a line, as tests that look at each span (XBD 9.3; XCU grep).
use Rattle.std.specs.Prelude.{ℕ, zero, suc, ◌+◌, ◌-◌, Bool, true, false, not, ◌==◌, nat_le, ◌&&◌, ◌||◌}
use Rattle.std.specs.Prelude.{List, length, Option, Some, None, slice_get, slice_index}
use Rattle.std.specs.Bool.{Decides}
use Rattle.std.specs.List.{list_any, range_with_len}
use Rattle.pg_pattern.specs.Patterns.{Pattern, Empty, Set, Begin, End, Cat, Alt, Rep}
use Rattle.pg_pattern.specs.Matches.{Match}
use Rattle.pg_pattern.specs.Bounds.{is_word_byte, may_end}
use Rattle.pg_pattern.specs.Hits.{Hit, HasHit}
use Rattle.pg_pattern.specs.declared.bounds.Bounds.{Bounds}
use Rattle.pg_pattern.specs.declared.bounds.Bounds.TheVariants.{Any, Word, Whole}

-- the places from one up to another, both among them
abbrev pub places : ℕ → ℕ → List ℕ
places i j = range_with_len i (j + 1 - i)

-- `Chain`, as a test: the first span ends at one of the places between
abbrev pub is_chain : (ℕ → ℕ → Bool) → ℕ → ℕ → ℕ → Bool
is_chain is_span zero i j = i == j
is_chain is_span (suc count) i j = list_any (λ k. is_span i k && is_chain is_span count k j) (places i j)

-- there is a byte, and it is in the set
abbrev pub has_byte : (ℕ → Bool) → Option ℕ → Bool
has_byte s None = false
has_byte s (Some b) = s b

-- no more than the greatest count, if there is one
abbrev pub at_most : Option ℕ → ℕ → Bool
at_most None count = true
at_most (Some most) count = nat_le count most

-- `Match`, as a test. Of a repetition's counts those up to the least one and the number of the bytes are enough: with
-- more of them some span is empty and can be left out.
abbrev pub is_match : Pattern → List ℕ → ℕ → ℕ → Bool
is_match Empty line i j = i == j
is_match (Set s) line i j = has_byte s (slice_get line i) && j == i + 1
is_match Begin line i j = i == 0 && j == i
is_match End line i j = i == length line && j == i
is_match (Cat p q) line i j = list_any (λ k. is_match p line i k && is_match q line k j) (places i j)
is_match (Alt p q) line i j = is_match p line i j || is_match q line i j
is_match (Rep p least most) line i j =
    list_any (λ count. at_most most count && is_chain (is_match p line) count i j) (places least (least + (j - i)))

-- `MayBegin`, as a test
abbrev pub may_begin : Bounds → List ℕ → ℕ → Bool
may_begin Any line i = true
may_begin Word line i = i == 0 || not (is_word_byte (slice_index line (i - 1)))
may_begin Whole line i = i == 0

-- `Hit`, as a test
abbrev pub is_hit : List Pattern → Bounds → List ℕ → ℕ → ℕ → Bool
is_hit patterns bounds line i j =
    nat_le i j && nat_le j (length line) && may_begin bounds line i && may_end bounds line j
    && list_any (λ p. is_match p line i j) patterns

-- `HasHit`, as a test
unfoldable pub has_hit : List Pattern → Bounds → List ℕ → Bool
has_hit patterns bounds line =
    list_any (λ i. list_any (is_hit patterns bounds line i) (places i (length line))) (places 0 (length line))

-- the tests tell which spans of the line are hits, and whether some span is one
pub record TestsHits (patterns : List Pattern) (bounds : Bounds) (line : List ℕ) : Type 0 where
  pub each_span : (i j : ℕ) → Decides (is_hit patterns bounds line i j) (Hit patterns bounds line i j)
  pub whole_line : Decides (has_hit patterns bounds line) (HasHit patterns bounds line)

-- the test tells which spans of the line the pattern matches
abbrev pub TestsMatches : Pattern → List ℕ → Type 0
TestsMatches p line = (i j : ℕ) → Decides (is_match p line i j) (Match p line i j)
