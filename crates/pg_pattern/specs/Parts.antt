-- The matched parts of a line that -o shows (GNU grep -o; XBD 9.1: the leftmost match, and of these the longest).
use Rattle.std.specs.Prelude.{ℕ, zero, suc, ◌+◌, ◌-◌, if◌then◌else◌}
use Rattle.std.specs.Prelude.{List, [], ◌∷◌, length, Option, None, Some}
use Rattle.pg_pattern.specs.Patterns.{Pattern}
use Rattle.pg_pattern.specs.Hits.{IsNext, HasNoNext}
use Rattle.pg_pattern.specs.Tests.{is_hit}
use Rattle.pg_pattern.specs.declared.bounds.Bounds.{Bounds}

-- the parts from a place on: each goes on from the end of the one before it
pub data AreParts (patterns : List Pattern) (bounds : Bounds) (line : List ℕ) : ℕ → List (ℕ × ℕ) → Type 0 where
  none : {place : ℕ} → HasNoNext patterns bounds line place → AreParts patterns bounds line place []
  more : {place i j : ℕ} {rest : List (ℕ × ℕ)} → IsNext patterns bounds line place i j
      → AreParts patterns bounds line j rest → AreParts patterns bounds line place ((i, j) ∷ rest)

-- The parts as they are found by looking at each span.

-- the end of the longest hit from a place that isn't empty and has at most n bytes
abbrev pub longest_hit : List Pattern → Bounds → List ℕ → ℕ → ℕ → Option ℕ
longest_hit patterns bounds line i zero = None
longest_hit patterns bounds line i (suc n) =
    if is_hit patterns bounds line i (i + suc n) then Some (i + suc n) else longest_hit patterns bounds line i n

-- the span from a place to the end that was found, or else what was found later
abbrev pub at_or_later : ℕ → Option ℕ → Option (ℕ × ℕ) → Option (ℕ × ℕ)
at_or_later i (Some j) later = Some (i, j)
at_or_later i None later = later

-- the next part among those that start at one of the n places from a place on
abbrev pub next_part : List Pattern → Bounds → List ℕ → ℕ → ℕ → Option (ℕ × ℕ)
next_part patterns bounds line i zero = None
next_part patterns bounds line i (suc n) =
    at_or_later i (longest_hit patterns bounds line i (length line - i)) (next_part patterns bounds line (i + 1) n)

-- a part, and what is found from its end on
abbrev pub part_and_later : Option (ℕ × ℕ) → (ℕ → List (ℕ × ℕ)) → List (ℕ × ℕ)
part_and_later None later = []
part_and_later (Some part) later = part ∷ later part.1

-- at most n parts from a place on
unfoldable pub parts_from : List Pattern → Bounds → List ℕ → ℕ → ℕ → List (ℕ × ℕ)
parts_from patterns bounds line place zero = []
parts_from patterns bounds line place (suc n) =
    part_and_later (next_part patterns bounds line place (length line - place))
    (λ j. parts_from patterns bounds line j n)

-- the matched parts of a line, each from one place up to another
abbrev pub parts : List Pattern → Bounds → List ℕ → List (ℕ × ℕ)
parts patterns bounds line = parts_from patterns bounds line 0 (length line)
