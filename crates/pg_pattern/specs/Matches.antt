-- Which spans of a line a pattern matches (XBD 9.3 and 9.4).
use Rattle.std.specs.Prelude.{◌≡◌, ℕ, zero, suc, ◌+◌, ◌≤◌, true, ◌⊎◌, List, length, Some, IfSome, slice_get}
use Rattle.pg_pattern.specs.Patterns.{Pattern, Empty, Set, Begin, End, Cat, Alt, Rep}

-- this many spans of a kind, each from where the one before it ends, lead from one place to another
abbrev pub Chain : (ℕ → ℕ → Type 0) → ℕ → ℕ → ℕ → Type 0
Chain Span zero i j = i ≡ j
Chain Span (suc count) i j = (k : ℕ) × Span i k × Chain Span count k j

-- The pattern matches the line from one place to another. The empty string is matched everywhere; a set matches one
-- byte that is in it (XBD 9.3.2 to 9.3.5); the anchors match the empty string where the line begins and where it ends
-- (XBD 9.3.8); a repetition matches as many spans, one behind the other, as its counts allow (XBD 9.3.6, items 4 and
-- 5).
abbrev pub Match : Pattern → List ℕ → ℕ → ℕ → Type 0
Match Empty line i j = i ≡ j
Match (Set s) line i j = (b : ℕ) × (slice_get line i ≡ Some b) × (s b ≡ true) × (j ≡ i + 1)
Match Begin line i j = (i ≡ 0) × (j ≡ i)
Match End line i j = (i ≡ length line) × (j ≡ i)
Match (Cat p q) line i j = (k : ℕ) × Match p line i k × Match q line k j
Match (Alt p q) line i j = Match p line i j ⊎ Match q line i j
Match (Rep p least most) line i j =
    (count : ℕ) × (least ≤ count) × IfSome most (λ most. count ≤ most) × Chain (Match p line) count i j
