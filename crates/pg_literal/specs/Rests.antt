-- Patterns whose matches don't depend on what stands before them.
use Rattle.std.specs.Prelude.{◌↔◌, ◌≤◌, ℕ, ◌+◌, List, length, drop}
use Rattle.pg_pattern.specs.Patterns.{Pattern, Empty, Set, Begin, End, Cat, Alt, Rep}
use Rattle.pg_pattern.specs.Hits.{Hit}
use Rattle.pg_pattern.specs.declared.bounds.Bounds.{Bounds}

-- no part of it asks for the line's begin
abbrev pub HasNoBegin : Pattern → Type 0
HasNoBegin Empty = Unit {0}
HasNoBegin (Set s) = Unit {0}
HasNoBegin Begin = ⊥
HasNoBegin End = Unit {0}
HasNoBegin (Cat p q) = HasNoBegin p × HasNoBegin q
HasNoBegin (Alt p q) = HasNoBegin p × HasNoBegin q
HasNoBegin (Rep p least most) = HasNoBegin p

-- the hits behind a place of a line are those of the rest of the line
abbrev pub IgnoresFront : List Pattern → Bounds → Type 0
IgnoresFront patterns bounds = (line : List ℕ) (k i j : ℕ) → k ≤ length line
    → Hit patterns bounds line (k + i) (k + j) ↔ Hit patterns bounds (drop k line) i j
