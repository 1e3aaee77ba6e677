-- How many bytes a match needs from where it begins.
use Rattle.std.specs.Prelude.{ℕ, List, slice_range}
use Rattle.pg_pattern.specs.Patterns.{Pattern, Empty, Set, Begin, End, Cat, Alt, Rep}
use Rattle.pg_pattern.specs.Lengths.{HitsEndWithin}
use Rattle.pg_pattern.specs.Hits.{Hit, HasHit}
use Rattle.pg_pattern.specs.declared.bounds.Bounds.TheVariants.{Any}

-- no part of it asks for the line's begin or end
abbrev pub HasNoAnchor : Pattern → Type 0
HasNoAnchor Empty = Unit {0}
HasNoAnchor (Set s) = Unit {0}
HasNoAnchor Begin = ⊥
HasNoAnchor End = ⊥
HasNoAnchor (Cat p q) = HasNoAnchor p × HasNoAnchor q
HasNoAnchor (Alt p q) = HasNoAnchor p × HasNoAnchor q
HasNoAnchor (Rep p least most) = HasNoAnchor p

-- Each hit is one by itself, without what stands around it; and where one begins, one ends within so many bytes.
pub record IsReach (patterns : List Pattern) (reach : ℕ) : Type 0 where
  pub alone : (line : List ℕ) (i j : ℕ) → Hit patterns Any line i j → HasHit patterns Any (slice_range line i j)
  pub near : HitsEndWithin patterns Any reach
