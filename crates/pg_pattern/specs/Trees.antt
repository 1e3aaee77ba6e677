-- A tree of the program as plain data.
use Rattle.std.specs.Prelude.{Option, option_map}
use Rattle.pg_bytes.specs.ByteSets.{bytes}
use Rattle.pg_pattern.specs.Patterns as P
use Rattle.pg_pattern.specs.Patterns.{Pattern}
use Rattle.pg_pattern.specs.declared.tree.Tree.{Tree}
use Rattle.pg_pattern.specs.declared.tree.Tree.TheOpen.{Tree-F}
use Rattle.pg_pattern.specs.declared.tree.Tree.TheFolds.{fold-Tree}

-- one node, with the pattern of each child in its place
abbrev pub node : {A : Type 0} → Tree-F A Pattern → Pattern
node Tree-F.Empty = P.Empty
node (Tree-F.Set s) = P.Set (bytes s)
node Tree-F.Begin = P.Begin
node Tree-F.End = P.End
node (Tree-F.Cat a b) = P.Cat a.value b.value
node (Tree-F.Alt a b) = P.Alt a.value b.value
node (Tree-F.Rep a m n) = P.Rep a.value m n

-- the tree without where it lies in memory
abbrev pub pattern : {A : Type 0} → Tree A → Pattern
pattern {A} = fold-Tree A Pattern node

-- the pattern of a tree that may be missing
abbrev pub pattern_of : {A : Type 0} → Option (Tree A) → Option Pattern
pattern_of = option_map pattern
