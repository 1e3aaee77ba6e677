-- The pattern of a tree, by its node.
use Rattle.std.proofs.Common.{◌≡◌, ℕ, Option, sym, ap, ◌∙◌}
use Rattle.pg_bytes.specs.ByteSets.{bytes}
use Rattle.pg_bytes.specs.declared.byte_set.ByteSet.{ByteSet}
use Rattle.pg_pattern.specs.Patterns as P
use Rattle.pg_pattern.specs.Trees.{pattern, node}
use Rattle.pg_pattern.specs.declared.tree.Tree.{Tree}
use Rattle.pg_pattern.specs.declared.tree.Tree.TheVariants as T
use Rattle.pg_pattern.specs.declared.tree.Tree.TheVariants.{rolls-Empty, rolls-Set, rolls-Begin, rolls-End, rolls-Cat}
use Rattle.pg_pattern.specs.declared.tree.Tree.TheVariants.{rolls-Alt, rolls-Rep}
use Rattle.pg_pattern.specs.declared.tree.Tree.TheOpen.{Tree-F}
use Rattle.pg_pattern.specs.declared.tree.Tree.TheFolds.{fold-roll-Tree}

module _ {A : Type 0} (tree : Tree A) where
  pub pattern-empty : tree ≡ T.Empty → pattern tree ≡ P.Empty
  pattern-empty is = ap pattern (is ∙ sym rolls-Empty) ∙ fold-roll-Tree A P.Pattern node Tree-F.Empty

  pub pattern-set : (s : ByteSet) → tree ≡ T.Set s → pattern tree ≡ P.Set (bytes s)
  pattern-set s is = ap pattern (is ∙ sym (rolls-Set s)) ∙ fold-roll-Tree A P.Pattern node (Tree-F.Set s)

  pub pattern-begin : tree ≡ T.Begin → pattern tree ≡ P.Begin
  pattern-begin is = ap pattern (is ∙ sym rolls-Begin) ∙ fold-roll-Tree A P.Pattern node Tree-F.Begin

  pub pattern-end : tree ≡ T.End → pattern tree ≡ P.End
  pattern-end is = ap pattern (is ∙ sym rolls-End) ∙ fold-roll-Tree A P.Pattern node Tree-F.End

  pub pattern-cat : (a b : _) → tree ≡ T.Cat a b → pattern tree ≡ P.Cat (pattern a.value) (pattern b.value)
  pattern-cat a b is = ap pattern (is ∙ sym (rolls-Cat a b)) ∙ fold-roll-Tree A P.Pattern node (Tree-F.Cat a b)

  pub pattern-alt : (a b : _) → tree ≡ T.Alt a b → pattern tree ≡ P.Alt (pattern a.value) (pattern b.value)
  pattern-alt a b is = ap pattern (is ∙ sym (rolls-Alt a b)) ∙ fold-roll-Tree A P.Pattern node (Tree-F.Alt a b)

  pub pattern-rep : (a : _) (least : ℕ) (most : Option ℕ) → tree ≡ T.Rep a least most
      → pattern tree ≡ P.Rep (pattern a.value) least most
  pattern-rep a least most is = ap pattern (is ∙ sym (rolls-Rep a least most))
      ∙ fold-roll-Tree A P.Pattern node (Tree-F.Rep a least most)
