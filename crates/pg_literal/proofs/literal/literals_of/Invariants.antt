use Rattle.std.proofs.Common.{◌≡◌, ◌<◌, ℕ, List, get_or, map, take, ◌∷◌, []}
use Rattle.std.specs.Bool.{IsTrue}
use Rattle.std.specs.List.{All, AllZip, Any as AnyOf}
use Rattle.memchr.specs.Find.{OccursAt}
use Rattle.pg_grammar.specs.Grammar.{Spells}
use Rattle.pg_pattern.specs.Patterns.{Pattern}
use Rattle.pg_pattern.specs.Trees.{pattern}
use Rattle.pg_grammar.specs.declared.pattern_list.Kind.TheVariants.{Fixed}
use Rattle.pg_pattern.specs.Hits.{HasHit, Hit}
use Rattle.pg_pattern.specs.declared.bounds.Bounds.TheVariants.{Any}
use Rattle.pg_literal.specs.Literals.{as_searched, Holds, AreEnough, AreTexts}
use Rattle.pg_literal.proofs.literal.literals_of.Given as goal

-- what holds of all trees holds of those that were read
abbrev pub invariant-loop-tree : goal.invariant-loop-tree
invariant-loop-tree g l = record {
  needed : (line : List ℕ) (k : ℕ) (p : Pattern) → k < l.tree-index → get_or (map pattern l.trees) k p ≡ p
      → HasHit (p ∷ []) l.bounds line
      → AnyOf (λ literal. Holds l.expansion.fold line literal.text.items) l.literals.items;
  heads : All (λ literal. IsTrue literal.is_head) l.literals.items → (line : List ℕ) (i j k : ℕ) (p : Pattern)
      → k < l.tree-index → get_or (map pattern l.trees) k p ≡ p → Hit (p ∷ []) l.bounds line i j
      → (i < j)
      × AnyOf (λ literal. OccursAt (as_searched l.expansion.fold line) literal.text.items i) l.literals.items;
  enough : AreEnough l.expansion.fold (map pattern l.trees) l.bounds l.literals.items;
  exact : (texts : List (List ℕ)) → AllZip (Spells Fixed l.expansion.fold) texts (map pattern l.trees)
      → map (λ literal. literal.text.items) l.literals.items
      ≡ map (as_searched l.expansion.fold) (take l.tree-index texts);
  fixed : (texts : List (List ℕ)) → AllZip (Spells Fixed l.expansion.fold) texts (map pattern l.trees) → l.bounds ≡ Any
      → AreTexts (map (as_searched l.expansion.fold) (take l.tree-index texts)) l.literals.items;
}
