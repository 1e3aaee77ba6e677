-- The literals of a query.
use Rattle.std.proofs.Common.{◌<◌, ℕ, IsTrue, List, [], length, map}
use Rattle.std.proofs.Common.{subst, arith}
use Rattle.std.specs.List.{All}
use Rattle.std.proofs.lemmas.List.{length-map}
use Rattle.std.proofs.lemmas.List.Elements.{All-map, All-weaker}
use Rattle.pg_literal.specs.Literals as P
use Rattle.pg_literal.specs.Literals.{Holds}
use Rattle.pg_literal.specs.declared.literal.Literal.{Literal}
use Rattle.pg_pattern.specs.Hits.{HasHit as PatternsHaveHit}
use Rattle.pg_blocks.specs.Lines.{IsLine}
use Rattle.pg_selection.specs.Search.{SearchText, Pattern, AreTreesOf, bounds_of, terminator_of}
use Rattle.pg_selection.proofs.TreeLemmas.{same_trees}
use Rattle.pg_prefilter.specs.Literals.{data_of, IsEnough, AreLiterals}
use Rattle.pg_literal.proofs.RowLemmas.{any-map}

-- texts that are needed, and perhaps enough, for the patterns
pub literals_are : {A : Type 0} (text : SearchText) (trees : List Pattern) → AreTreesOf text trees
    → (literals : List (Literal A)) → All (λ l. IsLine (terminator_of text) l.text.items) literals
    → (0 < length literals → P.AreNeeded text.fold trees (bounds_of text) literals)
    → P.AreEnough text.fold trees (bounds_of text) literals → AreLiterals text (map data_of literals)
literals_are {A} text trees spelled literals alone needed enough =
    let Hit : List ℕ → List Pattern → Type 0 = λ line ts. PatternsHaveHit ts (bounds_of text) line in
    record {
      lines = All-map (λ l. IsLine (terminator_of text) l.text) data_of literals alone;
      needed = λ some trees' spelled' line hit.
          any-map (λ l. Holds text.fold line l.text) data_of literals
          (needed (omega (arith, some, length-map literals (data_of {A = A}))) line
          (subst (Hit line) (same_trees text trees' trees spelled' spelled) hit));
      enough = All-map (IsEnough text) data_of literals (All-weaker
          (λ (l : Literal A). IsTrue l.is_enough → P.IsEnoughText text.fold trees (bounds_of text) l.text.items)
          (λ l. IsEnough text (data_of l)) (λ l says yes trees' spelled' line held.
          subst (Hit line) (same_trees text trees trees' spelled spelled') (says yes line held)) literals enough);
    }

-- no literal tells nothing
pub no_literals : (text : SearchText) → AreLiterals text []
no_literals text = record {
  lines = λ k d low. absurd (omega arith);
  needed = λ some. absurd (omega arith);
  enough = λ k d low. absurd (omega arith);
}
