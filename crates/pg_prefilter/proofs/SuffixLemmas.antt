-- Lines that are judged by their ends.
use Rattle.std.proofs.Common.{◌≡◌, ℕ, ◌≤◌, List, length, Option, Some, None, arith, refl, subst}
use Rattle.std.specs.Prelude.{IfOk, IfSome, Result, Ok, Err}
use Rattle.pg_literal.specs.Suffixes.{IsSuffixAt, IsSuffix, suffix_row}
use Rattle.pg_literal.specs.declared.suffix.LineSuffix.{LineSuffix}
use Rattle.pg_selection.specs.Search.{SearchText, Pattern, Bounds, AreTreesOf, bounds_of}
use Rattle.pg_selection.proofs.TreeLemmas.{same_trees}
use Rattle.pg_prefilter.specs.Strings.{FindsPart, IsSuffixOf}
use Rattle.pg_prefilter.specs.declared.strings.NextString.TheVariants.{Found}

-- a suffix stands at one place of a line
ends_once : {A : Type 0} (line : List ℕ) (suffix : LineSuffix A) (i k : ℕ) → IsSuffixAt line (suffix_row suffix) i
    → IsSuffixAt line (suffix_row suffix) k → i ≡ k
ends_once line suffix i k a b = omega (arith, a.1, b.1)

-- a line that ends with the suffix at a place or behind it
pub suffix_found : {A : Type 0} (trees : List Pattern) (bounds : Bounds) (suffix : LineSuffix A)
    → IsSuffix trees bounds (suffix_row suffix) → (line : List ℕ) (from start : ℕ)
    → IsSuffixAt line (suffix_row suffix) start → from ≤ start
    → FindsPart trees bounds line from (Found (record { start = start; end = length line }))
suffix_found trees bounds suffix is line from start ends later = record {
  later = later;
  some = omega (arith, ends.1, is.some);
  hit = (is.hits line start (length line)).1 (ends, refl);
  first = λ i j low before some hit.
      let same = ends_once line suffix i start ((is.hits line i j).0 hit).0 ends in
      absurd (omega (arith, same, before));
  longest = λ j hit. omega (arith, ((is.hits line start j).0 hit).1);
}

-- the suffix of a text's trees
pub suffix_known : {A E : Type 0} (found : Result (Option (LineSuffix A)) E) (text : SearchText) (trees : List Pattern)
    (bounds : Bounds) → AreTreesOf text trees → bounds ≡ bounds_of text
    → IfOk found (λ o. IfSome o (λ suffix. IsSuffix trees bounds (suffix_row suffix)))
    → IfOk found (λ o. IfSome o (IsSuffixOf text))
suffix_known (Err e) text trees bounds spelled same h = tt
suffix_known (Ok None) text trees bounds spelled same h = tt
suffix_known (Ok (Some suffix)) text trees bounds spelled same h = λ trees' spelled'.
    let own = subst (λ b. IsSuffix trees b (suffix_row suffix)) same h in
    subst (λ ts. IsSuffix ts (bounds_of text) (suffix_row suffix)) (same_trees text trees trees' spelled spelled') own
