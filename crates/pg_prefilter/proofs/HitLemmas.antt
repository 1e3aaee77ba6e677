-- Lines with a hit, and what a literal tells of a line.
use Rattle.std.proofs.Common.{◌≡◌, ℕ, ◌<◌, ◌≤◌, true, false, inl, inr, List, length, arith}
use Rattle.std.specs.List.{Any}
use Rattle.std.proofs.lemmas.Bool.{cases_Bool}
use Rattle.std.proofs.lemmas.List.Elements.{All-contains}
use Rattle.pg_pattern.specs.Hits.{Hit}
use Rattle.pg_pattern.specs.Tests.{has_hit as patterns_have_hit}
use Rattle.pg_pattern.proofs.TestLemmas.{hits_decided}
use Rattle.pg_selection.specs.Search.{SearchText, Search, Pattern, Bounds, AreTreesOf, search_of, uninverted}
use Rattle.pg_literal.specs.Literals.{Holds}
use Rattle.pg_prefilter.specs.Literals.{LiteralData, HoldsOne, IsEnough, AreLiterals}
use Rattle.pg_selection.specs.Selection.{selects}
use Rattle.pg_selection.proofs.SelectLemmas.{selects_decides}

-- the test of a line that has a hit, or none
pub hit_found : (trees : List Pattern) (bounds : Bounds) (line : List ℕ) (i j : ℕ) → Hit trees bounds line i j
    → patterns_have_hit trees bounds line ≡ true
hit_found trees bounds line i j hit = (hits_decided trees bounds line).whole_line.1 (i, j, hit)

pub hit_missed : (trees : List Pattern) (bounds : Bounds) (line : List ℕ)
    → ((i j : ℕ) → 0 ≤ i → Hit trees bounds line i j → ⊥) → patterns_have_hit trees bounds line ≡ false
hit_missed trees bounds line none = elim (cases_Bool (patterns_have_hit trees bounds line)) [
  | inl found ↦
      let hit = (hits_decided trees bounds line).whole_line.0 found in
      absurd (none hit.0 hit.1 (omega arith) hit.2)
  | inr missed ↦ missed
]

module _ (text : SearchText) (trees : List Pattern) (spelled : AreTreesOf text trees) (literals : List LiteralData)
    (are : AreLiterals text literals) (line : List ℕ) where
  abbrev q : Search
  q = search_of (uninverted text) trees

  -- a line without a literal has no hit
  pub without_missed : 0 < length literals → (HoldsOne text.fold literals line → ⊥) → selects q line ≡ false
  without_missed some none = elim (cases_Bool (selects q line)) [
    | inl chosen ↦ absurd (none (are.needed some trees spelled line ((selects_decides q line).0 chosen)))
    | inr none' ↦ none'
  ]

  -- a line with a literal that is enough has one
  pub held_hit : Any (λ l. (l.is_enough ≡ true) × Holds text.fold line l.text) literals → selects q line ≡ true
  held_hit held =
      let enough = All-contains (IsEnough text) literals held.1 are.enough (held.0, held.2, held.3) in
      (selects_decides q line).1 (enough held.4.0 trees spelled line held.4.1)
