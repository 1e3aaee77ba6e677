-- Bytes among which no literal stands.
use Rattle.std.proofs.Common.{◌≡◌, ◌<◌, ℕ, true, false, length-append, Option, None, Some, List, length, map, sym, ap, subst, arith}
use Rattle.std.proofs.lemmas.List.{length-map}
use Rattle.std.specs.List.{All}
use Rattle.std.proofs.lemmas.List.Elements.{All-contains, All-map}
use Rattle.memchr.specs.Find.{OccursAt, Nowhere, FindsNeedle}
use Rattle.std.specs.Prelude.{is_some}
use Rattle.std.proofs.lemmas.Bool.{false≢true}
use Rattle.pg_strings.specs.Sets.{SomeStands}
use Rattle.pg_strings.specs.Outcomes.{strings_of}
use Rattle.pg_literal.specs.Literals.{as_searched}
use Rattle.pg_literal.specs.declared.literal.Literal.{Literal}
use Rattle.pg_literal.proofs.FoldLemmas.{length_searched}
use Rattle.pg_blocks.specs.Lines.{lines}
use Rattle.pg_selection.specs.Search.{SearchText, Pattern, AreTreesOf, search_of, uninverted, terminator_of}
use Rattle.pg_selection.specs.Runs.{AllLines}
use Rattle.pg_prefilter.specs.Enough.{strings_if_some}
use Rattle.pg_prefilter.specs.Literals.{LiteralData, data_of, flagged, set_literals, AreLiterals}
use Rattle.pg_prefilter.specs.Strings.{IsSetOf}
use Rattle.pg_prefilter.specs.declared.literal_set.LiteralSet.{LiteralSet}
use Rattle.pg_prefilter.proofs.CandidateLemmas.{missed_without}
use Rattle.pg_prefilter.proofs.EnoughLemmas.{among_all}
use Rattle.pg_prefilter.proofs.NeedleSetLemmas.{nowhere_behind}
use Rattle.pg_prefilter.proofs.LineLemmas.{nowhere_lines, without_each}

-- what isn't found stands nowhere
pub found_nowhere : (searched text : List ℕ) (found : Option ℕ) → FindsNeedle searched text 0 found
    → is_some found ≡ false → (place : ℕ) → OccursAt searched text place → ⊥
found_nowhere searched text None none lacks place o = none place (omega arith) (omega (arith, o.fits)) o
found_nowhere searched text (Some found) first lacks place o = absurd (false≢true (sym lacks))

module _ (text : SearchText) (bytes searched : List ℕ) (is : searched ≡ as_searched text.fold bytes)
    (trees : List Pattern) (spelled : AreTreesOf text trees) where
  -- none of a few literals
  pub few_missed : {A : Type 0} (literals : List (Literal A)) → AreLiterals text (map data_of literals)
      → 0 < length (map (data_of {A = A}) literals)
      → All (λ literal. (place : ℕ) → OccursAt searched literal.text.items place → ⊥) literals
      → AllLines (search_of (uninverted text) trees) false bytes
  few_missed {A} literals are some none =
      let all = map (data_of {A = A}) literals in
      let Absent : LiteralData → Type 0 = λ l. (place : ℕ) → OccursAt searched l.text place → ⊥ in
      let absent : All Absent all = All-map Absent data_of literals none in
      missed_without text all are some bytes
      (without_each text.fold all (lines (terminator_of text) bytes) (λ l among.
      nowhere_lines text.fold (terminator_of text) l.text bytes (λ place o.
      All-contains Absent all l absent among place (subst (λ xs. OccursAt xs l.text place) (sym is) o)))) trees spelled

  -- none of many
  pub many_missed : {A : Type 0} (set : LiteralSet A) → IsSetOf text set → 0 < length searched
      → Nowhere (SomeStands (strings_of set.strings) searched) 0 (length searched)
      → AllLines (search_of (uninverted text) trees) false bytes
  many_missed set known some none =
      let are = known.0 in
      let in_set = set.some in
      let size = length-map (strings_of set.strings) (flagged set.is_enough) in
      let more = strings_if_some set.enough in
      let all = length-append (map (flagged set.is_enough) (strings_of set.strings)) (map (flagged true) more) in
      missed_without text (set_literals set) are (omega (arith, in_set, size, all)) bytes
      (nowhere_behind text.fold bytes searched 0 (strings_of set.strings) more set.is_enough (among_all (strings_of set.strings) more set.among) is
      (omega (arith, some, ap length is, length_searched text.fold bytes)) (terminator_of text) none) trees spelled
