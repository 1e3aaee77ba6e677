-- The test of a line.
use Rattle.std.proofs.Common.{◌≡◌, ℕ, true, false, not, cond, inl, inr, List, sym, ap, ◌∙◌}
use Rattle.std.specs.Bool.{MatchBool, Decides}
use Rattle.std.proofs.lemmas.Bool.{false≢true, cases_Bool}
use Rattle.pg_pattern.proofs.TestLemmas.{hits_decided}
use Rattle.pg_selection.specs.Search.{Search, bounds_of}
use Rattle.pg_selection.specs.Selection.{HasMatch, has_match, SelectsIsSelected}

-- the test of a line decides whether it has a hit
hit_test : (q : Search) (line : List ℕ) → Decides (has_match q line) (HasMatch q line)
hit_test q line = (hits_decided q.trees (bounds_of q.text) line).whole_line

-- the test of a line decides whether it is selected
pub selects_decides : (q : Search) (line : List ℕ) → SelectsIsSelected q line
selects_decides q line =
    let h = has_match q line in
    let d = hit_test q line in (
      elim q.text.invert as (λ v. cond v (not h) h ≡ true → MatchBool v (HasMatch q line → ⊥) (HasMatch q line)) [
        | true ↦ λ e hit. false≢true (sym (ap not (d.1 hit)) ∙ e)
        | false ↦ d.0
      ],
      elim q.text.invert as (λ v. MatchBool v (HasMatch q line → ⊥) (HasMatch q line) → cond v (not h) h ≡ true) [
        | true ↦ λ none. elim (cases_Bool h) [ inl some ↦ absurd (none (d.0 some)) | inr none' ↦ ap not none' ]
        | false ↦ d.1
      ],
    )
