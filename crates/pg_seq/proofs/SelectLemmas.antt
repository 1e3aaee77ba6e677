-- A line is selected where a result has a run.
use Rattle.std.proofs.Common.{◌≡◌, ◌≢◌, ℕ, ◌<◌, true, false, not, ◌||◌, ◌==◌, nat_lt, List, [], ◌∷◌, ◌++◌}
use Rattle.std.proofs.Common.{length, refl}
use Rattle.std.proofs.Common.{sym, ap, ◌∙◌, subst, arith}
use Rattle.std.specs.List.{AllByRecursion, list_any}
use Rattle.std.proofs.lemmas.Bool.{lt-ltb, ne_eqb, or_right}
use Rattle.std.proofs.lemmas.List.Folds.{list_any-append}
use Rattle.pg_selection.specs.Search.{SearchText, Search, HasItsTrees, terminator}
use Rattle.pg_blocks.specs.Lines.{lines}
use Rattle.pg_selection.specs.Selection.{selects}
use Rattle.pg_selection.specs.Runs.{AreRuns, HasRuns}
use Rattle.pg_selection.specs.declared.run.Run.{Run}
use Rattle.pg_selection.proofs.RunLemmas.{lines_apart}
use Rattle.pg_blocks.proofs.LineLemmas.{some_line}

pub runs_of : (q : Search) (text : SearchText) (bytes : List ℕ) (runs : List Run) → HasItsTrees q → text ≡ q.text
    → HasRuns text bytes runs → AreRuns q 0 0 bytes runs
runs_of q text bytes runs t e h = let P : SearchText → Type 0 = λ x. HasRuns x bytes runs in subst P e h q.trees t

-- a line is selected where there is a run
pub any_selected : (q : Search) (at seen : ℕ) (bytes : List ℕ) (runs : List Run) → AreRuns q at seen bytes runs
    → list_any (selects q) (lines (terminator q) bytes) ≡ nat_lt 0 (length runs)
any_selected q at seen bytes [] h = none_of (lines (terminator q) bytes) h
  where
    none_of : (ls : List (List ℕ)) → AllByRecursion (λ l. selects q l ≡ false) ls → list_any (selects q) ls ≡ false
    none_of [] h = refl
    none_of (l ∷ ls) h = ap (λ t. t || list_any (selects q) ls) h.0 ∙ none_of ls h.1
any_selected q at seen bytes (run ∷ runs) h =
    let n = h.0 in
    ap (list_any (selects q)) (lines_apart q at seen bytes run n)
    ∙ (list_any-append (selects q) (lines (terminator q) n.gap)
    (lines (terminator q) n.text ++ lines (terminator q) n.later)
    ∙ (ap (λ t. list_any (selects q) (lines (terminator q) n.gap) || t)
    (list_any-append (selects q) (lines (terminator q) n.text) (lines (terminator q) n.later)
    ∙ ap (λ t. t || list_any (selects q) (lines (terminator q) n.later))
    (all_of (lines (terminator q) n.text) n.text_selected (some_lines n.text n.text_some)))
    ∙ (or_right (list_any (selects q) (lines (terminator q) n.gap)) true refl
    ∙ sym (lt-ltb 0 (length (run ∷ runs)) (omega arith)))))
  where
    all_of : (ls : List (List ℕ)) → AllByRecursion (λ l. selects q l ≡ true) ls → 0 < length ls
        → list_any (selects q) ls ≡ true
    all_of [] h some = absurd (omega arith)
    all_of (l ∷ ls) h some = ap (λ t. t || list_any (selects q) ls) h.0

    some_lines : (xs : List ℕ) → xs ≢ [] → 0 < length (lines (terminator q) xs)
    some_lines [] ne = absurd (ne refl)
    some_lines (x ∷ xs) ne = some_line (terminator q) x xs

pub some_runs : (q : Search) (bytes : List ℕ) (runs : List Run) → AreRuns q 0 0 bytes runs
    → not (length runs == 0) ≡ list_any (selects q) (lines (terminator q) bytes)
some_runs q bytes [] h = sym (any_selected q 0 0 bytes [] h)
some_runs q bytes (r ∷ runs) h =
    ap not (ne_eqb (length (r ∷ runs)) 0 (λ e. omega arith))
    ∙ sym (any_selected q 0 0 bytes (r ∷ runs) h ∙ lt-ltb 0 (length (r ∷ runs)) (omega arith))
