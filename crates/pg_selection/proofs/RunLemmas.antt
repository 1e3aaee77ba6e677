-- Runs of selected lines, and the lines before, in and behind them.
use Rattle.std.proofs.Common.{◌≡◌, ℕ, ◌⊎◌, inl, inr, List, [], ◌++◌, append_assoc, sym, ap, ◌∙◌}
use Rattle.std.proofs.lemmas.List.{append-nil}
use Rattle.pg_blocks.specs.Lines.{lines, AreWhole}
use Rattle.pg_blocks.proofs.LineLemmas.{lines-append}
use Rattle.pg_selection.specs.Search.{Search, terminator}
use Rattle.pg_selection.specs.Runs.{IsNextRun}
use Rattle.pg_selection.specs.declared.run.Run.{Run}

-- the lines of two texts of which the first one's lines are whole, or the second one is empty
pub lines_behind : (end : ℕ) (front rest : List ℕ) → AreWhole end front ⊎ (rest ≡ [])
    → lines end (front ++ rest) ≡ lines end front ++ lines end rest
lines_behind end front rest (inl whole) = lines-append end front rest whole
lines_behind end front rest (inr none) =
    ap (λ xs. lines end (front ++ xs)) none
    ∙ (ap (lines end) (append-nil front)
    ∙ (sym (append-nil (lines end front)) ∙ ap (λ xs. lines end front ++ lines end xs) (sym none)))

-- the lines of what stands before a run, of the run, and of what stands behind it
pub lines_apart : (q : Search) (at seen : ℕ) (bytes : List ℕ) (run : Run) (n : IsNextRun q at seen bytes run)
    → lines (terminator q) bytes ≡ lines (terminator q) n.gap
    ++ (lines (terminator q) n.text ++ lines (terminator q) n.later)
lines_apart q at seen bytes run n =
    ap (lines (terminator q)) (n.joins ∙ append_assoc n.gap n.text n.later)
    ∙ (lines-append (terminator q) n.gap (n.text ++ n.later) n.gap_whole
    ∙ ap (λ ls. lines (terminator q) n.gap ++ ls) (lines_behind (terminator q) n.text n.later n.text_whole))
