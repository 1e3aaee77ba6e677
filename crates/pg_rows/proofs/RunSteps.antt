-- From one run of selected lines to the next.
use Rattle.std.proofs.Common.{◌≡◌, ℕ, ◌+◌, ◌-◌, ◌<◌, ◌≤◌, ◌⊎◌, inl, inr, true, false, List, [], ◌∷◌, ◌++◌}
use Rattle.std.proofs.Common.{length, take}
use Rattle.std.proofs.Common.{drop, slice_range, refl, sym, ap, ◌∙◌, subst, arith, append_assoc}
use Rattle.std.proofs.Common.{length-drop}
use Rattle.std.proofs.lemmas.Bool.{cases_lt}
use Rattle.std.proofs.lemmas.List.{take_at, length-take-le, append_cancel_left}
use Rattle.std.proofs.lemmas.List.Folds.{drop_split}
use Rattle.pg_selection.specs.Search.{Search, terminator}
use Rattle.pg_selection.specs.Selection.{selects}
use Rattle.pg_blocks.specs.Lines.{lines, AreWhole}
use Rattle.pg_selection.specs.Runs.{AreRuns, IsNextRun}
use Rattle.pg_selection.specs.declared.run.Run.{Run}
use Rattle.pg_rows.specs.declared.format.Format.{Format}
use Rattle.pg_rows.specs.declared.progress.Progress.{Progress}
use Rattle.pg_rows.specs.Output.{is_below, painted}
use Rattle.pg_base.specs.Sink.{TakesPart}
use Rattle.pg_rows.specs.Trail.{run_rows}
use Rattle.pg_rows.specs.Cursor.{Cursor}
use Rattle.pg_rows.specs.Progress.{Passes, KeepsLines, kept_of}
use Rattle.pg_rows.specs.Stretch.{AllSelected}
use Rattle.pg_rows.specs.Printing.{rows_of_passed, rows_of_kept, IsAt, ComesNext, EndsKept}
use Rattle.pg_rows.proofs.PrintLemmas.{behind_front, passed_step, kept_step}
use Rattle.pg_rows.proofs.BlockLemmas.{kept_few, kept_fits, kept_full, all_take}

-- the texts of the first run
pub record NextTexts (q : Search) (at seen : ℕ) (bytes : List ℕ) (run : Run)
    (n : IsNextRun q at seen (drop at bytes) run) : Type 0 where
  pub gap : slice_range bytes at run.span.start ≡ n.gap
  pub text : slice_range bytes run.span.start run.span.end ≡ n.text
  pub later : drop run.span.end bytes ≡ n.later
  pub next : ComesNext (terminator q) bytes at seen run

pub next_texts : (q : Search) (at seen : ℕ) (bytes : List ℕ) (run : Run) (n : IsNextRun q at seen (drop at bytes) run)
    → at ≤ length bytes → NextTexts q at seen bytes run n
next_texts q at seen bytes run n within =
    let end = terminator q in
    let joins : drop at bytes ≡ n.gap ++ (n.text ++ n.later) = n.joins ∙ append_assoc n.gap n.text n.later in
    let first = behind_front at bytes n.gap (n.text ++ n.later) within joins in
    let second = behind_front (at + length n.gap) bytes n.text n.later first.1 first.0 in
    let gap_long : run.span.start - at ≡ length n.gap = omega (arith, n.start) in
    let text_long : run.span.end - run.span.start ≡ length n.text = omega (arith, n.start, n.stop) in
    let gap : slice_range bytes at run.span.start ≡ n.gap =
    ap (λ k. take k (drop at bytes)) gap_long
    ∙ (ap (take (length n.gap)) joins ∙ take_at n.gap (n.text ++ n.later) (length n.gap) refl) in
    let text : slice_range bytes run.span.start run.span.end ≡ n.text =
    ap (λ k. take k (drop run.span.start bytes)) text_long
    ∙ (ap (λ k. take (length n.text) (drop k bytes)) n.start
    ∙ (ap (take (length n.text)) first.0 ∙ take_at n.text n.later (length n.text) refl)) in
    let P : List ℕ → Type 0 = λ xs. AreWhole end xs in
    record {
      gap = gap;
      text = text;
      later = ap (λ k. drop k bytes) n.stop ∙ second.0;
      next = record {
        start = omega (arith, n.start);
        order = omega (arith, n.start, n.stop);
        within = omega (arith, n.stop, second.1);
        whole = subst P (sym gap) n.gap_whole;
        gap = n.first ∙ ap (λ xs. seen + length (lines end xs)) (sym gap);
        count = n.count ∙ ap (λ xs. length (lines end xs)) (sym text);
      };
    }

pub comes_next : (q : Search) (at seen : ℕ) (bytes : List ℕ) (run : Run) (runs : List Run)
    → AreRuns q at seen (drop at bytes) (run ∷ runs) → at ≤ length bytes → ComesNext (terminator q) bytes at seen run
comes_next q at seen bytes run runs are within = (next_texts q at seen bytes run are.0 within).next

-- the lines of a run that are kept stand up to a place
pub record KeptTexts (q : Search) (bytes : List ℕ) (run : Run) (count place : ℕ) : Type 0 where
  pub long : length (lines (terminator q) (slice_range bytes run.span.start place)) ≡ count
  pub selected : AllSelected q true (lines (terminator q) (slice_range bytes run.span.start place))
  pub whole : AreWhole (terminator q) (slice_range bytes run.span.start place) ⊎ (drop place bytes ≡ [])
  pub size : run.span.start + length (slice_range bytes run.span.start place) ≡ place

pub kept_texts : (q : Search) (at seen : ℕ) (bytes : List ℕ) (run : Run) (count place : ℕ)
    (n : IsNextRun q at seen (drop at bytes) run) → at ≤ length bytes → count ≤ run.count
    → EndsKept (terminator q) bytes run count place → KeptTexts q bytes run count place
kept_texts q at seen bytes run count place n within few ends =
    let end = terminator q in
    let texts = next_texts q at seen bytes run n within in
    let front = slice_range bytes run.span.start place in
    let ls = lines end (slice_range bytes run.span.start run.span.end) in
    let long : length (lines end front) ≡ count =
    ap (λ xs. length xs) ends.kept ∙ length-take-le count ls (omega (arith, texts.next.count)) in
    let selected_all : AllSelected q true ls = let P : List ℕ → Type 0 = λ xs. AllSelected q true (lines end xs) in
    subst P (sym texts.text) n.text_selected in
    let selected : AllSelected q true (lines end front) =
    let P : List (List ℕ) → Type 0 = λ xs. AllSelected q true xs in
    subst P (sym ends.kept) (all_take (λ l. selects q l ≡ true) count ls selected_all) in
    let whole : AreWhole end front ⊎ (drop place bytes ≡ []) = elim (cases_lt count run.count) [
      | inl less ↦ inl (ends.whole less)
      | inr all ↦
          let stop = ends.all all in
          let P : List ℕ → Type 0 = λ xs. AreWhole end xs in
          elim n.text_whole [
            | inl w ↦ inl (subst P (sym (ap (slice_range bytes run.span.start) stop ∙ texts.text)) w)
            | inr none ↦ inr (ap (λ k. drop k bytes) stop ∙ (texts.later ∙ none))
          ]
    ] in
    let left = length-drop run.span.start bytes in
    record {
      long = long;
      selected = selected;
      whole = whole;
      size = let cut : length front ≡ place - run.span.start = length-take-le (place - run.span.start)
          (drop run.span.start bytes) (omega (arith, ends.low, ends.high, texts.next.within)) in
          omega (arith, ends.low);
    }

-- The printer has come to a place, and these runs come next or the limit is reached.
pub record IsBefore (q : Search) (format : Format) (c : Cursor) (hidden : List (List ℕ)) (bytes : List ℕ)
    (before after : List ℕ) (p : Progress) (at seen : ℕ) (runs : List Run) : Type 0 where
  pub here : IsAt q format c hidden bytes before after p at seen
  pub ahead : AreRuns q at seen (drop at bytes) runs ⊎ (is_below p.kept format.limit ≡ false)

-- the lines of the gap were passed
pub gap_step : (q : Search) (format : Format) (c : Cursor) (hidden : List (List ℕ)) (bytes before after : List ℕ)
    (p passed : Progress) (at seen : ℕ) (run : Run) → IsAt q format c hidden bytes before after p at seen
    → (n : IsNextRun q at seen (drop at bytes) run) → NextTexts q at seen bytes run n
    → Passes p (run.first - seen) passed →
    IsAt q format c (hidden ++ drop p.countdown (lines (terminator q) (slice_range bytes at run.span.start))) bytes
    before
    (after ++ rows_of_passed format (terminator q) c.name p (c.trail.offset + at) (lines (terminator q)
    (slice_range bytes at run.span.start)))
    passed run.span.start run.first
gap_step q format c hidden bytes before after p passed at seen run h n texts passes =
    let end = terminator q in
    let joins : drop at bytes ≡ n.gap ++ (n.text ++ n.later) = n.joins ∙ append_assoc n.gap n.text n.later in
    let count : run.first - seen ≡ length (lines end n.gap) = omega (arith, n.first) in
    let P : ℕ → Type 0 = λ k. Passes p k passed in
    let Q : ℕ → ℕ → List ℕ → Type 0 = λ place lines_seen gap. IsAt q format c
    (hidden ++ drop p.countdown (lines end gap))
    bytes before (after ++ rows_of_passed format end c.name p (c.trail.offset + at) (lines end gap)) passed place
    lines_seen in
    let h1 : Q (at + length n.gap) (seen + length (lines end n.gap)) n.gap =
    passed_step q format c hidden bytes before after p passed at seen h n.gap (n.text ++ n.later) joins
    (inl n.gap_whole) (inl n.gap_unselected) (subst P count passes) in
    let Q1 : List ℕ → Type 0 = λ gap. Q run.span.start run.first gap in
    let Q2 : ℕ → Type 0 = λ k. Q k run.first n.gap in
    let Q3 : ℕ → Type 0 = λ k. Q (at + length n.gap) k n.gap in
    subst Q1 (sym texts.gap) (subst Q2 (sym n.start) (subst Q3 (sym n.first) h1))

-- the first lines of the run were kept
pub run_step : (q : Search) (format : Format) (c : Cursor) (hidden : List (List ℕ)) (bytes before after : List ℕ)
    (p passed next : Progress) (at seen count place : ℕ) (run : Run) (runs : List Run)
    → IsAt q format c hidden bytes before after p at seen → AreRuns q at seen (drop at bytes) (run ∷ runs)
    → Passes p (run.first - seen) passed → KeepsLines passed format count next
    → count ≡ kept_of format.limit p.kept run.count → 0 < count → EndsKept (terminator q) bytes run count place →
    IsBefore q format c hidden bytes before ((after
    ++ rows_of_passed format (terminator q) c.name p (c.trail.offset + at)
    (lines (terminator q) (slice_range bytes at run.span.start)))
    ++ rows_of_kept format (terminator q) c.name c.earlier
    (hidden ++ drop p.countdown (lines (terminator q) (slice_range bytes at run.span.start))) passed
    (c.trail.offset + run.span.start) (painted q format)
    (lines (terminator q) (slice_range bytes run.span.start place))) next place
    (run.first + count) runs
run_step q format c hidden bytes before after p passed next at seen count place run runs h are passes keeps is some
    ends =
    let end = terminator q in
    let n = are.0 in
    let texts = next_texts q at seen bytes run n h.within in
    let few = kept_few format.limit p.kept run.count in
    let gap = lines end (slice_range bytes at run.span.start) in
    let middle = after ++ rows_of_passed format end c.name p (c.trail.offset + at) gap in
    let front = slice_range bytes run.span.start place in
    let ls = lines end (slice_range bytes run.span.start run.span.end) in
    let kept = kept_texts q at seen bytes run count place n h.within (omega (arith, is)) ends in
    let long = kept.long in
    let same : p.kept + (count - 1) ≡ passed.kept + (length (lines end front) - 1) = omega (arith, passes.kept, long) in
    let below : is_below (passed.kept + (length (lines end front) - 1)) format.limit ≡ true =
    ap (λ k. is_below k format.limit) (sym same) ∙ kept_fits format.limit p.kept run.count (count - 1) (omega arith) in
    let P : ℕ → Type 0 = λ k. KeepsLines passed format k next in
    let h2 = kept_step q format c (hidden ++ drop p.countdown gap) hidden bytes before middle passed next run.span.start
    run.first (gap_step q format c hidden bytes before after p passed at seen run h n texts passes) front
    (drop place bytes)
    (drop_split bytes run.span.start place ends.low) kept.whole kept.selected (omega (arith, long)) below
    (subst P (sym long) keeps) in
    let rows = rows_of_kept format end c.name c.earlier (hidden ++ drop p.countdown gap) passed
    (c.trail.offset + run.span.start) (painted q format) (lines end front) in
    let Q : ℕ → Type 0 = λ k. IsAt q format c hidden bytes before (middle ++ rows) next k
    (run.first + length (lines end front)) in
    let R : ℕ → Type 0 = λ k. IsAt q format c hidden bytes before (middle ++ rows) next place (run.first + k) in
    record {
      here = subst R long (subst Q kept.size h2);
      ahead = elim (cases_lt count run.count) [
        | inl less ↦
            let sum : p.kept + kept_of format.limit p.kept run.count ≡ next.kept =
            omega (arith, keeps.kept, passes.kept) in
            inr (ap (λ k. is_below k format.limit) (sym sum) ∙ kept_full format.limit p.kept run.count (omega arith))
        | inr all ↦
            let stop = ends.all all in
            let full : run.count ≡ count = omega arith in
            let S : List ℕ → Type 0 = λ xs. AreRuns q run.span.end (run.first + run.count) xs runs in
            let T : ℕ → Type 0 = λ k. AreRuns q k (run.first + run.count) (drop k bytes) runs in
            let U : ℕ → Type 0 = λ k. AreRuns q place (run.first + k) (drop place bytes) runs in
            inl (subst U full (subst T (sym stop) (subst S (sym texts.later) are.1)))
      ];
    }

-- a beginning of what leads from one place to the next was written
pub failed_before : (q : Search) (format : Format) (c : Cursor) (hidden hidden' : List (List ℕ))
    (bytes before after more reached : List ℕ) (p later : Progress) (at seen at' seen' : ℕ)
    → IsAt q format c hidden bytes before after p at seen
    → IsAt q format c hidden' bytes before (after ++ more) later at' seen' → TakesPart more after reached
    → TakesPart (run_rows q format c.name c.earlier c.trail (lines (terminator q) bytes)) before reached
failed_before q format c hidden hidden' bytes before after more reached p later at seen at' seen' h k took =
    let parts : h.part ++ more ≡ k.part = append_cancel_left before (h.part ++ more) k.part
    (sym (append_assoc before h.part more) ∙ (ap (λ xs. xs ++ more) (sym h.taken) ∙ k.taken)) in
    let rest = run_rows q format c.name c.earlier k.trail (lines (terminator q) (drop at' bytes)) in (
      h.part ++ took.0,
      (
        took.1.0 ++ rest,
        append_assoc h.part took.0 (took.1.0 ++ rest)
            ∙ (ap (λ xs. h.part ++ xs) (sym (append_assoc took.0 took.1.0 rest) ∙ ap (λ xs. xs ++ rest) took.1.1)
            ∙ (sym (append_assoc h.part more rest) ∙ (ap (λ xs. xs ++ rest) parts ∙ k.rows))),
      ),
      took.2 ∙ (ap (λ xs. xs ++ took.0) h.taken ∙ append_assoc before h.part took.0),
    )
