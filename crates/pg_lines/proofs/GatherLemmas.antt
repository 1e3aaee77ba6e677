-- The runs that are gathered in a block, line by line.
use Rattle.std.proofs.Common.{◌≡◌, ℕ, ◌+◌, ◌-◌, ◌<◌, ◌≤◌, ◌^◌, ◌⊎◌, inl, inr, Bool, true, false, nat_lt}
use Rattle.std.proofs.Common.{cond, List, [], ◌∷◌, ◌++◌, length, take, drop, slice_range, refl, sym, ap, ◌∙◌, subst}
use Rattle.std.proofs.Common.{arith, append_assoc, length-append}
use Rattle.std.specs.List.{AllByRecursion}
use Rattle.std.proofs.lemmas.Bool.{ltb-true, ltb-false}
use Rattle.std.proofs.lemmas.List.{drop-drop, drop_at, take_at, append-nil}
use Rattle.pg_blocks.specs.Lines.{lines, AreWhole, AreShort}
use Rattle.pg_selection.specs.Search.{Search, terminator}
use Rattle.pg_selection.specs.Runs.{AllLines, IsNextRun, AreRuns}
use Rattle.pg_prefilter.specs.NextHits.{IsNextLine}
use Rattle.pg_lines.specs.Gathered.{IsGathered}
use Rattle.pg_selection.specs.declared.run.Run.{Run}
use Rattle.pg_blocks.specs.declared.span.Span.{Span}
use Rattle.pg_selection.proofs.RunLemmas.{lines_apart}
use Rattle.pg_blocks.proofs.LineLemmas.{lines-append, whole_append}
use Rattle.pg_prefilter.proofs.LineLemmas.{all_back, all_lines-append}

-- before the first line
pub gathered_none : (q : Search) (bytes : List ℕ) (run : Run) → run.span.start ≡ 0 → run.span.end ≡ 0
    → run.first ≡ 0 → run.count ≡ 0 → IsGathered q bytes [] run
gathered_none q bytes run start stop first count =
    let P : ℕ → Type 0 = λ n. (more : List Run) → AreRuns q n run.first bytes more → AreRuns q 0 0 bytes more in
    let Q : ℕ → Type 0 = λ n. (more : List Run) → AreRuns q 0 n bytes more → AreRuns q 0 0 bytes more in
    record {
      front = [];
      text = [];
      rest = bytes;
      joins = refl;
      start = start;
      stop = stop;
      front_whole = inl refl;
      whole = inl (inl refl);
      selected = tt;
      first = first;
      count = count;
      known = subst P (sym start) (subst Q (sym first) (λ more h. h));
    }

-- whole lines of which none is selected, in front of runs
pub gap_front : (q : Search) (at seen : ℕ) (gap rest : List ℕ) (runs : List Run) → AreWhole (terminator q) gap
    → AllLines q false gap → AreRuns q (at + length gap) (seen + length (lines (terminator q) gap)) rest runs
    → AreRuns q at seen (gap ++ rest) runs
gap_front q at seen gap rest [] w none h = all_lines-append q false gap rest w none h
gap_front q at seen gap rest (run ∷ runs) w none h =
    let n = h.0 in
    let E = terminator q in
    let gaps : length (lines E (gap ++ n.gap)) ≡ length (lines E gap) + length (lines E n.gap) =
    ap length (lines-append E gap n.gap w) ∙ length-append (lines E gap) (lines E n.gap) in (
      record {
        gap = gap ++ n.gap;
        text = n.text;
        later = n.later;
        joins = ap (λ xs. gap ++ xs) n.joins
            ∙ (sym (append_assoc gap (n.gap ++ n.text) n.later)
            ∙ ap (λ xs. xs ++ n.later) (sym (append_assoc gap n.gap n.text)));
        gap_whole = whole_append E gap n.gap w n.gap_whole;
        gap_unselected = all_lines-append q false gap n.gap w none n.gap_unselected;
        text_some = n.text_some;
        text_whole = n.text_whole;
        text_selected = n.text_selected;
        start = omega (arith, n.start, length-append gap n.gap);
        stop = omega (arith, n.stop, length-append gap n.gap);
        first = omega (arith, n.first, gaps);
        count = n.count;
      },
      h.1,
    )

-- the open run closes, unless it is empty
abbrev pub closed_run : Run → List Run
closed_run run = cond (nat_lt run.span.start run.span.end) (run ∷ []) []

pub is_empty : (xs : List ℕ) → length xs ≤ 0 → xs ≡ []
is_empty [] h = refl
is_empty (x ∷ xs) h = absurd (omega arith)

front_empty : (xs ys : List ℕ) → xs ++ ys ≡ [] → xs ≡ []
front_empty [] ys e = refl
front_empty (x ∷ xs) ys e = absurd (cc)

module _ (q : Search) (bytes : List ℕ) (runs : List Run) (run : Run) (g : IsGathered q bytes runs run) where
  abbrev E : ℕ
  E = terminator q

  -- what stands before the end of the open run
  abbrev pub passed : List ℕ
  passed = g.front ++ g.text

  pub passed_length : length passed ≡ run.span.end
  passed_length = length-append g.front g.text ∙ sym g.stop

  pub behind : drop run.span.end bytes ≡ g.rest
  behind = ap (drop run.span.end) g.joins ∙ drop_at passed g.rest run.span.end passed_length

  pub before : take run.span.end bytes ≡ passed
  before = ap (take run.span.end) g.joins ∙ take_at passed g.rest run.span.end passed_length

  pub passed_whole : AreWhole E passed ⊎ (g.rest ≡ [])
  passed_whole = elim g.whole [
    | inl w ↦ inl (whole_append E g.front g.text g.front_whole w)
    | inr e ↦ inr e
  ]

  -- how many lines stand before the end of the open run
  pub passed_count : length (lines E passed) ≡ run.first + run.count
  passed_count =
      let both = ap length (lines-append E g.front g.text g.front_whole) in
      omega (arith, both, length-append (lines E g.front) (lines E g.text), g.first, g.count)

  pub all_counted : length (lines E bytes) ≡ run.first + run.count + length (lines E (drop run.span.end bytes))
  all_counted =
      let rest = ap (λ xs. length (lines E xs)) behind in
      elim passed_whole [
        | inl w ↦
            let both = ap (λ xs. length (lines E xs)) g.joins in
            let apart = ap length (lines-append E passed g.rest w) in
            omega (arith, both, apart, length-append (lines E passed) (lines E g.rest), passed_count, rest)
        | inr e ↦
            let alone = ap (λ xs. length (lines E xs)) (g.joins ∙ (ap (λ xs. passed ++ xs) e ∙ append-nil passed)) in
            let none = ap (λ xs. length (lines E xs)) e in
            omega (arith, alone, none, passed_count, rest)
      ]

  close_by : (t : Bool) → nat_lt run.span.start run.span.end ≡ t → (more : List Run)
      → AreRuns q run.span.end (run.first + run.count) g.rest more
      → AreRuns q 0 0 bytes ((runs ++ cond t (run ∷ []) []) ++ more)
  close_by true e more h =
      let P : List Run → Type 0 = λ rs. AreRuns q 0 0 bytes rs in
      let some : run.span.start < run.span.end = ltb-true run.span.start run.span.end e in
      let next : IsNextRun q run.span.start run.first (g.text ++ g.rest) run = record {
        gap = [];
        text = g.text;
        later = g.rest;
        joins = refl;
        gap_whole = inl refl;
        gap_unselected = tt;
        text_some = λ e'. absurd (omega (arith, ap length e', g.stop, g.start, some));
        text_whole = g.whole;
        text_selected = g.selected;
        start = omega arith;
        stop = omega (arith, g.stop, g.start);
        first = omega arith;
        count = g.count;
      } in
      subst P (sym (append_assoc runs (run ∷ []) more)) (g.known (run ∷ more) (next, h))
  close_by false e more h =
      let P : List Run → Type 0 = λ rs. AreRuns q 0 0 bytes (rs ++ more) in
      let none : run.span.end ≤ run.span.start = ltb-false run.span.start run.span.end e in
      let empty : g.text ≡ [] = is_empty g.text (omega (arith, g.stop, g.start, none)) in
      let same : run.span.end ≡ run.span.start = omega (arith, g.stop, g.start, none) in
      let uncounted : run.first + run.count ≡ run.first =
      omega (arith, g.count, ap (λ xs. length (lines E xs)) empty) in
      let Q : ℕ → Type 0 = λ n. AreRuns q n (run.first + run.count) g.rest more in
      let R : ℕ → Type 0 = λ n. AreRuns q run.span.start n g.rest more in
      let S : List ℕ → Type 0 = λ xs. AreRuns q run.span.start run.first (xs ++ g.rest) more in
      subst P (sym (append-nil runs)) (g.known more (subst S (sym empty) (subst R uncounted (subst Q same h))))

  pub close : (more : List Run) → AreRuns q run.span.end (run.first + run.count) g.rest more
      → AreRuns q 0 0 bytes ((runs ++ closed_run run) ++ more)
  close = close_by (nat_lt run.span.start run.span.end) refl

  -- no further line is selected
  pub gathered_all : AllLines q false (drop run.span.end bytes) → AreRuns q 0 0 bytes (runs ++ closed_run run)
  gathered_all none =
      let P : List Run → Type 0 = λ rs. AreRuns q 0 0 bytes rs in
      let Q : List ℕ → Type 0 = λ xs. AllLines q false xs in
      subst P (append-nil (runs ++ closed_run run)) (close [] (subst Q behind none))

  module _ (line : Span) (found : IsNextLine q run.span.end (drop run.span.end bytes) line) where
    abbrev gap : List ℕ
    gap = found.1.gap

    abbrev text : List ℕ
    text = found.1.text

    abbrev later : List ℕ
    later = found.1.later

    rest_is : g.rest ≡ (gap ++ text) ++ later
    rest_is = sym behind ∙ found.1.joins

    -- a line stands behind the open run, so that it is whole
    text_whole : AreWhole E g.text
    text_whole = elim g.whole [
      | inl w ↦ w
      | inr none ↦
          let nothing : gap ++ text ≡ [] = front_empty (gap ++ text) later (sym rest_is ∙ none) in
          let len = ap length nothing in
          absurd (found.1.text_some (is_empty text (omega (arith, len, length-append gap text))))
    ]

    pub front_is_whole : AreWhole E passed
    front_is_whole = whole_append E g.front g.text g.front_whole text_whole

    pub joined : bytes ≡ ((passed ++ gap) ++ text) ++ later
    joined =
        g.joins ∙ (ap (λ xs. passed ++ xs) rest_is
        ∙ (sym (append_assoc passed (gap ++ text) later)
        ∙ ap (λ xs. xs ++ later) (sym (append_assoc passed gap text))))

    pub front_length : length (passed ++ gap) ≡ line.start
    front_length = omega (arith, length-append passed gap, passed_length, found.1.start)

    pub line_text : slice_range bytes line.start line.end ≡ text
    line_text =
        let len : line.end - line.start ≡ length text = omega (arith, found.1.start, found.1.stop) in
        let from : drop line.start bytes ≡ text ++ later =
        ap (drop line.start) (joined ∙ append_assoc (passed ++ gap) text later)
        ∙ drop_at (passed ++ gap) (text ++ later) line.start front_length in
        ap (λ n. take n (drop line.start bytes)) len
        ∙ (ap (take (length text)) from ∙ take_at text later (length text) refl)

    pub gap_text : slice_range bytes run.span.end line.start ≡ gap
    gap_text =
        let len : line.start - run.span.end ≡ length gap = omega (arith, found.1.start) in
        ap (λ n. take n (drop run.span.end bytes)) len
        ∙ (ap (take (length gap)) (found.1.joins ∙ append_assoc gap text later)
        ∙ take_at gap (text ++ later) (length gap) refl)

    gap_count : (n : ℕ) → n ≡ run.first + run.count + length (lines E (slice_range bytes run.span.end line.start))
        → n ≡ length (lines E (passed ++ gap))
    gap_count n e =
        let both = ap length (lines-append E passed gap front_is_whole) in
        let gaps = ap (λ xs. length (lines E xs)) gap_text in
        omega (arith, e, both, length-append (lines E passed) (lines E gap), passed_count, gaps)

    -- the line stands behind others
    pub gathered_gap : (new : Run) → new.span ≡ line
        → new.first ≡ run.first + run.count + length (lines E (slice_range bytes run.span.end line.start))
        → new.count ≡ 1 → IsGathered q bytes (runs ++ closed_run run) new
    gathered_gap new span first count =
        let start : new.span.start ≡ length (passed ++ gap) = ap (λ (s : Span). s.start) span ∙ sym front_length in
        let stop : new.span.end ≡ line.end = ap (λ (s : Span). s.end) span in
        let counted = gap_count new.first first in
        record {
          front = passed ++ gap;
          text = text;
          rest = later;
          joins = joined;
          start = start;
          stop = omega (arith, stop, found.1.start, found.1.stop, front_length);
          front_whole = whole_append E passed gap front_is_whole found.1.gap_whole;
          whole = found.1.text_whole;
          selected = found.1.text_selected;
          first = counted;
          count = count ∙ found.1.count;
          known = λ more h.
              let P : ℕ → Type 0 = λ n. AreRuns q n new.first (text ++ later) more in
              let Q : ℕ → Type 0 = λ n. AreRuns q (run.span.end + length gap) n (text ++ later) more in
              let R : List ℕ → Type 0 = λ xs. AreRuns q run.span.end (run.first + run.count) xs more in
              let at : new.span.start ≡ run.span.end + length gap = omega (arith, start, front_length, found.1.start) in
              let seen : new.first ≡ run.first + run.count + length (lines E gap) =
              first ∙ ap (λ xs. run.first + run.count + length (lines E xs)) gap_text in
              close more (subst R (sym (rest_is ∙ append_assoc gap text later))
              (gap_front q run.span.end (run.first + run.count) gap (text ++ later) more found.1.gap_whole
              found.1.gap_unselected (subst Q seen (subst P at h))));
        }

    -- the line follows the open run at once
    pub gathered_next : line.start ≤ run.span.end → (new : Run) → new.span.start ≡ run.span.start
        → new.span.end ≡ line.end → new.first ≡ run.first → new.count ≡ run.count + 1 → IsGathered q bytes runs new
    gathered_next near new start stop first count =
        let no_gap : gap ≡ [] = is_empty gap (omega (arith, found.1.start, near)) in
        let here : g.rest ≡ text ++ later = rest_is ∙ ap (λ xs. (xs ++ text) ++ later) no_gap in
        let longer = ap length (lines-append E g.text text text_whole) in
        let P : ℕ → Type 0 = λ n. (more : List Run) → AreRuns q n run.first (g.text ++ g.rest) more
        → AreRuns q 0 0 bytes (runs ++ more) in
        let Q : ℕ → Type 0 = λ n. (more : List Run) → AreRuns q new.span.start n (g.text ++ g.rest) more
        → AreRuns q 0 0 bytes (runs ++ more) in
        let R : List ℕ → Type 0 = λ xs. (more : List Run) → AreRuns q new.span.start new.first xs more
        → AreRuns q 0 0 bytes (runs ++ more) in
        let len : length gap ≡ 0 = ap length no_gap in
        let regrouped : g.text ++ g.rest ≡ (g.text ++ text) ++ later =
        ap (λ xs. g.text ++ xs) here ∙ sym (append_assoc g.text text later) in
        record {
          front = g.front;
          text = g.text ++ text;
          rest = later;
          joins = g.joins
              ∙ (append_assoc g.front g.text g.rest
              ∙ (ap (λ xs. g.front ++ xs) regrouped ∙ sym (append_assoc g.front (g.text ++ text) later)));
          start = start ∙ g.start;
          stop = omega (arith, stop, found.1.stop, len, g.stop, length-append g.text text);
          front_whole = g.front_whole;
          whole = elim found.1.text_whole [
            | inl w ↦ inl (whole_append E g.text text text_whole w)
            | inr none ↦ inr none
          ];
          selected = all_lines-append q true g.text text text_whole g.selected found.1.text_selected;
          first = first ∙ g.first;
          count = omega (arith, count, g.count, longer, length-append (lines E g.text) (lines E text), found.1.count);
          known = subst R regrouped (subst Q (sym first) (subst P (sym start) g.known));
        }

-- the lines behind a run aren't too long where no line is
pub short_behind : (q : Search) (bytes : List ℕ) (at seen : ℕ) (run : Run) → IsNextRun q at seen (drop at bytes) run
    → AreShort (terminator q) (drop at bytes) → AreShort (terminator q) (drop run.span.end bytes)
short_behind q bytes at seen run n short =
    let Short : List ℕ → Type 0 = λ l. length l ≤ 2 ^ 30 in
    let P : List (List ℕ) → Type 0 = λ ls. AllByRecursion Short ls in
    let E = terminator q in
    let all = subst P (lines_apart q at seen (drop at bytes) run n) short in
    let later = all_back Short (lines E n.text) (lines E n.later) (all_back Short (lines E n.gap) _ all) in
    let front = n.gap ++ n.text in
    let stop : run.span.end ≡ at + length front = omega (arith, n.stop, length-append n.gap n.text) in
    let behind : drop run.span.end bytes ≡ n.later =
    ap (λ m. drop m bytes) stop
    ∙ (sym (drop-drop (length front) at bytes)
    ∙ (ap (drop (length front)) n.joins ∙ drop_at front n.later (length front) refl)) in
    subst P (sym (ap (lines E) behind)) later
