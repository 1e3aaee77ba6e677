-- The runs of lines between those with a hit, which -v selects.
use Rattle.std.proofs.Common.{◌≡◌, ℕ, ◌+◌, ◌-◌, ◌⊎◌, inl, inr, Bool, true, false, not, nat_lt, cond}
use Rattle.std.proofs.Common.{List, [], ◌∷◌, ◌++◌, length, take, drop, slice_range, map, refl, sym, ap, ◌∙◌, subst}
use Rattle.std.proofs.Common.{arith, append_assoc, length-append}
use Rattle.std.specs.List.{AllByRecursion}
use Rattle.std.proofs.lemmas.Bool.{ltb-true, ltb-false}
use Rattle.std.proofs.lemmas.List.{drop_at, take_at, append-nil}
use Rattle.pg_blocks.specs.Lines.{lines, AreWhole}
use Rattle.pg_selection.specs.Search.{SearchText, Search, Pattern, search_of, uninverted, terminator_of, terminator}
use Rattle.pg_selection.specs.Selection.{selects, has_match, parts_of_line}
use Rattle.pg_selection.specs.Runs.{AllLines, IsNextRun, AreRuns}
use Rattle.pg_selection.specs.BlockParts.{part_at, parts_of_lines}
use Rattle.pg_prefilter.specs.NextHits.{IsNextLine}
use Rattle.pg_selection.specs.declared.run.Run.{Run}
use Rattle.pg_blocks.specs.declared.span.Span.{Span}
use Rattle.pg_lines.proofs.GatherLemmas.{closed_run, gap_front, is_empty}
use Rattle.pg_blocks.proofs.LineLemmas.{lines-append, whole_append}
use Rattle.pg_lines.proofs.PartLemmas.{no_parts}

-- The runs in front of a place, behind so many lines: whatever runs follow from there, together they are all runs.
pub record IsPassedBy (q : Search) (bytes : List ℕ) (runs : List Run) (at seen : ℕ) : Type 0 where
  pub front : List ℕ
  pub rest : List ℕ
  pub joins : bytes ≡ front ++ rest
  pub len : length front ≡ at
  pub whole : AreWhole (terminator q) front ⊎ (rest ≡ [])
  pub count : seen ≡ length (lines (terminator q) front)
  pub known : (more : List Run) → AreRuns q at seen rest more → AreRuns q 0 0 bytes (runs ++ more)

pub passed_none : (q : Search) (bytes : List ℕ) (runs : List Run) → runs ≡ [] → IsPassedBy q bytes runs 0 0
passed_none q bytes runs none = record {
  front = [];
  rest = bytes;
  joins = refl;
  len = refl;
  whole = inl (inl refl);
  count = refl;
  known = λ more h. subst (λ rs. AreRuns q 0 0 bytes (rs ++ more)) (sym none) h;
}

-- with -v a line is selected where it has no hit
turned : (text : SearchText) (trees : List Pattern) → text.invert ≡ true → (b : Bool) (line : List ℕ)
    → selects (search_of (uninverted text) trees) line ≡ b → selects (search_of text trees) line ≡ not b
turned text trees inverted b line e =
    let hit = has_match (search_of text trees) line in
    ap (λ v. cond v (not hit) hit) inverted ∙ ap not e

all_turned : (text : SearchText) (trees : List Pattern) → text.invert ≡ true → (b : Bool) (bytes : List ℕ)
    → AllLines (search_of (uninverted text) trees) b bytes → AllLines (search_of text trees) (not b) bytes
all_turned text trees inverted b bytes all = each (lines (terminator_of text) bytes) all
  where
    each : (ls : List (List ℕ)) → AllByRecursion (λ l. selects (search_of (uninverted text) trees) l ≡ b) ls
        → AllByRecursion (λ l. selects (search_of text trees) l ≡ not b) ls
    each [] h = tt
    each (l ∷ ls) h = (turned text trees inverted b l h.0, each ls h.1)

-- no run stands in no byte
no_run : (q : Search) (at seen : ℕ) (runs : List Run) → AreRuns q at seen [] runs → runs ≡ []
no_run q at seen [] h = refl
no_run q at seen (run ∷ runs) h = absurd (h.0.text_some (middle h.0.gap h.0.text h.0.later (sym h.0.joins)))
  where
    middle : (xs ys zs : List ℕ) → (xs ++ ys) ++ zs ≡ [] → ys ≡ []
    middle [] [] zs e = refl
    middle [] (y ∷ ys) zs e = absurd (omega (arith, ap length e))
    middle (x ∷ xs) ys zs e = absurd (omega (arith, ap length e))

-- lines that aren't selected, in front of runs
line_front : (q : Search) (at seen at' seen' : ℕ) (text later : List ℕ) (runs : List Run)
    → AreWhole (terminator q) text ⊎ (later ≡ []) → AllLines q false text → at' ≡ at + length text
    → seen' ≡ seen + length (lines (terminator q) text) → AreRuns q at' seen' later runs
    → AreRuns q at seen (text ++ later) runs
line_front q at seen at' seen' text later runs (inl whole) none place number h =
    let P : ℕ → Type 0 = λ n. AreRuns q n seen' later runs in
    let Q : ℕ → Type 0 = λ n. AreRuns q (at + length text) n later runs in
    gap_front q at seen text later runs whole none (subst Q number (subst P place h))
line_front q at seen at' seen' text later runs (inr last) none place number h =
    let P : List ℕ → Type 0 = λ xs. AreRuns q at' seen' xs runs in
    let Q : List ℕ → Type 0 = λ xs. AllLines q false xs in
    let R : List Run → Type 0 = λ rs. AreRuns q at seen (text ++ later) rs in
    subst R (sym (no_run q at' seen' runs (subst P last h)))
    (subst Q (sym (ap (λ xs. text ++ xs) last ∙ append-nil text)) none)

-- lines that are selected, in front of runs: one run more, unless there are none
run_front : (q : Search) (at seen : ℕ) (text later : List ℕ) (run : Run) (runs : List Run)
    → AreWhole (terminator q) text ⊎ (later ≡ []) → AllLines q true text → run.span.start ≡ at
    → run.span.end ≡ at + length text → run.first ≡ seen → run.count ≡ length (lines (terminator q) text)
    → AreRuns q run.span.end (seen + run.count) later runs → AreRuns q at seen (text ++ later) (closed_run run ++ runs)
run_front q at seen text later run runs whole all start stop first count h =
    by (nat_lt run.span.start run.span.end) refl
  where
    by : (t : Bool) → nat_lt run.span.start run.span.end ≡ t
        → AreRuns q at seen (text ++ later) (cond t (run ∷ []) [] ++ runs)
    by true e =
        let some = ltb-true run.span.start run.span.end e in
        let next : IsNextRun q at seen (text ++ later) run = record {
          gap = [];
          text = text;
          later = later;
          joins = refl;
          gap_whole = inl refl;
          gap_unselected = tt;
          text_some = λ none. absurd (omega (arith, ap length none, start, stop, some));
          text_whole = whole;
          text_selected = all;
          start = omega (arith, start);
          stop = omega (arith, stop);
          first = omega (arith, first);
          count = count;
        } in
        let P : ℕ → Type 0 = λ n. AreRuns q run.span.end (n + run.count) later runs in
        (next, subst P (sym first) h)
    by false e =
        let none = ltb-false run.span.start run.span.end e in
        let empty = is_empty text (omega (arith, start, stop, none)) in
        let P : List ℕ → Type 0 = λ xs. AreRuns q at seen (xs ++ later) runs in
        let Q : ℕ → Type 0 = λ n. AreRuns q n seen later runs in
        let R : ℕ → Type 0 = λ n. AreRuns q run.span.end n later runs in
        let here : run.span.end ≡ at = omega (arith, stop, ap length empty) in
        let same : seen + run.count ≡ seen = omega (arith, count, ap (λ xs. length (lines (terminator q) xs)) empty) in
        subst P (sym empty) (subst Q here (subst R same h))

module _ (text : SearchText) (trees : List Pattern) (inverted : text.invert ≡ true) (bytes : List ℕ) (runs : List Run)
    (at seen : ℕ) (passed : IsPassedBy (search_of text trees) bytes runs at seen) where
  abbrev q : Search
  q = search_of text trees

  abbrev E : ℕ
  E = terminator_of text

  behind : drop at bytes ≡ passed.rest
  behind = ap (drop at) passed.joins ∙ drop_at passed.front passed.rest at passed.len

  -- no line from the place on has a hit: all are selected
  module _ (run : Run) (start : run.span.start ≡ at) (stop : run.span.end ≡ length bytes) (first : run.first ≡ seen)
      (count : run.count ≡ length (lines E (slice_range bytes at (length bytes)))) where
    rest_is : slice_range bytes at (length bytes) ≡ passed.rest
    rest_is =
        let len : length bytes - at ≡ length passed.rest =
        omega (arith, ap length passed.joins, length-append passed.front passed.rest, passed.len) in
        ap (λ n. take n (drop at bytes)) len
        ∙ (ap (take (length passed.rest)) (behind ∙ sym (append-nil passed.rest))
        ∙ take_at passed.rest [] (length passed.rest) refl)

    pub last_run : AllLines (search_of (uninverted text) trees) false (drop at bytes)
        → AreRuns q 0 0 bytes (runs ++ closed_run run)
    last_run none =
        let all = all_turned text trees inverted false (drop at bytes) none in
        let P : List ℕ → Type 0 = λ xs. AllLines q true xs in
        let Q : List Run → Type 0 = λ rs. AreRuns q 0 0 bytes (runs ++ rs) in
        let R : List ℕ → Type 0 = λ xs. AreRuns q at seen xs (closed_run run ++ []) in
        let long : run.span.end ≡ at + length passed.rest =
        omega (arith, stop, ap length passed.joins, length-append passed.front passed.rest, passed.len) in
        let counted = count ∙ ap (λ xs. length (lines E xs)) rest_is in
        subst Q (append-nil (closed_run run)) (passed.known (closed_run run ++ [])
        (subst R (append-nil passed.rest) (run_front q at seen passed.rest [] run [] (inr refl) (subst P behind all)
        start long first counted tt)))

    pub all_lines : length (lines E bytes) ≡ seen + run.count
    all_lines =
        let counted = count ∙ ap (λ xs. length (lines E xs)) rest_is in
        elim passed.whole [
          | inl w ↦
              let both = ap (λ xs. length (lines E xs)) passed.joins in
              let apart = ap length (lines-append E passed.front passed.rest w) in
              omega (
                arith,
                both,
                apart,
                length-append (lines E passed.front) (lines E passed.rest),
                counted,
                passed.count,
              )
          | inr e ↦
              let alone = ap (λ xs. length (lines E xs))
              (passed.joins ∙ (ap (λ xs. passed.front ++ xs) e ∙ append-nil passed.front)) in
              omega (arith, alone, counted, ap (λ xs. length (lines E xs)) e, passed.count)
        ]

  -- a line with a hit: those before it, from the place on, are selected
  module _ (line : Span) (found : IsNextLine (search_of (uninverted text) trees) at (drop at bytes) line) (run : Run)
      (start : run.span.start ≡ at) (stop : run.span.end ≡ line.start) (first : run.first ≡ seen)
      (count : run.count ≡ length (lines E (slice_range bytes at line.start))) where
    abbrev n : IsNextRun (search_of (uninverted text) trees) at 0 (drop at bytes)
        (record { span = line; first = found.0; count = 1 })
    n = found.1

    joins : passed.rest ≡ n.gap ++ (n.text ++ n.later)
    joins = sym behind ∙ (n.joins ∙ append_assoc n.gap n.text n.later)

    gap_is : slice_range bytes at line.start ≡ n.gap
    gap_is =
        let len : line.start - at ≡ length n.gap = omega (arith, n.start) in
        ap (λ k. take k (drop at bytes)) len
        ∙ (ap (take (length n.gap)) (behind ∙ joins) ∙ take_at n.gap (n.text ++ n.later) (length n.gap) refl)

    counted : run.count ≡ length (lines E n.gap)
    counted = count ∙ ap (λ xs. length (lines E xs)) gap_is

    -- what stands in front is whole where a line follows
    front_whole : AreWhole E passed.front
    front_whole = elim passed.whole [
      | inl w ↦ w
      | inr none ↦ absurd (n.text_some (middle n.gap n.text n.later (sym joins ∙ none)))
    ]
      where
        middle : (xs ys zs : List ℕ) → xs ++ (ys ++ zs) ≡ [] → ys ≡ []
        middle [] [] zs e = refl
        middle [] (y ∷ ys) zs e = absurd (omega (arith, ap length e))
        middle (x ∷ xs) ys zs e = absurd (omega (arith, ap length e))

    gap_front_whole : AreWhole E (passed.front ++ n.gap)
    gap_front_whole = whole_append E passed.front n.gap front_whole n.gap_whole

    pub passed_more : (new : List Run) → new ≡ runs ++ closed_run run → (more : ℕ) → more ≡ seen + (run.count + 1)
        → IsPassedBy q bytes new line.end more
    passed_more new pushed more number =
        let front = (passed.front ++ n.gap) ++ n.text in
        let gap_len = length-append passed.front n.gap in
        let len = length-append (passed.front ++ n.gap) n.text in
        let lines_gap = ap length (lines-append E passed.front n.gap front_whole) in
        let lines_text = ap length (lines-append E (passed.front ++ n.gap) n.text gap_front_whole) in
        let gap_count = length-append (lines E passed.front) (lines E n.gap) in
        let text_count = length-append (lines E (passed.front ++ n.gap)) (lines E n.text) in
        let seen_more : more ≡ (seen + run.count) + length (lines E n.text) = omega (arith, number, n.count) in
        record {
          front = front;
          rest = n.later;
          joins = passed.joins
              ∙ (ap (λ xs. passed.front ++ xs) joins
              ∙ (sym (append_assoc passed.front n.gap (n.text ++ n.later))
              ∙ sym (append_assoc (passed.front ++ n.gap) n.text n.later)));
          len = omega (arith, gap_len, len, passed.len, n.start, n.stop);
          whole = elim n.text_whole [
            | inl w ↦ inl (whole_append E (passed.front ++ n.gap) n.text gap_front_whole w)
            | inr none ↦ inr none
          ];
          count = omega (
            arith,
            seen_more,
            passed.count,
            counted,
            lines_gap,
            gap_count,
            lines_text,
            text_count,
          );
          known = λ rs h.
              let P : List ℕ → Type 0 = λ xs. AreRuns q at seen xs (closed_run run ++ rs) in
              let Q : List Run → Type 0 = λ all. AreRuns q 0 0 bytes all in
              let stopped : run.span.end ≡ at + length n.gap = omega (arith, stop, n.start) in
              let here : line.end ≡ run.span.end + length n.text = omega (arith, stopped, n.stop) in
              let behind_run = line_front q run.span.end (seen + run.count) line.end more n.text n.later rs n.text_whole
              (all_turned text trees inverted true n.text n.text_selected) here seen_more h in
              let behind_place = run_front q at seen n.gap (n.text ++ n.later) run rs (inl n.gap_whole)
              (all_turned text trees inverted false n.gap n.gap_unselected) start stopped first counted behind_run in
              subst Q (sym (ap (λ xs. xs ++ rs) pushed ∙ append_assoc runs (closed_run run) rs))
              (passed.known (closed_run run ++ rs) (subst P (sym joins) behind_place));
        }

-- with -v no part is shown
pub no_part : (q : Search) (at seen : ℕ) (ls : List (List ℕ)) → q.text.invert ≡ true → parts_of_lines q at seen ls ≡ []
no_part q at seen [] inverted = refl
no_part q at seen (l ∷ ls) inverted =
    let own : cond (selects q l) (map (part_at at seen) (parts_of_line q l)) [] ≡ [] = none (selects q l) refl in
    ap (λ ps. ps ++ parts_of_lines q (at + (length l + 1)) (seen + 1) ls) own
    ∙ no_part q (at + (length l + 1)) (seen + 1) ls inverted
  where
    none : (b : Bool) → selects q l ≡ b → cond b (map (part_at at seen) (parts_of_line q l)) [] ≡ []
    none true e = ap (map (part_at at seen)) (no_parts q l inverted e)
    none false e = refl
