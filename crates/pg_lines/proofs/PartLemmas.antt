-- The matched parts of lines.
use Rattle.std.specs.Prelude.{MatchOption, IfSome, if◌then◌else◌}
use Rattle.std.proofs.Common.{Option, Some, None}
use Rattle.std.proofs.Common.{◌≡◌, ℕ, ◌+◌, ◌<◌, ◌≤◌, ◌^◌, ◌⊎◌, inl, inr, Bool, true, false, not, cond}
use Rattle.std.proofs.Common.{List, [], ◌∷◌, ◌++◌, length, take, drop, slice_range, map, refl, sym, ap, ◌∙◌, subst}
use Rattle.std.proofs.Common.{arith, append_assoc, length-append}
use Rattle.std.specs.List.{AllByRecursion}
use Rattle.std.proofs.lemmas.Bool.{false≢true}
use Rattle.std.proofs.lemmas.List.{append-nil, take_at, map-append}
use Rattle.pg_match.specs.Automata.{Nfa}
use Rattle.pg_match.specs.Machines.{IsMachineOf}
use Rattle.pg_pattern.specs.Hits.{HasNoNext, IsNext}
use Rattle.pg_pattern.specs.Parts.{AreParts, none, more}
use Rattle.pg_pattern.proofs.PartLaws.{parts_are_one}
use Rattle.pg_pattern.proofs.TestLemmas.{hits_decided}
use Rattle.pg_blocks.specs.Lines.{lines, AreWhole, AreShort, terminated}
use Rattle.pg_selection.specs.Search.{SearchText, Search, Pattern, Bounds, AreTreesOf, search_of, terminator, bounds_of}
use Rattle.pg_selection.specs.Selection.{selects, parts_of_line, has_match}
use Rattle.pg_lines.specs.Queries.{Compiled, IsCompiled}
use Rattle.pg_selection.proofs.TreeLemmas.{same_trees}
use Rattle.pg_selection.specs.Runs.{AllLines}
use Rattle.pg_selection.specs.BlockParts.{part_at, parts_of_lines}
use Rattle.pg_prefilter.specs.NextHits.{IsNextLine}
use Rattle.pg_lines.specs.Gathered.{IsGathered}
use Rattle.pg_selection.specs.declared.run.Run.{Run}
use Rattle.pg_selection.specs.declared.run.Part.{Part}
use Rattle.pg_blocks.specs.declared.span.Span.{Span}
use Rattle.pg_blocks.proofs.LineLemmas.{lines-append, whole_append, terminated-lines, length-terminated-cons}
use Rattle.pg_lines.proofs.GatherLemmas.{passed, behind, before, passed_whole, passed_count, front_is_whole, joined}
use Rattle.pg_lines.proofs.GatherLemmas.{line_text, front_length}
use Rattle.pg_selection.proofs.RunLemmas.{lines_apart}
use Rattle.pg_prefilter.proofs.LineLemmas.{all_back}

-- the parts of the lines before a place, where they are asked for
abbrev pub parts_before : Search → List ℕ → ℕ → List Part
parts_before q bytes place =
    if q.text.with_parts then parts_of_lines q 0 0 (lines (terminator q) (take place bytes)) else []

-- a line that is selected since nothing in it is matched has no part
pub no_parts : (q : Search) (line : List ℕ) → q.text.invert ≡ true → selects q line ≡ true → parts_of_line q line ≡ []
no_parts q line inverted chosen =
    let no_hit : has_match q line ≡ false =
    not_true (has_match q line) (sym (ap (λ b. cond b (not (has_match q line)) (has_match q line)) inverted)
    ∙ chosen) in
    let bounds = bounds_of q.text in
    let nothing : HasNoNext q.trees bounds line 0 =
    λ i j from some hit. false≢true (sym no_hit ∙ (hits_decided q.trees bounds line).whole_line.1 (i, j, hit)) in
    sym (parts_are_one q.trees bounds line [] (none nothing))
  where
    not_true : (b : Bool) → not b ≡ true → b ≡ false
    not_true true e = absurd (false≢true e)
    not_true false e = refl

-- the parts of lines, and of others behind them
parts-append : (q : Search) (at seen : ℕ) (xs ys : List (List ℕ)) → parts_of_lines q at seen (xs ++ ys)
    ≡ parts_of_lines q at seen xs
    ++ parts_of_lines q (at + length (terminated (terminator q) xs)) (seen + length xs) ys
parts-append q at seen [] ys =
    let at' : at ≡ at + 0 = omega arith in
    let seen' : seen ≡ seen + 0 = omega arith in
    ap (λ n. parts_of_lines q n seen ys) at' ∙ ap (λ n. parts_of_lines q (at + 0) n ys) seen'
parts-append q at seen (l ∷ xs) ys =
    let E = terminator q in
    let own = cond (selects q l) (map (part_at at seen) (parts_of_line q l)) [] in
    let next = at + (length l + 1) in
    let at' : next + length (terminated E xs) ≡ at + length (terminated E (l ∷ xs)) =
    omega (arith, length-terminated-cons E xs l) in
    let seen' : (seen + 1) + length xs ≡ seen + length (l ∷ xs) = omega arith in
    ap (λ ps. own ++ ps) (parts-append q next (seen + 1) xs ys
    ∙ (ap (λ n. parts_of_lines q next (seen + 1) xs ++ parts_of_lines q n ((seen + 1) + length xs) ys) at'
    ∙ ap (λ n. parts_of_lines q next (seen + 1) xs
    ++ parts_of_lines q (at + length (terminated E (l ∷ xs))) n ys) seen'))
    ∙ sym (append_assoc own (parts_of_lines q next (seen + 1) xs)
    (parts_of_lines q (at + length (terminated E (l ∷ xs))) (seen + length (l ∷ xs)) ys))

-- lines of which none is selected
parts_none : (q : Search) (at seen : ℕ) (ls : List (List ℕ)) → AllByRecursion (λ l. selects q l ≡ false) ls
    → parts_of_lines q at seen ls ≡ []
parts_none q at seen [] h = refl
parts_none q at seen (l ∷ ls) h =
    let later = parts_of_lines q (at + (length l + 1)) (seen + 1) ls in
    ap (λ b. cond b (map (part_at at seen) (parts_of_line q l)) [] ++ later) h.0
    ∙ parts_none q (at + (length l + 1)) (seen + 1) ls h.1

-- the parts of whole lines from a block's start on, and of what stands behind them
parts_behind : (q : Search) (xs ys : List ℕ) → AreWhole (terminator q) xs
    → parts_of_lines q 0 0 (lines (terminator q) (xs ++ ys))
    ≡ parts_of_lines q 0 0 (lines (terminator q) xs)
    ++ parts_of_lines q (length xs) (length (lines (terminator q) xs)) (lines (terminator q) ys)
parts_behind q xs ys w =
    let E = terminator q in
    let at : 0 + length (terminated E (lines E xs)) ≡ length xs = omega (arith, ap length (terminated-lines E xs w)) in
    let seen : 0 + length (lines E xs) ≡ length (lines E xs) = omega arith in
    ap (parts_of_lines q 0 0) (lines-append E xs ys w)
    ∙ (parts-append q 0 0 (lines E xs) (lines E ys)
    ∙ (ap (λ n. parts_of_lines q 0 0 (lines E xs) ++ parts_of_lines q n (0 + length (lines E xs)) (lines E ys)) at
    ∙ ap (λ n. parts_of_lines q 0 0 (lines E xs) ++ parts_of_lines q (length xs) n (lines E ys)) seen))

-- the parts before a line that is the next one
parts_over_gap : (q : Search) (xs gap : List ℕ) → AreWhole (terminator q) xs → AllLines q false gap
    → parts_of_lines q 0 0 (lines (terminator q) (xs ++ gap)) ≡ parts_of_lines q 0 0 (lines (terminator q) xs)
parts_over_gap q xs gap w nothing =
    let E = terminator q in
    let done = parts_of_lines q 0 0 (lines E xs) in
    parts_behind q xs gap w
    ∙ (ap (λ ps. done ++ ps) (parts_none q (length xs) (length (lines E xs)) (lines E gap) nothing) ∙ append-nil done)

module _ (q : Search) (bytes : List ℕ) (runs : List Run) (run : Run) (g : IsGathered q bytes runs run) where
  -- no further line is selected
  parts_to_end : AllLines q false (drop run.span.end bytes)
      → parts_of_lines q 0 0 (lines (terminator q) bytes)
      ≡ parts_of_lines q 0 0 (lines (terminator q) (take run.span.end bytes))
  parts_to_end nothing =
      let E = terminator q in
      let done = passed q bytes runs run g in
      let P : List ℕ → Type 0 = λ xs. AllLines q false xs in
      ap (λ xs. parts_of_lines q 0 0 (lines E xs)) g.joins
      ∙ (elim (passed_whole q bytes runs run g) [
        | inl w ↦ parts_over_gap q done g.rest w (subst P (behind q bytes runs run g) nothing)
        | inr e ↦ ap (λ xs. parts_of_lines q 0 0 (lines E xs)) (ap (λ xs. done ++ xs) e ∙ append-nil done)
      ]
      ∙ ap (λ xs. parts_of_lines q 0 0 (lines E xs)) (sym (before q bytes runs run g)))

  pub parts_of_all : AllLines q false (drop run.span.end bytes) → parts_before q bytes run.span.end
      ≡ cond q.text.with_parts (parts_of_lines q 0 0 (lines (terminator q) bytes)) []
  parts_of_all nothing = ap (λ ps. cond q.text.with_parts ps []) (sym (parts_to_end nothing))

  module _ (line : Span) (found : IsNextLine q run.span.end (drop run.span.end bytes) line) where
    -- the line is one, and selected
    pub line_one : (text : List ℕ) × (selects q text ≡ true)
        × (lines (terminator q) (slice_range bytes line.start line.end) ≡ text ∷ [])
    line_one =
        let one = only (lines (terminator q) found.1.text) (sym found.1.count) found.1.text_selected in
        (one.0, one.1, ap (lines (terminator q)) (line_text q bytes runs run g line found) ∙ one.2)
      where
        only : (ls : List (List ℕ)) → length ls ≡ 1 → AllByRecursion (λ l. selects q l ≡ true) ls
            → (text : List ℕ) × (selects q text ≡ true) × (ls ≡ text ∷ [])
        only [] count h = absurd (omega (arith, count))
        only (l ∷ []) count h = (l, h.0, refl)
        only (l ∷ m ∷ ls) count h = absurd (omega (arith, count))

    -- it isn't too long where no line is
    pub line_short : AreShort (terminator q) (drop run.span.end bytes) → length line_one.0 ≤ 2 ^ 30
    line_short short =
        let E = terminator q in
        let Short : List ℕ → Type 0 = λ l. length l ≤ 2 ^ 30 in
        let P : List (List ℕ) → Type 0 = λ ls. AllByRecursion Short ls in
        let n = found.1 in
        let all = subst P (lines_apart q run.span.end 0 (drop run.span.end bytes) _ n) short in
        let behind_gap = all_back Short (lines E n.gap) _ all in
        let one : lines E n.text ≡ line_one.0 ∷ [] =
        sym (ap (lines E) (line_text q bytes runs run g line found)) ∙ line_one.2 in
        (subst P (ap (λ ls. ls ++ lines E n.later) one) behind_gap).0

    module _ (runs' : List Run) (new : Run) (g' : IsGathered q bytes runs' new) (stop : new.span.end ≡ line.end) where
      -- the parts with those of the line
      parts_to_line : (text : List ℕ) → lines (terminator q) (slice_range bytes line.start line.end) ≡ text ∷ []
          → selects q text ≡ true → (number : ℕ) → number + 1 ≡ new.first + new.count
          → parts_of_lines q 0 0 (lines (terminator q) (take new.span.end bytes))
          ≡ parts_of_lines q 0 0 (lines (terminator q) (take run.span.end bytes))
          ++ map (part_at line.start number) (parts_of_line q text)
      parts_to_line text alone chosen number counted =
          let E = terminator q in
          let n = found.1 in
          let done = passed q bytes runs run g in
          let front = done ++ n.gap in
          let done_whole = front_is_whole q bytes runs run g line found in
          let front_whole : AreWhole E front = whole_append E done n.gap done_whole n.gap_whole in
          let long = front_length q bytes runs run g line found in
          let upto : take new.span.end bytes ≡ front ++ n.text =
          ap (take new.span.end) (joined q bytes runs run g line found)
          ∙ take_at (front ++ n.text) n.later new.span.end
          (omega (arith, length-append front n.text, long, stop, n.start, n.stop)) in
          let one : lines E n.text ≡ text ∷ [] =
          sym (ap (lines E) (line_text q bytes runs run g line found)) ∙ alone in
          let all_lines = ap (λ xs. length (lines E xs)) (sym upto ∙ before q bytes runs' new g') in
          let apart = ap length (lines-append E front n.text front_whole) in
          let seen : length (lines E front) ≡ number =
          omega (
            arith,
            all_lines,
            passed_count q bytes runs' new g',
            apart,
            length-append (lines E front) (lines E n.text),
            ap length one,
            counted,
          ) in
          let own : cond (selects q text) (map (part_at line.start number) (parts_of_line q text)) [] ++ []
          ≡ map (part_at line.start number) (parts_of_line q text) =
          append-nil (cond (selects q text) (map (part_at line.start number) (parts_of_line q text)) [])
          ∙ ap (λ b. cond b (map (part_at line.start number) (parts_of_line q text)) []) chosen in
          let earlier = parts_of_lines q 0 0 (lines E (take run.span.end bytes)) in
          ap (λ xs. parts_of_lines q 0 0 (lines E xs)) upto
          ∙ (parts_behind q front n.text front_whole
          ∙ (ap (λ ps. ps ++ parts_of_lines q (length front) (length (lines E front)) (lines E n.text))
          (parts_over_gap q done n.gap done_whole n.gap_unselected
          ∙ ap (λ xs. parts_of_lines q 0 0 (lines E xs)) (sym (before q bytes runs run g)))
          ∙ (ap (λ k. earlier ++ parts_of_lines q k (length (lines E front)) (lines E n.text)) long
          ∙ (ap (λ k. earlier ++ parts_of_lines q line.start k (lines E n.text)) seen
          ∙ (ap (λ ls. earlier ++ parts_of_lines q line.start number ls) one
          ∙ ap (λ ps. earlier ++ ps) own)))))

      pub parts_with_line : (text : List ℕ) → lines (terminator q) (slice_range bytes line.start line.end) ≡ text ∷ []
          → selects q text ≡ true → (number : ℕ) → number + 1 ≡ new.first + new.count
          → parts_before q bytes new.span.end ≡ parts_before q bytes run.span.end
          ++ cond q.text.with_parts (map (part_at line.start number) (parts_of_line q text)) []
      parts_with_line text alone chosen number counted =
          let own = map (part_at line.start number) (parts_of_line q text) in
          let earlier = parts_of_lines q 0 0 (lines (terminator q) (take run.span.end bytes)) in
          ap (λ ps. cond q.text.with_parts ps []) (parts_to_line text alone chosen number counted)
          ∙ elim (q.text.with_parts) as (λ b. cond b (earlier ++ own) [] ≡ cond b earlier [] ++ cond b own []) [
            | true ↦ refl
            | false ↦ refl
          ]

-- nothing is kept where parts aren't asked for, or where there is none
pub kept_none : (before own : List Part) (asked : Bool) → (asked ≡ false) ⊎ (own ≡ [])
    → before ≡ before ++ cond asked own []
kept_none before own asked (inl e) =
    sym (ap (λ b. before ++ cond b own []) e ∙ append-nil before)
kept_none before own asked (inr e) =
    sym (ap (λ ps. before ++ cond asked ps []) e ∙ (ap (λ ps. before ++ ps) (nothing asked) ∙ append-nil before))
  where
    nothing : (t : Bool) → ◌≡◌ {A = List Part} (cond t [] []) []
    nothing true = refl
    nothing false = refl

pub parts_before_none : (q : Search) (bytes : List ℕ) → parts_before q bytes 0 ≡ []
parts_before_none q bytes = elim (q.text.with_parts) as (λ b. ◌≡◌ {A = List Part} (cond b [] []) []) [
  | true ↦ refl
  | false ↦ refl
]

-- the query's automaton is that of the trees which its patterns spell
pub machine_of : (q : Compiled) (m : Nfa) → m ≡ q.machine → IsCompiled q → (trees : List Pattern)
    → AreTreesOf q.text trees → IsMachineOf m trees (bounds_of q.text)
machine_of q m same own trees spelled =
    let P : List Pattern → Type 0 = λ ts. IsMachineOf q.machine ts (bounds_of q.text) in
    let M : Nfa → Type 0 = λ m. IsMachineOf m trees (bounds_of q.text) in
    subst M (sym same) (subst P (same_trees q.text own.0 trees own.1 spelled) own.2)

-- a next part, if there is one, stands behind the place, and has a byte
pub part_within : (trees : List Pattern) (bounds : Bounds) (line : List ℕ) (place : ℕ) (found : Option (ℕ × ℕ))
    → MatchOption found (HasNoNext trees bounds line place) (λ part. IsNext trees bounds line place part.0 part.1)
    → IfSome found (λ part. (place ≤ part.0) × (part.0 < part.1) × (part.1 ≤ length line))
part_within trees bounds line place None nothing = tt
part_within trees bounds line place (Some part) next = (next.later, next.some, next.hit.within)

-- The parts of a line up to a place, behind others: whatever parts there are from the place on, together they are all.
abbrev pub IsPushed : SearchText → List ℕ → ℕ → ℕ → ℕ → List Part → List Part → Type 0
IsPushed text line at number place before after =
    (own : List (ℕ × ℕ)) × (after ≡ before ++ map (part_at at number) own)
    × ((trees : List Pattern) → AreTreesOf text trees → (rest : List (ℕ × ℕ))
    → AreParts trees (bounds_of text) line place rest → AreParts trees (bounds_of text) line 0 (own ++ rest))

module _ (text : SearchText) (line : List ℕ) (at number : ℕ) (before : List Part) where
  pub pushed_one : (place i j : ℕ) (after new : List Part) → IsPushed text line at number place before after
      → ((trees : List Pattern) → AreTreesOf text trees → IsNext trees (bounds_of text) line place i j)
      → new ≡ after ++ part_at at number (i, j) ∷ [] → IsPushed text line at number j before new
  pushed_one place i j after new h next e =
      let put = part_at at number in (
        h.0 ++ (i, j) ∷ [],
        e ∙ (ap (λ ps. ps ++ put (i, j) ∷ []) h.1
            ∙ (append_assoc before (map put h.0) (put (i, j) ∷ [])
            ∙ ap (λ ps. before ++ ps) (sym (map-append put h.0 ((i, j) ∷ []))))),
        λ trees spelled rest later.
            let P : List (ℕ × ℕ) → Type 0 = λ ps. AreParts trees (bounds_of text) line 0 ps in
            subst P (sym (append_assoc h.0 ((i, j) ∷ []) rest))
            (h.2 trees spelled ((i, j) ∷ rest) (more (next trees spelled) later)),
      )

  pub pushed_all : (place : ℕ) (after : List Part) → IsPushed text line at number place before after
      → (trees : List Pattern) → AreTreesOf text trees → HasNoNext trees (bounds_of text) line place
      → after ≡ before ++ map (part_at at number) (parts_of_line (search_of text trees) line)
  pushed_all place after h trees spelled nothing =
      let all = sym (append-nil h.0)
      ∙ parts_are_one trees (bounds_of text) line (h.0 ++ []) (h.2 trees spelled [] (none nothing)) in
      h.1 ∙ ap (λ own. before ++ map (part_at at number) own) all
