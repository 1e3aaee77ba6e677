-- Kept lines with their matched parts in color: for `write_painted`, `print_painted_line`, `print_painted` and
-- `print_runs`.
use Rattle.std.proofs.Common.{◌≡◌, ℕ, ◌+◌, ◌-◌, ◌<◌, ◌≤◌, ◌⊎◌, inl, inr, Bool, true, false, cond, not, ◌||◌}
use Rattle.std.proofs.Common.{◌==◌, nat_lt, List, [], ◌∷◌, ◌++◌, length, take, drop, get_or, slice_range, map, refl}
use Rattle.std.proofs.Common.{sym, ap}
use Rattle.std.proofs.Common.{◌∙◌, subst, arith, append_assoc, length-append, length-drop}
use Rattle.std.proofs.lemmas.Bool.{lt-ltb, le-ltb, cases_lt}
use Rattle.std.proofs.lemmas.Bool.Decides.{nat_tests}
use Rattle.std.proofs.lemmas.List.{drop-drop, drop_more, length-take-le, take_at, take_rest}
use Rattle.std.proofs.lemmas.List.Folds.{drop_split}
use Rattle.std.proofs.Math.Seq.{drop-append_seam}
use Rattle.pg_selection.specs.Search.{Search, terminator}
use Rattle.pg_selection.specs.Selection.{selects}
use Rattle.pg_blocks.specs.Lines.{lines, terminated, AreWhole}
use Rattle.pg_selection.specs.Runs.{IsNextRun}
use Rattle.pg_selection.specs.BlockParts.{part_at}
use Rattle.pg_selection.specs.declared.run.Part.{Part}
use Rattle.pg_selection.specs.declared.run.Run.{Run}
use Rattle.pg_blocks.proofs.LineLemmas.{lines-append, terminated-lines}
use Rattle.pg_rows.specs.declared.format.Format.{Format}
use Rattle.pg_rows.specs.Colors.{in_color, painted_from, part_color}
use Rattle.pg_rows.specs.Output.{painted, row, told_parts}
use Rattle.pg_base.specs.Sink.{Stream}
use Rattle.pg_rows.specs.Pieces.{told_of_lines}
use Rattle.pg_rows.specs.Stretch.{AllSelected, marked_rows, plain}
use Rattle.pg_rows.specs.Painting.{painted_bytes, AreAscending, count_before}
use Rattle.pg_rows.proofs.FoldLemmas.{something, some_append}
use Rattle.pg_rows.proofs.PieceLemmas.{Ascend, slice_in, told_ascend}
use Rattle.pg_selection.proofs.RunLemmas.{lines_behind}
use Rattle.pg_rows.proofs.RunSteps.{KeptTexts, next_texts}
use Rattle.pg_base.proofs.WriteLemmas.{WritesAllBut}

-- The parts of one line.

painted_same : (bytes l : List ℕ) (at seen k : ℕ) (ps : List (ℕ × ℕ)) → slice_range bytes at (at + length l) ≡ l
    → Ascend l k ps
    → painted_bytes bytes (at + k) (at + length l) (map (part_at at seen) ps) ≡ painted_from l k ps
painted_same bytes l at seen k [] is h = slice_in bytes l at k (length l) is h (omega arith) ∙ take_rest l k
painted_same bytes l at seen k (p ∷ ps) is h =
    let rest = painted_bytes bytes (at + p.1) (at + length l) (map (part_at at seen) ps) in
    let own = in_color true part_color (slice_range bytes (at + p.0) (at + p.1)) in
    let fits : p.0 ≤ length l = omega (arith, h.1, h.2) in
    let ordered : p.0 ≤ p.1 = omega (arith, h.1) in
    ap (λ xs. xs ++ own ++ rest) (slice_in bytes l at k p.0 is h.0 fits)
    ∙ (ap (λ xs. slice_range l k p.0 ++ in_color true part_color xs ++ rest)
    (slice_in bytes l at p.0 p.1 is ordered h.2)
    ∙ ap (λ xs. slice_range l k p.0 ++ in_color true part_color (slice_range l p.0 p.1) ++ xs)
    (painted_same bytes l at seen p.1 ps is h.3))

ascend_at : (l : List ℕ) (at seen k : ℕ) (ps : List (ℕ × ℕ)) → Ascend l k ps
    → AreAscending (at + k) (at + length l) (map (part_at at seen) ps)
ascend_at l at seen k [] h = omega (arith, h)
ascend_at l at seen k (p ∷ ps) h =
    (omega (arith, h.0), omega (arith, h.1), omega (arith, h.2), ascend_at l at seen p.1 ps h.3)

some_parts : (p : Part) (ps : List Part) → not (length {A = Part} (p ∷ ps) == 0) ≡ true
some_parts p ps = grind (arith, nat_tests)

-- the bytes from a place up to another aren't nothing where there are some, or a part among them
pub painted_some : (bytes : List ℕ) (from to : ℕ) (ps : List Part) → to ≤ length bytes
    → (nat_lt from to || not (length ps == 0)) ≡ something (painted_bytes bytes from to ps)
painted_some bytes from to [] within = elim (cases_lt from to) [
  | inl some ↦ ap (λ b. b || false) (lt-ltb from to some) ∙ sym (long (slice_range bytes from to) (omega (arith, size)))
  | inr none ↦ ap (λ b. b || false) (le-ltb from to none)
      ∙ sym (short (slice_range bytes from to) (omega (arith, size)))
]
  where
    size : length (slice_range bytes from to) ≡ to - from
    size = let left = length-drop from bytes in length-take-le (to - from) (drop from bytes) (omega arith)

    long : (xs : List ℕ) → 0 < length xs → something xs ≡ true
    long [] h = absurd (omega (arith, h))
    long (x ∷ xs) h = refl

    short : (xs : List ℕ) → length xs ≡ 0 → something xs ≡ false
    short [] h = refl
    short (x ∷ xs) h = absurd (omega (arith, h))
painted_some bytes from to (p ∷ ps) within =
    let front = slice_range bytes from p.span.start in
    let own = in_color true part_color (slice_range bytes p.span.start p.span.end) in
    let rest = painted_bytes bytes p.span.end to ps in
    ap (λ b. nat_lt from to || b) (some_parts p ps) ∙ (or_last (nat_lt from to) ∙ sym (some_append (front ++ own) rest
    ∙ (ap (λ b. b || something rest) (some_append front own) ∙ or_middle (something front) (something rest))))
  where
    or_last : (b : Bool) → (b || true) ≡ true
    or_last true = refl
    or_last false = refl

    or_middle : (a b : Bool) → ((a || true) || b) ≡ true
    or_middle true b = refl
    or_middle false b = refl

-- one part more is written
pub painted_more : (bytes : List ℕ) (from to k : ℕ) (ps : List Part) (d : Part) → k < length ps
    → painted_bytes bytes from to (drop k ps)
    ≡ (slice_range bytes from (get_or ps k d).span.start ++ in_color true part_color
    (slice_range bytes (get_or ps k d).span.start (get_or ps k d).span.end))
    ++ painted_bytes bytes (get_or ps k d).span.end to (drop (k + 1) ps)
painted_more bytes from to k ps d below = ap (painted_bytes bytes from to) (drop_more ps k d below)

-- How the lines of a block share its parts.

count_own : (limit at seen : ℕ) (ps : List (ℕ × ℕ)) (later : List Part) → seen < limit
    → count_before limit (map (part_at at seen) ps ++ later) ≡ length (map (part_at at seen) ps)
    + count_before limit later
count_own limit at seen [] later less = omega arith
count_own limit at seen (p ∷ ps) later less =
    let ih = count_own limit at seen ps later less in
    ap (λ b. cond b (count_before limit (map (part_at at seen) ps ++ later) + 1) 0) (lt-ltb seen limit less)
    ∙ omega arith

count_behind : (q : Search) (limit at seen : ℕ) (ls : List (List ℕ)) → limit ≤ seen
    → count_before limit (told_of_lines q at seen ls) ≡ 0
count_behind q limit at seen [] le = refl
count_behind q limit at seen (l ∷ ls) le =
    go (selects q l) (told_parts q l) (count_behind q limit (at + (length l + 1)) (seen + 1) ls (omega arith))
  where
    later : List Part
    later = told_of_lines q (at + (length l + 1)) (seen + 1) ls

    go : (s : Bool) (ps : List (ℕ × ℕ)) → count_before limit later ≡ 0
        → count_before limit (cond s (map (part_at at seen) ps) [] ++ later) ≡ 0
    go true [] none = none
    go true (p ∷ ps) none =
        ap (λ b. cond b (count_before limit (map (part_at at seen) ps ++ later) + 1) 0) (le-ltb seen limit le)
    go false ps none = none

count_lines : (q : Search) (limit at seen : ℕ) (ls : List (List ℕ)) (later : List Part) → seen + length ls ≤ limit
    → count_before limit (told_of_lines q at seen ls ++ later) ≡ length (told_of_lines q at seen ls)
    + count_before limit later
count_lines q limit at seen [] later fits = omega arith
count_lines q limit at seen (l ∷ ls) later fits =
    let rest = told_of_lines q (at + (length l + 1)) (seen + 1) ls in
    let own = cond (selects q l) (map (part_at at seen) (told_parts q l)) [] in
    let ih = count_lines q limit (at + (length l + 1)) (seen + 1) ls later (omega arith) in
    let long = length-append own rest in
    ap (count_before limit) (append_assoc own rest later) ∙ (of_own (selects q l) (rest ++ later) ∙ omega arith)
  where
    of_own : (s : Bool) (more : List Part)
        → count_before limit (cond s (map (part_at at seen) (told_parts q l)) [] ++ more)
        ≡ length (cond s (map (part_at at seen) (told_parts q l)) []) + count_before limit more
    of_own true more = count_own limit at seen (told_parts q l) more (omega (arith, fits))
    of_own false more = omega arith

pub told_append : (q : Search) (at seen : ℕ) (ls ms : List (List ℕ))
    → told_of_lines q at seen (ls ++ ms) ≡ told_of_lines q at seen ls
    ++ told_of_lines q (at + length (terminated (terminator q) ls)) (seen + length ls) ms
told_append q at seen [] ms =
    let a : at ≡ at + 0 = omega arith in
    let s : seen ≡ seen + 0 = omega arith in
    ap (λ n. told_of_lines q n seen ms) a ∙ ap (λ n. told_of_lines q (at + 0) n ms) s
told_append q at seen (l ∷ ls) ms =
    let end = terminator q in
    let own = cond (selects q l) (map (part_at at seen) (told_parts q l)) [] in
    let rest = told_of_lines q (at + (length l + 1)) (seen + 1) ls in
    let tail = length (terminated end ls) in
    let long : length (terminated end (l ∷ ls)) ≡ (length l + 1) + tail =
    length-append (l ++ end ∷ []) (terminated end ls) ∙ ap (λ n. n + tail) (length-append l (end ∷ [])) in
    let place : (at + (length l + 1)) + tail ≡ at + length (terminated end (l ∷ ls)) = omega arith in
    let number : (seen + 1) + length ls ≡ seen + length (l ∷ ls) = omega arith in
    ap (λ xs. own ++ xs) (told_append q (at + (length l + 1)) (seen + 1) ls ms
    ∙ (ap (λ n. rest ++ told_of_lines q n ((seen + 1) + length ls) ms) place
    ∙ ap (λ n. rest ++ told_of_lines q (at + length (terminated end (l ∷ ls))) n ms) number))
    ∙ sym (append_assoc own rest (told_of_lines q (at + length (terminated end (l ∷ ls))) (seen + length (l ∷ ls)) ms))

-- lines that aren't selected have none
pub told_none : (q : Search) (at seen : ℕ) (ls : List (List ℕ)) → AllSelected q false ls
    → told_of_lines q at seen ls ≡ []
told_none q at seen [] none = refl
told_none q at seen (l ∷ ls) none =
    ap (λ b. cond b (map (part_at at seen) (told_parts q l)) []
    ++ told_of_lines q (at + (length l + 1)) (seen + 1) ls) none.0
    ∙ told_none q (at + (length l + 1)) (seen + 1) ls none.1

-- The first of the parts that are left, which stand in the lines before those behind.

-- the parts of some lines are a stretch of all parts
pub record AreOwn (parts : List Part) (used next : ℕ) (own later : List Part) : Type 0 where
  pub own_is : slice_range parts used next ≡ own
  pub later_is : drop next parts ≡ later
  pub ordered : used ≤ next
  pub within : next ≤ length parts

own_stretch : (parts : List Part) (used next : ℕ) (own later : List Part) → used ≤ length parts
    → drop used parts ≡ own ++ later → next ≡ used + length own → AreOwn parts used next own later
own_stretch parts used next own later fits is size =
    let long = length-drop used parts in
    let both = ap (λ xs. length xs) is ∙ length-append own later in
    let cut : next - used ≡ length own = omega arith in
    record {
      own_is = ap (λ n. take n (drop used parts)) cut
          ∙ (ap (take (length own)) is ∙ take_at own later (length own) refl);
      later_is = ap (λ n. drop n parts) size ∙ (sym (drop-drop (length own) used parts)
          ∙ (ap (drop (length own)) is ∙ drop-append_seam own later));
      ordered = omega arith;
      within = omega arith;
    }

pub lines_own : (q : Search) (parts : List Part) (used next limit at seen at' seen' : ℕ) (ls ms : List (List ℕ))
    → used ≤ length parts → drop used parts ≡ told_of_lines q at seen ls ++ told_of_lines q at' seen' ms
    → seen + length ls ≤ limit → limit ≤ seen' → next ≡ used + count_before limit (drop used parts)
    → AreOwn parts used next (told_of_lines q at seen ls) (told_of_lines q at' seen' ms)
lines_own q parts used next limit at seen at' seen' ls ms fits is low high size =
    let own = told_of_lines q at seen ls in
    let later = told_of_lines q at' seen' ms in
    let count = ap (count_before limit) is ∙ count_lines q limit at seen ls later low in
    let none = count_behind q limit at' seen' ms high in
    own_stretch parts used next own later fits is (omega arith)

-- a selected line that stands at a place of the bytes, with its own parts
pub record IsPainted (q : Search) (format : Format) (bytes l : List ℕ) (at stop : ℕ) (own : List Part) : Type 0 where
  pub text : painted_bytes bytes at stop own ≡ painted q format l
  pub ascend : AreAscending at stop own

pub line_painted : (q : Search) (format : Format) (bytes l : List ℕ) (at stop seen : ℕ) (own : List Part)
    → format.colored ≡ true → slice_range bytes at stop ≡ l → at ≤ stop → stop ≤ length bytes
    → own ≡ map (part_at at seen) (told_parts q l)
    → IsPainted q format bytes l at stop own
line_painted q format bytes l at stop seen own colored is ordered within own_is =
    let left = length-drop at bytes in
    let size : length l ≡ stop - at =
    ap (λ xs. length xs) (sym is) ∙ length-take-le (stop - at) (drop at bytes) (omega arith) in
    let to : at + length l ≡ stop = omega arith in
    let from : at + 0 ≡ at = omega arith in
    let text = ap (λ n. slice_range bytes at n) to ∙ is in
    let parts = map (part_at at seen) (told_parts q l) in
    let h = told_ascend q l in
    let P : ℕ → Type 0 = λ n. AreAscending n stop own in
    let Q : ℕ → Type 0 = λ n. AreAscending (at + 0) n own in
    let R : List Part → Type 0 = λ xs. AreAscending (at + 0) (at + length l) xs in
    record {
      text = ap (painted_bytes bytes at stop) own_is
          ∙ (ap (λ n. painted_bytes bytes at n parts) (sym to)
          ∙ (ap (λ n. painted_bytes bytes n (at + length l) parts) (sym from)
          ∙ (painted_same bytes l at seen 0 (told_parts q l) text h
          ∙ ap (λ b. cond b (painted_from l 0 (told_parts q l)) l) (sym colored))));
      ascend = subst P from (subst Q to (subst R (sym own_is) (ascend_at l at seen 0 (told_parts q l) h)));
    }

-- Line by line.

-- the rows of the lines from a place on are left to write, and their parts are left
pub record AreToPrint (q : Search) (format : Format) (end : ℕ) (name : List ℕ) (number offset : ℕ) (bytes : List ℕ)
    (from line : ℕ) (parts : List Part) (at done used : ℕ) (before after : Stream) : Type 0 where
  pub told : drop used parts ≡ told_of_lines q at (line + done) (lines end (drop at bytes))
  pub selected : AllSelected q true (lines end (drop at bytes))
  pub left : WritesAllBut
      (marked_rows format end name 58 (painted q format) number offset (lines end (drop from bytes)))
      (marked_rows format end name 58 (painted q format) (number + done) (offset + (at - from))
      (lines end (drop at bytes))) before after

-- the next line: its parts, its row, and what is left behind it
pub record PrintsLine (q : Search) (format : Format) (end : ℕ) (name : List ℕ) (number offset : ℕ) (bytes : List ℕ)
    (from line : ℕ) (parts : List Part) (at stop done used next : ℕ) : Type 0 where
  pub ordered : used ≤ next
  pub within : next ≤ length parts
  pub ascend : AreAscending at stop (slice_range parts used next)
  pub rows : marked_rows format end name 58 (painted q format) (number + done) (offset + (at - from))
      (lines end (drop at bytes))
      ≡ row format end name (number + done) (offset + (at - from)) 58
      (painted_bytes bytes at stop (slice_range parts used next))
      ++ marked_rows format end name 58 (painted q format) (number + (done + 1)) (offset + ((stop + 1) - from))
      (lines end (drop (stop + 1) bytes))
  pub told : drop next parts ≡ told_of_lines q (stop + 1) (line + (done + 1)) (lines end (drop (stop + 1) bytes))
  pub selected : AllSelected q true (lines end (drop (stop + 1) bytes))

pub prints_line : (q : Search) (format : Format) (end : ℕ) (name : List ℕ) (number offset : ℕ) (bytes : List ℕ)
    (from line : ℕ) (parts : List Part) (at stop done used next : ℕ) (before after : Stream)
    → AreToPrint q format end name number offset bytes from line parts at done used before after → from ≤ at
    → format.colored ≡ true → used ≤ length parts → at ≤ stop → stop ≤ length bytes
    → lines end (drop at bytes) ≡ slice_range bytes at stop ∷ lines end (drop (stop + 1) bytes)
    → next ≡ used + count_before (line + done + 1) (drop used parts)
    → PrintsLine q format end name number offset bytes from line parts at stop done used next
prints_line q format end name number offset bytes from line parts at stop done used next before after h begun colored
    fits low high is size =
    let l = slice_range bytes at stop in
    let ls = lines end (drop (stop + 1) bytes) in
    let seen : ℕ = line + done in
    let P : List (List ℕ) → Type 0 = λ xs. AllSelected q true xs in
    let selected = subst P is h.selected in
    let own = map (part_at at seen) (told_parts q l) in
    let later = told_of_lines q (at + (length l + 1)) (seen + 1) ls in
    let told : drop used parts ≡ own ++ later = h.told ∙ (ap (told_of_lines q at seen) is
    ∙ ap (λ b. cond b own [] ++ later) selected.0) in
    let less : seen < line + done + 1 = omega arith in
    let count = ap (count_before (line + done + 1)) told
    ∙ count_own (line + done + 1) at seen (told_parts q l) later less in
    let none = count_behind q (line + done + 1) (at + (length l + 1)) (seen + 1) ls (omega arith) in
    let a = own_stretch parts used next own later fits told (omega arith) in
    let rest = length-drop at bytes in
    let long : length l ≡ stop - at = length-take-le (stop - at) (drop at bytes) (omega arith) in
    let place : at + (length l + 1) ≡ stop + 1 = omega arith in
    let row_number : (number + done) + 1 ≡ number + (done + 1) = omega arith in
    let line_number : seen + 1 ≡ line + (done + 1) = omega arith in
    let painting = line_painted q format bytes l at stop seen (slice_range parts used next) colored refl low high
    a.own_is in
    let here : ℕ = offset + (at - from) in
    let further : here + (length l + 1) ≡ offset + ((stop + 1) - from) = omega arith in
    let own_row : List ℕ → List ℕ = λ xs. row format end name (number + done) here 58 xs in
    record {
      ordered = a.ordered;
      within = a.within;
      ascend = painting.ascend;
      rows = ap (λ xs. marked_rows format end name 58 (painted q format) (number + done) here xs) is
          ∙ (ap (λ xs. own_row xs ++ marked_rows format end name 58 (painted q format)
          ((number + done) + 1) (here + (length l + 1)) ls) (sym painting.text)
          ∙ (ap (λ n. own_row (painted_bytes bytes at stop (slice_range parts used next))
          ++ marked_rows format end name 58 (painted q format) n (here + (length l + 1)) ls) row_number
          ∙ ap (λ o. own_row (painted_bytes bytes at stop (slice_range parts used next))
          ++ marked_rows format end name 58 (painted q format) (number + (done + 1)) o ls) further));
      told = a.later_is ∙ (ap (λ n. told_of_lines q n (seen + 1) ls) place
          ∙ ap (λ n. told_of_lines q (stop + 1) n ls) line_number);
      selected = selected.1;
    }

-- without colors a line's text is the line
pub plain_texts : (q : Search) (format : Format) (end : ℕ) (name : List ℕ) (mark number offset : ℕ)
    (ls : List (List ℕ)) → format.colored ≡ false
    → marked_rows format end name mark plain number offset ls
    ≡ marked_rows format end name mark (painted q format) number offset ls
plain_texts q format end name mark number offset [] off = refl
plain_texts q format end name mark number offset (l ∷ ls) off =
    let text : Bool → List ℕ = λ b. cond b (painted_from l 0 (told_parts q l)) l in
    ap (λ xs. row format end name number offset mark l ++ xs)
    (plain_texts q format end name mark (number + 1) (offset + (length l + 1)) ls off)
    ∙ ap (λ b. row format end name number offset mark (text b)
    ++ marked_rows format end name mark (painted q format) (number + 1) (offset + (length l + 1)) ls) (sym off)

-- From one run of selected lines to the next.

told_apart : (q : Search) (at seen place count : ℕ) (front rest : List ℕ)
    → AreWhole (terminator q) front ⊎ (rest ≡ []) → at + length front ≡ place
    → length (lines (terminator q) front) ≡ count
    → told_of_lines q at seen (lines (terminator q) front ++ lines (terminator q) rest)
    ≡ told_of_lines q at seen (lines (terminator q) front)
    ++ told_of_lines q place (seen + count) (lines (terminator q) rest)
told_apart q at seen place count front rest (inl whole) size long =
    let end = terminator q in
    let own = told_of_lines q at seen (lines end front) in
    let later = lines end rest in
    told_append q at seen (lines end front) later
    ∙ (ap (λ n. own ++ told_of_lines q n (seen + length (lines end front)) later)
    (ap (λ xs. at + length xs) (terminated-lines end front whole) ∙ size)
    ∙ ap (λ n. own ++ told_of_lines q place (seen + n) later) long)
told_apart q at seen place count front rest (inr none) size long =
    let end = terminator q in
    let own = told_of_lines q at seen (lines end front) in
    let nothing = ap (lines end) none in
    told_append q at seen (lines end front) (lines end rest)
    ∙ (ap (λ ls. own ++ told_of_lines q (at + length (terminated end (lines end front)))
    (seen + length (lines end front)) ls) nothing
    ∙ sym (ap (λ ls. own ++ told_of_lines q place (seen + count) ls) nothing))

-- the parts that are left are those of the lines from a place on, behind so many lines
abbrev pub AreLeft : Search → List ℕ → List Part → ℕ → ℕ → ℕ → Type 0
AreLeft q bytes parts used at seen =
    drop used parts ≡ told_of_lines q at seen (lines (terminator q) (drop at bytes))

pub run_own : (q : Search) (bytes : List ℕ) (parts : List Part) (used next at seen count place : ℕ) (run : Run)
    (n : IsNextRun q at seen (drop at bytes) run) → at ≤ length bytes → KeptTexts q bytes run count place
    → run.span.start ≤ place → used ≤ length parts → AreLeft q bytes parts used at seen
    → next ≡ used + count_before (run.first + count) (drop used parts)
    → AreOwn parts used next
    (told_of_lines q run.span.start run.first (lines (terminator q) (slice_range bytes run.span.start place)))
    (told_of_lines q place (run.first + count) (lines (terminator q) (drop place bytes)))
run_own q bytes parts used next at seen count place run n within kept low fits left is =
    let end = terminator q in
    let texts = next_texts q at seen bytes run n within in
    let gap = slice_range bytes at run.span.start in
    let front = slice_range bytes run.span.start place in
    let rest = drop place bytes in
    let more = drop run.span.start bytes in
    let P : List ℕ → Type 0 = λ xs. AllSelected q false (lines end xs) in
    let none = told_none q at seen (lines end gap) (subst P (sym texts.gap) n.gap_unselected) in
    let long = length-drop at bytes in
    let size : length gap ≡ run.span.start - at = length-take-le (run.span.start - at) (drop at bytes)
    (omega (arith, texts.next.start, texts.next.order, texts.next.within)) in
    let start : at + length gap ≡ run.span.start = omega (arith, texts.next.start) in
    let number : seen + length (lines end gap) ≡ run.first = sym texts.next.gap in
    let ahead : lines end (drop at bytes) ≡ lines end gap ++ lines end more =
    ap (lines end) (drop_split bytes at run.span.start texts.next.start)
    ∙ lines-append end gap more texts.next.whole in
    let later : lines end more ≡ lines end front ++ lines end rest =
    ap (lines end) (drop_split bytes run.span.start place low) ∙ lines_behind end front rest kept.whole in
    let told = left ∙ (ap (told_of_lines q at seen) ahead
    ∙ (told_apart q at seen run.span.start (length (lines end gap)) gap more (inl texts.next.whole) start refl
    ∙ (ap (λ xs. xs ++ told_of_lines q run.span.start (seen + length (lines end gap)) (lines end more)) none
    ∙ (ap (λ k. told_of_lines q run.span.start k (lines end more)) number
    ∙ (ap (told_of_lines q run.span.start run.first) later
    ∙ told_apart q run.span.start run.first place count front rest kept.whole kept.size kept.long))))) in
    let few : run.first + length (lines end front) ≤ run.first + count = omega (arith, kept.long) in
    lines_own q parts used next (run.first + count) run.span.start run.first place (run.first + count)
    (lines end front) (lines end rest) fits told few (omega arith) is
