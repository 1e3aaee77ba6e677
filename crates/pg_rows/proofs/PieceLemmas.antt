-- The rows of matched parts.
use Rattle.std.proofs.Common.{◌≡◌, ℕ, zero, suc, ◌+◌, ◌-◌, ◌<◌, ◌≤◌, inl, inr, Bool, true, false, cond, nat_lt}
use Rattle.std.proofs.Common.{Option, Some, None, List, [], if◌then◌else◌}
use Rattle.std.proofs.Common.{◌∷◌, ◌++◌, length, take, drop, slice_range, map, refl, sym, ap, ◌∙◌, subst, arith}
use Rattle.std.proofs.Common.{append_assoc, length-append, length-drop, get_or, option_map}
use Rattle.std.specs.List.{AllByRecursion, flat_map, filter}
use Rattle.std.proofs.lemmas.Bool.{lt-ltb, le-ltb, and_from, and_left, cases_lt, cases_Bool}
use Rattle.std.proofs.lemmas.List.{take_at, take-append-drop, take-append-le, drop-append-le, drop-drop}
use Rattle.std.proofs.lemmas.List.{append-nil}
use Rattle.std.proofs.lemmas.List.Concat.{flat_map-append}
use Rattle.std.proofs.lemmas.List.Elements.{filter-append}
use Rattle.std.proofs.Math.Seq.{drop-append_seam}
use Rattle.pg_pattern.specs.Parts.{AreParts, none, more}
use Rattle.pg_pattern.proofs.PartLaws.{parts_are_parts}
use Rattle.pg_selection.specs.Search.{Search, terminator, bounds_of}
use Rattle.pg_selection.specs.Selection.{selects, parts_of_line}
use Rattle.pg_blocks.specs.Lines.{lines, terminated}
use Rattle.pg_selection.specs.BlockParts.{part_at, parts_of_lines}
use Rattle.pg_selection.specs.Runs.{AreRuns}
use Rattle.pg_selection.specs.declared.run.Run.{Run}
use Rattle.pg_selection.specs.declared.run.Part.{Part}
use Rattle.pg_blocks.proofs.LineLaws.{lines_are_lines}
use Rattle.pg_rows.specs.declared.format.Format.{Format}
use Rattle.pg_rows.specs.Colors.{in_color, part_color}
use Rattle.pg_rows.specs.Output.{is_below, row, told_parts, when}
use Rattle.pg_rows.specs.Trail.{Trail, keeps, after_kept, after_context, after_other, with_offset, step, run_pieces}
use Rattle.pg_rows.specs.Trail.{pieces_in}
use Rattle.pg_rows.specs.Stretch.{part_row, rows_of_parts, IsPartOf, no_part, AllSelected}
use Rattle.pg_rows.specs.Pieces.{cut_at, told_of_lines}
use Rattle.pg_rows.proofs.StretchLemmas.{passed_pieces, full_unkept, step_kept, step_unkept}
use Rattle.pg_rows.proofs.BlockLemmas.{AreStretches, stretches}
use Rattle.pg_rows.specs.Remembered.{HasLines}

-- what was found in a block: where its selected lines stand, how many lines it has, and the parts that are told
pub record HasFound (q : Search) (bytes : List ℕ) (runs : List Run) (parts : List Part) (count : ℕ) : Type 0 where
  pub found_lines : HasLines q bytes runs count
  pub found_parts : parts
      ≡ (if q.text.with_parts then parts_of_lines q 0 0 (lines (terminator q) bytes) else [])

-- A part stands in its line.

abbrev IsIn : List ℕ → ℕ × ℕ → Type 0
IsIn l p = (p.0 ≤ p.1) × (p.1 ≤ length l)

-- the parts of a line stand one behind the other, from a place on, and none is empty
abbrev pub Ascend : List ℕ → ℕ → List (ℕ × ℕ) → Type 0
Ascend l at [] = at ≤ length l
Ascend l at (p ∷ ps) = (at ≤ p.0) × (p.0 < p.1) × (p.1 ≤ length l) × Ascend l p.1 ps

pub told_ascend : (q : Search) (l : List ℕ) → Ascend l 0 (told_parts q l)
told_ascend q l = told q.text.with_parts
  where
    go : (place : ℕ) (ps : List (ℕ × ℕ)) → place ≤ length l → AreParts q.trees (bounds_of q.text) l place ps
        → Ascend l place ps
    go _ _ fits (none h) = fits
    go _ _ fits (more {place} {i} {j} {rest} n later) =
        (n.later, n.some, n.hit.within, go j rest n.hit.within later)

    told : (pieces : Bool) → Ascend l 0 (cond pieces (parts_of_line q l) [])
    told true = go 0 (parts_of_line q l) (omega arith) (parts_are_parts q.trees (bounds_of q.text) l)
    told false = omega arith

parts_within : (q : Search) (l : List ℕ) → AllByRecursion (IsIn l) (told_parts q l)
parts_within q l = go 0 (told_parts q l) (told_ascend q l)
  where
    go : (place : ℕ) (ps : List (ℕ × ℕ)) → Ascend l place ps → AllByRecursion (IsIn l) ps
    go place [] h = tt
    go place (p ∷ ps) h = ((omega (arith, h.1), h.2), go p.1 ps h.3)

-- the lines stand in the bytes from a place on, each followed by one byte
abbrev AreAt : List ℕ → ℕ → List (List ℕ) → Type 0
AreAt bytes at [] = Unit {0}
AreAt bytes at (l ∷ ls) =
    (slice_range bytes at (at + length l) ≡ l) × (at + length l ≤ length bytes) × AreAt bytes (at + (length l + 1)) ls

at_front : (front l rest bytes : List ℕ) → bytes ≡ front ++ (l ++ rest)
    → (slice_range bytes (length front) (length front + length l) ≡ l) × (length front + length l ≤ length bytes)
at_front front l rest bytes is =
    let size : (length front + length l) - length front ≡ length l = omega arith in
    let long = ap (λ xs. length xs) is ∙ (length-append front (l ++ rest)
    ∙ ap (λ n. length front + n) (length-append l rest)) in (
      ap (λ n. take n (drop (length front) bytes)) size
          ∙ (ap (λ xs. take (length l) (drop (length front) xs)) is
          ∙ (ap (take (length l)) (drop-append_seam front (l ++ rest)) ∙ take_at l rest (length l) refl)),
      omega arith,
    )

at_terminated : (end : ℕ) (front : List ℕ) (ls : List (List ℕ)) (rest bytes : List ℕ) (tail : List (List ℕ))
    → bytes ≡ front ++ (terminated end ls ++ rest)
    → ((before : List ℕ) → bytes ≡ before ++ rest → AreAt bytes (length before) tail)
    → AreAt bytes (length front) (ls ++ tail)
at_terminated end front [] rest bytes tail is last = last front is
at_terminated end front (l ∷ ls) rest bytes tail is last =
    let others = terminated end ls ++ rest in
    let joined : bytes ≡ front ++ (l ++ (end ∷ others)) = is ∙ simp append_assoc in
    let next : bytes ≡ (front ++ (l ++ end ∷ [])) ++ others = is ∙ simp append_assoc in
    let here = at_front front l (end ∷ others) bytes joined in
    let long : length (front ++ (l ++ end ∷ [])) ≡ length front + (length l + 1) =
    length-append front (l ++ end ∷ []) ∙ ap (λ n. length front + n) (length-append l (end ∷ [])) in
    let P : ℕ → Type 0 = λ n. AreAt bytes n (ls ++ tail) in
    (here.0, here.1, subst P long (at_terminated end (front ++ (l ++ end ∷ [])) ls rest bytes tail next last))

lines_at : (end : ℕ) (bytes : List ℕ) → AreAt bytes 0 (lines end bytes)
lines_at end bytes = elim (lines_are_lines end bytes).whole [
  | inl whole ↦
      let P : List (List ℕ) → Type 0 = λ ls. AreAt bytes 0 ls in
      subst P (append-nil (lines end bytes))
      (at_terminated end [] (lines end bytes) [] bytes [] (whole ∙ sym (append-nil (terminated end (lines end bytes))))
      (λ before is. tt))
  | inr h ↦
      let P : List (List ℕ) → Type 0 = λ ls. AreAt bytes 0 ls in
      subst P (sym h.joins) (at_terminated end [] h.front h.last bytes (h.last ∷ []) h.whole
      (λ before is. let here = at_front before h.last [] bytes
      (is ∙ ap (λ xs. before ++ xs) (sym (append-nil h.last))) in (here.0, here.1, tt)))
]

-- a part of a line is a part of the bytes
pub slice_in : (bytes l : List ℕ) (at i j : ℕ) → slice_range bytes at (at + length l) ≡ l → i ≤ j → j ≤ length l
    → slice_range bytes (at + i) (at + j) ≡ slice_range l i j
slice_in bytes l at i j is ordered within =
    let rest = drop (length l) (drop at bytes) in
    let size : (at + length l) - at ≡ length l = omega arith in
    let cut : take (length l) (drop at bytes) ≡ l = ap (λ n. take n (drop at bytes)) (sym size) ∙ is in
    let joined : drop at bytes ≡ l ++ rest =
    sym (take-append-drop (length l) (drop at bytes)) ∙ ap (λ xs. xs ++ rest) cut in
    let from : drop (at + i) bytes ≡ drop i l ++ rest =
    sym (drop-drop i at bytes) ∙ (ap (drop i) joined ∙ drop-append-le i l rest (omega arith)) in
    let long : (at + j) - (at + i) ≡ j - i = omega arith in
    let left = length-drop i l in
    ap (λ n. take n (drop (at + i) bytes)) long
    ∙ (ap (take (j - i)) from ∙ take-append-le (j - i) (drop i l) rest (omega arith))

-- The rows of the parts of one line.

-- the row of a part
abbrev part_text : Format → ℕ → List ℕ → (number offset : ℕ) → List ℕ → List ℕ
part_text format end name number offset text =
    row format end name number offset 58 (in_color format.colored part_color text)

-- where a line stands, by where the first line stands
abbrev IsPlaced : (first start number offset at seen : ℕ) → Type 0
IsPlaced first start number offset at seen = (number ≡ first + seen) × (offset ≡ start + at)

own_rows : (format : Format) (end : ℕ) (name : List ℕ) (first start number offset at seen : ℕ) (bytes l : List ℕ)
    (ps : List (ℕ × ℕ))
    → IsPlaced first start number offset at seen → slice_range bytes at (at + length l) ≡ l
    → AllByRecursion (IsIn l) ps
    → flat_map (λ p. part_text format end name number (offset + p.0) (slice_range l p.0 p.1)) ps
    ≡ flat_map (part_row format end name first start bytes) (map (part_at at seen) ps)
own_rows format end name first start number offset at seen bytes l [] is text each = refl
own_rows format end name first start number offset at seen bytes l (p ∷ ps) is text each =
    let later = flat_map (part_row format end name first start bytes) (map (part_at at seen) ps) in
    let place : offset + p.0 ≡ start + (at + p.0) = omega (arith, is.1) in
    ap (λ xs. part_text format end name number (offset + p.0) (slice_range l p.0 p.1) ++ xs)
    (own_rows format end name first start number offset at seen bytes l ps is text each.1)
    ∙ (ap (λ n. part_text format end name n (offset + p.0) (slice_range l p.0 p.1) ++ later) is.0
    ∙ (ap (λ n. part_text format end name (first + seen) n (slice_range l p.0 p.1) ++ later) place
    ∙ ap (λ xs. part_text format end name (first + seen) (start + (at + p.0)) xs ++ later)
    (sym (slice_in bytes l at p.0 p.1 text each.0.0 each.0.1))))

-- the line stands before the cut, or behind it
own_all : (cut at seen : ℕ) (ps : List (ℕ × ℕ)) → nat_lt seen cut ≡ true
    → filter (λ (p : Part). nat_lt p.line cut) (map (part_at at seen) ps) ≡ map (part_at at seen) ps
own_all cut at seen [] less = refl
own_all cut at seen (p ∷ ps) less =
    let rest = filter (λ (p : Part). nat_lt p.line cut) (map (part_at at seen) ps) in
    ap (λ b. cond b (part_at at seen p ∷ rest) rest) less
    ∙ ap (λ xs. part_at at seen p ∷ xs) (own_all cut at seen ps less)

own_none : (cut at seen : ℕ) (ps : List (ℕ × ℕ)) → nat_lt seen cut ≡ false
    → filter (λ (p : Part). nat_lt p.line cut) (map (part_at at seen) ps) ≡ []
own_none cut at seen [] beyond = refl
own_none cut at seen (p ∷ ps) beyond =
    let rest = filter (λ (p : Part). nat_lt p.line cut) (map (part_at at seen) ps) in
    ap (λ b. cond b (part_at at seen p ∷ rest) rest) beyond ∙ own_none cut at seen ps beyond

-- no part is shown behind the cut
behind_cut : (q : Search) (cut at seen : ℕ) (ls : List (List ℕ)) → cut ≤ seen
    → filter (λ (p : Part). nat_lt p.line cut) (told_of_lines q at seen ls) ≡ []
behind_cut q cut at seen [] le = refl
behind_cut q cut at seen (l ∷ ls) le =
    let later = told_of_lines q (at + (length l + 1)) (seen + 1) ls in
    let own = cond (selects q l) (map (part_at at seen) (told_parts q l)) [] in
    filter-append (λ (p : Part). nat_lt p.line cut) own later
    ∙ (ap (λ xs. filter (λ (p : Part). nat_lt p.line cut) own ++ xs)
    (behind_cut q cut (at + (length l + 1)) (seen + 1) ls (omega arith))
    ∙ (append-nil (filter (λ (p : Part). nat_lt p.line cut) own) ∙ of_own (selects q l)))
  where
    of_own : (s : Bool) → filter (λ (p : Part). nat_lt p.line cut)
        (cond s (map (part_at at seen) (told_parts q l)) []) ≡ []
    of_own true = own_none cut at seen (told_parts q l) (le-ltb seen cut le)
    of_own false = refl

-- The rows of the parts of lines.

-- what is found is what is told line by line
found_told : (q : Search) (at seen : ℕ) (ls : List (List ℕ))
    → cond q.text.with_parts (parts_of_lines q at seen ls) [] ≡ told_of_lines q at seen ls
found_told q at seen [] = none_found q.text.with_parts
  where
    none_found : (pieces : Bool) → cond pieces (parts_of_lines q at seen []) [] ≡ told_of_lines q at seen []
    none_found true = refl
    none_found false = refl
found_told q at seen (l ∷ ls) =
    go q.text.with_parts (selects q l) (found_told q (at + (length l + 1)) (seen + 1) ls)
  where
    go : (pieces s : Bool)
        → cond pieces (parts_of_lines q (at + (length l + 1)) (seen + 1) ls) []
        ≡ told_of_lines q (at + (length l + 1)) (seen + 1) ls
        → cond pieces (cond s (map (part_at at seen) (parts_of_line q l)) []
        ++ parts_of_lines q (at + (length l + 1)) (seen + 1) ls) []
        ≡ cond s (map (part_at at seen) (cond pieces (parts_of_line q l) [])) []
        ++ told_of_lines q (at + (length l + 1)) (seen + 1) ls
    go true s ih = ap (λ xs. cond s (map (part_at at seen) (parts_of_line q l)) [] ++ xs) ih
    go false true ih = ih
    go false false ih = ih

pub found_lines_told : (q : Search) (bytes : List ℕ) (runs : List Run) (ps : List Part) (count : ℕ)
    → HasFound q bytes runs ps count → ps ≡ told_of_lines q 0 0 (lines (terminator q) bytes)
found_lines_told q bytes runs ps count h = h.found_parts ∙ found_told q 0 0 (lines (terminator q) bytes)

step_number : (format : Format) (t : Trail) (selected : Bool) (l : List ℕ)
    → (step format t selected l).number ≡ t.number + 1
step_number format t selected l = go (keeps format t selected) (nat_lt 0 t.countdown)
  where
    go : (k b : Bool)
        → (with_offset (t.offset + (length l + 1))
        (cond k (after_kept format t) (cond b (after_context t) (after_other format t l)))).number ≡ t.number + 1
    go true b = refl
    go false true = refl
    go false false = refl

rows_apart : (rows : Part → List ℕ) (test : Part → Bool) (xs ys : List Part)
    → flat_map rows (filter test (xs ++ ys)) ≡ flat_map rows (filter test xs) ++ flat_map rows (filter test ys)
rows_apart rows test xs ys =
    ap (flat_map rows) (filter-append test xs ys) ∙ flat_map-append rows (filter test xs) (filter test ys)

-- where the rows of the lines behind are known
abbrev RowsAre : Search → Format → List ℕ → (first start : ℕ) → List ℕ → Trail → ℕ → ℕ → List (List ℕ) → Type 0
RowsAre q format name first start bytes t at seen ls =
    run_pieces q format name t ls ≡ rows_of_parts format (terminator q) name first start
    (seen + cut_at q format.limit t.kept ls) bytes (told_of_lines q at seen ls)

line_unselected : (q : Search) (format : Format) (name : List ℕ) (first start : ℕ) (bytes : List ℕ) (t : Trail)
    (at seen : ℕ)
    (l : List ℕ) (ls : List (List ℕ)) → selects q l ≡ false
    → RowsAre q format name first start bytes (step format t (selects q l) l) (at + (length l + 1)) (seen + 1) ls
    → RowsAre q format name first start bytes t at seen (l ∷ ls)
line_unselected q format name first start bytes t at seen l ls off ih =
    let s = selects q l in
    let b = is_below t.kept format.limit in
    let next = step format t s l in
    let later = told_of_lines q (at + (length l + 1)) (seen + 1) ls in
    let own = map (part_at at seen) (told_parts q l) in
    let shown = λ (cut : ℕ) (ps : List Part). rows_of_parts format (terminator q) name first start cut bytes ps in
    let unkept : keeps format t s ≡ false = and_left s b off in
    let kept_cut = ap (λ k. cut_at q format.limit k ls) (step_unkept format t s l unkept) in
    let cut : cut_at q format.limit t.kept (l ∷ ls) ≡ cut_at q format.limit t.kept ls + 1 =
    ap (λ x. cond x (cond b (cut_at q format.limit (t.kept + 1) ls + 1) 0) (cut_at q format.limit t.kept ls + 1)) off in
    let sum : (seen + 1) + cut_at q format.limit next.kept ls ≡ seen + cut_at q format.limit t.kept (l ∷ ls) =
    omega arith in
    ap (λ k. when k (pieces_in q format name (t.number + 1) t.offset l) ++ run_pieces q format name next ls) unkept
    ∙ (ih ∙ (ap (λ n. shown n later) sum
    ∙ ap (λ x. shown (seen + cut_at q format.limit t.kept (l ∷ ls)) (cond x own [] ++ later)) (sym off)))

line_kept : (q : Search) (format : Format) (name : List ℕ) (first start : ℕ) (bytes : List ℕ) (t : Trail)
    (at seen : ℕ)
    (l : List ℕ) (ls : List (List ℕ)) → selects q l ≡ true → is_below t.kept format.limit ≡ true
    → IsPlaced first start (t.number + 1) t.offset at seen → slice_range bytes at (at + length l) ≡ l
    → RowsAre q format name first start bytes (step format t (selects q l) l) (at + (length l + 1)) (seen + 1) ls
    → RowsAre q format name first start bytes t at seen (l ∷ ls)
line_kept q format name first start bytes t at seen l ls on below is text ih =
    let s = selects q l in
    let b = is_below t.kept format.limit in
    let next = step format t s l in
    let later = told_of_lines q (at + (length l + 1)) (seen + 1) ls in
    let own = map (part_at at seen) (told_parts q l) in
    let rows = part_row format (terminator q) name first start bytes in
    let shown = λ (cut : ℕ) (ps : List Part). rows_of_parts format (terminator q) name first start cut bytes ps in
    let kept : keeps format t s ≡ true = and_from s b on below in
    let kept_cut = ap (λ (u : Trail). cut_at q format.limit u.kept ls) (step_kept format t s l kept) in
    let cut : cut_at q format.limit t.kept (l ∷ ls) ≡ cut_at q format.limit (t.kept + 1) ls + 1 =
    ap (λ x. cond x (cond b (cut_at q format.limit (t.kept + 1) ls + 1) 0) (cut_at q format.limit t.kept ls + 1)) on
    ∙ ap (λ x. cond x (cut_at q format.limit (t.kept + 1) ls + 1) 0) below in
    let whole : ℕ = seen + cut_at q format.limit t.kept (l ∷ ls) in
    let sum : (seen + 1) + cut_at q format.limit next.kept ls ≡ whole = omega arith in
    let here : pieces_in q format name (t.number + 1) t.offset l ≡ shown whole own =
    own_rows format (terminator q) name first start (t.number + 1) t.offset at seen bytes l (told_parts q l) is text
    (parts_within q l)
    ∙ ap (flat_map rows) (sym (own_all whole at seen (told_parts q l) (lt-ltb seen whole (omega arith)))) in
    ap (λ k. when k (pieces_in q format name (t.number + 1) t.offset l) ++ run_pieces q format name next ls) kept
    ∙ (ap (λ xs. xs ++ run_pieces q format name next ls) here
    ∙ (ap (λ xs. shown whole own ++ xs) (ih ∙ ap (λ n. shown n later) sum)
    ∙ (sym (rows_apart rows (λ (p : Part). nat_lt p.line whole) own later)
    ∙ ap (λ x. shown whole (cond x own [] ++ later)) (sym on))))

line_beyond : (q : Search) (format : Format) (name : List ℕ) (first start : ℕ) (bytes : List ℕ) (t : Trail)
    (at seen : ℕ)
    (l : List ℕ) (ls : List (List ℕ)) → selects q l ≡ true → is_below t.kept format.limit ≡ false
    → RowsAre q format name first start bytes t at seen (l ∷ ls)
line_beyond q format name first start bytes t at seen l ls on full =
    let b = is_below t.kept format.limit in
    let rows = part_row format (terminator q) name first start bytes in
    let cut : cut_at q format.limit t.kept (l ∷ ls) ≡ 0 =
    ap (λ x. cond x (cond b (cut_at q format.limit (t.kept + 1) ls + 1) 0) (cut_at q format.limit t.kept ls + 1)) on
    ∙ ap (λ x. cond x (cut_at q format.limit (t.kept + 1) ls + 1) 0) full in
    passed_pieces q format name t (l ∷ ls) (full_unkept q format t (l ∷ ls) full)
    ∙ sym (ap (flat_map rows) (behind_cut q (seen + cut_at q format.limit t.kept (l ∷ ls)) at seen (l ∷ ls)
    (omega arith)))

-- the rows of what was found in lines that stand in the bytes, behind some lines of the file
pieces_rows : (q : Search) (format : Format) (name : List ℕ) (first start : ℕ) (bytes : List ℕ) (t : Trail)
    (at seen : ℕ)
    (ls : List (List ℕ)) → IsPlaced first start (t.number + 1) t.offset at seen → AreAt bytes at ls
    → RowsAre q format name first start bytes t at seen
    ls
pieces_rows q format name first start bytes t at seen [] is texts = refl
pieces_rows q format name first start bytes t at seen (l ∷ ls) is texts =
    let next = step format t (selects q l) l in
    let number : next.number + 1 ≡ first + (seen + 1) = omega (arith, is.0, step_number format t (selects q l) l) in
    let offset : t.offset + (length l + 1) ≡ start + (at + (length l + 1)) = omega (arith, is.1) in
    let ih = pieces_rows q format name first start bytes next (at + (length l + 1)) (seen + 1) ls (number, offset)
    texts.2 in
    elim (cases_Bool (selects q l)) [
      | inr off ↦ line_unselected q format name first start bytes t at seen l ls off ih
      | inl on ↦ elim (cases_Bool (is_below t.kept format.limit)) [
        | inl below ↦ line_kept q format name first start bytes t at seen l ls on below is texts.0 ih
        | inr full ↦ line_beyond q format name first start bytes t at seen l ls on full
      ]
    ]

pub block_pieces : (q : Search) (format : Format) (name : List ℕ) (t : Trail) (bytes : List ℕ) →
    run_pieces q format name t (lines (terminator q) bytes) ≡ rows_of_parts format (terminator q) name (t.number + 1)
    t.offset
    (cut_at q format.limit t.kept (lines (terminator q) bytes)) bytes
    (told_of_lines q 0 0 (lines (terminator q) bytes))
block_pieces q format name t bytes =
    let ls = lines (terminator q) bytes in
    let start : 0 + cut_at q format.limit t.kept ls ≡ cut_at q format.limit t.kept ls = omega arith in
    pieces_rows q format name (t.number + 1) t.offset bytes t 0 0 ls (omega arith, omega arith)
    (lines_at (terminator q) bytes)
    ∙ ap (λ n. rows_of_parts format (terminator q) name (t.number + 1) t.offset n bytes (told_of_lines q 0 0 ls)) start

-- The parts stand in the bytes.

own_fit : (bytes l : List ℕ) (at seen : ℕ) (ps : List (ℕ × ℕ)) → at + length l ≤ length bytes → AllByRecursion (IsIn l)
    ps
    → AllByRecursion (IsPartOf bytes) (map (part_at at seen) ps)
own_fit bytes l at seen [] within each = tt
own_fit bytes l at seen (p ∷ ps) within each =
    ((omega (arith, each.0.0), omega (arith, each.0.1)), own_fit bytes l at seen ps within each.1)

all_join : {X : Type 0} (P : X → Type 0) (xs ys : List X) → AllByRecursion P xs → AllByRecursion P ys
    → AllByRecursion P (xs ++ ys)
all_join P [] ys h k = k
all_join P (x ∷ xs) ys h k = (h.0, all_join P xs ys h.1 k)

fit_from : (q : Search) (bytes : List ℕ) (at seen : ℕ) (ls : List (List ℕ)) → AreAt bytes at ls
    → AllByRecursion (IsPartOf bytes) (told_of_lines q at seen ls)
fit_from q bytes at seen [] texts = tt
fit_from q bytes at seen (l ∷ ls) texts =
    all_join (IsPartOf bytes) (cond (selects q l) (map (part_at at seen) (told_parts q l)) [])
    (told_of_lines q (at + (length l + 1)) (seen + 1) ls) (of_own (selects q l))
    (fit_from q bytes (at + (length l + 1)) (seen + 1) ls texts.2)
  where
    of_own : (s : Bool) → AllByRecursion (IsPartOf bytes) (cond s (map (part_at at seen) (told_parts q l)) [])
    of_own true = own_fit bytes l at seen (told_parts q l) texts.1 (parts_within q l)
    of_own false = tt

each_of : {X : Type 0} (P : X → Type 0) (d : X) (xs : List X) → AllByRecursion P xs → (k : ℕ) → k < length xs
    → P (get_or xs k d)
each_of P d [] h k below = absurd (omega (arith, below))
each_of P d (x ∷ xs) h zero below = h.0
each_of P d (x ∷ xs) h (suc k) below = each_of P d xs h.1 k (omega (arith, below))

pub parts_fit : (q : Search) (bytes : List ℕ) (ps : List Part)
    → ps ≡ told_of_lines q 0 0 (lines (terminator q) bytes) → (k : ℕ) → k < length ps
    → IsPartOf bytes (get_or ps k no_part)
parts_fit q bytes ps is k below =
    let P : List Part → Type 0 = λ xs. AllByRecursion (IsPartOf bytes) xs in
    each_of (IsPartOf bytes) no_part ps (subst P (sym is)
    (fit_from q bytes 0 0 (lines (terminator q) bytes) (lines_at (terminator q) bytes))) k below

-- Where the first selected line stands that isn't kept.

cut_gap : (q : Search) (limit : Option ℕ) (kept : ℕ) (gap xs : List (List ℕ)) → AllSelected q false gap
    → cut_at q limit kept (gap ++ xs) ≡ length gap + cut_at q limit kept xs
cut_gap q limit kept [] xs h = omega arith
cut_gap q limit kept (l ∷ gap) xs h =
    let this = ap (λ x. cond x (cond (is_below kept limit) (cut_at q limit (kept + 1) (gap ++ xs) + 1) 0)
    (cut_at q limit kept (gap ++ xs) + 1)) h.0 in
    let later = cut_gap q limit kept gap xs h.1 in
    omega arith

one_kept : (q : Search) (limit kept : ℕ) (l : List ℕ) (ls : List (List ℕ)) → selects q l ≡ true → kept < limit
    → cut_at q (Some limit) kept (l ∷ ls) ≡ cut_at q (Some limit) (kept + 1) ls + 1
one_kept q limit kept l ls on less =
    ap (λ x. cond x (cond (nat_lt kept limit) (cut_at q (Some limit) (kept + 1) ls + 1) 0)
    (cut_at q (Some limit) kept ls + 1)) on
    ∙ ap (λ x. cond x (cut_at q (Some limit) (kept + 1) ls + 1) 0) (lt-ltb kept limit less)

cut_text : (q : Search) (limit kept : ℕ) (text xs : List (List ℕ)) → AllSelected q true text
    → length text ≤ limit - kept
    → cut_at q (Some limit) kept (text ++ xs) ≡ length text + cut_at q (Some limit) (kept + length text) xs
cut_text q limit kept [] xs h fits =
    let same : kept ≡ kept + 0 = omega arith in
    let cut = ap (λ k. cut_at q (Some limit) k xs) same in omega arith
cut_text q limit kept (l ∷ text) xs h fits =
    let this = one_kept q limit kept l (text ++ xs) h.0 (omega arith) in
    let later = cut_text q limit (kept + 1) text xs h.1 (omega arith) in
    let sum : (kept + 1) + length text ≡ kept + length (l ∷ text) = omega arith in
    let cut = ap (λ k. cut_at q (Some limit) k xs) sum in
    omega arith

cut_in : (q : Search) (limit kept : ℕ) (text xs : List (List ℕ)) → AllSelected q true text
    → limit - kept < length text → cut_at q (Some limit) kept (text ++ xs) ≡ limit - kept
cut_in q limit kept [] xs h less = absurd (omega (arith, less))
cut_in q limit kept (l ∷ text) xs h less = elim (cases_lt kept limit) [
  | inl below ↦
      let this = one_kept q limit kept l (text ++ xs) h.0 below in
      let later = cut_in q limit (kept + 1) text xs h.1 (omega arith) in
      omega arith
  | inr full ↦
      let this = ap (λ x. cond x (cond (nat_lt kept limit) (cut_at q (Some limit) (kept + 1) (text ++ xs) + 1) 0)
      (cut_at q (Some limit) kept (text ++ xs) + 1)) h.0
      ∙ ap (λ x. cond x (cut_at q (Some limit) (kept + 1) (text ++ xs) + 1) 0) (le-ltb kept limit full) in
      omega arith
]

pub cut_unlimited : (q : Search) (kept : ℕ) (ls : List (List ℕ)) → cut_at q None kept ls ≡ length ls
cut_unlimited q kept [] = refl
cut_unlimited q kept (l ∷ ls) = go (selects q l) (cut_unlimited q (kept + 1) ls) (cut_unlimited q kept ls)
  where
    go : (s : Bool) → cut_at q None (kept + 1) ls ≡ length ls → cut_at q None kept ls ≡ length ls
        → cond s (cut_at q None (kept + 1) ls + 1) (cut_at q None kept ls + 1) ≡ length (l ∷ ls)
    go true further same = omega arith
    go false further same = omega arith

-- behind some runs of which each line is kept
pub record IsCutBehind (q : Search) (limit kept : ℕ) (ls : List (List ℕ)) (left : ℕ) (runs : List Run) : Type 0 where
  pub front : List (List ℕ)
  pub rest : List (List ℕ)
  pub before : ℕ
  pub joins : ls ≡ front ++ rest
  pub room : left ≡ limit - before
  pub ahead : AreStretches q (length front) rest runs
  pub cut : cut_at q (Some limit) kept ls ≡ length front + cut_at q (Some limit) before rest

pub cut_start : (q : Search) (limit kept : ℕ) (bytes : List ℕ) (left : ℕ) (runs : List Run) → AreRuns q 0 0 bytes runs
    → left ≡ limit - kept → IsCutBehind q limit kept (lines (terminator q) bytes) left runs
cut_start q limit kept bytes left runs are room = record {
  front = [];
  rest = lines (terminator q) bytes;
  before = kept;
  joins = refl;
  room = room;
  ahead = stretches q 0 0 bytes runs are;
  cut = omega arith;
}

-- behind one more
pub cut_more : (q : Search) (limit kept : ℕ) (ls : List (List ℕ)) (left : ℕ) (here : Run) (runs : List Run)
    → IsCutBehind q limit kept ls left (here ∷ runs) → here.count ≤ left
    → IsCutBehind q limit kept ls (left - here.count) runs
cut_more q limit kept ls left here runs h fits =
    let n = h.ahead.0 in
    let first = n.first in
    let many = n.count in
    let room = h.room in
    let long = length-append h.front (n.gap ++ n.text) ∙ ap (λ k. length h.front + k) (length-append n.gap n.text) in
    let seen : here.first + here.count ≡ length (h.front ++ (n.gap ++ n.text)) = omega arith in
    let P : ℕ → Type 0 = λ k. AreStretches q k n.later runs in
    let a = h.cut in
    let b = ap (cut_at q (Some limit) h.before) n.joins ∙ cut_gap q (Some limit) h.before n.gap (n.text ++ n.later)
    n.gap_unselected in
    let d = cut_text q limit h.before n.text n.later n.text_selected (omega arith) in
    record {
      front = h.front ++ (n.gap ++ n.text);
      rest = n.later;
      before = h.before + length n.text;
      joins = h.joins ∙ (ap (λ xs. h.front ++ xs) n.joins ∙ simp append_assoc);
      room = omega arith;
      ahead = subst P seen h.ahead.1;
      cut = omega arith;
    }

-- in a run of which some line isn't kept
pub cut_here : (q : Search) (limit kept : ℕ) (ls : List (List ℕ)) (left : ℕ) (here : Run) (runs : List Run)
    → IsCutBehind q limit kept ls left (here ∷ runs) → left < here.count
    → (here.first + left ≡ cut_at q (Some limit) kept ls) × (here.first + left ≤ length ls)
cut_here q limit kept ls left here runs h less =
    let n = h.ahead.0 in
    let first = n.first in
    let many = n.count in
    let room = h.room in
    let long = ap (λ xs. length xs) h.joins ∙ length-append h.front h.rest in
    let tail = ap (λ xs. length xs) n.joins ∙ (length-append n.gap (n.text ++ n.later)
    ∙ ap (λ k. length n.gap + k) (length-append n.text n.later)) in
    let a = h.cut in
    let b = ap (cut_at q (Some limit) h.before) n.joins ∙ cut_gap q (Some limit) h.before n.gap (n.text ++ n.later)
    n.gap_unselected in
    let d = cut_in q limit h.before n.text n.later n.text_selected (omega arith) in
    (omega arith, omega arith)

-- behind the last run
pub cut_last : (q : Search) (limit kept : ℕ) (ls : List (List ℕ)) (left : ℕ)
    → IsCutBehind q limit kept ls left [] → length ls ≡ cut_at q (Some limit) kept ls
cut_last q limit kept ls left h =
    let long = ap (λ xs. length xs) h.joins ∙ length-append h.front h.rest in
    let a = h.cut in
    let b = ap (cut_at q (Some limit) h.before) (sym (append-nil h.rest))
    ∙ cut_gap q (Some limit) h.before h.rest [] h.ahead in
    omega arith

pub no_limit : (limit : Option ℕ) (kept : ℕ) → None ≡ option_map (λ n. n - kept) limit → limit ≡ None
no_limit None kept is = refl
no_limit (Some n) kept is = absurd (cc)
