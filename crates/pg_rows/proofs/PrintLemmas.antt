-- The rows of a block, stretch by stretch.
use Rattle.std.proofs.Common.{◌≡◌, ℕ, ◌+◌, ◌-◌, ◌<◌, ◌≤◌, ◌⊎◌, inl, inr, Bool, true, false}
use Rattle.std.proofs.Common.{◌&&◌, cond}
use Rattle.std.proofs.Common.{nat_lt, min, List, [], ◌∷◌, ◌++◌, length, take, drop, refl, sym, ap, ◌∙◌, subst}
use Rattle.std.proofs.Common.{arith}
use Rattle.std.proofs.Common.{append_assoc, length-append, length-drop}
use Rattle.circular_buffer.specs.Buffer.{keep_last}
use Rattle.std.proofs.lemmas.List.{append-nil, drop-append-le, drop-drop, drop_all}
use Rattle.std.proofs.Math.Seq.{drop-append_seam, take-nil}
use Rattle.pg_selection.specs.Search.{Search, terminator}
use Rattle.pg_blocks.specs.Lines.{lines, AreWhole}
use Rattle.pg_selection.proofs.RunLemmas.{lines_behind}
use Rattle.pg_rows.specs.declared.format.Format.{Format}
use Rattle.pg_rows.specs.declared.progress.Progress.{Progress}
use Rattle.pg_rows.specs.Output.{context, gap_text, has_separators, painted, bytes_in, when, is_below}
use Rattle.pg_rows.specs.Trail.{Trail, run, run_rows, gap_row, context_rows}
use Rattle.pg_rows.specs.Cursor.{Cursor}
use Rattle.pg_rows.specs.Progress.{IsOfTrail, Passes, KeepsLines}
use Rattle.pg_rows.specs.Stretch.{marked_rows, plain, AllSelected, AreUnkept}
use Rattle.pg_rows.specs.Printing.{gap_of, leading, rows_of_kept, rows_of_passed, IsAt}
use Rattle.pg_rows.proofs.FoldLemmas.{rows_append}
use Rattle.pg_rows.proofs.StretchLemmas.{run_append, context_is_marked, passed_rows, passed_trail, kept_lines_rows}
use Rattle.pg_rows.proofs.StretchLemmas.{kept_trail, unselected_unkept, full_unkept, length_keep_last}
use Rattle.pg_rows.proofs.ProgressLemmas.{passes_tells, keeps_tells}
use Rattle.pg_rows.proofs.SizeLemmas.{run_offset, run_place, size_whole}

-- The last ones of some items.

pub last_behind : {X : Type 0} (k : ℕ) (xs ys : List X) → k ≤ length xs
    → keep_last k xs ++ ys ≡ keep_last (k + length ys) (xs ++ ys)
last_behind k xs ys fits =
    let whole = length-append xs ys in
    let same : length xs - k ≡ length (xs ++ ys) - (k + length ys) = omega arith in
    sym (drop-append-le (length xs - k) xs ys (omega arith)) ∙ ap (λ n. drop n (xs ++ ys)) same

pub last_of_last : {X : Type 0} (b k : ℕ) (xs : List X) → k ≤ length xs → keep_last b (keep_last k xs) ≡ keep_last
    (min b k) xs
last_of_last b k xs fits =
    let left = length-drop (length xs - k) xs in
    let same : (length xs - k) + (length (keep_last k xs) - b) ≡ length xs - min b k = omega arith in
    drop-drop (length (keep_last k xs) - b) (length xs - k) xs ∙ ap (λ n. drop n xs) same

-- the window behind more lines that weren't shown
window_more : {X : Type 0} (before behind : ℕ) (window hidden more : List X) → window ≡ keep_last (min before behind)
    hidden
    → min before behind ≤ length hidden
    → keep_last before (window ++ more) ≡ keep_last (min before (behind + length more)) (hidden ++ more)
window_more before behind window hidden more is fits =
    let k = min before behind in
    let whole = length-append hidden more in
    let same : min before (k + length more) ≡ min before (behind + length more) = omega arith in
    ap (λ xs. keep_last before (xs ++ more)) is
    ∙ (ap (keep_last before) (last_behind k hidden more fits)
    ∙ (last_of_last before (k + length more) (hidden ++ more) (omega arith)
    ∙ ap (λ n. keep_last n (hidden ++ more)) same))

pub keep_none : {X : Type 0} (xs : List X) → keep_last 0 xs ≡ []
keep_none xs = drop_all (length xs - 0) xs (omega arith)

-- The rows of a stretch, by the numbers.

gap_is : (format : Format) (end : ℕ) (earlier : Bool) (p : Progress) (t : Trail) → IsOfTrail p format t
    → gap_row format end earlier t ≡ gap_of format end earlier p
gap_is format end earlier p t told =
    ap (λ s. when (has_separators format && cond t.some s earlier) (gap_text format end)) told.skipped
    ∙ ap (λ s. when (has_separators format && cond s (nat_lt (context format.before) p.behind) earlier)
    (gap_text format end))
    (sym told.some)

passed_part : (q : Search) (format : Format) (name : List ℕ) (earlier : Bool) (p : Progress) (t : Trail)
    (ls : List (List ℕ)) → IsOfTrail p format t → AreUnkept q format t ls
    → run_rows q format name earlier t ls ≡ rows_of_passed format (terminator q) name p t.offset ls
passed_part q format name earlier p t ls told unkept =
    passed_rows q format name earlier t ls unkept
    ∙ (ap (λ n. marked_rows format (terminator q) name 45 plain (n + 1) t.offset (take t.countdown ls))
    (sym told.number)
    ∙ ap (λ n. marked_rows format (terminator q) name 45 plain (p.number + 1) t.offset (take n ls))
    (sym told.countdown))

kept_part : (q : Search) (format : Format) (name : List ℕ) (earlier : Bool) (hidden : List (List ℕ)) (p : Progress)
    (t : Trail) (l : List ℕ) (ls : List (List ℕ)) → IsOfTrail p format t → t.window
    ≡ keep_last (leading format p) hidden
    → AllSelected q true (l ∷ ls) → is_below (t.kept + length ls) format.limit ≡ true
    → run_rows q format name earlier t (l ∷ ls) ≡ rows_of_kept format (terminator q) name earlier hidden p t.offset
    (painted q format) (l ∷ ls)
kept_part q format name earlier hidden p t l ls told window selected below =
    let end = terminator q in
    let own : List ℕ = marked_rows format end name 58 (painted q format) (t.number + 1) t.offset (l ∷ ls) in
    let lead : ℕ → List (List ℕ) → List ℕ =
    λ n ws. marked_rows format end name 45 plain n (t.offset - bytes_in ws) ws in
    let number : (t.number + 1) - length t.window ≡ (p.number + 1) - leading format p =
    let a = told.number in let b = told.window in omega arith in
    kept_lines_rows q format name earlier t l ls selected below
    ∙ (ap (λ g. g ++ (context_rows format end name ((t.number + 1) - length t.window) (t.offset - bytes_in t.window)
    t.window ++ own))
    (gap_is format end earlier p t told)
    ∙ ap (λ xs. gap_of format end earlier p ++ xs)
    (ap (λ xs. xs ++ own) (context_is_marked format end name ((t.number + 1) - length t.window)
    (t.offset - bytes_in t.window) t.window
    ∙ (ap (λ n. lead n t.window) number ∙ ap (lead ((p.number + 1) - leading format p)) window))
    ∙ ap (λ n. lead ((p.number + 1) - leading format p) (keep_last (leading format p) hidden)
    ++ marked_rows format end name 58 (painted q format) (n + 1) t.offset (l ∷ ls)) (sym told.number)))

-- The place behind a stretch.

pub behind_front : (at : ℕ) (bytes front rest : List ℕ) → at ≤ length bytes → drop at bytes ≡ front ++ rest
    → (drop (at + length front) bytes ≡ rest) × (at + length front ≤ length bytes)
behind_front at bytes front rest within joins = (
  sym (drop-drop (length front) at bytes) ∙ (ap (drop (length front)) joins ∙ drop-append_seam front rest),
  let left = length-drop at bytes in let e = ap (λ xs. length xs) joins in let s = length-append front rest in omega
      arith,
)

-- how many lines of the blocks before were not shown
pub enough_hidden : (q : Search) (format : Format) (c : Cursor) (hidden : List (List ℕ)) (bytes before after : List ℕ)
    (p : Progress) (at seen : ℕ) → IsAt q format c hidden bytes before after p at seen
    → leading format p ≤ length hidden
enough_hidden q format c hidden bytes before after p at seen h =
    let a = ap (λ xs. length xs) h.window in
    let b = length_keep_last (leading format p) hidden in
    let e = h.tells.window in
    omega arith

-- a line begins at a place behind whole lines
offset_behind : (q : Search) (format : Format) (c : Cursor) (bytes : List ℕ) (at : ℕ) (t : Trail) (front rest : List ℕ)
    → (t.offset ≡ c.trail.offset + at) ⊎ (drop at bytes ≡ []) → drop at bytes ≡ front ++ rest
    → AreWhole (terminator q) front ⊎ (rest ≡ []) → drop (at + length front) bytes ≡ rest
    → ((run q format t (lines (terminator q) front)).offset ≡ c.trail.offset + (at + length front))
    ⊎ (drop (at + length front) bytes ≡ [])
offset_behind q format c bytes at t front rest (inr none) joins whole behind =
    inr (behind ∙ nothing_behind front rest (sym joins ∙ none))
  where
    nothing_behind : (xs ys : List ℕ) → xs ++ ys ≡ [] → ys ≡ []
    nothing_behind [] ys e = e
    nothing_behind (x ∷ xs) ys e = absurd (cc)
offset_behind q format c bytes at t front rest (inl place) joins (inr none) behind = inr (behind ∙ none)
offset_behind q format c bytes at t front rest (inl place) joins (inl whole) behind =
    let a = run_offset q format t (lines (terminator q) front) in
    let b = size_whole (terminator q) front whole in
    inl (omega (arith, a, b, place))

-- more of the rows was written
moves : (q : Search) (format : Format) (c : Cursor) (hidden hidden' : List (List ℕ)) (bytes before after : List ℕ)
    (p later : Progress) (at seen : ℕ) (h : IsAt q format c hidden bytes before after p at seen)
    (front rest more : List ℕ) → drop at bytes ≡ front ++ rest → AreWhole (terminator q) front ⊎ (rest ≡ [])
    → run_rows q format c.name c.earlier h.trail (lines (terminator q) front) ≡ more
    → IsOfTrail later format (run q format h.trail (lines (terminator q) front))
    → (run q format h.trail (lines (terminator q) front)).window ≡ keep_last (leading format later) hidden'
    → IsAt q format c hidden' bytes before (after ++ more) later (at + length front)
    (seen + length (lines (terminator q) front))
moves q format c hidden hidden' bytes before after p later at seen h front rest more joins whole rows told window =
    let end = terminator q in
    let apart = lines_behind end front rest whole in
    let next = behind_front at bytes front rest h.within joins in
    let u = run q format h.trail (lines end front) in
    let all : lines end (drop at bytes) ≡ lines end front ++ lines end rest = ap (lines end) joins ∙ apart in
    let back : lines end (drop (at + length front) bytes) ≡ lines end rest = ap (lines end) next.0 in
    record {
      trail = u;
      tells = told;
      window = window;
      within = next.1;
      offset = offset_behind q format c bytes at h.trail front rest h.offset joins whole next.0;
      room = run_place q format h.trail (lines end front) h.room;
      part = h.part ++ more;
      taken = ap (λ xs. xs ++ more) h.taken ∙ append_assoc before h.part more;
      rows = ap (λ ls. (h.part ++ more) ++ run_rows q format c.name c.earlier u ls) back
          ∙ (append_assoc h.part more (run_rows q format c.name c.earlier u (lines end rest))
          ∙ (ap (λ xs. h.part ++ (xs ++ run_rows q format c.name c.earlier u (lines end rest))) (sym rows)
          ∙ (ap (λ xs. h.part ++ xs)
          (sym (rows_append q format c.name c.earlier h.trail (lines end front) (lines end rest)))
          ∙ (ap (λ ls. h.part ++ run_rows q format c.name c.earlier h.trail ls) (sym all) ∙ h.rows))));
      later = ap (run q format u) back
          ∙ (sym (run_append q format h.trail (lines end front) (lines end rest))
          ∙ (ap (run q format h.trail) (sym all) ∙ h.later));
      count = let e = ap (λ ls. length ls) all in let b = ap (λ ls. length ls) back in
          let s = length-append (lines end front) (lines end rest) in let k = h.count in omega arith;
    }

nothing_before : (xs ys : List ℕ) → xs ++ ys ≡ [] → xs ≡ []
nothing_before [] ys e = refl
nothing_before (x ∷ xs) ys e = absurd (cc)

-- of no lines there are no rows
no_rows : (format : Format) (end : ℕ) (name : List ℕ) (p : Progress) (offset : ℕ) (ls : List (List ℕ)) → ls ≡ []
    → rows_of_passed format end name p offset ls ≡ []
no_rows format end name p offset ls none =
    ap (λ xs. rows_of_passed format end name p offset xs) none
    ∙ ap (marked_rows format end name 45 plain (p.number + 1) offset) (take-nil p.countdown)

-- lines are passed of which none is kept
pub passed_step : (q : Search) (format : Format) (c : Cursor) (hidden : List (List ℕ)) (bytes before after : List ℕ)
    (p later : Progress) (at seen : ℕ) (h : IsAt q format c hidden bytes before after p at seen)
    (front rest : List ℕ) → drop at bytes ≡ front ++ rest → AreWhole (terminator q) front ⊎ (rest ≡ [])
    → AllSelected q false (lines (terminator q) front) ⊎ (is_below p.kept format.limit ≡ false)
    → Passes p (length (lines (terminator q) front)) later
    → IsAt q format c (hidden ++ drop p.countdown (lines (terminator q) front)) bytes before
    (after ++ rows_of_passed format (terminator q) c.name p (c.trail.offset + at) (lines (terminator q) front)) later
    (at + length front) (seen + length (lines (terminator q) front))
passed_step q format c hidden bytes before after p later at seen h front rest joins whole none passes =
    let end = terminator q in
    let ls = lines end front in
    let t = h.trail in
    let unkept : AreUnkept q format t ls = elim none [
      | inl un ↦ unselected_unkept q format t ls un
      | inr full ↦ full_unkept q format t ls (ap (λ n. is_below n format.limit) (sym h.tells.kept) ∙ full)
    ] in
    let others : List (List ℕ) = drop p.countdown ls in
    let fits : length t.window ≤ context format.before = let e = h.tells.window in omega arith in
    let d = passed_trail q format t ls fits unkept in
    let count : length others ≡ length ls - p.countdown = length-drop p.countdown ls in
    let behind : min (context format.before) (p.behind + length others) ≡ leading format later =
    let e = passes.behind in omega arith in
    let window : (run q format t ls).window ≡ keep_last (leading format later) (hidden ++ others) =
    d.window
    ∙ (ap (λ n. keep_last (context format.before) (t.window ++ drop n ls)) (sym h.tells.countdown)
    ∙ (window_more (context format.before) p.behind t.window hidden others h.window
    (enough_hidden q format c hidden bytes before after p at seen h)
    ∙ ap (λ n. keep_last n (hidden ++ others)) behind)) in
    let placed : rows_of_passed format end c.name p t.offset ls
    ≡ rows_of_passed format end c.name p (c.trail.offset + at) ls = elim h.offset [
      | inl place ↦ ap (λ k. rows_of_passed format end c.name p k ls) place
      | inr none ↦
          let nothing : ls ≡ [] = ap (lines end) (nothing_before front rest (sym joins ∙ none)) in
          no_rows format end c.name p t.offset ls nothing
          ∙ sym (no_rows format end c.name p (c.trail.offset + at) ls nothing)
    ] in
    moves q format c hidden (hidden ++ others) bytes before after p later at seen h front rest
    (rows_of_passed format end c.name p (c.trail.offset + at) ls) joins whole
    (passed_part q format c.name c.earlier p t ls h.tells unkept ∙ placed)
    (passes_tells p (length ls) later passes q format t ls refl unkept h.tells) window

-- lines are kept
pub kept_step : (q : Search) (format : Format) (c : Cursor) (hidden hidden' : List (List ℕ))
    (bytes before after : List ℕ) (p later : Progress) (at seen : ℕ)
    (h : IsAt q format c hidden bytes before after p at seen)
    (front rest : List ℕ) → drop at bytes ≡ front ++ rest → AreWhole (terminator q) front ⊎ (rest ≡ [])
    → AllSelected q true (lines (terminator q) front) → 0 < length (lines (terminator q) front)
    → is_below (p.kept + (length (lines (terminator q) front) - 1)) format.limit ≡ true
    → KeepsLines p format (length (lines (terminator q) front)) later
    → IsAt q format c hidden' bytes before
    (after ++ rows_of_kept format (terminator q) c.name c.earlier hidden p (c.trail.offset + at) (painted q format)
    (lines (terminator q) front)) later
    (at + length front) (seen + length (lines (terminator q) front))
kept_step q format c hidden hidden' bytes before after p later at seen h front rest joins whole selected some below
    keeps =
    let end = terminator q in
    moves q format c hidden hidden' bytes before after p later at seen h front rest
    (rows_of_kept format end c.name c.earlier hidden p (c.trail.offset + at) (painted q format) (lines end front)) joins
    whole
    (rows (lines end front) selected some below ∙ ap (λ k. rows_of_kept format end c.name c.earlier hidden p k
    (painted q format) (lines end front)) (place h.offset))
    (told (lines end front) selected some below keeps)
    (window (lines end front) selected some below keeps)
  where
    place : (h.trail.offset ≡ c.trail.offset + at) ⊎ (drop at bytes ≡ []) → h.trail.offset ≡ c.trail.offset + at
    place (inl e) = e
    place (inr none) =
        let nothing = ap (λ xs. length (lines (terminator q) xs)) (nothing_before front rest (sym joins ∙ none)) in
        absurd (omega (arith, some, nothing))

    fits : (l : List ℕ) (ls : List (List ℕ)) → is_below (p.kept + (length (l ∷ ls) - 1)) format.limit ≡ true
        → is_below (h.trail.kept + length ls) format.limit ≡ true
    fits l ls below =
        let same : h.trail.kept + length ls ≡ p.kept + (length (l ∷ ls) - 1) = let e = h.tells.kept in omega arith in
        ap (λ n. is_below n format.limit) same ∙ below

    rows : (ls : List (List ℕ)) → AllSelected q true ls → 0 < length ls
        → is_below (p.kept + (length ls - 1)) format.limit ≡ true
        → run_rows q format c.name c.earlier h.trail ls ≡ rows_of_kept format (terminator q) c.name c.earlier hidden p
        h.trail.offset (painted q format) ls
    rows [] selected some below = absurd (omega (arith, some))
    rows (l ∷ ls) selected some below = kept_part q format c.name c.earlier hidden p h.trail l ls h.tells h.window
        selected
        (fits l ls below)

    told : (ls : List (List ℕ)) → AllSelected q true ls → 0 < length ls
        → is_below (p.kept + (length ls - 1)) format.limit ≡ true → KeepsLines p format (length ls) later
        → IsOfTrail later format (run q format h.trail ls)
    told [] selected some below keeps = absurd (omega (arith, some))
    told (l ∷ ls) selected some below keeps =
        keeps_tells p format (length (l ∷ ls)) later keeps q h.trail l ls refl selected (fits l ls below) h.tells

    window : (ls : List (List ℕ)) → AllSelected q true ls → 0 < length ls
        → is_below (p.kept + (length ls - 1)) format.limit ≡ true → KeepsLines p format (length ls) later
        → (run q format h.trail ls).window ≡ keep_last (leading format later) hidden'
    window [] selected some below keeps = absurd (omega (arith, some))
    window (l ∷ ls) selected some below keeps =
        let none : leading format later ≡ 0 = let e = keeps.behind in omega arith in
        (kept_trail q format h.trail l ls selected (fits l ls below)).window
        ∙ (sym (keep_none hidden') ∙ ap (λ n. keep_last n hidden') (sym none))

-- Where printing begins and ends.

-- no row of the block was written yet
pub at_first : (q : Search) (format : Format) (c : Cursor) (hidden : List (List ℕ)) (bytes taken : List ℕ)
    (p : Progress)
    → IsOfTrail p format c.trail → c.trail.window ≡ keep_last (context format.before) hidden
    → bytes_in c.trail.window ≤ c.trail.offset → IsAt q format c hidden bytes taken taken p 0 0
at_first q format c hidden bytes taken p told window room =
    let a = ap (λ xs. length xs) window in
    let b = length_keep_last (context format.before) hidden in
    let e = told.window in
    let same : length hidden - context format.before ≡ length hidden - leading format p = omega arith in
    record {
      trail = c.trail;
      tells = told;
      window = window ∙ ap (λ n. drop n hidden) same;
      within = omega arith;
      offset = inl (omega arith);
      room = room;
      part = [];
      taken = sym (append-nil taken);
      rows = refl;
      later = refl;
      count = omega arith;
    }

-- all rows were written
pub at_last : (q : Search) (format : Format) (c : Cursor) (hidden : List (List ℕ)) (bytes before after : List ℕ)
    (p : Progress) (at seen : ℕ) → IsAt q format c hidden bytes before after p at seen → at ≡ length bytes
    → (after ≡ before ++ run_rows q format c.name c.earlier c.trail (lines (terminator q) bytes))
    × IsOfTrail p format (run q format c.trail (lines (terminator q) bytes))
    × ((run q format c.trail (lines (terminator q) bytes)).window ≡ keep_last (leading format p) hidden)
at_last q format c hidden bytes before after p at seen h last =
    let end = terminator q in
    let none : lines end (drop at bytes) ≡ [] = ap (lines end) (drop_all at bytes (omega arith)) in
    let same : h.trail ≡ run q format c.trail (lines end bytes) = sym (ap (run q format h.trail) none) ∙ h.later in
    let P : Trail → Type 0 = λ t. IsOfTrail p format t in (
      h.taken ∙ ap (λ xs. before ++ xs) (sym (append-nil h.part)
          ∙ (sym (ap (λ ls. h.part ++ run_rows q format c.name c.earlier h.trail ls) none) ∙ h.rows)),
      subst P same h.tells,
      sym (ap (λ (t : Trail). t.window) same) ∙ h.window,
    )
