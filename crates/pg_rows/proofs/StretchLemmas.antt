-- Whole stretches of lines: what they leave remembered, and their rows.
use Rattle.std.proofs.Common.{◌≡◌, ℕ, zero, suc, ◌+◌, ◌-◌, ◌<◌, ◌≤◌, inl, inr, Bool, true, false, ◌&&◌, ◌||◌, cond}
use Rattle.std.proofs.Common.{nat_le, nat_lt, min, Option, Some, None, List, [], ◌∷◌, ◌++◌, length, take, drop}
use Rattle.std.proofs.Common.{refl}
use Rattle.std.proofs.Common.{sym, ap, ◌∙◌, subst, arith, append_assoc, length-append, length-drop}
use Rattle.std.specs.List.{AllByRecursion}
use Rattle.circular_buffer.specs.Buffer.{keep_last}
use Rattle.std.proofs.lemmas.Bool.{lt-ltb, le-ltb, lt-leb, le-leb, ltb-true, and_from, and_left, and_right, cases_lt}
use Rattle.std.proofs.lemmas.List.{append-nil, drop-append-le, drop-drop}
use Rattle.std.proofs.Math.Seq.{drop-nil}
use Rattle.pg_selection.specs.Search.{Search, terminator}
use Rattle.pg_selection.specs.Selection.{selects}
use Rattle.pg_rows.specs.declared.format.Format.{Format}
use Rattle.pg_rows.specs.Output.{is_below, context, gap_text, bytes_in, when, row, has_separators, painted}
use Rattle.pg_rows.specs.Trail.{Trail, keeps, after_kept, after_context, after_other, step, run, run_rows, pieces_in}
use Rattle.pg_rows.specs.Trail.{run_pieces, gap_row, context_rows, kept_rows, with_offset}
use Rattle.pg_rows.specs.Stretch.{marked_rows, plain, AllSelected, AreUnkept}
use Rattle.pg_rows.proofs.WindowLemmas.{kept_all}
use Rattle.std.proofs.Math.Bool.{or-false}

-- what lines of which none is kept leave remembered: the first ones are shown as trailing context
pub record IsPassed (format : Format) (t : Trail) (ls : List (List ℕ)) (later : Trail) : Type 0 where
  pub number : later.number ≡ t.number + length ls
  pub kept : later.kept ≡ t.kept
  pub countdown : later.countdown ≡ t.countdown - length ls
  pub some : later.some ≡ t.some
  pub skipped : later.skipped
      ≡ (t.skipped || nat_lt (context format.before) (length t.window + length (drop t.countdown ls)))
  pub window : later.window ≡ keep_last (context format.before) (t.window ++ drop t.countdown ls)

-- what so many lines, at least one, that are all kept leave remembered
pub record IsKept (format : Format) (t : Trail) (count : ℕ) (later : Trail) : Type 0 where
  pub number : later.number ≡ t.number + count
  pub kept : later.kept ≡ t.kept + count
  pub countdown : later.countdown ≡ context format.after
  pub some : later.some ≡ true
  pub skipped : later.skipped ≡ false
  pub window : later.window ≡ []

-- Lines behind lines.

pub run_append : (q : Search) (format : Format) (t : Trail) (ls ms : List (List ℕ))
    → run q format t (ls ++ ms) ≡ run q format (run q format t ls) ms
run_append q format t [] ms = refl
run_append q format t (l ∷ ls) ms = run_append q format (step format t (selects q l) l) ls ms

-- Rows with one mark.

pub context_is_marked : (format : Format) (end : ℕ) (name : List ℕ) (number offset : ℕ) (ls : List (List ℕ)) →
    context_rows format end name number offset ls ≡ marked_rows format end name 45 plain number offset ls
context_is_marked format end name number offset [] = refl
context_is_marked format end name number offset (l ∷ ls) =
    ap (λ xs. row format end name number offset 45 l ++ xs)
    (context_is_marked format end name (number + 1) (offset + (length l + 1)) ls)

-- One line that isn't kept.

-- the offset behind a line
abbrev pub further : List ℕ → Trail → Trail → Trail
further l t later = with_offset (t.offset + (length l + 1)) later

step_context : (format : Format) (t : Trail) (selected : Bool) (l : List ℕ) → keeps format t selected ≡ false
    → 0 < t.countdown → step format t selected l ≡ further l t (after_context t)
step_context format t selected l unkept some =
    ap (λ b. further l t (cond b (after_kept format t)
    (cond (nat_lt 0 t.countdown) (after_context t) (after_other format t l)))) unkept
    ∙ ap (λ b. further l t (cond b (after_context t) (after_other format t l))) (lt-ltb 0 t.countdown some)

step_other : (format : Format) (t : Trail) (selected : Bool) (l : List ℕ) → keeps format t selected ≡ false
    → t.countdown ≤ 0 → step format t selected l ≡ further l t (after_other format t l)
step_other format t selected l unkept none =
    ap (λ b. further l t (cond b (after_kept format t)
    (cond (nat_lt 0 t.countdown) (after_context t) (after_other format t l)))) unkept
    ∙ ap (λ b. further l t (cond b (after_context t) (after_other format t l))) (le-ltb 0 t.countdown none)

pub step_unkept : (format : Format) (t : Trail) (selected : Bool) (l : List ℕ) → keeps format t selected ≡ false
    → (step format t selected l).kept ≡ t.kept
step_unkept format t selected l unkept = elim (cases_lt 0 t.countdown) [
  | inl some ↦ ap (λ u. u.kept) (step_context format t selected l unkept some)
  | inr none ↦ ap (λ u. u.kept) (step_other format t selected l unkept none)
]

-- whether lines are kept depends only on how many were
unkept_same : (q : Search) (format : Format) (t u : Trail) (ls : List (List ℕ)) → t.kept ≡ u.kept
    → AreUnkept q format t ls → AreUnkept q format u ls
unkept_same q format t u ls same unkept =
    let P : ℕ → Type 0 = λ k. AllByRecursion (λ l. (selects q l && is_below k format.limit) ≡ false) ls in
    subst P same unkept

unkept_next : (q : Search) (format : Format) (t : Trail) (l : List ℕ) (ls : List (List ℕ))
    → AreUnkept q format t (l ∷ ls) → AreUnkept q format (step format t (selects q l) l) ls
unkept_next q format t l ls unkept =
    unkept_same q format t (step format t (selects q l) l) ls
    (sym (step_unkept format t (selects q l) l unkept.0)) unkept.1

-- Lines of which none is kept.

rows_of_counted : (q : Search) (format : Format) (name : List ℕ) (earlier : Bool) (t : Trail) (ls : List (List ℕ))
    (count : ℕ) → t.countdown ≡ count → AreUnkept q format t ls →
    run_rows q format name earlier t ls
    ≡ marked_rows format (terminator q) name 45 plain (t.number + 1) t.offset (take count ls)
rows_of_counted q format name earlier t [] zero same unkept = refl
rows_of_counted q format name earlier t [] (suc count) same unkept = refl
rows_of_counted q format name earlier t (l ∷ ls) zero same unkept =
    let s = selects q l in
    let none : t.countdown ≤ 0 = omega arith in
    let next = step format t s l in
    let is_other = step_other format t s l unkept.0 none in
    ap (λ b. cond b (kept_rows format (terminator q) name earlier t (painted q format l))
    (when (nat_lt 0 t.countdown) (row format (terminator q) name (t.number + 1) t.offset 45 l))
    ++ run_rows q format name earlier next ls) unkept.0
    ∙ (ap (λ b. when b (row format (terminator q) name (t.number + 1) t.offset 45 l)
    ++ run_rows q format name earlier next ls)
    (le-ltb 0 t.countdown none)
    ∙ rows_of_counted q format name earlier next ls zero (ap (λ u. u.countdown) is_other ∙ same)
    (unkept_next q format t l ls unkept))
rows_of_counted q format name earlier t (l ∷ ls) (suc count) same unkept =
    let s = selects q l in
    let some : 0 < t.countdown = omega arith in
    let next = step format t s l in
    let is_context = step_context format t s l unkept.0 some in
    let own = row format (terminator q) name (t.number + 1) t.offset 45 l in
    let less : t.countdown - 1 ≡ count = omega arith in
    ap (λ b. cond b (kept_rows format (terminator q) name earlier t (painted q format l))
    (when (nat_lt 0 t.countdown) own)
    ++ run_rows q format name earlier next ls) unkept.0
    ∙ (ap (λ b. when b own ++ run_rows q format name earlier next ls) (lt-ltb 0 t.countdown some)
    ∙ (ap (λ xs. own ++ xs) (rows_of_counted q format name earlier next ls count
    (ap (λ u. u.countdown) is_context ∙ less) (unkept_next q format t l ls unkept))
    ∙ (ap (λ k. own ++ marked_rows format (terminator q) name 45 plain (k + 1) next.offset (take count ls))
    (ap (λ u. u.number) is_context)
    ∙ ap (λ k. own ++ marked_rows format (terminator q) name 45 plain ((t.number + 1) + 1) k (take count ls))
    (ap (λ u. u.offset) is_context))))

-- their rows are those of the trailing context
pub passed_rows : (q : Search) (format : Format) (name : List ℕ) (earlier : Bool) (t : Trail) (ls : List (List ℕ))
    → AreUnkept q format t ls →
    run_rows q format name earlier t ls
    ≡ marked_rows format (terminator q) name 45 plain (t.number + 1) t.offset (take t.countdown ls)
passed_rows q format name earlier t ls unkept = rows_of_counted q format name earlier t ls t.countdown refl unkept

pub passed_pieces : (q : Search) (format : Format) (name : List ℕ) (t : Trail) (ls : List (List ℕ))
    → AreUnkept q format t ls → run_pieces q format name t ls ≡ []
passed_pieces q format name t [] unkept = refl
passed_pieces q format name t (l ∷ ls) unkept =
    let next = step format t (selects q l) l in
    ap (λ b. when b (pieces_in q format name (t.number + 1) t.offset l) ++ run_pieces q format name next ls) unkept.0
    ∙ passed_pieces q format name next ls (unkept_next q format t l ls unkept)

keep_last_twice : {X : Type 0} (limit : ℕ) (xs ys : List X)
    → keep_last limit (keep_last limit xs ++ ys) ≡ keep_last limit (xs ++ ys)
keep_last_twice limit xs ys =
    let off = length xs - limit in
    let within : off ≤ length xs = omega arith in
    let joined = drop-append-le off xs ys within in
    let whole = length-append xs ys in
    let left = length-drop off (xs ++ ys) in
    let same : off + (length (drop off (xs ++ ys)) - limit) ≡ length (xs ++ ys) - limit = omega arith in
    ap (keep_last limit) (sym joined)
    ∙ (drop-drop (length (drop off (xs ++ ys)) - limit) off (xs ++ ys)
    ∙ ap (λ k. drop k (xs ++ ys)) same)

pub length_keep_last : {X : Type 0} (limit : ℕ) (xs : List X) → length (keep_last limit xs) ≡ min limit (length xs)
length_keep_last limit xs = let left = length-drop (length xs - limit) xs in omega arith

-- whether lines are left out of the window, one line more and then others
left_out : (limit window rest window' : ℕ) (skipped : Bool) → window ≤ limit → window' ≡ min limit (window + 1) →
    ((skipped || nat_le limit window) || nat_lt limit (window' + rest)) ≡ (skipped || nat_lt limit (window + suc rest))
left_out limit window rest window' true fits same = refl
left_out limit window rest window' false fits same = elim (cases_lt window limit) [
  | inl less ↦ let sum : window' + rest ≡ window + suc rest = omega arith in
      ap (λ b. b || nat_lt limit (window' + rest)) (lt-leb limit window less) ∙ ap (nat_lt limit) sum
  | inr full ↦ ap (λ b. b || nat_lt limit (window' + rest)) (le-leb limit window full)
      ∙ sym (lt-ltb limit (window + suc rest) (omega arith))
]

passed_counted : (q : Search) (format : Format) (t : Trail) (ls : List (List ℕ)) (count : ℕ) → t.countdown ≡ count
    → length t.window ≤ context format.before → AreUnkept q format t ls → IsPassed format t ls (run q format t ls)
passed_counted q format t [] count same fits unkept =
    let before = context format.before in
    let none = drop-nil {A = List ℕ} t.countdown in
    record {
      number = omega arith;
      kept = refl;
      countdown = omega arith;
      some = refl;
      skipped = sym (ap (λ b. t.skipped || b)
          (ap (λ xs. nat_lt before (length t.window + length xs)) none
          ∙ le-ltb before (length t.window + 0) (omega arith)) ∙ or-false t.skipped);
      window = sym (ap (λ xs. keep_last before (t.window ++ xs)) none
          ∙ (ap (keep_last before) (append-nil t.window) ∙ kept_all before t.window fits));
    }
passed_counted q format t (l ∷ ls) zero same fits unkept =
    let before = context format.before in
    let next = step format t (selects q l) l in
    let is_other = step_other format t (selects q l) l unkept.0 (omega arith) in
    let number = ap (λ u. u.number) is_other in
    let kept = ap (λ u. u.kept) is_other in
    let countdown = ap (λ u. u.countdown) is_other in
    let some = ap (λ u. u.some) is_other in
    let skipped = ap (λ u. u.skipped) is_other in
    let window = ap (λ u. u.window) is_other in
    let long : length next.window ≡ min before (length t.window + 1) = ap (λ xs. length xs) window
    ∙ (length_keep_last before (t.window ++ l ∷ []) ∙ ap (min before) (length-append t.window (l ∷ []))) in
    let later = passed_counted q format next ls zero (countdown ∙ same) (omega arith)
    (unkept_next q format t l ls unkept) in
    let all : drop t.countdown (l ∷ ls) ≡ l ∷ ls = ap (λ k. drop k (l ∷ ls)) same in
    let others : drop next.countdown ls ≡ ls = ap (λ k. drop k ls) (countdown ∙ same) in
    record {
      number = let e = later.number in omega arith;
      kept = later.kept ∙ kept;
      countdown = let e = later.countdown in omega arith;
      some = later.some ∙ some;
      skipped = later.skipped
          ∙ (ap (λ b. b || nat_lt before (length next.window + length (drop next.countdown ls))) skipped
          ∙ (ap (λ xs. (t.skipped || nat_le before (length t.window)) || nat_lt before
          (length next.window + length xs)) others
          ∙ (left_out before (length t.window) (length ls) (length next.window) t.skipped fits long
          ∙ ap (λ xs. t.skipped || nat_lt before (length t.window + length xs)) (sym all))));
      window = later.window
          ∙ (ap (λ xs. keep_last before (next.window ++ xs)) others
          ∙ (ap (λ xs. keep_last before (xs ++ ls)) window
          ∙ (keep_last_twice before (t.window ++ l ∷ []) ls
          ∙ (ap (keep_last before) (append_assoc t.window (l ∷ []) ls)
          ∙ ap (λ xs. keep_last before (t.window ++ xs)) (sym all)))));
    }
passed_counted q format t (l ∷ ls) (suc count) same fits unkept =
    let before = context format.before in
    let next = step format t (selects q l) l in
    let is_context = step_context format t (selects q l) l unkept.0 (omega arith) in
    let number = ap (λ u. u.number) is_context in
    let countdown = ap (λ u. u.countdown) is_context in
    let skipped = ap (λ u. u.skipped) is_context in
    let window = ap (λ u. u.window) is_context in
    let less : next.countdown ≡ count = omega arith in
    let P : List (List ℕ) → Type 0 = λ xs. length xs ≤ before in
    let later = passed_counted q format next ls count less (subst P (sym window) fits)
    (unkept_next q format t l ls unkept) in
    let front : drop next.countdown ls ≡ drop t.countdown (l ∷ ls) = ap (λ k. drop k ls) less
    ∙ sym (ap (λ k. drop k (l ∷ ls)) same) in
    record {
      number = let e = later.number in omega arith;
      kept = later.kept ∙ ap (λ u. u.kept) is_context;
      countdown = let e = later.countdown in omega arith;
      some = later.some ∙ ap (λ u. u.some) is_context;
      skipped = later.skipped
          ∙ (ap (λ b. b || nat_lt before (length next.window + length (drop next.countdown ls))) skipped
          ∙ (ap (λ xs. t.skipped || nat_lt before (length xs + length (drop next.countdown ls))) window
          ∙ ap (λ xs. t.skipped || nat_lt before (length t.window + length xs)) front));
      window = later.window
          ∙ (ap (λ xs. keep_last before (xs ++ drop next.countdown ls)) window
          ∙ ap (λ xs. keep_last before (t.window ++ xs)) front);
    }

-- what they leave remembered
pub passed_trail : (q : Search) (format : Format) (t : Trail) (ls : List (List ℕ))
    → length t.window ≤ context format.before → AreUnkept q format t ls → IsPassed format t ls (run q format t ls)
passed_trail q format t ls fits unkept = passed_counted q format t ls t.countdown refl fits unkept

-- Lines that are all kept.

-- fewer lines fit too
pub below_fewer : (limit : Option ℕ) (m n : ℕ) → m ≤ n → is_below n limit ≡ true → is_below m limit ≡ true
below_fewer None m n le below = refl
below_fewer (Some limit) m n le below = let lt = ltb-true n limit below in lt-ltb m limit (omega arith)

pub step_kept : (format : Format) (t : Trail) (selected : Bool) (l : List ℕ) → keeps format t selected ≡ true
    → step format t selected l ≡ further l t (after_kept format t)
step_kept format t selected l kept =
    ap (λ b. further l t (cond b (after_kept format t)
    (cond (nat_lt 0 t.countdown) (after_context t) (after_other format t l)))) kept

-- behind a kept line the rows of kept lines stand alone
more_kept_rows : (q : Search) (format : Format) (name : List ℕ) (earlier : Bool) (t : Trail) (offset : ℕ)
    (ls : List (List ℕ)) → AllSelected q true ls → is_below (t.kept + length ls) format.limit ≡ true →
    run_rows q format name earlier (with_offset offset (after_kept format t)) ls
    ≡ marked_rows format (terminator q) name 58 (painted q format) ((t.number + 1) + 1) offset ls
more_kept_rows q format name earlier t offset [] selected below = refl
more_kept_rows q format name earlier t offset (l ∷ ls) selected below =
    let u = with_offset offset (after_kept format t) in
    let s = selects q l in
    let first : is_below u.kept format.limit ≡ true =
    below_fewer format.limit u.kept (t.kept + suc (length ls)) (omega arith) below in
    let kept : keeps format u s ≡ true = and_from s (is_below u.kept format.limit) selected.0 first in
    let text = painted q format l in
    let own = row format (terminator q) name (u.number + 1) offset 58 text in
    let other = when (nat_lt 0 u.countdown) (row format (terminator q) name (u.number + 1) offset 45 l) in
    let sum : t.kept + suc (length ls) ≡ u.kept + length ls = omega arith in
    ap (λ b. cond b (kept_rows format (terminator q) name earlier u text) other ++ run_rows q format name earlier
    (step format u s l) ls) kept
    ∙ (ap (λ v. kept_rows format (terminator q) name earlier u text ++ run_rows q format name earlier v ls)
    (step_kept format u s l kept)
    ∙ (ap (λ b. (when b (gap_text format (terminator q)) ++ own) ++ run_rows q format name earlier
    (further l u (after_kept format u)) ls) (and_right (has_separators format) false refl)
    ∙ ap (λ xs. own ++ xs) (more_kept_rows q format name earlier u (offset + (length l + 1)) ls selected.1
    (ap (λ k. is_below k format.limit) (sym sum) ∙ below))))

-- the first line adds the window and its own row, and the others add theirs
pub kept_lines_rows : (q : Search) (format : Format) (name : List ℕ) (earlier : Bool) (t : Trail) (l : List ℕ)
    (ls : List (List ℕ)) → AllSelected q true (l ∷ ls) → is_below (t.kept + length ls) format.limit ≡ true →
    run_rows q format name earlier t (l ∷ ls)
    ≡ gap_row format (terminator q) earlier t
    ++ (context_rows format (terminator q) name ((t.number + 1) - length t.window) (t.offset - bytes_in t.window)
    t.window
    ++ marked_rows format (terminator q) name 58 (painted q format) (t.number + 1) t.offset (l ∷ ls))
kept_lines_rows q format name earlier t l ls selected below =
    let end = terminator q in
    let first : is_below t.kept format.limit ≡ true =
    below_fewer format.limit t.kept (t.kept + length ls) (omega arith) below in
    let kept : keeps format t (selects q l) ≡ true =
    and_from (selects q l) (is_below t.kept format.limit) selected.0 first in
    let next = step format t (selects q l) l in
    let gap = gap_row format end earlier t in
    let window = context_rows format end name ((t.number + 1) - length t.window) (t.offset - bytes_in t.window)
    t.window in
    let text = painted q format l in
    let own = row format end name (t.number + 1) t.offset 58 text in
    let behind : ℕ = t.offset + (length l + 1) in
    let rest = marked_rows format end name 58 (painted q format) ((t.number + 1) + 1) behind ls in
    ap (λ b. cond b (kept_rows format end name earlier t text)
    (when (nat_lt 0 t.countdown) (row format end name (t.number + 1) t.offset 45 l))
    ++ run_rows q format name earlier next ls) kept
    ∙ (ap (λ u. (gap ++ (window ++ own)) ++ run_rows q format name earlier u ls)
    (step_kept format t (selects q l) l kept)
    ∙ (ap (λ xs. (gap ++ (window ++ own)) ++ xs) (more_kept_rows q format name earlier t behind ls selected.1 below)
    ∙ (append_assoc gap (window ++ own) rest
    ∙ ap (λ xs. gap ++ xs) (append_assoc window own rest))))

more_kept_trail : (q : Search) (format : Format) (t : Trail) (offset : ℕ) (ls : List (List ℕ))
    → AllSelected q true ls → is_below (t.kept + length ls) format.limit ≡ true →
    IsKept format t (length ls + 1) (run q format (with_offset offset (after_kept format t)) ls)
more_kept_trail q format t offset [] selected below = record {
  number = omega arith;
  kept = omega arith;
  countdown = refl;
  some = refl;
  skipped = refl;
  window = refl;
}
more_kept_trail q format t offset (l ∷ ls) selected below =
    let u = with_offset offset (after_kept format t) in
    let s = selects q l in
    let first : is_below u.kept format.limit ≡ true =
    below_fewer format.limit u.kept (t.kept + suc (length ls)) (omega arith) below in
    let kept : keeps format u s ≡ true = and_from s (is_below u.kept format.limit) selected.0 first in
    let sum : t.kept + suc (length ls) ≡ u.kept + length ls = omega arith in
    let later = more_kept_trail q format u (offset + (length l + 1)) ls selected.1
    (ap (λ k. is_below k format.limit) (sym sum) ∙ below) in
    let P : Trail → Type 0 = λ v. IsKept format t (suc (length ls) + 1) (run q format v ls) in
    subst P (sym (step_kept format u s l kept)) (record {
      number = let e = later.number in omega arith;
      kept = let e = later.kept in omega arith;
      countdown = later.countdown;
      some = later.some;
      skipped = later.skipped;
      window = later.window;
    })

-- what they leave remembered
pub kept_trail : (q : Search) (format : Format) (t : Trail) (l : List ℕ) (ls : List (List ℕ))
    → AllSelected q true (l ∷ ls) → is_below (t.kept + length ls) format.limit ≡ true →
    IsKept format t (length (l ∷ ls)) (run q format t (l ∷ ls))
kept_trail q format t l ls selected below =
    let first : is_below t.kept format.limit ≡ true =
    below_fewer format.limit t.kept (t.kept + length ls) (omega arith) below in
    let kept : keeps format t (selects q l) ≡ true =
    and_from (selects q l) (is_below t.kept format.limit) selected.0 first in
    let P : Trail → Type 0 = λ v. IsKept format t (length (l ∷ ls)) (run q format v ls) in
    let count : length ls + 1 ≡ length (l ∷ ls) = omega arith in
    let Q : ℕ → Type 0 = λ k. IsKept format t k (run q format (further l t (after_kept format t)) ls) in
    subst P (sym (step_kept format t (selects q l) l kept))
    (subst Q count (more_kept_trail q format t (t.offset + (length l + 1)) ls selected.1 below))

-- lines that aren't selected aren't kept, and none is once the limit is reached

pub unselected_unkept : (q : Search) (format : Format) (t : Trail) (ls : List (List ℕ)) → AllSelected q false ls
    → AreUnkept q format t ls
unselected_unkept q format t [] none = tt
unselected_unkept q format t (l ∷ ls) none =
    (and_left (selects q l) (is_below t.kept format.limit) none.0, unselected_unkept q format t ls none.1)

pub full_unkept : (q : Search) (format : Format) (t : Trail) (ls : List (List ℕ)) → is_below t.kept format.limit ≡ false
    → AreUnkept q format t ls
full_unkept q format t [] full = tt
full_unkept q format t (l ∷ ls) full =
    (and_right (selects q l) (is_below t.kept format.limit) full, full_unkept q format t ls full)
