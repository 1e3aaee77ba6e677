-- The files of a run in two shares: their outputs and their statuses together, for the law `shares_join`.
use Rattle.std.proofs.Common.{◌≡◌, ℕ, ◌+◌, ◌-◌, Bool, true, false, not, cond, ◌&&◌, ◌||◌, nat_eq, nat_lt}
use Rattle.std.proofs.Common.{List, [], ◌∷◌, ◌++◌, length, refl, sym, ap, ◌∙◌, append_assoc}
use Rattle.std.specs.List.{list_any}
use Rattle.std.proofs.lemmas.Bool.{false≢true, or_left, or_right}
use Rattle.std.proofs.lemmas.List.{append-nil}
use Rattle.std.proofs.lemmas.List.Folds.{list_any-append}
use Rattle.pg_selection.specs.Search.{Search, terminator}
use Rattle.pg_blocks.specs.Lines.{lines}
use Rattle.pg_selection.specs.Selection.{selects}
use Rattle.pg_rows.specs.declared.format.Format.{Format}
use Rattle.pg_rows.specs.Modes.{end_row, is_quiet, shows_rows}
use Rattle.pg_base.specs.Entries.{Entry, Missed, Read, is_running}
use Rattle.pg_rows.specs.Output.{is_bad, has_selected, has_separators, is_nothing, row, bytes_in, status, when}
use Rattle.pg_rows.specs.Output.{count_row, file_rows, gap_text, line_rows, name_row, output, painted, part_rows}
use Rattle.pg_rows.specs.Trail.{Trail, no_lines, step, keeps, after_kept, after_context, after_other, added_by_line}
use Rattle.pg_rows.specs.Trail.{context_rows, gap_row, run_rows, with_offset}
use Rattle.pg_rows.proofs.FoldLemmas.{rows_more, something, some_append, some_row, trail_is}
use Rattle.pg_seq.specs.Shares.{has_groups, joined_output, joined_status}
use Rattle.pg_seq.proofs.LongerLemmas.{status_by}

-- the row of hyphens before some rows, if there are any
abbrev pub with_hyphens : Bool → (hyphens rows : List ℕ) → List ℕ
with_hyphens apart hyphens rows = when (apart && something rows) hyphens ++ rows

with_none : (apart : Bool) (hyphens : List ℕ) → with_hyphens apart hyphens [] ≡ []
with_none true hyphens = refl
with_none false hyphens = refl

module _ (q : Search) (format : Format) (name : List ℕ) where
  -- once a line of the file was shown, earlier rows of the run change nothing
  gap_same : (a b : Bool) (t : Trail) → t.some ≡ true
      → gap_row format (terminator q) a t ≡ gap_row format (terminator q) b t
  gap_same a b t e =
      let gap : Bool → Bool → List ℕ = λ some earlier.
      when (has_separators format && cond some t.skipped earlier) (gap_text format (terminator q)) in
      ap (λ some. gap some a) e ∙ sym (ap (λ some. gap some b) e)

  stays_shown : (t : Trail) (m : List ℕ) → t.some ≡ true → (kept near : Bool)
      → (with_offset (t.offset + (length m + 1))
      (cond kept (after_kept format t) (cond near (after_context t) (after_other format t m)))).some ≡ true
  stays_shown t m e true near = refl
  stays_shown t m e false true = e
  stays_shown t m e false false = e

  same_behind : (a b : Bool) (t : Trail) (ms : List (List ℕ)) → t.some ≡ true
      → run_rows q format name a t ms ≡ run_rows q format name b t ms
  same_behind a b t [] e = refl
  same_behind a b t (m ∷ ms) e =
      let end = terminator q in
      let selected = selects q m in
      let kept = keeps format t selected in
      let next = step format t selected m in
      let front = context_rows format end name ((t.number + 1) - length t.window) (t.offset - bytes_in t.window)
      t.window in
      let own = row format end name (t.number + 1) t.offset 58 (painted q format m) in
      let other = when (nat_lt 0 t.countdown) (row format end name (t.number + 1) t.offset 45 m) in
      ap (λ gap. cond kept (gap ++ (front ++ own)) other ++ run_rows q format name a next ms) (gap_same a b t e)
      ∙ ap (λ xs. added_by_line format end name b t selected (painted q format m) m ++ xs)
      (same_behind a b next ms (stays_shown t m e kept (nat_lt 0 t.countdown)))

  -- before the first line that is shown the row of hyphens stands where the run had a row
  first_apart : (t : Trail) (ms : List (List ℕ)) → t.some ≡ false → nat_lt 0 t.countdown ≡ false
      → run_rows q format name true t ms
      ≡ with_hyphens (has_separators format) (gap_text format (terminator q)) (run_rows q format name false t ms)
  first_apart t [] unshown none = sym (with_none (has_separators format) (gap_text format (terminator q)))
  first_apart t (m ∷ ms) unshown none =
      go (keeps format t (selects q m)) (nat_lt 0 t.countdown) none
      (first_apart (further (after_other format t m)) ms unshown none)
    where
      end : ℕ
      end = terminator q

      further : Trail → Trail
      further = with_offset (t.offset + (length m + 1))

      own : List ℕ
      own = row format end name (t.number + 1) t.offset 58 (painted q format m)

      front : List ℕ
      front = context_rows format end name ((t.number + 1) - length t.window) (t.offset - bytes_in t.window) t.window

      body : List ℕ
      body = front ++ own

      other : List ℕ
      other = row format end name (t.number + 1) t.offset 45 m

      next : Bool → Bool → Trail
      next kept near = further (cond kept (after_kept format t) (cond near (after_context t) (after_other format t m)))

      gap : Bool → Bool → List ℕ
      gap some earlier = when (has_separators format && cond some t.skipped earlier) (gap_text format end)

      go : (kept near : Bool) → near ≡ false
          → run_rows q format name true (further (after_other format t m)) ms
          ≡ with_hyphens (has_separators format) (gap_text format end)
          (run_rows q format name false (further (after_other format t m)) ms)
          → cond kept (gap_row format end true t ++ body) (when near other)
          ++ run_rows q format name true (next kept near) ms
          ≡ with_hyphens (has_separators format) (gap_text format end)
          (cond kept (gap_row format end false t ++ body) (when near other)
          ++ run_rows q format name false (next kept near) ms)
      go true near e others =
          let rest = run_rows q format name false (further (after_kept format t)) ms in
          let shown : something (body ++ rest) ≡ true = body_shown rest in
          ap (λ g. (g ++ body) ++ run_rows q format name true (further (after_kept format t)) ms)
          (ap (λ s. gap s true) unshown)
          ∙ (ap (λ xs. (gap false true ++ body) ++ xs) (same_behind true false (further (after_kept format t)) ms refl)
          ∙ (append_assoc (gap false true) body rest
          ∙ (sym (ap (λ s. when (has_separators format && s) (gap_text format end) ++ (body ++ rest)) shown)
          ∙ sym (ap (λ g. with_hyphens (has_separators format) (gap_text format end) ((g ++ body) ++ rest))
          (ap (λ s. gap s false) unshown ∙ gap_none (has_separators format))))))
        where
          gap_none : (c : Bool) → when (c && false) (gap_text format end) ≡ []
          gap_none true = refl
          gap_none false = refl

          body_shown : (rest : List ℕ) → something (body ++ rest) ≡ true
          body_shown rest =
              some_append body rest
              ∙ or_left (something body) (something rest)
              (some_append front own
              ∙ or_right (something front) (something own) (some_row format end name (t.number + 1) t.offset 58
              (painted q format m)))
      go false true e others = absurd (false≢true (sym e))
      go false false e others = others

  lines_apart : (ls : List (List ℕ)) → line_rows q format name ls true
      ≡ with_hyphens (has_separators format) (gap_text format (terminator q)) (line_rows q format name ls false)
  lines_apart ls =
      rows_more q format name true [] ls no_lines (trail_is q format [])
      ∙ (first_apart no_lines ls refl refl
      ∙ ap (with_hyphens (has_separators format) (gap_text format (terminator q)))
      (sym (rows_more q format name false [] ls no_lines (trail_is q format []))))

module _ (q : Search) (format : Format) where
  file_apart : (name bytes : List ℕ) (ended : Bool) → file_rows q format name bytes ended true
      ≡ with_hyphens (has_groups format) (gap_text format (terminator q)) (file_rows q format name bytes ended false)
  unfolding file_rows
  file_apart name bytes ended = go (shows_rows format.mode) format.parts
    where
      ls : List (List ℕ)
      ls = lines (terminator q) bytes

      last : List ℕ
      last = end_row format.mode (when ended (count_row q format name ls)) (when ended (name_row q format name ls))

      rows : Bool → Bool → Bool → List ℕ
      rows shows pieces earlier =
          cond shows (cond pieces (part_rows q format name ls) (line_rows q format name ls earlier)) last

      go : (shows pieces : Bool) → rows shows pieces true
          ≡ with_hyphens (shows && (not pieces && has_separators format)) (gap_text format (terminator q))
          (rows shows pieces false)
      go true true = refl
      go true false = lines_apart q format name ls
      go false pieces = refl

  abbrev apart : Bool → List ℕ
  apart b = when b (gap_text format (terminator q))

  apart_none : (c : Bool) → apart (c && false) ≡ []
  apart_none true = refl
  apart_none false = refl

  join_first : (later : List ℕ) → joined_output q format [] later ≡ later
  join_first later = ap (λ xs. xs ++ later) (apart_none (has_groups format))

  join_last : (first : List ℕ) → joined_output q format first [] ≡ first
  join_last [] = join_first []
  join_last (b ∷ bytes) =
      let first = b ∷ bytes in
      append-nil (first ++ apart (has_groups format && false))
      ∙ (ap (λ xs. first ++ xs) (apart_none (has_groups format)) ∙ append-nil first)

  -- the rows of one more file of the later share
  join_more : (first later : List ℕ) (rows : Bool → List ℕ)
      → rows true ≡ with_hyphens (has_groups format) (gap_text format (terminator q)) (rows false)
      → joined_output q format first later ++ rows (something (joined_output q format first later))
      ≡ joined_output q format first (later ++ rows (something later))
  join_more [] later rows e =
      ap (λ xs. xs ++ rows (something xs)) (join_first later) ∙ sym (join_first (later ++ rows (something later)))
  join_more (b ∷ bytes) [] rows e =
      let first = b ∷ bytes in
      ap (λ xs. xs ++ rows true) (join_last first)
      ∙ (ap (λ xs. first ++ xs) e
      ∙ sym (append_assoc first (apart (has_groups format && something (rows false))) (rows false)))
  join_more (b ∷ bytes) (c ∷ more) rows e =
      append_assoc ((b ∷ bytes) ++ apart (has_groups format && true)) (c ∷ more) (rows true)

pub outputs_join : (q : Search) (format : Format) (first later : List Entry) → output q format (later ++ first)
    ≡ joined_output q format (output q format first) (output q format later)
outputs_join q format first [] = sym (join_last q format (output q format first))
outputs_join q format first (Missed name ∷ later) = outputs_join q format first later
outputs_join q format first (Read name bytes ending ∷ later) =
    let rows : Bool → List ℕ = λ earlier. file_rows q format name bytes (not (is_running ending)) earlier in
    ap (λ xs. xs ++ rows (something xs)) (outputs_join q format first later)
    ∙ join_more q format (output q format first) (output q format later) rows
    (file_apart q format name bytes (not (is_running ending)))

pub plain_join : (q : Search) (format : Format) (first later : List Entry) → has_separators format ≡ false
    → output q format (later ++ first) ≡ output q format first ++ output q format later
plain_join q format first later e =
    let front = output q format first in
    let rest = output q format later in
    let both = not (is_nothing front) && not (is_nothing rest) in
    let apart : Bool → List ℕ = λ b. when (b && both) (gap_text format (terminator q)) in
    outputs_join q format first later
    ∙ (ap (λ b. (front ++ apart b) ++ rest) (no_groups (shows_rows format.mode) format.parts (has_separators format) e)
    ∙ ap (λ xs. xs ++ rest) (append-nil front))
  where
    no_groups : (shows pieces context : Bool) → context ≡ false → (shows && (not pieces && context)) ≡ false
    no_groups true true context e = refl
    no_groups true false context e = e
    no_groups false pieces context e = refl

-- statuses as the definition joins them, for any answer to whether nothing is written
abbrev status_of_both : Bool → ℕ → ℕ → ℕ
status_of_both quiet first later =
    let selected = nat_eq later 0 || nat_eq first 0 in
    let bad = nat_eq later 2 || nat_eq first 2 in
    cond (quiet && selected) 0 (cond bad 2 (cond selected 0 1))

-- whether a line is selected in the later share and in the first one, and whether a file of them is bad
both : (quiet later first bad_later bad_first : Bool) → status_by quiet (later || first) (bad_later || bad_first)
    ≡ status_of_both quiet (status_by quiet first bad_first) (status_by quiet later bad_later)
both true true first bad_later bad_first = refl
both true false true true bad_first = refl
both true false true false bad_first = refl
both true false false true true = refl
both true false false true false = refl
both true false false false true = refl
both true false false false false = refl
both false later first true bad_first = refl
both false true first false true = refl
both false false first false true = refl
both false true true false false = refl
both false true false false false = refl
both false false true false false = refl
both false false false false false = refl

pub statuses_join : (q : Search) (format : Format) (first later : List Entry) → status q format (later ++ first)
    ≡ joined_status format.mode (status q format first) (status q format later)
statuses_join q format first later =
    let quiet = is_quiet format.mode in
    let some : List Entry → Bool = list_any (has_selected q) in
    let bad : List Entry → Bool = list_any is_bad in
    ap (λ s. status_by quiet s (bad (later ++ first))) (list_any-append (has_selected q) later first)
    ∙ (ap (status_by quiet (some later || some first)) (list_any-append is_bad later first)
    ∙ both quiet (some later) (some first) (bad later) (bad first))
