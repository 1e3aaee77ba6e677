-- Lines behind those that suffice give nothing.
use Rattle.std.proofs.Common.{◌≡◌, ℕ, ◌+◌, ◌<◌, ◌≤◌, inl, inr, Bool, true, false, not, cond, nat_lt}
use Rattle.std.proofs.Common.{◌&&◌, Option, Some, None, List, [], ◌∷◌, ◌++◌, length, refl, sym, ap, ◌∙◌, arith}
use Rattle.std.specs.List.{list_any, count_by}
use Rattle.std.specs.Fmt.{decimal}
use Rattle.std.proofs.lemmas.Bool.{false≢true, not-true, or_left, lt-ltb, le-ltb, ltb-true, ltb-false}
use Rattle.std.proofs.lemmas.Bool.{and_right, and_parts}
use Rattle.std.proofs.lemmas.List.{append-nil}
use Rattle.std.proofs.lemmas.List.Folds.{list_any-append}
use Rattle.pg_selection.specs.Search.{Search, terminator}
use Rattle.pg_blocks.specs.Lines.{lines, AreWhole}
use Rattle.pg_selection.specs.Selection.{selects}
use Rattle.pg_blocks.proofs.LineLemmas.{lines-append}
use Rattle.pg_rows.specs.declared.format.Format.{Format}
use Rattle.pg_rows.specs.declared.format.Mode.{Mode}
use Rattle.pg_rows.specs.Modes.{shows_rows, settles_at_first, is_named, end_row, rows_in}
use Rattle.pg_rows.proofs.ModeLemmas.{rows_settle_late, end_by_count, end_by_name}
use Rattle.pg_rows.specs.Output.{name_end, name_mark, name_text, painted, HasRoom, is_below, when, row, file_rows}
use Rattle.pg_rows.specs.Output.{line_rows, part_rows, count_row, name_row, is_shown}
use Rattle.pg_rows.specs.Trail.{Trail, step, run, run_rows, run_pieces, keeps, after_kept, after_context}
use Rattle.pg_rows.specs.Trail.{after_other, kept_rows, pieces_in, trail_of, with_offset}
use Rattle.pg_rows.specs.Enough.{is_full, is_trailed, lines_suffice}
use Rattle.pg_rows.proofs.TrailLemmas.{IsTrail, Quota}
use Rattle.pg_rows.proofs.FoldLemmas.{trail_is, trail_more, rows_more, pieces_more, count_by_trail, some_counted}
use Rattle.pg_seq.specs.Settled.{IsSettled}

-- the limit has no room for a further line
abbrev pub IsSpent : Format → Trail → Type 0
IsSpent format t = is_below t.kept format.limit ≡ false

spent_by : (limit : Option ℕ) (kept count : ℕ) → Quota limit kept count → is_below count limit ≡ false
    → is_below kept limit ≡ false
spent_by limit kept count (inl e) b = ap (λ k. is_below k limit) e ∙ b
spent_by limit kept count (inr p) b = p.0

-- a file that is full has a selected line
full_counted : (limit : Option ℕ) (count : ℕ) → is_below 0 limit ≡ true → is_below count limit ≡ false
    → nat_lt 0 count ≡ true
full_counted None count r e = absurd (false≢true (sym e))
full_counted (Some k) count r e =
    let pos : 0 < k = ltb-true 0 k r in
    let high : k ≤ count = ltb-false count k e in
    lt-ltb 0 count (omega arith)

-- Where the limit is spent, a line changes neither what is kept nor what is shown behind it.
module _ (format : Format) where
  abbrev after_unkept : Bool → Trail → List ℕ → Trail
  after_unkept shown t l = cond shown (after_context t) (after_other format t l)

  abbrev after_line : Bool → Bool → Trail → List ℕ → Trail
  after_line kept shown t l =
      with_offset (t.offset + (length l + 1)) (cond kept (after_kept format t) (after_unkept shown t l))

  keeps_none : (t : Trail) (s : Bool) → IsSpent format t → keeps format t s ≡ false
  keeps_none t s e = and_right s (is_below t.kept format.limit) e

  step_kept : (t : Trail) (s : Bool) (l : List ℕ) → IsSpent format t → (step format t s l).kept ≡ t.kept
  step_kept t s l e =
      ap (λ b. (after_line b (nat_lt 0 t.countdown) t l).kept) (keeps_none t s e) ∙ go (nat_lt 0 t.countdown)
    where
      go : (b : Bool) → (after_unkept b t l).kept ≡ t.kept
      go true = refl
      go false = refl

  step_spent : (t : Trail) (s : Bool) (l : List ℕ) → IsSpent format t → IsSpent format (step format t s l)
  step_spent t s l e = ap (λ k. is_below k format.limit) (step_kept t s l e) ∙ e

  step_done : (t : Trail) (s : Bool) (l : List ℕ) → IsSpent format t → nat_lt 0 t.countdown ≡ false
      → nat_lt 0 (step format t s l).countdown ≡ false
  step_done t s l e d =
      ap (λ b. nat_lt 0 (after_line b (nat_lt 0 t.countdown) t l).countdown) (keeps_none t s e)
      ∙ (ap (λ b. nat_lt 0 (after_unkept b t l).countdown) d ∙ d)

module _ (q : Search) (format : Format) where
  full_spent : (ls : List (List ℕ)) (t : Trail) → IsTrail q format ls t → is_full q format ls ≡ true → IsSpent format t
  full_spent ls t h e =
      let count = count_by (selects q) ls in
      spent_by format.limit t.kept count h.quota (not-true (is_below count format.limit) e)

  untrailed_done : (ls : List (List ℕ)) (t : Trail) → IsTrail q format ls t → is_shown q format ls (length ls) ≡ false
      → nat_lt 0 t.countdown ≡ false
  untrailed_done ls t h e =
      let n = length ls in
      let at : nat_lt n (n + t.countdown) ≡ false = sym (h.near.coming n (omega arith)) ∙ e in
      let low : n + t.countdown ≤ n = ltb-false n (n + t.countdown) at in
      le-ltb 0 t.countdown (omega arith)

  run_kept : (t : Trail) (ms : List (List ℕ)) → IsSpent format t → (run q format t ms).kept ≡ t.kept
  run_kept t [] e = refl
  run_kept t (m ∷ ms) e =
      run_kept (step format t (selects q m) m) ms (step_spent format t (selects q m) m e)
      ∙ step_kept format t (selects q m) m e

  no_more_rows : (name : List ℕ) (earlier : Bool) (t : Trail) (ms : List (List ℕ)) → IsSpent format t
      → nat_lt 0 t.countdown ≡ false → run_rows q format name earlier t ms ≡ []
  no_more_rows name earlier t [] e d = refl
  no_more_rows name earlier t (m ∷ ms) e d =
      let end = terminator q in
      let kept = kept_rows format end name earlier t (painted q format m) in
      let own = row format end name (t.number + 1) t.offset 45 m in
      let next = step format t (selects q m) m in
      let rest = run_rows q format name earlier next ms in
      ap (λ b. cond b kept (when (nat_lt 0 t.countdown) own) ++ rest) (keeps_none format t (selects q m) e)
      ∙ (ap (λ b. when b own ++ rest) d
      ∙ no_more_rows name earlier next ms (step_spent format t (selects q m) m e)
      (step_done format t (selects q m) m e d))

  no_more_pieces : (name : List ℕ) (t : Trail) (ms : List (List ℕ)) → IsSpent format t
      → run_pieces q format name t ms ≡ []
  no_more_pieces name t [] e = refl
  no_more_pieces name t (m ∷ ms) e =
      let next = step format t (selects q m) m in
      let rest = run_pieces q format name next ms in
      ap (λ b. when b (pieces_in q format name (t.number + 1) t.offset m) ++ rest) (keeps_none format t (selects q m) e)
      ∙ no_more_pieces name next ms (step_spent format t (selects q m) m e)

  -- the rows of lines, as the mode has them
  abbrev pub line_part : List ℕ → List (List ℕ) → Bool → List ℕ
  line_part name ls earlier = cond format.parts (part_rows q format name ls) (line_rows q format name ls earlier)

  abbrev rows_of : List ℕ → List (List ℕ) → Bool → Bool → List ℕ
  rows_of name ls ended earlier =
      rows_in format.mode (line_part name ls earlier) (when ended (count_row q format name ls))
      (when ended (name_row q format name ls))

  module _ (ls ms : List (List ℕ)) where
    abbrev t : Trail
    t = trail_of q format ls

    abbrev h : IsTrail q format ls t
    h = trail_is q format ls

    rows_settled : (name : List ℕ) (earlier : Bool) → is_full q format ls ≡ true
        → is_shown q format ls (length ls) ≡ false
        → line_rows q format name (ls ++ ms) earlier ≡ line_rows q format name ls earlier
    rows_settled name earlier full e =
        let rows = line_rows q format name ls earlier in
        rows_more q format name earlier ls ms t h
        ∙ (ap (λ xs. rows ++ xs)
        (no_more_rows name earlier t ms (full_spent ls t h full) (untrailed_done ls t h e))
        ∙ append-nil rows)

    pieces_settled : (name : List ℕ) → is_full q format ls ≡ true
        → part_rows q format name (ls ++ ms) ≡ part_rows q format name ls
    pieces_settled name full =
        let rows = part_rows q format name ls in
        pieces_more q format name ls ms t h
        ∙ (ap (λ xs. rows ++ xs) (no_more_pieces name t ms (full_spent ls t h full)) ∙ append-nil rows)

    count_settled : (name : List ℕ) → is_full q format ls ≡ true
        → count_row q format name (ls ++ ms) ≡ count_row q format name ls
    count_settled name full =
        count_by_trail q format name (ls ++ ms) (run q format t ms) (trail_more q format ls ms t h)
        ∙ (ap (λ k. when format.names (name_text format name ++ name_end format 58) ++ decimal k ++ 10 ∷ [])
        (run_kept t ms (full_spent ls t h full))
        ∙ sym (count_by_trail q format name ls t h))

    selected_settled : list_any (selects q) ls ≡ true → list_any (selects q) (ls ++ ms) ≡ true
    selected_settled e =
        list_any-append (selects q) ls ms ∙ or_left (list_any (selects q) ls) (list_any (selects q) ms) e

    name_settled : (name : List ℕ) → list_any (selects q) ls ≡ true
        → name_row q format name (ls ++ ms) ≡ name_row q format name ls
    name_settled name e =
        ap (λ b. when (is_named format.mode b) (name_text format name ++ name_mark format 10 ∷ []))
        (selected_settled e ∙ sym e)

    part_settled : (name : List ℕ) (earlier : Bool) → is_full q format ls ≡ true → is_trailed q format ls ≡ false
        → line_part name (ls ++ ms) earlier ≡ line_part name ls earlier
    part_settled name earlier full = go format.parts
      where
        go : (b : Bool) → (not b && is_shown q format ls (length ls)) ≡ false
            → cond b (part_rows q format name (ls ++ ms)) (line_rows q format name (ls ++ ms) earlier)
            ≡ cond b (part_rows q format name ls) (line_rows q format name ls earlier)
        go true e = pieces_settled name full
        go false e = rows_settled name earlier full e

    in_mode : (m : Mode) (name : List ℕ) (ended earlier : Bool) → lines_suffice m q format ls ≡ true →
        rows_in m (line_part name (ls ++ ms) earlier) (when ended (count_row q format name (ls ++ ms)))
        (when ended (name_row q format name (ls ++ ms)))
        ≡ rows_in m (line_part name ls earlier) (when ended (count_row q format name ls))
        (when ended (name_row q format name ls))
    in_mode m name ended earlier = go (settles_at_first m) refl (shows_rows m) refl
      where
        full : Bool
        full = is_full q format ls

        shown_part : Bool → List ℕ → List ℕ → List ℕ → List ℕ
        shown_part shown rows count row = cond shown rows (end_row m count row)

        go : (first : Bool) → settles_at_first m ≡ first → (shown : Bool) → shows_rows m ≡ shown
            → cond first (list_any (selects q) ls)
            (cond shown (full && not (is_trailed q format ls)) full) ≡ true
            → shown_part shown (line_part name (ls ++ ms) earlier) (when ended (count_row q format name (ls ++ ms)))
            (when ended (name_row q format name (ls ++ ms)))
            ≡ shown_part shown (line_part name ls earlier) (when ended (count_row q format name ls))
            (when ended (name_row q format name ls))
        go true settles true rows e = absurd (false≢true (sym (rows_settle_late m rows) ∙ settles))
        go true settles false rows e =
            let row = when ended (name_row q format name (ls ++ ms)) in
            end_by_name m (when ended (count_row q format name (ls ++ ms)))
            (when ended (count_row q format name ls)) row settles
            ∙ ap (end_row m (when ended (count_row q format name ls))) (ap (when ended) (name_settled name e))
        go false settles true rows e =
            let p = and_parts full (not (is_trailed q format ls)) e in
            part_settled name earlier p.0 (not-true (is_trailed q format ls) p.1)
        go false settles false rows e =
            let count = when ended (count_row q format name (ls ++ ms)) in
            end_by_count m count (when ended (name_row q format name (ls ++ ms)))
            (when ended (name_row q format name ls)) settles
            ∙ ap (λ c. end_row m c (when ended (name_row q format name ls))) (ap (when ended) (count_settled name e))

  full_selected : (ls : List (List ℕ)) → HasRoom format → is_full q format ls ≡ true → list_any (selects q) ls ≡ true
  full_selected ls room full =
      let count = count_by (selects q) ls in
      some_counted q ls ∙ full_counted format.limit count room (not-true (is_below count format.limit) full)

  suffice_selected : (m : Mode) (ls : List (List ℕ)) → HasRoom format → lines_suffice m q format ls ≡ true
      → list_any (selects q) ls ≡ true
  suffice_selected m ls room = go (settles_at_first m) (shows_rows m)
    where
      full : Bool
      full = is_full q format ls

      go : (first shown : Bool) → cond first (list_any (selects q) ls)
          (cond shown (full && not (is_trailed q format ls)) full) ≡ true → list_any (selects q) ls ≡ true
      go true shown e = e
      go false true e = full_selected ls room (and_parts full _ e).0
      go false false e = full_selected ls room e

  rows_by : (bytes more name : List ℕ) (ended earlier : Bool)
      → lines (terminator q) (bytes ++ more) ≡ lines (terminator q) bytes ++ lines (terminator q) more
      → lines_suffice format.mode q format (lines (terminator q) bytes) ≡ true
      → file_rows q format name (bytes ++ more) ended earlier ≡ file_rows q format name bytes ended earlier
  unfolding file_rows
  rows_by bytes more name ended earlier seam e =
      ap (λ ls. rows_of name ls ended earlier) seam
      ∙ in_mode (lines (terminator q) bytes) (lines (terminator q) more) format.mode name ended earlier e

-- where whole lines that were read suffice, what the file gives is settled
pub suffice_settled : (q : Search) (format : Format) (bytes : List ℕ) → HasRoom format → AreWhole (terminator q) bytes
    → lines_suffice format.mode q format (lines (terminator q) bytes) ≡ true → IsSettled q format bytes
suffice_settled q format bytes room whole e =
    let end = terminator q in
    record {
      rows = λ name more ended earlier.
          rows_by q format bytes more name ended earlier (lines-append end bytes more whole) e;
      selected = λ more.
          ap (list_any (selects q)) (lines-append end bytes more whole)
          ∙ selected_settled q format (lines end bytes) (lines end more)
          (suffice_selected q format format.mode (lines end bytes) room e);
    }
