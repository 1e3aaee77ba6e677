-- The rows of many lines, and of each beginning of them.
use Rattle.std.proofs.Common.{◌≡◌, ℕ, ◌+◌, ◌-◌, ◌<◌, ◌≤◌, inl, inr, Bool, true, false, cond, not, ◌||◌, nat_lt, Option}
use Rattle.std.proofs.Common.{Some, None, List, [], ◌∷◌, ◌++◌, length, refl, sym, ap, ◌∙◌, subst, arith, append_assoc}
use Rattle.std.specs.List.{list_any, count_by}
use Rattle.std.specs.Fmt.{decimal}
use Rattle.std.proofs.lemmas.Bool.{false≢true, lt-ltb, ltb-false, ltb-true, or_right}
use Rattle.std.proofs.lemmas.List.{append-nil}
use Rattle.std.proofs.lemmas.List.Sums.{sum_by-append}
use Rattle.pg_selection.specs.Search.{Search, terminator}
use Rattle.pg_selection.specs.Selection.{selects}
use Rattle.pg_rows.specs.declared.format.Format.{Format}
use Rattle.pg_rows.specs.Modes.{is_named}
use Rattle.pg_rows.specs.Output.{name_end, name_mark, name_text, is_below, when, row, is_nothing, painted, line_rows}
use Rattle.pg_rows.specs.Output.{part_rows, count_row, name_row, bytes_in}
use Rattle.pg_base.specs.Sink.{IsBeginning}
use Rattle.pg_rows.specs.Stretch.{prefix_text}
use Rattle.pg_rows.specs.Trail.{Trail, no_lines, step, trail_of, added_by_line, run_rows, run, added_pieces, run_pieces}
use Rattle.pg_rows.specs.Trail.{keeps, after_kept, after_context, after_other, kept_rows, context_rows, gap_row}
use Rattle.pg_rows.proofs.TrailLemmas.{IsTrail, Quota, trail_step, rows_step, pieces_step, no_trail}

pub trail_more : (q : Search) (format : Format) (ls ms : List (List ℕ)) (t : Trail) → IsTrail q format ls t
    → IsTrail q format (ls ++ ms) (run q format t ms)
trail_more q format ls [] t h = let P : List (List ℕ)
    → Type 0 = λ xs. IsTrail q format xs t in subst P (sym (append-nil ls)) h
trail_more q format ls (m ∷ ms) t h =
    let P : List (List ℕ) → Type 0 = λ xs. IsTrail q format xs (run q format t (m ∷ ms)) in
    subst P (append_assoc ls (m ∷ []) ms)
    (trail_more q format (ls ++ m ∷ []) ms (step format t (selects q m) m) (trail_step q format ls m t h))

pub trail_is : (q : Search) (format : Format) (ls : List (List ℕ)) → IsTrail q format ls (trail_of q format ls)
trail_is q format ls = trail_more q format [] ls no_lines (no_trail q format)

pub rows_more : (q : Search) (format : Format) (name : List ℕ) (earlier : Bool) (ls ms : List (List ℕ)) (t : Trail)
    → IsTrail q format ls t → line_rows q format name
    (ls ++ ms) earlier ≡ line_rows q format name ls earlier ++ run_rows q format name earlier t ms
rows_more q format name earlier ls [] t h = ap (λ xs. line_rows q format name xs earlier) (append-nil ls)
    ∙ sym (append-nil (line_rows q format name ls earlier))
rows_more q format name earlier ls (m ∷ ms) t h =
    let one = added_by_line format (terminator q) name earlier t (selects q m) (painted q format m) m in
    let rest = run_rows q format name earlier (step format t (selects q m) m) ms in
    ap (λ xs. line_rows q format name xs earlier) (sym (append_assoc ls (m ∷ []) ms))
    ∙ (rows_more q format name earlier (ls ++ m ∷ []) ms (step format t (selects q m) m) (trail_step q format ls m t h)
    ∙ (ap (λ xs. xs ++ rest) (rows_step q format ls m t h name earlier)
    ∙ append_assoc (line_rows q format name ls earlier) one rest))

-- what is written for some lines is a beginning of what is written for more
pub rows_begin : (q : Search) (format : Format) (name : List ℕ) (earlier : Bool) (ls ms : List (List ℕ))
    → IsBeginning (line_rows q format name ls earlier) (line_rows q format name (ls ++ ms) earlier)
rows_begin q format name earlier ls ms = (
  run_rows q format name earlier (trail_of q format ls) ms,
  sym (rows_more q format name earlier ls ms (trail_of q format ls) (trail_is q format ls)),
)

pub count_by_trail : (q : Search) (format : Format) (name : List ℕ) (ls : List (List ℕ)) (t : Trail)
    → IsTrail q format ls t → count_row q format name ls ≡ when format.names
    (name_text format name ++ name_end format 58) ++ decimal t.kept ++ 10 ∷ []
count_by_trail q format name ls t h =
    ap (λ k. when format.names (name_text format name ++ name_end format 58) ++ decimal k ++ 10 ∷ []) (sym h.count)

counted_more : (t any : Bool) (n : ℕ) → any ≡ nat_lt 0 n → (t || any) ≡ nat_lt 0 ((0 + cond t 1 0) + n)
counted_more true any n e = sym (lt-ltb 0 ((0 + 1) + n) (omega arith))
counted_more false any n e = let z : n ≡ (0 + 0) + n = omega arith in e ∙ ap (nat_lt 0) z

pub some_counted : (q : Search) (ls : List (List ℕ)) → list_any (selects q) ls ≡ nat_lt 0 (count_by (selects q) ls)
some_counted q [] = refl
some_counted q (l ∷ ls) = counted_more (selects q l) (list_any (selects q) ls) (count_by (selects q) ls)
    (some_counted q ls) ∙ ap (nat_lt 0) (sym (sum_by-append (λ x. cond (selects q x) 1 0) (l ∷ []) ls))

pub kept_some : (limit : Option ℕ) (kept count : ℕ) → is_below 0 limit ≡ true → Quota limit kept count
    → nat_lt 0 count ≡ nat_lt 0 kept
kept_some limit kept count e (inl s) = ap (nat_lt 0) (sym s)
kept_some None kept count e (inr p) = absurd (false≢true (sym p.0))
kept_some (Some k) kept count e (inr p) =
    let pos : 0 < k = ltb-true 0 k e in
    let a : k ≤ kept = ltb-false kept k p.0 in
    let b : k ≤ count = ltb-false count k p.1 in
    lt-ltb 0 count (omega arith) ∙ sym (lt-ltb 0 kept (omega arith))

-- with a limit that isn't 0 a line is selected where one is kept
pub name_by_trail : (q : Search) (format : Format) (name : List ℕ) (ls : List (List ℕ)) (t : Trail)
    → is_below 0 format.limit ≡ true → IsTrail q format ls t
    → name_row q format name ls ≡ when (is_named format.mode (nat_lt 0 t.kept)) (name_text format name
    ++ name_mark format 10 ∷ [])
name_by_trail q format name ls t some h =
    ap (λ b. when (is_named format.mode b) (name_text format name ++ name_mark format 10 ∷ [])) (some_counted q ls
    ∙ kept_some format.limit t.kept (count_by (selects q) ls) some h.quota)

pub pieces_more : (q : Search) (format : Format) (name : List ℕ) (ls ms : List (List ℕ)) (t : Trail)
    → IsTrail q format ls t → part_rows q format name
    (ls ++ ms) ≡ part_rows q format name ls ++ run_pieces q format name t ms
pieces_more q format name ls [] t h = ap (part_rows q format name) (append-nil ls)
    ∙ sym (append-nil (part_rows q format name ls))
pieces_more q format name ls (m ∷ ms) t h =
    let one = added_pieces q format name t m in
    let rest = run_pieces q format name (step format t (selects q m) m) ms in
    ap (part_rows q format name) (sym (append_assoc ls (m ∷ []) ms))
    ∙ (pieces_more q format name (ls ++ m ∷ []) ms (step format t (selects q m) m) (trail_step q format ls m t h)
    ∙ (ap (λ xs. xs ++ rest) (pieces_step q format ls m t h name)
    ∙ append_assoc (part_rows q format name ls) one rest))

abbrev pub something : List ℕ → Bool
something xs = not (is_nothing xs)

pub some_append : (xs ys : List ℕ) → something (xs ++ ys) ≡ (something xs || something ys)
some_append [] ys = refl
some_append (x ∷ xs) ys = refl

pub some_row : (format : Format) (end : ℕ) (name : List ℕ) (number offset mark : ℕ) (text : List ℕ)
    → something (row format end name number offset mark text) ≡ true
some_row format end name number offset mark text =
    let front = prefix_text format name number offset mark (not (is_nothing text)) ++ text in
    some_append front (end ∷ []) ∙ or_right (something front) true refl

or_turn : (a r s : Bool) → ((a || r) || s) ≡ (r || (a || s))
or_turn true true s = refl
or_turn true false s = refl
or_turn false r s = refl

-- a line that adds a row is shown
step_some : (q : Search) (format : Format) (name : List ℕ) (earlier : Bool) (ls : List (List ℕ)) (m : List ℕ)
    (t : Trail) → IsTrail q format ls t →
    (step format t (selects q m) m).some ≡
    (something (added_by_line format (terminator q) name earlier t (selects q m) (painted q format m) m) || t.some)
step_some q format name earlier ls m t h = go (keeps format t (selects q m)) (nat_lt 0 t.countdown) refl
  where
    go : (a b : Bool) → nat_lt 0 t.countdown ≡ b
        → (cond a (after_kept format t) (cond b (after_context t) (after_other format t m))).some ≡
        (something (cond a (kept_rows format (terminator q) name earlier t (painted q format m))
        (when b (row format (terminator q) name (t.number + 1) t.offset 45 m))) || t.some)
    go true b e =
        let end = terminator q in
        let own = row format end name (t.number + 1) t.offset 58 (painted q format m) in
        let front = context_rows format end name ((t.number + 1) - length t.window) (t.offset - bytes_in t.window)
        t.window in
        let inner : something (front ++ own) ≡ true = some_append front own
        ∙ or_right (something front) (something own) (some_row format end name (t.number + 1) t.offset 58
        (painted q format m)) in
        sym (ap (λ b. b || t.some) (some_append (gap_row format end earlier t) (front ++ own)
        ∙ or_right (something (gap_row format end earlier t)) (something (front ++ own)) inner))
    go false true e =
        let pos : 0 < t.countdown = ltb-true 0 t.countdown e in
        let some : t.some ≡ true = h.some ∙ lt-ltb 0 h.done (h.near.flush pos).1 in
        some ∙ sym (or_right (something (row format (terminator q) name (t.number + 1) t.offset 45 m)) t.some some)
    go false false e = refl

pub run_some : (q : Search) (format : Format) (name : List ℕ) (earlier : Bool) (ls ms : List (List ℕ)) (t : Trail)
    → IsTrail q format ls t → (run q format t ms).some ≡ (something (run_rows q format name earlier t ms) || t.some)
run_some q format name earlier ls [] t h = refl
run_some q format name earlier ls (m ∷ ms) t h =
    let one = added_by_line format (terminator q) name earlier t (selects q m) (painted q format m) m in
    let next = step format t (selects q m) m in
    let rest = run_rows q format name earlier next ms in
    run_some q format name earlier (ls ++ m ∷ []) ms next (trail_step q format ls m t h)
    ∙ (ap (λ b. something rest || b) (step_some q format name earlier ls m t h)
    ∙ (sym (or_turn (something one) (something rest) t.some) ∙ ap (λ b. b || t.some) (sym (some_append one rest))))

-- the rows of the first lines, of the next one and of the rest
pub rows_append : (q : Search) (format : Format) (name : List ℕ) (earlier : Bool) (t : Trail) (ls ms : List (List ℕ))
    → run_rows q format name earlier t (ls ++ ms) ≡ run_rows q format name earlier t ls ++ run_rows q format name
    earlier (run q format t ls) ms
rows_append q format name earlier t [] ms = refl
rows_append q format name earlier t (l ∷ ls) ms =
    let one = added_by_line format (terminator q) name earlier t (selects q l) (painted q format l) l in
    let next = step format t (selects q l) l in
    ap (λ xs. one ++ xs) (rows_append q format name earlier next ls ms)
    ∙ sym (append_assoc one (run_rows q format name earlier next ls)
    (run_rows q format name earlier (run q format next ls) ms))
