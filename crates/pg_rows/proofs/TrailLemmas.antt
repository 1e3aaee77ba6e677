-- The rows of one line more.
use Rattle.std.proofs.Common.{◌≡◌, ℕ, zero, suc, ◌+◌, ◌-◌, ◌<◌, ◌≤◌, ◌⊎◌, inl, inr, Bool, true, false, not, ◌&&◌, ◌||◌}
use Rattle.std.proofs.Common.{cond, nat_le, nat_lt, Option, Some, None, List, [], ◌∷◌, ◌++◌, length, take, drop, get_or}
use Rattle.std.proofs.Common.{refl, sym, ap, ◌∙◌, subst, arith, append_assoc, length-append, length-drop}
use Rattle.std.specs.List.{range_with_len, list_any, filter, flat_map, count_by}
use Rattle.circular_buffer.specs.Buffer.{keep_last}
use Rattle.std.proofs.lemmas.Bool.{false≢true, le-leb, lt-leb, lt-ltb, le-ltb, ltb-true, ltb-false, cases_lt}
use Rattle.std.proofs.lemmas.Bool.{cases_Bool, cases_eq}
use Rattle.std.proofs.lemmas.List.{append-nil, get_or_append_left, get_or_push, take-append-le, take_at, length_push}
use Rattle.std.proofs.lemmas.List.{take-append-drop, drop-append-le, drop-drop, get_or-drop, drop_all}
use Rattle.std.proofs.Math.Seq.{take-add}
use Rattle.std.proofs.lemmas.List.Concat.{flat_map-append}
use Rattle.std.proofs.lemmas.List.Elements.{filter-append}
use Rattle.std.proofs.lemmas.List.Sums.{sum_by_push}
use Rattle.pg_selection.specs.Search.{Search, terminator}
use Rattle.pg_selection.specs.Selection.{selects}
use Rattle.pg_rows.specs.declared.format.Format.{Format}
use Rattle.pg_rows.specs.Output.{line_at, line_start, bytes_in, is_below, is_kept, is_near, context, places_in, when}
use Rattle.pg_rows.specs.Output.{row, has_separators}
use Rattle.pg_rows.specs.Output.{gap_text, is_behind, separator, mark_of, line_rows, part_rows, painted, shown_text}
use Rattle.pg_rows.specs.Trail.{Trail, no_lines, keeps, after_kept, after_context, after_other, with_offset, step}
use Rattle.pg_rows.specs.Trail.{gap_row}
use Rattle.pg_rows.specs.Trail.{context_rows, kept_rows, added_by_line, pieces_in, added_pieces}
use Rattle.pg_rows.proofs.NearLemmas.{range_more, IsNear, near_none, near_same, old_below, new_above, new_self}
use Rattle.pg_rows.proofs.NearLemmas.{IsNear-kept, IsNear-context, IsNear-other}
use Rattle.pg_rows.proofs.SizeLemmas.{size_append, size_push}
use Rattle.pg_rows.proofs.PutLemmas.{put, put_first, put_same, put_none, put_all, put_split, separator_same}

-- the first place of the window: the last B of the places from d to n
abbrev pub window_at : ℕ → ℕ → ℕ → ℕ
window_at B n d = d + ((n - d) - B)

abbrev pub before_of : Format → ℕ
before_of format = context format.before

abbrev pub after_of : Format → ℕ
after_of format = context format.after

abbrev pub Quota : Option ℕ → ℕ → ℕ → Type 0
Quota limit kept count = (kept ≡ count) ⊎ ((is_below kept limit ≡ false) × (is_below count limit ≡ false))

-- what is remembered fits the lines
pub record IsTrail (q : Search) (format : Format) (ls : List (List ℕ)) (t : Trail) : Type 0 where
  pub number : t.number ≡ length ls
  pub offset : t.offset ≡ bytes_in ls
  pub count : t.kept ≡ length (places_in (is_kept q format.limit ls) ls)
  pub quota : Quota format.limit t.kept (count_by (selects q) ls)
  pub done : ℕ
  pub near : IsNear (before_of format) (after_of format) (is_kept q format.limit ls) (length ls) done t.countdown
  pub some : t.some ≡ nat_lt 0 done
  pub skipped : t.skipped ≡ nat_lt (before_of format) (length ls - done)
  pub window : t.window ≡ drop (window_at (before_of format) (length ls) done) ls

below_of_quota : (limit : Option ℕ) (kept count : ℕ) → Quota limit kept count
    → is_below kept limit ≡ is_below count limit
below_of_quota limit kept count (inl e) = ap (λ k. is_below k limit) e
below_of_quota limit kept count (inr p) = p.0 ∙ sym p.1

below_less : (limit : Option ℕ) (n : ℕ) → is_below n limit ≡ false → is_below (n + 1) limit ≡ false
below_less None n e = e
below_less (Some k) n e = let le : k ≤ n = ltb-false n k e in le-ltb (n + 1) k (omega arith)

less_quota : (limit : Option ℕ) (n : ℕ) (t : Bool) → is_below n limit ≡ false → is_below (n + cond t 1 0) limit ≡ false
less_quota limit n true e = below_less limit n e
less_quota limit n false e = let z : n ≡ n + 0 = omega arith in let P : ℕ
    → Type 0 = λ k. is_below k limit ≡ false in subst P z e

-- how many are kept, and how many are selected, after one more line
quota_step : (limit : Option ℕ) (kept count : ℕ) (selected : Bool) → Quota limit kept count
    → Quota limit (kept + cond (selected && is_below count limit) 1 0) (count + cond selected 1 0)
quota_step limit kept count false (inl e) = inl (ap (λ k. k + 0) e)
quota_step limit kept count false (inr p) = inr (less_quota limit kept false p.0, less_quota limit count false p.1)
quota_step limit kept count true h = go (is_below count limit) refl h
  where
    go : (t : Bool) → is_below count limit ≡ t → Quota limit kept count → Quota limit (kept + cond t 1 0) (count + 1)
    go true e (inl s) = inl (ap (λ k. k + 1) s)
    go true e (inr p) = absurd (false≢true (sym p.1 ∙ e))
    go false e (inl s) = let P : ℕ → Type 0 =
        λ k. is_below k limit ≡ false in inr (less_quota limit kept false (subst P (sym s) e), below_less limit count e)
    go false e (inr p) = inr (less_quota limit kept false p.0, below_less limit count p.1)

behind_at : (set : ℕ → Bool) (i f : ℕ) → i + 1 ≡ f → is_behind set f ≡ set i
behind_at set i zero e = absurd (omega arith)
behind_at set i (suc f) e = let s : f ≡ i = omega arith in ap set s

none_in : (set : ℕ → Bool) (a n : ℕ) → ((i : ℕ) → a ≤ i → i < a + n → set i ≡ false)
    → list_any set (range_with_len a n) ≡ false
none_in set a zero h = refl
none_in set a (suc n) h = ap (λ t. t || list_any set (range_with_len (a + 1) n)) (h a (omega arith) (omega arith))
    ∙ none_in set (a + 1) n (λ i low high. h i (omega arith) (omega arith))

filter_same : (p p' : ℕ → Bool) (a n : ℕ) → ((i : ℕ) → a ≤ i → i < a + n → p i ≡ p' i)
    → filter p (range_with_len a n) ≡ filter p' (range_with_len a n)
filter_same p p' a zero h = refl
filter_same p p' a (suc n) h =
    ap (λ t. cond t (a ∷ filter p (range_with_len (a + 1) n)) (filter p (range_with_len (a + 1) n)))
    (h a (omega arith) (omega arith))
    ∙ ap (λ xs. cond (p' a) (a ∷ xs) xs) (filter_same p p' (a + 1) n (λ i low high. h i (omega arith) (omega arith)))

one_or_none : (t : Bool) (x : ℕ) → length (cond t (x ∷ []) []) ≡ cond t 1 0
one_or_none true x = refl
one_or_none false x = refl

-- a test of some number of a range
some_in_range : (f : ℕ → Bool) (a n i : ℕ) → a ≤ i → i < a + n → f i ≡ true
    → list_any f (range_with_len a n) ≡ true
some_in_range f a zero i low high e = absurd (omega arith)
some_in_range f a (suc n) i low high e = elim (cases_eq a i) [
  | inl same ↦ or_left (f a) _ (ap f same ∙ e)
  | inr ne ↦ or_right (f a) _ (some_in_range f (a + 1) n i (omega arith) (omega arith) e)
]
  where
    or_right : (b c : Bool) → c ≡ true → (b || c) ≡ true
    or_right true c e = refl
    or_right false c e = e

    or_left : (b c : Bool) → b ≡ true → (b || c) ≡ true
    or_left true c e = refl
    or_left false c e = absurd (false≢true e)

put_last : (set : ℕ → Bool) (emit : ℕ → List ℕ) (n : ℕ)
    → put set emit 0 (suc n) ≡ put set emit 0 n ++ cond (set n) (emit n) []
put_last set emit n =
    let e : suc n ≡ n + 1 = omega arith in
    let z : 0 + n ≡ n = omega arith in
    ap (put set emit 0) e
    ∙ (put_split set emit 0 n 1
    ∙ ap (λ xs. put set emit 0 n ++ xs) (ap (λ a. put set emit a 1) z
    ∙ (put_first set emit n 0 ∙ append-nil (cond (set n) (emit n) []))))

keep_more : {X : Type 0} (B n d : ℕ) (ls : List X) (l : X) → length ls ≡ n → d ≤ n
    → keep_last B (drop (window_at B n d) ls ++ l ∷ []) ≡ drop (window_at B (suc n) d) (ls ++ l ∷ [])
keep_more B n d ls l e low =
    let f = window_at B n d in
    let inside : f ≤ length ls = omega arith in
    let long = length_push (drop f ls) l in
    let left = length-drop f ls in
    let k : f + (length (drop f ls ++ l ∷ []) - B) ≡ window_at B (suc n) d = omega arith in
    ap (λ xs. drop (length (drop f ls ++ l ∷ []) - B) xs) (sym (drop-append-le f ls (l ∷ []) inside))
    ∙ (drop-drop (length (drop f ls ++ l ∷ []) - B) f (ls ++ l ∷ []) ∙ ap (λ m. drop m (ls ++ l ∷ [])) k)

rows_are : (format : Format) (end : ℕ) (name : List ℕ) (r : ℕ → List ℕ) (k o : ℕ) (ws : List (List ℕ))
    → ((i : ℕ) → i < length ws
    → r (k + i) ≡ row format end name ((k + i) + 1) (o + line_start ws i) 45 (get_or ws i []))
    → flat_map r (range_with_len k (length ws)) ≡ context_rows format end name (k + 1) o ws
rows_are format end name r k o [] h = refl
rows_are format end name r k o (w ∷ ws) h =
    let z : k + 0 ≡ k = omega arith in
    let y : o + 0 ≡ o = omega arith in
    let first : r k ≡ row format end name (k + 1) o 45 w = ap r (sym z)
    ∙ (h 0 (omega arith) ∙ (ap (λ m. row format end name (m + 1) (o + 0) 45 w) z
    ∙ ap (λ m. row format end name (k + 1) m 45 w) y)) in
    ap (λ xs. xs ++ flat_map r (range_with_len (k + 1) (length ws))) first
    ∙ ap (λ xs. row format end name (k + 1) o 45 w ++ xs)
    (rows_are format end name r (k + 1) (o + (length w + 1)) ws (λ i below.
    let e : (k + 1) + i ≡ k + suc i = omega arith in
    let f : o + ((length w + 1) + line_start ws i) ≡ (o + (length w + 1)) + line_start ws i = omega arith in
    ap r e ∙ (h (suc i) (omega arith)
    ∙ (ap (λ m. row format end name (m + 1) (o + ((length w + 1) + line_start ws i)) 45 (get_or ws i [])) (sym e)
    ∙ ap (λ m. row format end name (((k + 1) + i) + 1) m 45 (get_or ws i [])) f))))

separator_is : (c x b a s k : Bool) → ((s ≡ true) × (a ≡ true) × (not b ≡ k))
    ⊎ ((s ≡ false) × (a ≡ false) × (b ≡ false)) → (c && not b && (x || a)) ≡ (c && cond s k x)
separator_is false x b a s k h = refl
separator_is true x b a s k (inl p) = ap (λ u. not b && (x || u)) p.1
    ∙ (or_end x (not b) ∙ (p.2 ∙ ap (λ u. cond u k x) (sym p.0)))
  where
    or_end : (x y : Bool) → (y && (x || true)) ≡ y
    or_end true true = refl
    or_end true false = refl
    or_end false true = refl
    or_end false false = refl
separator_is true x b a s k (inr p) = ap (λ u. not u && (x || a)) p.2
    ∙ (ap (λ u. x || u) p.1 ∙ (or_none x ∙ ap (λ u. cond u k x) (sym p.0)))
  where
    or_none : (x : Bool) → (x || false) ≡ x
    or_none true = refl
    or_none false = refl

-- what one place gives
abbrev pub emit_of : Search → Format → List ℕ → Bool → (ℕ → Bool) → (ℕ → Bool) → List (List ℕ) → ℕ → List ℕ
emit_of q format name earlier set kept ls i =
    separator format (terminator q) set earlier i
    ++ row format (terminator q) name (i + 1) (line_start ls i) (mark_of (kept i))
    (shown_text q format (kept i) (line_at ls i))

module _ (q : Search) (format : Format) (ls : List (List ℕ)) (l : List ℕ) (t : Trail) (h : IsTrail q format ls t) where
  abbrev n : ℕ
  n = length ls

  abbrev more : List (List ℕ)
  more = ls ++ l ∷ []

  abbrev kept : ℕ → Bool
  kept = is_kept q format.limit ls

  abbrev kept' : ℕ → Bool
  kept' = is_kept q format.limit more

  abbrev set : ℕ → Bool
  set = is_near kept (before_of format) (after_of format) n

  abbrev set' : ℕ → Bool
  set' = is_near kept' (before_of format) (after_of format) (suc n)

  long : length more ≡ suc n
  long = let e = length_push ls l in omega arith

  line_same : (i : ℕ) → i < n → line_at more i ≡ line_at ls i
  line_same i below = get_or_append_left ls (l ∷ []) [] i below

  line_new : line_at more n ≡ l
  line_new = get_or_push ls l [] n refl

  -- a line begins where it began, and the new one behind the others
  start_same : (i : ℕ) → i ≤ n → line_start more i ≡ line_start ls i
  start_same i below = ap bytes_in (take-append-le i ls (l ∷ []) below)

  start_new : line_start more n ≡ t.offset
  start_new = ap bytes_in (take_at ls (l ∷ []) n refl) ∙ sym h.offset

  offset_more : t.offset + (length l + 1) ≡ bytes_in more
  offset_more = ap (λ k. k + (length l + 1)) h.offset ∙ sym (size_push ls l)

  kept_same : (i : ℕ) → i < n → kept' i ≡ kept i
  kept_same i below =
      ap (λ x. selects q x && is_below (count_by (selects q) (take i more)) format.limit) (line_same i below)
      ∙ ap (λ xs. selects q (line_at ls i) && is_below (count_by (selects q) xs) format.limit)
      (take-append-le i ls (l ∷ []) (omega arith))

  kept_count : kept' n ≡ (selects q l && is_below (count_by (selects q) ls) format.limit)
  kept_count =
      ap (λ x. selects q x && is_below (count_by (selects q) (take n more)) format.limit) line_new
      ∙ ap (λ xs. selects q l && is_below (count_by (selects q) xs) format.limit) (take_at ls (l ∷ []) n refl)

  kept_new : kept' n ≡ keeps format t (selects q l)
  kept_new = kept_count ∙ ap (λ b. selects q l && b)
      (sym (below_of_quota format.limit t.kept (count_by (selects q) ls) h.quota))

  count_more : length (places_in kept' more) ≡ t.kept + cond (keeps format t (selects q l)) 1 0
  count_more =
      let z : 0 + n ≡ n = omega arith in
      ap (λ k. length (filter kept' (range_with_len 0 k))) long
      ∙ (ap (λ xs. length (filter kept' xs)) (range_more 0 n)
      ∙ (ap (λ xs. length xs) (filter-append kept' (range_with_len 0 n) ((0 + n) ∷ []))
      ∙ (length-append (filter kept' (range_with_len 0 n)) (filter kept' ((0 + n) ∷ []))
      ∙ (ap (λ xs. length xs + length (filter kept' ((0 + n) ∷ [])))
      (filter_same kept' kept 0 n (λ i low high. kept_same i (omega arith)))
      ∙ (ap (λ m. m + length (filter kept' ((0 + n) ∷ []))) (sym h.count)
      ∙ ap (λ m. t.kept + m) (one_or_none (kept' (0 + n)) (0 + n) ∙ ap (λ b. cond b 1 0) (ap kept' z ∙ kept_new)))))))

  quota_more : Quota format.limit (t.kept + cond (keeps format t (selects q l)) 1 0) (count_by (selects q) more)
  quota_more =
      let P : ℕ → Type 0 = λ k. Quota format.limit k (count_by (selects q) more) in
      let R : ℕ → Type 0 = λ c. Quota format.limit
      (t.kept + cond (selects q l && is_below (count_by (selects q) ls) format.limit) 1 0) c in
      subst P (ap (λ b. t.kept + cond b 1 0) (sym kept_count ∙ kept_new))
      (subst R (sym (sum_by_push (λ x. cond (selects q x) 1 0) ls l))
      (quota_step format.limit t.kept (count_by (selects q) ls) (selects q l) h.quota))

  abbrev Near : ℕ → ℕ → ℕ → Type 0
  Near m d cd = IsNear (before_of format) (after_of format) kept' m d cd

  number_more : t.number + 1 ≡ length more
  number_more = omega (arith, h.number, long)

  drop_end : (k : ℕ) → k ≡ length more → drop k more ≡ []
  drop_end k e = drop_all k more (omega arith)

  abbrev moved : Trail → Trail
  moved = with_offset (t.offset + (length l + 1))

  trail_kept : keeps format t (selects q l) ≡ true → IsTrail q format more (moved (after_kept format t))
  trail_kept e =
      let P : ℕ → Type 0 = λ m. Near m m (after_of format) in
      let one : t.kept + cond (keeps format t (selects q l)) 1 0 ≡ t.kept + 1 = ap (λ b. t.kept + cond b 1 0) e in
      let W : ℕ → Type 0 = λ k. Quota format.limit k (count_by (selects q) more) in
      let at : window_at (before_of format) (length more) (length more) ≡ length more = omega arith in
      record {
        number = number_more;
        offset = offset_more;
        count = sym one ∙ sym count_more;
        quota = subst W one quota_more;
        done = length more;
        near = subst P (sym long) (IsNear-kept kept kept' (before_of format)
            (after_of format) n h.done t.countdown kept_same h.near (kept_new ∙ e));
        some = sym (lt-ltb 0 (length more) (omega (arith, long)));
        skipped = sym (le-ltb (before_of format) (length more - length more) (omega arith));
        window = sym (drop_end (window_at (before_of format) (length more) (length more)) at);
      }

  trail_context : keeps format t (selects q l) ≡ false → 0 < t.countdown
      → IsTrail q format more (moved (after_context t))
  trail_context e some =
      let P : ℕ → Type 0 = λ m. Near m m (t.countdown - 1) in
      let none : t.kept + cond (keeps format t (selects q l)) 1 0 ≡ t.kept = let z : t.kept + 0 ≡ t.kept =
      omega arith in ap (λ b. t.kept + cond b 1 0) e ∙ z in
      let W : ℕ → Type 0 = λ k. Quota format.limit k (count_by (selects q) more) in
      let at : window_at (before_of format) (length more) (length more) ≡ length more = omega arith in
      let f = h.near.flush some in
      let old : window_at (before_of format) n h.done ≡ n = omega (arith, f.0) in
      let empty : drop n ls ≡ [] = drop_all n ls (omega arith) in
      record {
        number = number_more;
        offset = offset_more;
        count = sym none ∙ sym count_more;
        quota = subst W none quota_more;
        done = length more;
        near = subst P (sym long) (IsNear-context kept kept' (before_of format)
            (after_of format) n h.done t.countdown kept_same h.near (kept_new ∙ e) some);
        some = h.some ∙ (lt-ltb 0 h.done f.1 ∙ sym (lt-ltb 0 (length more) (omega (arith, long))));
        skipped = h.skipped ∙ (le-ltb (before_of format) (n - h.done) (omega (arith, f.0))
            ∙ sym (le-ltb (before_of format) (length more - length more) (omega arith)));
        window = h.window ∙ (ap (λ k. drop k ls) old
            ∙ (empty ∙ sym (drop_end (window_at (before_of format) (length more) (length more)) at)));
      }

  window_length : length t.window + window_at (before_of format) n h.done ≡ n
  window_length = let e = ap length h.window in let f =
      length-drop (window_at (before_of format) n h.done) ls in let low = h.near.low in omega arith

  skips : (a b : Bool) (P : Bool → Type 0) → ((a ≡ true) → P true) → ((a ≡ false) → P b) → P (a || b)
  skips true b P x y = x refl
  skips false b P x y = y refl

  skipped_more : (t.skipped || nat_le (before_of format) (length t.window)) ≡ nat_lt (before_of format)
      (length more - h.done)
  skipped_more =
      let low = h.near.low in
      let w = window_length in
      skips t.skipped (nat_le (before_of format) (length t.window))
      (λ b. b ≡ nat_lt (before_of format) (length more - h.done))
      (λ e. let gap = ltb-true (before_of format) (n - h.done) (sym h.skipped ∙ e) in sym
      (lt-ltb (before_of format) (length more - h.done) (omega (arith, long))))
      (λ e. let gap = ltb-false (before_of format) (n - h.done) (sym h.skipped ∙ e) in elim
      (cases_lt (length t.window) (before_of format)) [
        | inl lt ↦ lt-leb (before_of format) (length t.window) lt
            ∙ sym (le-ltb (before_of format) (length more - h.done) (omega (arith, long)))
        | inr ge ↦ le-leb (before_of format) (length t.window) ge
            ∙ sym (lt-ltb (before_of format) (length more - h.done) (omega (arith, long)))
      ])

  trail_other : keeps format t (selects q l) ≡ false → t.countdown ≡ 0
      → IsTrail q format more (moved (after_other format t l))
  trail_other e none_left =
      let P : ℕ → Type 0 = λ m. Near m h.done 0 in
      let Q : ℕ → Type 0 = λ c. Near (length more) h.done c in
      let none : t.kept + cond (keeps format t (selects q l)) 1 0 ≡ t.kept = let z : t.kept + 0 ≡ t.kept =
      omega arith in ap (λ b. t.kept + cond b 1 0) e ∙ z in
      let W : ℕ → Type 0 = λ k. Quota format.limit k (count_by (selects q) more) in
      record {
        number = number_more;
        offset = offset_more;
        count = sym none ∙ sym count_more;
        quota = subst W none quota_more;
        done = h.done;
        near = subst Q (sym none_left) (subst P (sym long)
            (IsNear-other kept kept' (before_of format) (after_of format) n h.done t.countdown kept_same h.near
            (kept_new ∙ e) none_left));
        some = h.some;
        skipped = skipped_more;
        window = ap (λ xs. keep_last (before_of format) (xs ++ l ∷ [])) h.window
            ∙ (keep_more (before_of format) n h.done ls l refl h.near.low
            ∙ ap (λ m. drop (window_at (before_of format) m h.done) more) (sym long));
      }

  pub trail_step : IsTrail q format more (step format t (selects q l) l)
  trail_step = go (keeps format t (selects q l)) refl (nat_lt 0 t.countdown) refl
    where
      go : (a : Bool) → keeps format t (selects q l) ≡ a → (b : Bool) → nat_lt 0 t.countdown ≡ b
          → IsTrail q format more
          (moved (cond a (after_kept format t) (cond b (after_context t) (after_other format t l))))
      go true e b f = trail_kept e
      go false e true f = trail_context e (ltb-true 0 t.countdown f)
      go false e false f = trail_other e (let z : t.countdown ≤ 0 = ltb-false 0 t.countdown f in omega arith)

  -- a place that isn't kept gives a hyphen's row
  unkept : (i : ℕ) → i < n → set i ≡ false → kept i ≡ false
  unkept i below e = elim (cases_Bool (kept i)) [
    | inl yes_kept ↦ absurd (false≢true (sym e
        ∙ some_in_range (λ j. kept j && (nat_le j (i + before_of format) && nat_le i (j + after_of format))) 0 n i
        (omega arith) (omega arith)
        (ap (λ b. b && (nat_le i (i + before_of format) && nat_le i (i + after_of format))) yes_kept
        ∙ (ap (λ b. b && nat_le i (i + after_of format)) (le-leb i (i + before_of format) (omega arith))
        ∙ le-leb i (i + after_of format) (omega arith)))))
    | inr none ↦ none
  ]

  pub pieces_step : (name : List ℕ) → part_rows q format name more ≡ part_rows q format name ls ++ added_pieces q
      format name t l
  pieces_step name =
      let given : List (List ℕ) → ℕ → List ℕ = λ xs i. pieces_in q format name (i + 1) (line_start xs i) (line_at xs i)
      in
      ap (put kept' (given more) 0) long
      ∙ (put_last kept' (given more) n
      ∙ (ap (λ xs. xs ++ cond (kept' n) (given more n) [])
      (put_same kept' kept (given more) (given ls) 0 n (λ i _ high.
      ap (λ b. cond b (given more i) []) (kept_same i (omega arith))
      ∙ (ap (λ x. cond (kept i) (pieces_in q format name (i + 1) (line_start more i) x) [])
      (line_same i (omega arith))
      ∙ ap (λ o. cond (kept i) (pieces_in q format name (i + 1) o (line_at ls i)) [])
      (start_same i (omega arith)))))
      ∙ ap (λ xs. put kept (given ls) 0 n ++ xs)
      (ap (λ b. cond b (given more n) []) kept_new
      ∙ (ap (λ x. cond (keeps format t (selects q l)) (pieces_in q format name (n + 1) (line_start more n) x) [])
      line_new
      ∙ (ap (λ o. cond (keeps format t (selects q l)) (pieces_in q format name (n + 1) o l) []) start_new
      ∙ ap (λ k. cond (keeps format t (selects q l)) (pieces_in q format name (k + 1) t.offset l) [])
      (sym h.number))))))

  module _ (name : List ℕ) (earlier : Bool) where
    abbrev end : ℕ
    end = terminator q

    abbrev emit : ℕ → List ℕ
    emit = emit_of q format name earlier set kept ls

    abbrev emit' : ℕ → List ℕ
    emit' = emit_of q format name earlier set' kept' more

    -- the line's text where it is kept
    abbrev text : List ℕ
    text = painted q format l

    -- the row alone
    abbrev bare : ℕ → List ℕ
    bare i = row format end name (i + 1) (line_start more i) (mark_of (kept' i))
        (shown_text q format (kept' i) (line_at more i))

    rows_more : line_rows q format name more earlier ≡ put set' emit' 0 (suc n)
    rows_more = ap (λ k. put (is_near kept' (before_of format) (after_of format) k)
        (emit_of q format name earlier (is_near kept' (before_of format) (after_of format) k) kept' more) 0 k) long

    -- the row of a line, by whether it is kept
    abbrev bare_of : ℕ → ℕ → Bool → List ℕ → List ℕ
    bare_of i o b x = row format end name (i + 1) o (mark_of b) (shown_text q format b x)

    bare_old : (i : ℕ) → i < n → bare i ≡ bare_of i (line_start ls i) (kept i) (line_at ls i)
    bare_old i below =
        ap (λ b. bare_of i (line_start more i) b (line_at more i)) (kept_same i below)
        ∙ (ap (bare_of i (line_start more i) (kept i)) (line_same i below)
        ∙ ap (λ o. bare_of i o (kept i) (line_at ls i)) (start_same i (omega (arith, below))))

    -- the row of the new line
    bare_new : (b : Bool) → kept' n ≡ b → bare n ≡ bare_of n t.offset b l
    bare_new b e =
        ap (λ b. bare_of n (line_start more n) b (line_at more n)) e
        ∙ (ap (bare_of n (line_start more n) b) line_new ∙ ap (λ o. bare_of n o b l) start_new)

    emit_same : (i : ℕ) → i < n → ((k : ℕ) → k < i → set' k ≡ set k) → emit' i ≡ emit i
    emit_same i below s =
        ap (λ xs. xs ++ bare i) (separator_same format end set' set earlier i s)
        ∙ ap (λ xs. separator format end set earlier i ++ xs) (bare_old i below)

    -- what stands below d stays
    old_part : (d : ℕ) → d ≤ n → ((i : ℕ) → i < d → set' i ≡ set i) → put set' emit' 0 d ≡ put set emit 0 d
    old_part d low s = put_same set' set emit' emit 0 d (λ i _ high.
        ap (λ b. cond b (emit' i) []) (s i (omega arith))
        ∙ ap (λ xs. cond (set i) xs []) (emit_same i (omega arith) (λ k less. s k (omega arith))))

    -- the rows so far end below `done`
    old_rows : put set emit 0 n ≡ put set emit 0 h.done
    old_rows =
        let low = h.near.low in
        let e : n ≡ h.done + (n - h.done) = omega arith in
        ap (put set emit 0) e
        ∙ (put_split set emit 0 h.done (n - h.done)
        ∙ (ap (λ xs. put set emit 0 h.done ++ xs)
        (put_none set emit (0 + h.done) (n - h.done) (λ i from to. h.near.none i (omega arith) (omega arith)))
        ∙ append-nil (put set emit 0 h.done)))

    rows_other : kept' n ≡ false → t.countdown ≡ 0 → put set' emit' 0 (suc n) ≡ put set emit 0 n
    rows_other e none_left =
        let s = near_same kept kept' (before_of format) (after_of format) n h.done t.countdown kept_same h.near e in
        let here : set' n ≡ false = s n ∙ (h.near.coming n (omega arith) ∙ le-ltb n (n + t.countdown) (omega arith)) in
        put_last set' emit' n
        ∙ (ap (λ b. put set' emit' 0 n ++ cond b (emit' n) []) here
        ∙ (append-nil (put set' emit' 0 n) ∙ old_part n (omega arith) (λ i below. s i)))

    no_separator : (i : ℕ) → 0 < i → ((k : ℕ) → k + 1 ≡ i → set' k ≡ true) → emit' i ≡ bare i
    no_separator i some s =
        let k : (i - 1) + 1 ≡ i = omega arith in
        let b : is_behind set' i ≡ true = behind_at set' (i - 1) i k ∙ s (i - 1) k in
        ap (λ u. when (has_separators format && not u && (earlier || list_any set' (range_with_len 0 i)))
        (gap_text format end) ++ bare i) b
        ∙ drop_when (has_separators format) (earlier || list_any set' (range_with_len 0 i))
      where
        drop_when : (c x : Bool) → when (c && false && x) (gap_text format end) ++ bare i ≡ bare i
        drop_when true x = refl
        drop_when false x = refl

    rows_context : kept' n ≡ false → 0 < t.countdown
        → put set' emit' 0 (suc n) ≡ put set emit 0 n ++ row format end name (n + 1) t.offset 45 l
    rows_context e some =
        let s = near_same kept kept' (before_of format) (after_of format) n h.done t.countdown kept_same h.near e in
        let here : set' n ≡ true = s n ∙ (h.near.coming n (omega arith) ∙ lt-ltb n (n + t.countdown) (omega arith)) in
        let f = h.near.flush some in
        put_last set' emit' n
        ∙ (ap (λ b. put set' emit' 0 n ++ cond b (emit' n) []) here
        ∙ (ap (λ xs. xs ++ emit' n) (old_part n (omega arith) (λ i below. s i))
        ∙ ap (λ xs. put set emit 0 n ++ xs)
        (no_separator n (omega (arith, f.0, f.1)) (λ k g. s k ∙ h.near.last k (omega (arith, f.0)))
        ∙ bare_new false e)))

    -- the first place of the window
    abbrev at : ℕ
    at = window_at (before_of format) n h.done

    at_low : h.done ≤ at
    at_low = omega arith

    at_high : at ≤ n
    at_high = let low = h.near.low in omega arith

    out_of_window : kept' n ≡ true → (i : ℕ) → h.done ≤ i → i < at → set' i ≡ false
    out_of_window e i low high =
        let d = h.near.low in
        new_above kept kept' (before_of format) (after_of format) n h.done t.countdown kept_same h.near e i low
        (omega arith)
        ∙ lt-leb n (i + before_of format) (omega arith)

    in_window : kept' n ≡ true → (i : ℕ) → at ≤ i → i < suc n → set' i ≡ true
    in_window e i low high = elim (cases_lt i n) [
      | inl lt ↦
          let d = h.near.low in
          new_above kept kept' (before_of format) (after_of format) n h.done t.countdown kept_same h.near e i
          (omega arith) lt
          ∙ le-leb n (i + before_of format) (omega arith)
      | inr ge ↦
          let s : n ≡ i = omega arith in
          let P : ℕ → Type 0 = λ k. set' k ≡ true in
          subst P s (new_self kept kept' (before_of format) (after_of format) n h.done t.countdown kept_same h.near e)
    ]

    below_done : kept' n ≡ true → (i : ℕ) → i < h.done → set' i ≡ set i
    below_done e = old_below kept kept' (before_of format) (after_of format) n h.done t.countdown kept_same h.near e

    first_separator : kept' n ≡ true → separator format end set' earlier at ≡ gap_row format end earlier t
    first_separator e =
        let tail : List ℕ = gap_text format end in
        let b = at_low in
        ap (λ c. when c tail) (separator_is (has_separators format) earlier (is_behind set' at)
        (list_any set' (range_with_len 0 at)) t.some t.skipped (elim (cases_lt 0 h.done) [
          | inl pos ↦
              let lastly : set' (h.done - 1) ≡ true = below_done e (h.done - 1) (omega arith)
              ∙ h.near.last (h.done - 1) (omega arith) in
              inl (
                h.some ∙ lt-ltb 0 h.done pos,
                some_in_range set' 0 at (h.done - 1) (omega arith) (omega arith) lastly,
                elim (cases_lt (before_of format) (n - h.done)) [
                  | inl skip ↦ ap (λ u. not u)
                      (behind_at set' (at - 1) at (omega arith) ∙ out_of_window e (at - 1) (omega arith) (omega arith))
                      ∙ sym (h.skipped ∙ lt-ltb (before_of format) (n - h.done) skip)
                  | inr whole ↦ ap (λ u. not u) (behind_at set' (h.done - 1) at (omega arith) ∙ lastly)
                      ∙ sym (h.skipped ∙ le-ltb (before_of format) (n - h.done) whole)
                ],
              )
          | inr first ↦
              inr (
                h.some ∙ le-ltb 0 h.done first,
                none_in set' 0 at (λ i low high. out_of_window e i (omega arith) (omega arith)),
                elim (cases_lt 0 at) [
                  | inl pos ↦ behind_at set' (at - 1) at (omega arith)
                      ∙ out_of_window e (at - 1) (omega arith) (omega arith)
                  | inr start ↦ let z : at ≡ 0 = omega arith in ap (is_behind set') z
                ],
              )
        ]))

    -- where the lines of the window begin
    window_start : (i : ℕ) → line_start ls (at + i) ≡ (t.offset - bytes_in t.window) + line_start t.window i
    window_start i =
        let apart : take (at + i) ls ≡ take at ls ++ take i (drop at ls) = take-add at i ls in
        let whole = ap bytes_in (take-append-drop at ls) in
        let both = size_append (take at ls) (drop at ls) in
        let held = ap bytes_in h.window in
        let first : bytes_in (take at ls) ≡ t.offset - bytes_in t.window = omega (arith, h.offset) in
        ap bytes_in apart ∙ (size_append (take at ls) (take i (drop at ls))
        ∙ (ap (λ k. k + line_start (drop at ls) i) first
        ∙ ap (λ ws. (t.offset - bytes_in t.window) + line_start ws i) (sym h.window)))

    window_rows : flat_map bare (range_with_len at (length t.window)) ≡ context_rows format end name
        ((t.number + 1) - length t.window) (t.offset - bytes_in t.window) t.window
    window_rows =
        let w = window_length in
        let k : at + 1 ≡ (t.number + 1) - length t.window = omega (arith, h.number) in
        let o : ℕ = t.offset - bytes_in t.window in
        rows_are format end name bare at o t.window (λ i below.
        let d = h.near.low in
        let inside : at + i < n = omega arith in
        bare_old (at + i) inside
        ∙ (ap (λ b. bare_of (at + i) (line_start ls (at + i)) b (line_at ls (at + i)))
        (unkept (at + i) inside (h.near.none (at + i) (omega arith) inside))
        ∙ (ap (bare_of (at + i) (line_start ls (at + i)) false)
        (sym (ap (λ xs. get_or xs i []) h.window ∙ get_or-drop at ls i []))
        ∙ ap (λ m. bare_of (at + i) m false (get_or t.window i [])) (window_start i))))
        ∙ ap (λ m. context_rows format end name m o t.window) k

    new_part : kept' n ≡ true → put set' emit' at (suc n - at) ≡ kept_rows format end name earlier t text
    new_part e =
        let w = window_length in
        let a = at_high in
        let m = length t.window in
        let one : suc n - at ≡ suc m = omega arith in
        let last : at + m ≡ n = omega arith in
        ap (put set' emit' at) one
        ∙ (put_first set' emit' at m
        ∙ (ap (λ b. cond b (emit' at) [] ++ put set' emit' (at + 1) m) (in_window e at (omega arith) (omega arith))
        ∙ (ap (λ xs. emit' at ++ xs) (put_all set' emit' bare (at + 1) m
        (λ i low high. (
          in_window e i (omega arith) (omega arith),
          no_separator i (omega arith) (λ k f. in_window e k (omega arith) (omega arith)),
        )))
        ∙ (append_assoc (separator format end set' earlier at) (bare at) (flat_map bare (range_with_len (at + 1) m))
        ∙ (ap (λ xs. xs ++ flat_map bare (range_with_len at (suc m))) (first_separator e)
        ∙ ap (λ xs. gap_row format end earlier t ++ xs)
        (ap (flat_map bare) (range_more at m)
        ∙ (flat_map-append bare (range_with_len at m) ((at + m) ∷ [])
        ∙ (ap (λ xs. flat_map bare (range_with_len at m) ++ xs)
        (append-nil (bare (at + m)) ∙
        (ap bare last ∙ (bare_new true e
        ∙ ap (λ k. row format end name (k + 1) t.offset 58 text) (sym h.number))))
        ∙ ap (λ xs. xs ++ row format end name (t.number + 1) t.offset 58 text) window_rows))))))))

    rows_kept : kept' n ≡ true → put set' emit' 0 (suc n) ≡ put set emit 0 n ++ kept_rows format end name earlier t text
    rows_kept e =
        let a = at_high in
        let b = at_low in
        let whole : suc n ≡ at + (suc n - at) = omega arith in
        let front : at ≡ h.done + (at - h.done) = omega arith in
        ap (put set' emit' 0) whole
        ∙ (put_split set' emit' 0 at (suc n - at)
        ∙ (ap (λ xs. put set' emit' 0 at ++ xs)
        (let z : 0 + at ≡ at = omega arith in ap (λ k. put set' emit' k (suc n - at)) z ∙ new_part e)
        ∙ ap (λ xs. xs ++ kept_rows format end name earlier t text)
        (ap (put set' emit' 0) front
        ∙ (put_split set' emit' 0 h.done (at - h.done)
        ∙ (ap (λ xs. put set' emit' 0 h.done ++ xs)
        (put_none set' emit' (0 + h.done) (at - h.done)
        (λ i from to. out_of_window e i (omega arith) (omega arith)))
        ∙ (append-nil (put set' emit' 0 h.done)
        ∙ (old_part h.done h.near.low (below_done e) ∙ sym old_rows)))))))

    pub rows_step : line_rows q format name more earlier ≡ line_rows q format name ls earlier
        ++ added_by_line format end name
        earlier t (selects q l) text l
    rows_step = rows_more ∙ go (keeps format t (selects q l)) refl (nat_lt 0 t.countdown) refl
      where
        go : (a : Bool) → keeps format t (selects q l) ≡ a → (b : Bool) → nat_lt 0 t.countdown ≡ b
            → put set' emit' 0 (suc n) ≡ put set emit 0 n ++ cond a (kept_rows format end name earlier t text)
            (when b (row format end name (t.number + 1) t.offset 45 l))
        go true e b f = rows_kept (kept_new ∙ e)
        go false e true f = rows_context (kept_new ∙ e) (ltb-true 0 t.countdown f)
            ∙ ap (λ k. put set emit 0 n ++ row format end name (k + 1) t.offset 45 l) (sym h.number)
        go false e false f = rows_other (kept_new ∙ e)
            (let z : t.countdown ≤ 0 = ltb-false 0 t.countdown f in omega arith) ∙ sym (append-nil (put set emit 0 n))

-- what is remembered of no lines
pub no_trail : (q : Search) (format : Format) → IsTrail q format [] no_lines
no_trail q format = record {
  number = refl;
  offset = refl;
  count = refl;
  quota = inl refl;
  done = 0;
  near = near_none (before_of format) (after_of format) (is_kept q format.limit []);
  some = refl;
  skipped = sym (le-ltb (before_of format) (0 - 0) (omega arith));
  window = sym (drop_all (window_at (before_of format) 0 0) [] (omega arith));
}
