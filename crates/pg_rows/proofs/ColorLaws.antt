-- What colors add to rows is escapes and nothing else, for the law `colors_add_escapes`.
use Rattle.std.proofs.Common.{◌≡◌, ◌≢◌, ℕ, zero, suc, ◌+◌, ◌-◌, ◌<◌, ◌≤◌, ◌/◌, ◌%◌, ◌==◌, Bool, true, false, cond, not}
use Rattle.std.proofs.Common.{◌&&◌, ◌||◌, nat_lt, List, [], ◌∷◌, ◌++◌, length, take, drop, slice_range, refl, sym, ap}
use Rattle.std.proofs.Common.{◌∙◌}
use Rattle.std.proofs.Common.{arith, append_assoc, length-drop}
use Rattle.std.specs.List.{AllByRecursion, Contains, flat_map, list_any, onto_first, range_with_len}
use Rattle.std.specs.Fmt.{decimal, digits, digits_onto, digit_glyph}
use Rattle.std.proofs.lemmas.Bool.{ne_eqb}
use Rattle.std.proofs.lemmas.List.{append-nil, length-take-le}
use Rattle.std.proofs.lemmas.List.Folds.{drop_split}
use Rattle.pg_selection.specs.Search.{Search, terminator}
use Rattle.pg_blocks.specs.Lines.{lines}
use Rattle.pg_selection.specs.Selection.{selects}
use Rattle.pg_rows.specs.declared.format.Format.{Format}
use Rattle.pg_rows.specs.Colors.{escape, in_color, name_color, number_color, mark_color, part_color, painted_from}
use Rattle.pg_rows.specs.Colors.{without_from, without_escapes}
use Rattle.pg_rows.specs.Modes.{is_named, rows_in}
use Rattle.pg_rows.specs.Output.{is_nothing, when, row, tab_before, gap_text, painted, shown_text, told_parts, line_at}
use Rattle.pg_rows.specs.Output.{has_prefix, line_start, number_text}
use Rattle.pg_rows.specs.Output.{separator, is_shown, is_kept, mark_of, places_in, line_rows, part_rows, count_row}
use Rattle.pg_rows.specs.Output.{name_row}
use Rattle.pg_rows.specs.Output.{file_rows, name_text, name_end, name_mark, mark_text, has_separators, is_behind}
use Rattle.pg_rows.specs.Separator.{text_between}
use Rattle.pg_rows.proofs.ModeLemmas.{rows_in_both}
use Rattle.pg_rows.proofs.PieceLemmas.{Ascend, told_ascend}

-- Bytes without an ESC.

abbrev pub IsOther : ℕ → Type 0
IsOther b = b ≢ 27

abbrev pub IsClean : List ℕ → Type 0
IsClean xs = AllByRecursion IsOther xs

pub clean : (xs : List ℕ) → (Contains xs 27 → ⊥) → IsClean xs
clean [] h = tt
clean (x ∷ xs) h =
    (λ e. h (0, omega arith, e), clean xs (λ c. h (suc c.0, omega (arith, c.1), c.2)))

clean_take : (n : ℕ) (xs : List ℕ) → IsClean xs → IsClean (take n xs)
clean_take zero xs h = tt
clean_take (suc n) [] h = tt
clean_take (suc n) (x ∷ xs) h = (h.0, clean_take n xs h.1)

clean_drop : (n : ℕ) (xs : List ℕ) → IsClean xs → IsClean (drop n xs)
clean_drop zero xs h = h
clean_drop (suc n) [] h = tt
clean_drop (suc n) (x ∷ xs) h = clean_drop n xs h.1

clean_slice : (xs : List ℕ) (i j : ℕ) → IsClean xs → IsClean (slice_range xs i j)
clean_slice xs i j h = clean_take (j - i) (drop i xs) (clean_drop i xs h)

clean_lines : (end : ℕ) (bytes : List ℕ) → IsClean bytes → AllByRecursion IsClean (lines end bytes)
clean_lines end [] h = tt
clean_lines end (b ∷ bytes) h = go (b == end) (lines end bytes) (clean_lines end bytes h.1)
  where
    go : (ends : Bool) (ls : List (List ℕ)) → AllByRecursion IsClean ls
        → AllByRecursion IsClean (cond ends ([] ∷ ls) (onto_first b ls))
    go true ls k = (tt, k)
    go false [] k = ((h.0, tt), tt)
    go false (l ∷ ls) k = ((h.0, k.0), k.1)

clean_line : (ls : List (List ℕ)) (i : ℕ) → AllByRecursion IsClean ls → IsClean (line_at ls i)
clean_line [] i h = tt
clean_line (l ∷ ls) zero h = h.0
clean_line (l ∷ ls) (suc i) h = clean_line ls i h.1

clean_glyph : (d : ℕ) → IsOther (digit_glyph false d)
clean_glyph d = go (nat_lt d 10)
  where
    go : (b : Bool) → IsOther (cond b (48 + d) (87 + d))
    go true e = omega (arith, e)
    go false e = omega (arith, e)

clean_digits : (k n : ℕ) (acc : List ℕ) → IsClean acc → IsClean (digits_onto k 10 false n acc)
clean_digits zero n acc h = h
clean_digits (suc k) n acc h =
    go (n / 10 == 0) (clean_digits k (n / 10) (digit_glyph false (n % 10) ∷ acc) (clean_glyph (n % 10), h))
  where
    go : (last : Bool) → IsClean (digits_onto k 10 false (n / 10) (digit_glyph false (n % 10) ∷ acc))
        → IsClean (cond last (digit_glyph false (n % 10) ∷ acc)
        (digits_onto k 10 false (n / 10) (digit_glyph false (n % 10) ∷ acc)))
    go true later = (clean_glyph (n % 10), h)
    go false later = later

clean_decimal : (n : ℕ) → IsClean (decimal n)
unfolding digits
clean_decimal n = clean_digits 64 n [] tt

-- Texts that are others with escapes in them.

abbrev pub Strips : List ℕ → List ℕ → Type 0
Strips colored plain = (ys : List ℕ) → without_from false (colored ++ ys) ≡ plain ++ without_from false ys

pub stripped : (colored plain : List ℕ) → Strips colored plain → without_escapes colored ≡ plain
stripped colored plain h = ap (without_from false) (sym (append-nil colored)) ∙ (h [] ∙ append-nil plain)

strips_clean : (xs : List ℕ) → IsClean xs → Strips xs xs
strips_clean [] h ys = refl
strips_clean (x ∷ xs) h ys =
    ap (λ b. cond b (without_from true (xs ++ ys)) (x ∷ without_from false (xs ++ ys))) (ne_eqb x 27 h.0)
    ∙ ap (λ zs. x ∷ zs) (strips_clean xs h.1 ys)

strips_append : (a b xs ys : List ℕ) → Strips a xs → Strips b ys → Strips (a ++ b) (xs ++ ys)
strips_append a b xs ys h k zs =
    ap (without_from false) (append_assoc a b zs) ∙ (h (b ++ zs)
    ∙ (ap (λ t. xs ++ t) (k zs) ∙ sym (append_assoc xs ys (without_from false zs))))

strips_when : (b : Bool) (a xs : List ℕ) → Strips a xs → Strips (when b a) (when b xs)
strips_when true a xs h = h
strips_when false a xs h = λ ys. refl

strips_all : {X : Type 0} (f g : X → List ℕ) (xs : List X) → ((x : X) → Strips (f x) (g x))
    → Strips (flat_map f xs) (flat_map g xs)
strips_all f g [] h = λ ys. refl
strips_all f g (x ∷ xs) h =
    strips_append (f x) (flat_map f xs) (g x) (flat_map g xs) (h x) (strips_all f g xs h)

-- the same text, said in another way
strips_as : (a xs ys : List ℕ) → xs ≡ ys → Strips a xs → Strips a ys
strips_as a xs ys e h = λ zs. h zs ∙ ap (λ t. t ++ without_from false zs) e

-- a color that is an escape: its sequence is nothing
abbrev IsEscape : List ℕ → Type 0
IsEscape code = Strips (escape code) []

strips_color : (code text : List ℕ) → IsEscape code → IsClean text → Strips (in_color true code text) text
strips_color code text e h =
    strips_as (in_color true code text) (text ++ []) text (append-nil text)
    (strips_append (escape code ++ text) (escape []) text [] (strips_append (escape code) text [] text e
    (strips_clean text h)) (λ ys. refl))

name_escape : IsEscape name_color
name_escape = λ ys. refl

number_escape : IsEscape number_color
number_escape = λ ys. refl

mark_escape : IsEscape mark_color
mark_escape = λ ys. refl

part_escape : IsEscape part_color
part_escape = λ ys. refl

-- Lines with their parts in color.

strips_painted : (l : List ℕ) (at : ℕ) (ps : List (ℕ × ℕ)) → Ascend l at ps → IsClean l
    → Strips (painted_from l at ps) (drop at l)
strips_painted l at [] h k = strips_clean (drop at l) (clean_drop at l k)
strips_painted l at (p ∷ ps) h k =
    let front = slice_range l at p.0 in
    let own = slice_range l p.0 p.1 in
    let rest = drop p.1 l in
    let ordered : p.0 ≤ p.1 = omega (arith, h.1) in
    let joins : (front ++ own) ++ rest ≡ drop at l =
    append_assoc front own rest ∙ (ap (λ xs. front ++ xs) (sym (drop_split l p.0 p.1 ordered))
    ∙ sym (drop_split l at p.0 h.0)) in
    strips_as (painted_from l at (p ∷ ps)) ((front ++ own) ++ rest) (drop at l) joins
    (strips_append (front ++ in_color true part_color own) (painted_from l p.1 ps) (front ++ own) rest
    (strips_append front (in_color true part_color own) front own (strips_clean front (clean_slice l at p.0 k))
    (strips_color part_color own part_escape (clean_slice l p.0 p.1 k)))
    (strips_painted l p.1 ps h.3 k))

something_color : (front own rest : List ℕ) → is_nothing (front ++ in_color true part_color own ++ rest) ≡ false
something_color [] own rest = refl
something_color (x ∷ xs) own rest = refl

-- a line is something in color where it is without
painted_nothing : (l : List ℕ) (ps : List (ℕ × ℕ)) → Ascend l 0 ps → is_nothing (painted_from l 0 ps) ≡ is_nothing l
painted_nothing l [] h = refl
painted_nothing [] (p ∷ ps) h = absurd (omega (arith, h.1, h.2))
painted_nothing (x ∷ xs) (p ∷ ps) h = something_color (slice_range (x ∷ xs) 0 p.0) (slice_range (x ∷ xs) p.0 p.1)
    (painted_from (x ∷ xs) p.1 ps)

slice_some : (l : List ℕ) (i j : ℕ) → i < j → j ≤ length l → is_nothing (slice_range l i j) ≡ false
slice_some l i j less fits = go (slice_range l i j) (omega (arith, size))
  where
    size : length (slice_range l i j) ≡ j - i
    size = let left = length-drop i l in length-take-le (j - i) (drop i l) (omega arith)

    go : (xs : List ℕ) → 0 < length xs → is_nothing xs ≡ false
    go [] some = absurd (omega (arith, some))
    go (x ∷ xs) some = refl

-- Rows in colors and rows without.

module _ (q : Search) (format : Format) where
  abbrev on : Format
  on = record format { colored = true }

  abbrev off : Format
  off = record format { colored = false }

  abbrev end : ℕ
  end = terminator q

  zero_clean : IsOther 0
  zero_clean e = omega (arith, e)

  newline_clean : IsOther 10
  newline_clean e = omega (arith, e)

  end_clean : IsOther end
  end_clean = go q.text.zero
    where
      go : (z : Bool) → IsOther (cond z 0 10)
      go true = zero_clean
      go false = newline_clean

  strips_mark : (mark : ℕ) → IsOther mark → Strips (mark_text on mark) (mark ∷ [])
  strips_mark mark h = strips_color mark_color (mark ∷ []) mark_escape (h, tt)

  strips_name : (name : List ℕ) → IsClean name → Strips (name_text on name) name
  strips_name name h = strips_color name_color name name_escape h

  strips_end : (mark : ℕ) → IsOther mark → Strips (name_end on mark) (name_end off mark)
  strips_end mark h = go format.null
    where
      go : (null : Bool) → Strips (cond null (0 ∷ []) (mark_text on mark)) (cond null (0 ∷ []) (mark ∷ []))
      go true = strips_clean (0 ∷ []) (zero_clean, tt)
      go false = strips_mark mark h

  -- a name and what follows it
  strips_named : (name : List ℕ) (mark : ℕ) → IsClean name → IsOther mark
      → Strips (when format.names (name_text on name ++ name_end on mark))
      (when format.names (name ++ name_end off mark))
  strips_named name mark h k =
      strips_when format.names (name_text on name ++ name_end on mark) (name ++ name_end off mark)
      (strips_append (name_text on name) (name_end on mark) name (name_end off mark) (strips_name name h)
      (strips_end mark k))

  strips_number : (shown : Bool) (number mark : ℕ) → IsOther mark
      → Strips (when shown (number_text on mark number)) (when shown (decimal number ++ mark ∷ []))
  strips_number shown number mark k =
      let digits = in_color true number_color (decimal number) in
      strips_when shown (digits ++ mark_text on mark) (decimal number ++ mark ∷ [])
      (strips_append digits (mark_text on mark) (decimal number) (mark ∷ [])
      (strips_color number_color (decimal number) number_escape (clean_decimal number)) (strips_mark mark k))

  strips_tab : (a b : Bool) → a ≡ b → Strips (tab_before on (not a)) (tab_before off (not b))
  strips_tab a b e =
      strips_as (tab_before on (not a)) (tab_before off (not a)) (tab_before off (not b))
      (ap (λ t. tab_before off (not t)) e)
      (strips_when (format.tabs && (has_prefix format && not a)) (9 ∷ []) (9 ∷ [])
      (strips_clean (9 ∷ []) ((λ (t : 9 ≡ 27). omega (arith, t)), tt)))

  strips_row : (name : List ℕ) (number offset mark : ℕ) (text plain : List ℕ) → IsClean name → IsOther mark
      → is_nothing text ≡ is_nothing plain → Strips text plain
      → Strips (row on end name number offset mark text) (row off end name number offset mark plain)
  strips_row name number offset mark text plain h k e s =
      let a = when format.names (name_text on name ++ name_end on mark) in
      let a' = when format.names (name ++ name_end off mark) in
      let b = when format.numbers (number_text on mark number) in
      let b' = when format.numbers (decimal number ++ mark ∷ []) in
      let c = when format.offsets (number_text on mark offset) in
      let c' = when format.offsets (decimal offset ++ mark ∷ []) in
      let t = tab_before on (not (is_nothing text)) in
      let t' = tab_before off (not (is_nothing plain)) in
      strips_append (a ++ b ++ c ++ t ++ text) (end ∷ []) (a' ++ b' ++ c' ++ t' ++ plain) (end ∷ [])
      (strips_append (a ++ b ++ c ++ t) text (a' ++ b' ++ c' ++ t') plain
      (strips_append (a ++ b ++ c) t (a' ++ b' ++ c') t'
      (strips_append (a ++ b) c (a' ++ b') c' (strips_append a b a' b' (strips_named name mark h k)
      (strips_number format.numbers number mark k)) (strips_number format.offsets offset mark k))
      (strips_tab (is_nothing text) (is_nothing plain) e)) s)
      (strips_clean (end ∷ []) (end_clean, tt))

  strips_gap : IsClean (text_between format.separator) → Strips (gap_text on end) (gap_text off end)
  strips_gap h =
      let text = text_between format.separator in
      strips_append (in_color true mark_color text) (end ∷ []) text (end ∷ [])
      (strips_color mark_color text mark_escape h) (strips_clean (end ∷ []) (end_clean, tt))

  -- a line's row
  strips_line : (name : List ℕ) (number offset : ℕ) (l : List ℕ) → IsClean name → IsClean l → (kept : Bool)
      → Strips (row on end name number offset (mark_of kept) (shown_text q on kept l))
      (row off end name number offset (mark_of kept) (shown_text q off kept l))
  strips_line name number offset l h k true =
      strips_row name number offset 58 (painted q on l) l h (λ (e : 58 ≡ 27). omega (arith, e))
      (painted_nothing l (told_parts q l) (told_ascend q l)) (strips_painted l 0 (told_parts q l) (told_ascend q l) k)
  strips_line name number offset l h k false =
      strips_row name number offset 45 l l h (λ (e : 45 ≡ 27). omega (arith, e)) refl (strips_clean l k)

  strips_lines : (name : List ℕ) (ls : List (List ℕ)) (earlier : Bool) → IsClean name → AllByRecursion IsClean ls
      → IsClean (text_between format.separator)
      → Strips (line_rows q on name ls earlier) (line_rows q off name ls earlier)
  strips_lines name ls earlier h k g =
      let shown = is_shown q format ls in
      let kept = is_kept q format.limit ls in
      let apart : ℕ → Bool = λ i.
      has_separators format && not (is_behind shown i) && (earlier || list_any shown (range_with_len 0 i)) in
      let given : Format → ℕ → List ℕ = λ f i. separator f end shown earlier i
      ++ row f end name (i + 1) (line_start ls i) (mark_of (kept i)) (shown_text q f (kept i) (line_at ls i)) in
      strips_all (given on) (given off) (places_in shown ls) (λ i.
      strips_append (separator on end shown earlier i)
      (row on end name (i + 1) (line_start ls i) (mark_of (kept i)) (shown_text q on (kept i) (line_at ls i)))
      (separator off end shown earlier i)
      (row off end name (i + 1) (line_start ls i) (mark_of (kept i)) (shown_text q off (kept i) (line_at ls i)))
      (strips_when (apart i) (gap_text on end) (gap_text off end) (strips_gap g))
      (strips_line name (i + 1) (line_start ls i) (line_at ls i) h (clean_line ls i k) (kept i)))

  -- the rows of the parts of a line
  strips_parts : (name : List ℕ) (number offset : ℕ) (l : List ℕ) (at : ℕ) (ps : List (ℕ × ℕ)) → IsClean name
      → IsClean l → Ascend l at ps
      → Strips (flat_map (λ p. row on end name number (offset + p.0) 58
      (in_color true part_color (slice_range l p.0 p.1))) ps)
      (flat_map (λ p. row off end name number (offset + p.0) 58 (slice_range l p.0 p.1)) ps)
  strips_parts name number offset l at [] h k a = λ ys. refl
  strips_parts name number offset l at (p ∷ ps) h k a =
      let own = slice_range l p.0 p.1 in
      let place : ℕ = offset + p.0 in
      strips_append (row on end name number place 58 (in_color true part_color own))
      (flat_map (λ p. row on end name number (offset + p.0) 58 (in_color true part_color (slice_range l p.0 p.1))) ps)
      (row off end name number place 58 own)
      (flat_map (λ p. row off end name number (offset + p.0) 58 (slice_range l p.0 p.1)) ps)
      (strips_row name number place 58 (in_color true part_color own) own h (λ (e : 58 ≡ 27). omega (arith, e))
      (sym (slice_some l p.0 p.1 a.1 a.2)) (strips_color part_color own part_escape (clean_slice l p.0 p.1 k)))
      (strips_parts name number offset l p.1 ps h k a.3)

  strips_pieces : (name : List ℕ) (ls : List (List ℕ)) → IsClean name → AllByRecursion IsClean ls
      → Strips (part_rows q on name ls) (part_rows q off name ls)
  strips_pieces name ls h k =
      let given : Format → ℕ → List ℕ = λ f i. flat_map (λ p. row f end name (i + 1) (line_start ls i + p.0) 58
      (in_color f.colored part_color (slice_range (line_at ls i) p.0 p.1))) (told_parts q (line_at ls i)) in
      strips_all (given on) (given off) (places_in (is_kept q format.limit ls) ls) (λ i.
      strips_parts name (i + 1) (line_start ls i) (line_at ls i) 0 (told_parts q (line_at ls i)) h (clean_line ls i k)
      (told_ascend q (line_at ls i)))

  strips_count : (name : List ℕ) (ls : List (List ℕ)) → IsClean name
      → Strips (count_row q on name ls) (count_row q off name ls)
  strips_count name ls h =
      let a = when format.names (name_text on name ++ name_end on 58) in
      let a' = when format.names (name ++ name_end off 58) in
      let count = decimal (length (places_in (is_kept q format.limit ls) ls)) in
      strips_append (a ++ count) (10 ∷ []) (a' ++ count) (10 ∷ [])
      (strips_append a count a' count (strips_named name 58 h (λ (e : 58 ≡ 27). omega (arith, e)))
      (strips_clean count (clean_decimal (length (places_in (is_kept q format.limit ls) ls)))))
      (strips_clean (10 ∷ []) (newline_clean, tt))

  strips_listed : (name : List ℕ) (ls : List (List ℕ)) → IsClean name
      → Strips (name_row q on name ls) (name_row q off name ls)
  strips_listed name ls h =
      strips_when (is_named format.mode (list_any (selects q) ls)) (name_text on name ++ name_mark on 10 ∷ [])
      (name ++ name_mark off 10 ∷ [])
      (strips_append (name_text on name) (name_mark on 10 ∷ []) name (name_mark off 10 ∷ []) (strips_name name h)
      (strips_clean (name_mark off 10 ∷ []) (go format.null, tt)))
    where
      go : (null : Bool) → IsOther (cond null 0 10)
      go true = zero_clean
      go false = newline_clean

pub colors_add : (q : Search) (format : Format) (name bytes : List ℕ) (ended earlier : Bool)
    → (Contains name 27 → ⊥) → (Contains bytes 27 → ⊥) → (Contains (text_between format.separator) 27 → ⊥)
    → without_escapes (file_rows q (record format { colored = true }) name bytes ended earlier)
    ≡ file_rows q (record format { colored = false }) name bytes ended earlier
unfolding file_rows
colors_add q format name bytes ended earlier clear_name clear_bytes clear_text =
    let on : Format = record format { colored = true } in
    let off : Format = record format { colored = false } in
    let ls = lines (terminator q) bytes in
    let h = clean name clear_name in
    let rows : Format → List ℕ = λ f. cond format.parts (part_rows q f name ls) (line_rows q f name ls earlier) in
    let count : Format → List ℕ = λ f. when ended (count_row q f name ls) in
    let listed : Format → List ℕ = λ f. when ended (name_row q f name ls) in
    stripped (rows_in format.mode (rows on) (count on) (listed on))
    (rows_in format.mode (rows off) (count off) (listed off))
    (rows_in_both Strips (λ ys. refl) format.mode (rows on) (count on) (listed on) (rows off) (count off) (listed off)
    (of_rows format.parts)
    (strips_when ended (count_row q on name ls) (count_row q off name ls) (strips_count q format name ls h))
    (strips_when ended (name_row q on name ls) (name_row q off name ls) (strips_listed q format name ls h)))
  where
    of_rows : (parts : Bool)
        → Strips (cond parts (part_rows q (record format { colored = true }) name (lines (terminator q) bytes))
        (line_rows q (record format { colored = true }) name (lines (terminator q) bytes) earlier))
        (cond parts (part_rows q (record format { colored = false }) name (lines (terminator q) bytes))
        (line_rows q (record format { colored = false }) name (lines (terminator q) bytes) earlier))
    of_rows true = strips_pieces q format name (lines (terminator q) bytes) (clean name clear_name)
        (clean_lines (terminator q) bytes (clean bytes clear_bytes))
    of_rows false = strips_lines q format name (lines (terminator q) bytes) earlier (clean name clear_name)
        (clean_lines (terminator q) bytes (clean bytes clear_bytes))
        (clean (text_between format.separator) clear_text)
