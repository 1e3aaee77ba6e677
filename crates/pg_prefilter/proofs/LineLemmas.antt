-- Lines of some bytes: which one a place is in, which hold a text, and which is the first that is selected.
use Rattle.std.proofs.Common.{◌≡◌, ℕ, zero, suc, ◌+◌, ◌-◌, ◌<◌, ◌≤◌, ◌⊎◌, inl, inr, Bool, true, false}
use Rattle.std.proofs.Common.{List, [], ◌∷◌, ◌++◌, length, take, drop, get_or, refl, sym, ap, ◌∙◌, subst, arith}
use Rattle.std.proofs.Common.{append_assoc, length-append, length-drop, slice_range}
use Rattle.std.specs.List.{AllByRecursion, Contains}
use Rattle.std.proofs.lemmas.Bool.{cases_lt}
use Rattle.std.proofs.lemmas.List.{take-append-drop, drop_at, length-take-le, get_or-take, get_or-drop, get_or_default}
use Rattle.std.proofs.lemmas.List.{take_at, drop_more, drop-drop, drop_all}
use Rattle.std.proofs.lemmas.List.Prefix.{at_reads}
use Rattle.memchr.specs.Find.{OccursAt, Nowhere}
use Rattle.pg_literal.specs.Literals.{as_searched, Holds}
use Rattle.pg_literal.specs.Rows.{byte_as_searched}
use Rattle.pg_literal.proofs.FoldLemmas.{length_searched, searched_append}
use Rattle.pg_blocks.specs.Lines.{lines, IsLine, AreWhole, IsClear, Stops, terminated}
use Rattle.pg_selection.specs.Search.{Search, terminator}
use Rattle.pg_selection.specs.Selection.{selects}
use Rattle.pg_selection.specs.Runs.{AllLines, IsNextRun}
use Rattle.pg_prefilter.specs.NextHits.{IsNextLine}
use Rattle.pg_prefilter.specs.Literals.{LiteralData, HoldsOne}
use Rattle.pg_blocks.specs.declared.span.Span.{Span}
use Rattle.pg_prefilter.specs.Candidates.{IsLineAround, IsLineAt, IsFirstWith}
use Rattle.pg_prefilter.specs.declared.candidate.Candidate.{Candidate}
use Rattle.pg_blocks.proofs.LineLemmas.{made, around, lines-line, lines-alone, lines-append, whole_append}

pub all_by_index : (P : List ℕ → Type 0) (ls : List (List ℕ)) → ((k : ℕ) → k < length ls → P (get_or ls k []))
    → AllByRecursion P ls
all_by_index P [] h = tt
all_by_index P (l ∷ ls) h = (h zero (omega arith), all_by_index P ls (λ k below. h (suc k) (omega arith)))

all_append : (P : List ℕ → Type 0) (xs ys : List (List ℕ)) → AllByRecursion P xs → AllByRecursion P ys
    → AllByRecursion P (xs ++ ys)
all_append P [] ys a b = b
all_append P (x ∷ xs) ys a b = (a.0, all_append P xs ys a.1 b)

-- the lines of whole lines and of what stands behind them
pub all_lines-append : (q : Search) (selected : Bool) (xs ys : List ℕ) → AreWhole (terminator q) xs
    → AllLines q selected xs → AllLines q selected ys → AllLines q selected (xs ++ ys)
all_lines-append q selected xs ys w a b =
    let P : List (List ℕ) → Type 0 = λ ls. AllByRecursion (λ l. selects q l ≡ selected) ls in
    subst P (sym (lines-append (terminator q) xs ys w))
    (all_append (λ l. selects q l ≡ selected) (lines (terminator q) xs) (lines (terminator q) ys) a b)

-- what occurs in a part occurs in the whole
occurs_inside : (xs front l tail p : List ℕ) (i : ℕ) → xs ≡ front ++ (l ++ tail) → OccursAt l p i
    → OccursAt xs p (length front + i)
occurs_inside xs front l tail p i e o =
    let fits : (length front + i) + length p ≤ length xs =
    omega (arith, ap length e, length-append front (l ++ tail), length-append l tail, o.fits) in
    record {
      fits = fits;
      reads = λ j below.
          let at : (length front + i) + j ≡ length front + (i + j) = omega arith in
          let d : drop (length front) xs ≡ l ++ tail = ap (drop (length front)) e
          ∙ drop_at front (l ++ tail) (length front) refl in
          ap (λ n. get_or xs n 0) at ∙ (at_reads 0 xs l (length front) tail d (i + j) (omega (arith, o.fits))
          ∙ o.reads j below);
    }

-- the three parts of bytes as they are searched
searched_parts : (fold : Bool) (xs front l tail : List ℕ) → xs ≡ front ++ (l ++ tail)
    → as_searched fold xs ≡ as_searched fold front ++ (as_searched fold l ++ as_searched fold tail)
searched_parts fold xs front l tail e =
    ap (as_searched fold) e
    ∙ (searched_append fold front (l ++ tail) ∙ ap (λ ys. as_searched fold front ++ ys) (searched_append fold l tail))

-- the same where both are searched
searched_inside : (fold : Bool) (xs front l tail p : List ℕ) (i : ℕ) → xs ≡ front ++ (l ++ tail)
    → OccursAt (as_searched fold l) p i → OccursAt (as_searched fold xs) p (length front + i)
searched_inside fold xs front l tail p i e o =
    let P : ℕ → Type 0 = λ n. OccursAt (as_searched fold xs) p (n + i) in
    subst P (length_searched fold front) (occurs_inside (as_searched fold xs) (as_searched fold front)
    (as_searched fold l) (as_searched fold tail) p i (searched_parts fold xs front l tail e) o)

-- no line of the bytes holds the text
abbrev Without : Bool → ℕ → List ℕ → List ℕ → Type 0
Without fold end p bytes = AllByRecursion (λ l. Holds fold l p → ⊥) (lines end bytes)

-- of bytes in which the text occurs nowhere no line holds it
pub nowhere_lines : (fold : Bool) (end : ℕ) (p bytes : List ℕ) → ((k : ℕ) → OccursAt (as_searched fold bytes) p k → ⊥)
    → Without fold end p bytes
nowhere_lines fold end p bytes none =
    all_by_index (λ l. Holds fold l p → ⊥) (lines end bytes) (λ k below.
    let r = around end bytes (lines end bytes) (made end bytes) k below in
    let front = terminated end (take k (lines end bytes)) in
    λ h. none (length front + h.0)
    (searched_inside fold bytes front (get_or (lines end bytes) k []) r.0 p h.0 r.1 h.1))

-- nor does one that ends before the first place at which it occurs
pub lines_before : (fold : Bool) (end : ℕ) (p bytes : List ℕ) (s k : ℕ)
    → Nowhere (OccursAt (as_searched fold bytes) p) 0 k → s ≤ k → k ≤ length bytes
    → Without fold end p (take s bytes)
lines_before fold end p bytes zero k none low high = tt
lines_before fold end p bytes (suc s) k none low high =
    nowhere_lines fold end p (take (suc s) bytes) (λ j o.
    let len = length-take-le (suc s) bytes (omega arith) in
    let same = length_searched fold (take (suc s) bytes) in
    let P : ℕ → Type 0 = λ n. OccursAt (as_searched fold bytes) p n in
    let zero-j : 0 + j ≡ j = omega arith in
    let joins = sym (take-append-drop (suc s) bytes) in
    let here : OccursAt (as_searched fold bytes) p j =
    subst P zero-j (searched_inside fold bytes [] (take (suc s) bytes) (drop (suc s) bytes) p j joins o) in
    let some : 0 < length p = empty_needle p (λ e. none 0 (omega arith) (omega arith) (record {
      fits = omega (arith, ap length e);
      reads = λ i below. absurd (omega (arith, ap length e));
    })) in
    none j (omega arith) (omega (arith, o.fits, same)) here)
  where
    empty_needle : (p : List ℕ) → (p ≡ [] → ⊥) → 0 < length p
    empty_needle [] ne = absurd (ne refl)
    empty_needle (b ∷ p) ne = omega arith

-- lines without any of some texts
pub without_each : (fold : Bool) (literals : List LiteralData) (ls : List (List ℕ))
    → ((l : LiteralData) → Contains literals l → AllByRecursion (λ line. Holds fold line l.text → ⊥) ls)
    → AllByRecursion (λ line. HoldsOne fold literals line → ⊥) ls
without_each fold literals [] each = tt
without_each fold literals (line ∷ ls) each = (
  λ held. (each held.1 (held.0, held.2, held.3)).0 held.4,
  without_each fold literals ls (λ l among. (each l among).1),
)

pub is_line : (end : ℕ) (bytes : List ℕ) (s e : ℕ) → e ≤ length bytes → IsClear end bytes s e
    → IsLine end (take (e - s) (drop s bytes))
is_line end bytes s e high none c =
    let within : c.0 < e - s = omega (arith, c.1, length-take (e - s) (drop s bytes)) in
    none (s + c.0) (omega arith) (omega arith)
    (sym (get_or-drop s bytes c.0 0)
    ∙ (sym (get_or-take (e - s) (drop s bytes) c.0 0 within)
    ∙ (get_or_default (take (e - s) (drop s bytes)) c.0 0 end c.1 ∙ c.2)))
  where
    length-take : (n : ℕ) (xs : List ℕ) → length (take n xs) ≤ n
    length-take zero xs = omega arith
    length-take (suc n) [] = omega arith
    length-take (suc n) (x ∷ xs) = omega (arith, length-take n xs)

-- what occurs within a part occurs in the part
occurs_within : (bytes p : List ℕ) (s e k : ℕ) → e ≤ length bytes → s ≤ k → k + length p ≤ e → OccursAt bytes p k
    → OccursAt (take (e - s) (drop s bytes)) p (k - s)
occurs_within bytes p s e k high low fits o =
    let len : length (take (e - s) (drop s bytes)) ≡ e - s =
    length-take-le (e - s) (drop s bytes) (omega (arith, length-drop s bytes)) in
    record {
      fits = omega arith;
      reads = λ j below.
          let at : s + ((k - s) + j) ≡ k + j = omega arith in
          get_or-take (e - s) (drop s bytes) ((k - s) + j) 0 (omega arith)
          ∙ (get_or-drop s bytes ((k - s) + j) 0 ∙ (ap (λ n. get_or bytes n 0) at ∙ o.reads j below));
    }

-- the same where both are searched
searched_within : (fold : Bool) (bytes p : List ℕ) (s e k : ℕ) → e ≤ length bytes → s ≤ k → k + length p ≤ e
    → OccursAt (as_searched fold bytes) p k → OccursAt (as_searched fold (take (e - s) (drop s bytes))) p (k - s)
searched_within fold bytes p s e k high low fits o =
    let S : List ℕ → List ℕ = as_searched fold in
    let front = take s bytes in
    let l = take (e - s) (drop s bytes) in
    let tail = drop (e - s) (drop s bytes) in
    let whole : bytes ≡ front ++ (l ++ tail) =
    sym (take-append-drop s bytes) ∙ ap (λ xs. front ++ xs) (sym (take-append-drop (e - s) (drop s bytes))) in
    let parts = searched_parts fold bytes front l tail whole in
    let front_len : length (S front) ≡ s = length_searched fold front ∙ length-take-le s bytes (omega arith) in
    let l_len : length (S l) ≡ e - s =
    length_searched fold l ∙ length-take-le (e - s) (drop s bytes) (omega (arith, length-drop s bytes)) in
    let here : take (e - s) (drop s (S bytes)) ≡ S l =
    ap (λ xs. take (e - s) (drop s xs)) parts
    ∙ (ap (take (e - s)) (drop_at (S front) (S l ++ S tail) s front_len) ∙ take_at (S l) (S tail) (e - s) l_len) in
    let P : List ℕ → Type 0 = λ xs. OccursAt xs p (k - s) in
    subst P here (occurs_within (S bytes) p s e k (omega (arith, length_searched fold bytes)) low fits o)

-- a byte as it is searched
searched_at : (fold : Bool) (bytes : List ℕ) (i : ℕ) → i < length bytes
    → get_or (as_searched fold bytes) i 0 ≡ byte_as_searched fold (get_or bytes i 0)
searched_at false bytes i below = refl
searched_at true [] i below = absurd (omega arith)
searched_at true (b ∷ bytes) zero below = refl
searched_at true (b ∷ bytes) (suc i) below = searched_at true bytes i (omega arith)

-- the first place of a pattern is no end of bytes
pub place_below : (bytes p : List ℕ) (k : ℕ) → OccursAt bytes p k → Nowhere (OccursAt bytes p) 0 k → 0 < length bytes
    → k < length bytes
place_below bytes p k o none some = elim (cases_lt k (length bytes)) [
  | inl h ↦ h
  | inr h ↦ absurd (none 0 (omega arith) (omega arith)
      (record { fits = omega (arith, o.fits); reads = λ j below. absurd (omega (arith, o.fits)) }))
]

pub line_some : (end : ℕ) (bytes : List ℕ) (s k e stop : ℕ) → s ≤ k → k ≤ e → k < length bytes → Stops end bytes e stop
    → (s < stop) × (stop ≤ length bytes)
line_some end bytes s k e stop low high below (inl h) = (omega (arith, h.0), omega (arith, h.0, h.1))
line_some end bytes s k e stop low high below (inr h) = (omega (arith, h.0, h.1), omega (arith, h.0, h.1))

pub line_at : (end : ℕ) (bytes : List ℕ) (s e stop : ℕ) → s ≤ e → e ≤ length bytes → s < stop → IsClear end bytes s e
    → Stops end bytes e stop → IsLineAt end bytes s e stop
line_at end bytes s e stop low high longer clear stops =
    let text = take (e - s) (drop s bytes) in
    let len : length (take s bytes) ≡ s = length-take-le s bytes (omega arith) in
    let text_len : length text ≡ e - s = length-take-le (e - s) (drop s bytes) (omega (arith, length-drop s bytes)) in
    let alone : IsLine end text = is_line end bytes s e high clear in
    let to_e : s + (e - s) ≡ e = omega arith in
    let split_at : bytes ≡ (take s bytes ++ text) ++ drop e bytes =
    sym (take-append-drop s bytes)
    ∙ (ap (λ xs. take s bytes ++ xs) (sym (take-append-drop (e - s) (drop s bytes)))
    ∙ (sym (append_assoc (take s bytes) text (drop (e - s) (drop s bytes)))
    ∙ ap (λ xs. (take s bytes ++ text) ++ xs) (drop-drop (e - s) s bytes ∙ ap (λ n. drop n bytes) to_e))) in
    elim stops [
      | inl h ↦
          let text' = text ++ end ∷ [] in
          let len' : length text' ≡ (e - s) + 1 = omega (arith, length-append text (end ∷ []), text_len) in
          let next : drop e bytes ≡ end ∷ drop (e + 1) bytes =
          drop_more bytes e 0 h.1 ∙ ap (λ b. b ∷ drop (e + 1) bytes) h.2 in
          record {
            text = text';
            later = drop (e + 1) bytes;
            joins = split_at
                ∙ (ap (λ xs. (take s bytes ++ text) ++ xs) next ∙ regroup (take s bytes) text end (drop (e + 1) bytes));
            one = lines-line end text [] alone;
            front = len;
            len = omega (arith, len', h.0);
            some = λ e'. absurd (omega (arith, ap length e', len'));
            whole = inl (inr (text, refl), ap (λ n. drop n bytes) (sym h.0));
          }
      | inr h ↦ record {
        text = text;
        later = drop e bytes;
        joins = split_at;
        one = lines-alone end text (omega (arith, h.0, text_len)) alone;
        front = len;
        len = omega (arith, text_len, h.0);
        some = λ e'. absurd (omega (arith, ap length e', h.0, text_len));
        whole = inr (drop_all e bytes (omega (arith, h.1)), omega (arith, h.0, h.1));
      }
    ]
  where
    regroup : (xs ys : List ℕ) (b : ℕ) (zs : List ℕ) → (xs ++ ys) ++ b ∷ zs ≡ (xs ++ (ys ++ b ∷ [])) ++ zs
    regroup xs ys b zs =
        append_assoc xs ys (b ∷ zs)
        ∙ (ap (λ t. xs ++ t) (sym (append_assoc ys (b ∷ []) zs)) ∙ sym (append_assoc xs (ys ++ b ∷ []) zs))

-- a line among the bytes
pub line_among : (end at : ℕ) (bytes : List ℕ) (s e stop : ℕ) (line : Span) → IsLineAt end (drop at bytes) s e stop
    → line.start ≡ at + s → line.end ≡ at + stop
    → lines end (slice_range bytes line.start line.end) ≡ take (e - s) (drop s (drop at bytes)) ∷ []
line_among end at bytes s e stop line is starts ends =
    let rest = drop at bytes in
    let len : line.end - line.start ≡ length is.text = omega (arith, starts, ends, is.len) in
    let from : drop line.start bytes ≡ is.text ++ is.later =
    ap (λ n. drop n bytes) starts
    ∙ (sym (drop-drop s at bytes)
    ∙ (ap (drop s) (is.joins ∙ append_assoc (take s rest) is.text is.later)
    ∙ drop_at (take s rest) (is.text ++ is.later) s is.front)) in
    let slice : slice_range bytes line.start line.end ≡ is.text =
    ap (λ n. take n (drop line.start bytes)) len
    ∙ (ap (take (length is.text)) from ∙ take_at is.text is.later (length is.text) refl) in
    ap (lines end) slice ∙ is.one

-- The first selected line: whole lines before it of which none is selected.
pub line_found : (q : Search) (bytes : List ℕ) (at s e stop : ℕ) (line : Span) → IsLineAt (terminator q) bytes s e stop
    → AreWhole (terminator q) (take s bytes) → AllLines q false (take s bytes)
    → selects q (take (e - s) (drop s bytes)) ≡ true → line.start ≡ at + s → line.end ≡ at + stop
    → IsNextLine q at bytes line
line_found q bytes at s e stop line is front none chosen start ends =
    let selected : List (List ℕ) → Type 0 = λ ls. AllByRecursion (λ l. selects q l ≡ true) ls in
    let next : IsNextRun q at 0 bytes
    (record { span = line; first = length (lines (terminator q) (take s bytes)); count = 1 }) = record {
      gap = take s bytes;
      text = is.text;
      later = is.later;
      joins = is.joins;
      gap_whole = front;
      gap_unselected = none;
      text_some = is.some;
      text_whole = elim is.whole [ inl w ↦ inl w.0 | inr h ↦ inr h.0 ];
      text_selected = subst selected (sym is.one) (chosen, tt);
      start = omega (arith, start, is.front);
      stop = omega (arith, ends, is.front, is.len);
      first = omega arith;
      count = sym (ap length is.one);
    } in
    (length (lines (terminator q) (take s bytes)), next)

-- whole lines, or all of the bytes
abbrev pub IsPassed : ℕ → List ℕ → ℕ → Type 0
IsPassed end bytes s = AreWhole end (take s bytes) ⊎ (s ≡ length bytes)

upto_stop : (end : ℕ) (bytes : List ℕ) (s e stop : ℕ) (is : IsLineAt end bytes s e stop)
    → take stop bytes ≡ take s bytes ++ is.text
upto_stop end bytes s e stop is =
    let both = take s bytes ++ is.text in
    ap (take stop) is.joins
    ∙ take_at both is.later stop (omega (arith, length-append (take s bytes) is.text, is.front, is.len))

-- a line is passed
pub line_passed : (end : ℕ) (bytes : List ℕ) (s e stop : ℕ) → IsLineAt end bytes s e stop → AreWhole end (take s bytes)
    → IsPassed end bytes stop
line_passed end bytes s e stop is front =
    let W : List ℕ → Type 0 = λ xs. AreWhole end xs in
    elim is.whole [
      | inl w ↦ inl (subst W (sym (upto_stop end bytes s e stop is))
          (whole_append end (take s bytes) is.text front w.0))
      | inr h ↦ inr h.1
    ]

-- whole lines of which none is selected, and one more that isn't
pub line_unselected : (q : Search) (bytes : List ℕ) (s e stop : ℕ) → IsLineAt (terminator q) bytes s e stop
    → AreWhole (terminator q) (take s bytes) → AllLines q false (take s bytes)
    → selects q (take (e - s) (drop s bytes)) ≡ false → AllLines q false (take stop bytes)
line_unselected q bytes s e stop is front none not_chosen =
    let P : List ℕ → Type 0 = λ xs. AllLines q false xs in
    let unselected : List (List ℕ) → Type 0 = λ ls. AllByRecursion (λ l. selects q l ≡ false) ls in
    subst P (sym (upto_stop (terminator q) bytes s e stop is))
    (all_lines-append q false (take s bytes) is.text front none (subst unselected (sym is.one) (not_chosen, tt)))

-- no literal occurs before a place
abbrev pub NoneBefore : Bool → List LiteralData → List ℕ → ℕ → Type 0
NoneBefore fold literals bytes k =
    (l : LiteralData) → Contains literals l → Nowhere (OccursAt (as_searched fold bytes) l.text) 0 k

-- the line that a byte is in
pub around_is : (end at : ℕ) (bytes : List ℕ) (k : ℕ) (line : Span) (h : IsLineAround end at bytes k line)
    → k < length bytes → IsLineAt end bytes h.s h.e h.stop × (h.s < h.stop) × (h.stop ≤ length bytes)
    × (h.e ≤ length bytes)
around_is end at bytes k line h below =
    let within : h.e ≤ length bytes = elim h.stops [ inl m ↦ omega (arith, m.1) | inr m ↦ omega (arith, m.1) ] in
    let sides = line_some end bytes h.s k h.e h.stop h.low h.high below h.stops in
    let low = h.low in
    let high = h.high in
    (line_at end bytes h.s h.e h.stop (omega arith) within sides.0 h.clear h.stops, sides.0, sides.1, within)

-- the line around the first place at which a literal occurs is the first that holds one
pub first_found : (fold : Bool) (end : ℕ) (literals : List LiteralData) (l : LiteralData) (bytes : List ℕ)
    (at k : ℕ) (found : Candidate) → byte_as_searched fold end ≡ end → IsLine end l.text → Contains literals l
    → l.is_enough ≡ found.is_enough → OccursAt (as_searched fold bytes) l.text k → NoneBefore fold literals bytes k
    → 0 < length bytes → IsLineAround end at bytes k found.line
    → IsFirstWith fold end literals at bytes found × (found.line.start < found.line.end)
    × (found.line.end ≤ at + length bytes)
first_found fold end literals l bytes at k found plain alone among flag o none some h =
    let p = l.text in
    let size = length_searched fold bytes in
    let searched_below = place_below (as_searched fold bytes) p k o (none l among) (omega (arith, size, some)) in
    let is = around_is end at bytes k found.line h (omega (arith, size, searched_below)) in
    let low = h.low in
    let high = h.high in
    let fits : k + length p ≤ h.e = elim (cases_lt h.e (k + length p)) [
      | inr fits ↦ fits
      | inl beyond ↦ elim h.stops [
        | inl m ↦
            let at_e : k + (h.e - k) ≡ h.e = omega arith in
            absurd (alone (
              h.e - k,
              omega arith,
              get_or_default p (h.e - k) end 0 (omega arith)
                  ∙ (sym (o.reads (h.e - k) (omega arith))
                  ∙ (ap (λ n. get_or (as_searched fold bytes) n 0) at_e
                  ∙ (searched_at fold bytes h.e m.1 ∙ (ap (byte_as_searched fold) m.2 ∙ plain)))),
            ))
        | inr m ↦ absurd (omega (arith, o.fits, m.1, size))
      ]
    ] in (
      record {
        s = h.s;
        e = h.e;
        stop = h.stop;
        is = is.0;
        front = h.front;
        without = without_each fold literals (lines end (take h.s bytes))
            (λ m here. lines_before fold end m.text bytes h.s k (none m here) low (omega (arith, o.fits, size)));
        holds = (
          among.0,
          l,
          among.1,
          among.2,
          (flag, (k - h.s, searched_within fold bytes p h.s h.e k is.3 low fits o)),
        );
        starts = h.starts;
        ends = h.ends;
      },
      omega (arith, is.1, h.starts, h.ends),
      omega (arith, is.2, h.ends),
    )

pub all_back : (P : List ℕ → Type 0) (xs ys : List (List ℕ)) → AllByRecursion P (xs ++ ys) → AllByRecursion P ys
all_back P [] ys h = h
all_back P (x ∷ xs) ys h = all_back P xs ys h.1
