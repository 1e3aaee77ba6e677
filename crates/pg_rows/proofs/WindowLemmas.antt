-- The tails of a window and their lines.
use Rattle.std.proofs.Common.{◌≡◌, ℕ, zero, suc, ◌+◌, ◌-◌, ◌<◌, ◌≤◌, ◌^◌, ◌⊎◌, inl, inr, Some}
use Rattle.std.proofs.Common.{slice_get, List, [], ◌∷◌, ◌++◌, length, drop, refl, sym, ap, ◌∙◌, subst, arith}
use Rattle.std.proofs.Common.{append_assoc}
use Rattle.std.proofs.Common.{length-append, length-drop}
use Rattle.std.specs.List.{AllByRecursion}
use Rattle.std.proofs.lemmas.List.{append-nil, drop_all}
use Rattle.std.proofs.lemmas.List.Concat.{flat_map-append}
use Rattle.circular_buffer.specs.Buffer.{Buffer, buffer, keep_last}
use Rattle.pg_blocks.specs.Lines.{lines}
use Rattle.pg_rows.specs.declared.format.Format.{Format}
use Rattle.pg_rows.specs.declared.window.Tail.{Tail}
use Rattle.pg_rows.specs.Output.{bytes_in}
use Rattle.pg_rows.specs.Stretch.{marked_rows, plain}
use Rattle.pg_rows.specs.Window.{tail_lines, lines_in, IsTail, AreHeld, GivesUp}
use Rattle.pg_rows.proofs.RowLemmas.{marked_append}
use Rattle.pg_rows.proofs.SizeLemmas.{size_append}

pub drop_both : {X : Type 0} (n : ℕ) (xs ys : List X) → drop n (xs ++ ys) ≡ drop n xs ++ drop (n - length xs) ys
drop_both zero xs ys = let e : 0 - length xs ≡ 0 = omega arith in ap (λ k. xs ++ drop k ys) (sym e)
drop_both (suc n) [] ys = let e : suc n - 0 ≡ suc n = omega arith in ap (λ k. drop k ys) (sym e)
drop_both (suc n) (x ∷ xs) ys =
    let e : suc n - suc (length xs) ≡ n - length xs = omega arith in
    drop_both n xs ys ∙ ap (λ k. drop n xs ++ drop k ys) (sym e)

keep_behind : {X : Type 0} (size : ℕ) (xs ys : List X) → size ≤ length ys
    → keep_last size (xs ++ ys) ≡ keep_last size ys
keep_behind size xs ys le =
    let n : length (xs ++ ys) - size ≡ length xs + (length ys - size) = omega (arith, length-append xs ys) in
    let past : length xs + (length ys - size) - length xs ≡ length ys - size = omega arith in
    ap (λ k. drop k (xs ++ ys)) n ∙ (drop_both (length xs + (length ys - size)) xs ys
    ∙ (ap (λ zs. zs ++ drop (length xs + (length ys - size) - length xs) ys)
    (drop_all (length xs + (length ys - size)) xs (omega arith)) ∙ ap (λ k. drop k ys) past))

-- What is given up.

pub gives_first : (size more : ℕ) (before middle first later : List (List ℕ)) → GivesUp size more before middle
    → middle ≡ first ++ later → size ≤ length later + more → GivesUp size more before later
gives_first size more before middle first later h e enough = record {
  gone = h.gone ++ first;
  joins = h.joins ∙ (ap (λ xs. h.gone ++ xs) e ∙ sym (append_assoc h.gone first later));
  enough = inr enough;
}

-- with the lines to come, the last ones are the same
pub gives_last : (size count : ℕ) (before after more : List (List ℕ)) → count ≡ length more
    → GivesUp size count before after
    → keep_last size (after ++ more) ≡ keep_last size (before ++ more)
gives_last size count before after more n h = elim h.enough [
  | inl e ↦ ap (λ xs. keep_last size (xs ++ more)) (sym (h.joins ∙ ap (λ xs. xs ++ after) e))
  | inr le ↦ sym (ap (λ xs. keep_last size (xs ++ more)) h.joins
      ∙ (ap (keep_last size) (append_assoc h.gone after more)
      ∙ keep_behind size h.gone (after ++ more) (omega (arith, length-append after more))))
]

pub gives_enough : (size count : ℕ) (before after more : List (List ℕ)) → count ≡ length more
    → GivesUp size count before after
    → (size ≤ length (after ++ more)) ⊎ (after ++ more ≡ before ++ more)
gives_enough size count before after more n h = elim h.enough [
  | inl e ↦ inr (ap (λ xs. xs ++ more) (sym (h.joins ∙ ap (λ xs. xs ++ after) e)))
  | inr le ↦ inl (omega (arith, length-append after more))
]

-- Tails.

-- the first tail, and the others
pub record FirstTail {A : Type 0} (end : ℕ) (tails : List (Tail A)) (count : ℕ) (tail : Tail A) : Type 0 where
  pub lawful : IsTail end tail
  pub counted : count ≡ tail.lines + length (lines_in end (drop 1 tails))
  pub apart : lines_in end tails ≡ tail_lines end tail ++ lines_in end (drop 1 tails)
  pub more : 0 < length tails

first_is : {A : Type 0} (end : ℕ) (t : Tail A) (ts : List (Tail A)) (count size : ℕ) → AreHeld end (t ∷ ts) count size
    → FirstTail end (t ∷ ts) count t
first_is end t ts count size h = record {
  lawful = h.each.0;
  counted = h.counted ∙ (length-append (tail_lines end t) (lines_in end ts)
      ∙ ap (λ n. n + length (lines_in end ts)) (sym h.each.0.counted));
  apart = refl;
  more = omega arith;
}

pub first_tail : {A : Type 0} (end : ℕ) (tails : List (Tail A)) (count size : ℕ) (t : Tail A)
    → AreHeld end tails count size → Some t ≡ slice_get tails 0
    → FirstTail end tails count t
first_tail end [] count size t h e = absurd (cc)
first_tail {A} end (u ∷ ts) count size t h e =
    let same : u ≡ t = cc in
    let P : Tail A → Type 0 = λ x. FirstTail end (u ∷ ts) count x in
    subst P same (first_is end u ts count size h)

-- without the first tail
pub held_pop : {A : Type 0} (end : ℕ) (tails : List (Tail A)) (count size : ℕ) (t : Tail A)
    → AreHeld end tails count size → Some t ≡ slice_get tails 0
    → AreHeld end (drop 1 tails) (count - t.lines) size
held_pop end [] count size t h e = absurd (cc)
held_pop end (u ∷ ts) count size t h e =
    let first = first_tail end (u ∷ ts) count size t h e in
    record { each = h.each.1; counted = omega (arith, first.counted); short = later ts size h.short }
  where
    later : {A : Type 0} (ts : List (Tail A)) (size : ℕ) → length (lines_in end ts) ≤ size
        → length (lines_in end (drop 1 ts)) ≤ size
    later [] size h = h
    later (t ∷ ts) size h = omega (arith, h, length-append (tail_lines end t) (lines_in end ts))

-- A tail behind the others.

pub kept_all : {X : Type 0} (size : ℕ) (xs : List X) → length xs ≤ size → keep_last size xs ≡ xs
kept_all size xs le = ap (λ k. drop k xs) (let none : length xs - size ≡ 0 = omega arith in none)

pub all_push : {X : Type 0} (P : X → Type 0) (xs : List X) (x : X) → AllByRecursion P xs → P x
    → AllByRecursion P (xs ++ x ∷ [])
all_push P [] x h p = (p, tt)
all_push P (y ∷ ys) x h p = (h.0, all_push P ys x h.1 p)

count_tails : {A : Type 0} (end : ℕ) (tails : List (Tail A)) → AllByRecursion (IsTail end) tails
    → length tails ≤ length (lines_in end tails)
count_tails end [] h = omega arith
count_tails end (t ∷ ts) h =
    omega (arith, count_tails end ts h.1, h.0.some, h.0.counted, length-append (tail_lines end t) (lines_in end ts))

abbrev Room : {A : Type 0} → ℕ → ℕ → List (Tail A) → ℕ → Type 0
Room end more tails size = (length (lines_in end (drop 1 tails)) + more < size) ⊎ (tails ≡ [])

fits : {A : Type 0} (end more : ℕ) (tails : List (Tail A)) (count size : ℕ) → AreHeld end tails count size
    → Room end more tails size → 0 < more → 0 < size → length tails < size
fits end more [] count size h room some wide = wide
fits end more (t ∷ ts) count size h (inl less) some wide = omega (arith, count_tails end ts h.each.1, less)
fits end more (t ∷ ts) count size h (inr e) some wide = absurd (cc)

pub room_small : {A : Type 0} (end more : ℕ) (tails : List (Tail A)) (count size : ℕ) → AreHeld end tails count size
    → Room end more tails size → more < 2 ^ 63 → size < 2 ^ 63 → count + more < 2 ^ 64
room_small end more [] count size h room small wide = omega (arith, h.counted)
room_small end more (t ∷ ts) count size h (inl less) small wide =
    omega (arith, (first_is end t ts count size h).counted, h.each.0.small, less)
room_small end more (t ∷ ts) count size h (inr e) small wide = absurd (cc)

pub lines_push : {A : Type 0} (end : ℕ) (tails : List (Tail A)) (t : Tail A)
    → lines_in end (tails ++ t ∷ []) ≡ lines_in end tails ++ tail_lines end t
lines_push end tails t = flat_map-append (tail_lines end) tails (t ∷ [])
    ∙ ap (λ ls. lines_in end tails ++ ls) (append-nil (tail_lines end t))

short_push : {A : Type 0} (end more : ℕ) (tails : List (Tail A)) (size : ℕ) (t : Tail A) → Room end more tails size
    → more ≡ length (tail_lines end t) → length (lines_in end (drop 1 (tails ++ t ∷ []))) ≤ size
short_push end more [] size t room e = omega arith
short_push end more (u ∷ ts) size t (inl less) e =
    omega (arith, less, ap length (lines_push end ts t), length-append (lines_in end ts) (tail_lines end t))
short_push end more (u ∷ ts) size t (inr none) e = absurd (cc)

held_push : {A : Type 0} (end more : ℕ) (tails : List (Tail A)) (count size : ℕ) (t : Tail A)
    → AreHeld end tails count size
    → Room end more tails size → IsTail end t → t.lines ≡ more → AreHeld end (tails ++ t ∷ []) (count + more) size
held_push end more tails count size t h room tail e = record {
  each = all_push (IsTail end) tails t h.each tail;
  counted = omega (
    arith,
    h.counted,
    tail.counted,
    e,
    ap length (lines_push end tails t),
    length-append (lines_in end tails) (tail_lines end t),
  );
  short = short_push end more tails size t room (omega (arith, tail.counted));
}

-- the buffer with the tail behind the others: it gives up none of them
pub tails_pushed : {A : Type 0} (end more : ℕ) (tails : List (Tail A)) (count size : ℕ) (t : Tail A)
    (pushed : Buffer (Tail A))
    → AreHeld end tails count size → Room end more tails size → 0 < more → 0 < size
    → pushed ≡ buffer (keep_last size (tails ++ t ∷ [])) size → pushed ≡ buffer (tails ++ t ∷ []) size
tails_pushed end more tails count size t pushed h room some wide e =
    let le : length (tails ++ t ∷ []) ≤ size =
    omega (arith, fits end more tails count size h room some wide, length-append tails (t ∷ [])) in
    e ∙ ap (λ ts. buffer ts size) (kept_all size (tails ++ t ∷ []) le)

pub window_pushed : {A : Type 0} (end more : ℕ) (tails : List (Tail A)) (count size : ℕ) (t : Tail A)
    (pushed : Buffer (Tail A))
    → AreHeld end tails count size → Room end more tails size → IsTail end t → t.lines ≡ more
    → pushed ≡ buffer (tails ++ t ∷ []) size → AreHeld end pushed.items (count + more) pushed.capacity
window_pushed {A} end more tails count size t pushed h room tail e same =
    let P : Buffer (Tail A) → Type 0 = λ b. AreHeld end b.items (count + more) b.capacity in
    subst P (sym same) (held_push end more tails count size t h room tail e)

pub lines_pushed : {A : Type 0} (end : ℕ) (tails : List (Tail A)) (size : ℕ) (t : Tail A) (pushed : Buffer (Tail A))
    → pushed ≡ buffer (tails ++ t ∷ []) size → lines_in end pushed.items ≡ lines_in end tails ++ tail_lines end t
lines_pushed {A} end tails size t pushed same = ap (λ (b : Buffer (Tail A)). lines_in end b.items) same
    ∙ lines_push end tails t

-- Tails that are written.

-- the lines of the first tail and of those behind it, where some first lines are skipped
tails_apart : {A : Type 0} (end skip : ℕ) (t : Tail A) (ts : List (Tail A)) → IsTail end t
    → drop skip (lines_in end (t ∷ ts))
    ≡ drop skip (tail_lines end t) ++ drop (skip - t.lines) (lines_in end ts)
tails_apart end skip t ts tail =
    drop_both skip (tail_lines end t) (lines_in end ts)
    ∙ ap (λ k. drop skip (tail_lines end t) ++ drop (skip - k) (lines_in end ts)) (sym tail.counted)

pub shown_size : {A : Type 0} (end skip : ℕ) (t : Tail A) (ts : List (Tail A)) → IsTail end t
    → bytes_in (drop skip (lines_in end (t ∷ ts)))
    ≡ bytes_in (drop skip (tail_lines end t)) + bytes_in (drop (skip - t.lines) (lines_in end ts))
shown_size end skip t ts tail =
    ap bytes_in (tails_apart end skip t ts tail)
    ∙ size_append (drop skip (tail_lines end t)) (drop (skip - t.lines) (lines_in end ts))

-- the rows of the first tail and of those behind it, where some first lines are skipped
pub shown_tails : {A : Type 0} (format : Format) (end : ℕ) (name : List ℕ) (number offset skip : ℕ) (t : Tail A)
    (ts : List (Tail A)) → IsTail end t
    → marked_rows format end name 45 plain number offset (drop skip (lines_in end (t ∷ ts)))
    ≡ marked_rows format end name 45 plain number offset (drop skip (tail_lines end t))
    ++ marked_rows format end name 45 plain (number + (t.lines - skip))
    (offset + bytes_in (drop skip (tail_lines end t))) (drop (skip - t.lines) (lines_in end ts))
shown_tails format end name number offset skip t ts tail =
    let shown = drop skip (tail_lines end t) in
    let rows = λ (n o : ℕ) (ls : List (List ℕ)). marked_rows format end name 45 plain n o ls in
    let n : length shown ≡ t.lines - skip = omega (arith, length-drop skip (tail_lines end t), tail.counted) in
    ap (rows number offset) (tails_apart end skip t ts tail)
    ∙ (marked_append format end name 45 plain number offset shown (drop (skip - t.lines) (lines_in end ts))
    ∙ ap (λ k. rows number offset shown ++ rows (number + k) (offset + bytes_in shown)
    (drop (skip - t.lines) (lines_in end ts))) n)

pub shown_count : {A : Type 0} (end skip : ℕ) (t : Tail A) (ts : List (Tail A)) → IsTail end t
    → length (drop skip (lines_in end (t ∷ ts))) ≡ (t.lines - skip) + length (drop (skip - t.lines) (lines_in end ts))
shown_count end skip t ts tail =
    omega (
      arith,
      tail.counted,
      length-drop skip (lines_in end (t ∷ ts)),
      length-drop (skip - t.lines) (lines_in end ts),
      length-append (tail_lines end t) (lines_in end ts),
    )
