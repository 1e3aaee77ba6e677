-- Where lines end in bytes.
use Rattle.std.proofs.Common.{◌≡◌, ℕ, zero, suc, ◌+◌, ◌-◌, ◌<◌, ◌≤◌, List, [], ◌∷◌, ◌++◌, length, take, drop}
use Rattle.std.proofs.Common.{inl}
use Rattle.std.proofs.Common.{get_or, slice_range, refl, sym, ap, ◌∙◌, subst, arith, length-append}
use Rattle.std.proofs.lemmas.List.{get_or-take, length-take-le, take-append-drop}
use Rattle.std.proofs.lemmas.List.{drop-drop, drop_at}
use Rattle.std.proofs.Math.Seq.{take-add}
use Rattle.circular_buffer.specs.Buffer.{keep_last}
use Rattle.pg_blocks.specs.Lines.{lines, AreWhole, IsClear, Stops}
use Rattle.pg_blocks.proofs.LineLemmas.{lines-append, whole_append}
use Rattle.pg_blocks.proofs.PlaceLemmas.{line_to_stop}
use Rattle.pg_rows.specs.Places.{FirstLines}
use Rattle.pg_rows.proofs.TextLemmas.{last_whole}

-- Several lines at the beginning of a text.

take_to : (text : List ℕ) (start next : ℕ) → start ≤ next
    → take next text ≡ take start text ++ slice_range text start next
take_to text start next le =
    let e : start + (next - start) ≡ next = omega arith in
    ap (λ n. take n text) (sym e) ∙ take-add start (next - start) text

one_at_front : (front later all : List (List ℕ)) (n : ℕ) → length front ≡ 1 → front ++ later ≡ drop n all
    → (take n all ++ front ≡ take (n + 1) all) × (later ≡ drop (n + 1) all)
one_at_front [] later all n one e = absurd (omega arith)
one_at_front (l ∷ []) later all n one e = (
  sym (take-add n 1 all ∙ ap (λ xs. take n all ++ take 1 xs) (sym e)),
  ap (drop 1) e ∙ drop-drop 1 n all,
)
one_at_front (l ∷ k ∷ ls) later all n one e = absurd (omega arith)

pub first_more : (end : ℕ) (text : List ℕ) (place done next : ℕ) → FirstLines end text place done → place < length text
    → place < next → next ≤ length text → length (lines end (slice_range text place next)) ≡ 1
    → lines end (drop place text) ≡ lines end (slice_range text place next) ++ lines end (drop next text)
    → (next < length text → AreWhole end (slice_range text place next)) → FirstLines end text next (done + 1)
first_more end text place done next h some low high one apart whole =
    let cut = take_to text place next (omega arith) in
    let parts = one_at_front (lines end (slice_range text place next)) (lines end (drop next text))
    (lines end text) done
    one (sym apart ∙ h.rest) in
    let P : List ℕ → Type 0 = λ xs. AreWhole end xs in
    record {
      within = high;
      first = ap (lines end) cut ∙ (lines-append end (take place text) (slice_range text place next) (h.whole some)
          ∙ (ap (λ ls. ls ++ lines end (slice_range text place next)) h.first ∙ parts.0));
      rest = parts.1;
      whole = λ less. subst P (sym cut)
          (whole_append end (take place text) (slice_range text place next) (h.whole some) (whole less));
    }

-- Several lines at the end of a text.

-- the bytes from a place on are the last `done` lines
pub record LastLines (end : ℕ) (text : List ℕ) (place done : ℕ) : Type 0 where
  pub within : place ≤ length text
  pub whole : AreWhole end (take place text)
  pub counted : length (lines end (drop place text)) ≡ done

last_parts : (end : ℕ) (text : List ℕ) (place : ℕ) → AreWhole end (take place text)
    → lines end text ≡ lines end (take place text) ++ lines end (drop place text)
last_parts end text place whole = sym (ap (lines end) (take-append-drop place text))
    ∙ lines-append end (take place text) (drop place text) whole

pub last_kept : (end : ℕ) (text : List ℕ) (place done : ℕ) → LastLines end text place done
    → lines end (drop place text) ≡ keep_last done (lines end text)
last_kept end text place done h =
    let front = lines end (take place text) in
    let back = lines end (drop place text) in
    let e = last_parts end text place h.whole in
    let n : length (lines end text) - done ≡ length front =
    omega (arith, ap length e, length-append front back, h.counted) in
    sym (ap (λ k. drop k (lines end text)) n ∙ (ap (drop (length front)) e ∙ drop_at front back (length front) refl))

-- there is a line before the place
pub some_before : (end : ℕ) (text : List ℕ) (place done count : ℕ) → LastLines end text place done
    → count ≤ length (lines end text) → done < count → 0 < place
some_before end text zero done count h le less = absurd (omega (arith, h.counted))
some_before end text (suc place) done count h le less = omega arith

pub last_more : (end : ℕ) (text : List ℕ) (place done start : ℕ) → LastLines end text place done → 0 < place
    → start ≤ place - 1 → IsClear end text start (place - 1) → AreWhole end (take start text)
    → LastLines end text start (done + 1)
last_more end text place done start h some low clear whole =
    let len : length (take place text) ≡ place = length-take-le place text h.within in
    let last : get_or text (place - 1) 0 ≡ end = sym (get_or-take place text (place - 1) 0 (omega arith))
    ∙ (ap (λ n. get_or (take place text) (n - 1) 0) (sym len)
    ∙ last_whole end (take place text) h.whole (omega arith)) in
    let stop : Stops end text (place - 1) place = inl (omega arith, omega (arith, h.within), last) in
    let line = line_to_stop end text start (place - 1) place low clear stop in
    record {
      within = omega (arith, h.within);
      whole = whole;
      counted = ap length line.apart
          ∙ (length-append (lines end (slice_range text start place)) (lines end (drop place text))
          ∙ (ap (λ n. n + length (lines end (drop place text))) (line.one (omega (arith, h.within)))
          ∙ (ap (λ n. 1 + n) h.counted ∙ (omega arith))));
    }
