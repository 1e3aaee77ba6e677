-- What stands between a place and the end of its line: end_of_line, and the lines before a place.
use Rattle.std.proofs.Common.{◌≡◌, ℕ, ◌+◌, ◌-◌, ◌<◌, ◌≤◌, inl, inr, List, [], ◌∷◌, ◌++◌, length, take, drop}
use Rattle.std.proofs.Common.{true, get_or, slice_range, Some, None, sym, ap, ◌∙◌, subst, arith, length-drop}
use Rattle.std.proofs.lemmas.Bool.{eq-eqb, eqb-true}
use Rattle.std.proofs.lemmas.List.{take-append-drop, take_more, drop-drop, drop_all, take_all, append-nil, get_or-drop}
use Rattle.memchr.specs.Find.{IsFirstByte, is_byte}
use Rattle.pg_blocks.specs.Lines.{lines, AreWhole, IsClear, Stops}
use Rattle.pg_blocks.proofs.LineLemmas.{lines-line, lines-append, only_line, no_end_in_front}

-- the bytes up to a place are one line, and those behind it have the others
record Parts (end : ℕ) (xs : List ℕ) (n : ℕ) : Type 0 where
  pub one : 0 < length xs → length (lines end (take n xs)) ≡ 1
  pub apart : lines end xs ≡ lines end (take n xs) ++ lines end (drop n xs)
  pub whole : n < length xs → AreWhole end (take n xs)

-- the first line of the bytes, by a search for the terminator
first_parts : (end : ℕ) (xs : List ℕ) (k : ℕ) → IsFirstByte (is_byte end) xs (Some k) → Parts end xs (k + 1)
first_parts end xs k h =
    let last : get_or xs k 0 ≡ end = eqb-true (get_or xs k 0) end h.1 in
    let text : take (k + 1) xs ≡ take k xs ++ end ∷ [] = take_more xs k 0 h.0.high
    ∙ ap (λ b. take k xs ++ b ∷ []) last in
    let line = no_end_in_front end xs k (omega (arith, h.0.high)) h.0.before in
    let ended : AreWhole end (take (k + 1) xs) = inr (take k xs, text) in
    record {
      one = λ _. ap length (ap (lines end) text ∙ lines-line end (take k xs) [] line);
      apart = sym (ap (lines end) (take-append-drop (k + 1) xs))
          ∙ lines-append end (take (k + 1) xs) (drop (k + 1) xs) ended;
      whole = λ _. ended;
    }

only_parts : (end : ℕ) (xs : List ℕ) → IsFirstByte (is_byte end) xs None → Parts end xs (length xs)
only_parts end xs h =
    let all = take_all (length xs) xs (omega arith) in
    record {
      one = λ some. ap length (ap (lines end) all ∙ only_line end xs some h);
      apart = sym (append-nil (lines end xs))
          ∙ (ap (λ ys. lines end ys ++ []) (sym all)
          ∙ ap (λ ys. lines end (take (length xs) xs) ++ lines end ys) (sym (drop_all (length xs) xs (omega arith))));
      whole = λ less. absurd (omega (arith, less));
    }

-- the bytes between two places are one line, unless they are none, and those behind have the others
pub record LineAt (end : ℕ) (text : List ℕ) (start next : ℕ) : Type 0 where
  pub one : start < length text → length (lines end (slice_range text start next)) ≡ 1
  pub apart : lines end (drop start text) ≡ lines end (slice_range text start next) ++ lines end (drop next text)
  pub whole : next < length text → AreWhole end (slice_range text start next)

line_at_place : (end : ℕ) (text : List ℕ) (start next n : ℕ) → start + n ≡ next → Parts end (drop start text) n
    → LineAt end text start next
line_at_place end text start next n e h =
    let len : n ≡ next - start = omega arith in
    let behind : drop n (drop start text) ≡ drop next text = drop-drop n start text ∙ ap (λ m. drop m text) e in
    let cut = ap (λ m. take m (drop start text)) len in
    let size = length-drop start text in
    let P : List ℕ → Type 0 = λ ys. AreWhole end ys in
    record {
      one = λ some. ap (λ ys. length (lines end ys)) (sym cut) ∙ h.one (omega (arith, size, some));
      apart = h.apart ∙ (ap (λ ys. lines end ys ++ lines end (drop n (drop start text))) cut
          ∙ ap (λ ys. lines end (take (next - start) (drop start text)) ++ lines end ys) behind);
      whole = λ less. subst P cut (h.whole (omega (arith, size, less)));
    }

-- the terminator stands nowhere from a place up to another, from which a search begins
found_none : (end : ℕ) (text : List ℕ) (start k i : ℕ) → IsClear end text start (start + k) → i < k
    → is_byte end (get_or (drop start text) i 0) ≡ true → ⊥
found_none end text start k i clear less e =
    clear (start + i) (omega arith) (omega arith) (sym (get_or-drop start text i 0) ∙ eqb-true _ end e)

-- a line from a place on, where its text stops
pub line_to_stop : (end : ℕ) (text : List ℕ) (start stop next : ℕ) → start ≤ stop → IsClear end text start stop
    → Stops end text stop next → LineAt end text start next
line_to_stop end text start stop next low clear (inl h) =
    let k = stop - start in
    let at : start + k ≡ stop = omega arith in
    let C : ℕ → Type 0 = λ n. IsClear end text start n in
    let found : IsFirstByte (is_byte end) (drop start text) (Some k) = (
      record {
        low = omega arith;
        high = omega (arith, length-drop start text, h.1);
        before = λ i from to e. found_none end text start k i (subst C (sym at) clear) to e;
      },
      eq-eqb _ end (get_or-drop start text k 0 ∙ (ap (λ n. get_or text n 0) at ∙ h.2)),
    ) in
    line_at_place end text start next (k + 1) (omega (arith, h.0)) (first_parts end (drop start text) k found)
line_to_stop end text start stop next low clear (inr h) =
    let k = length (drop start text) in
    let at : start + k ≡ stop = omega (arith, length-drop start text, h.1) in
    let C : ℕ → Type 0 = λ n. IsClear end text start n in
    let none : IsFirstByte (is_byte end) (drop start text) None =
    λ i from to e. found_none end text start k i (subst C (sym at) clear) to e in
    line_at_place end text start next k (omega (arith, h.0)) (only_parts end (drop start text) none)
