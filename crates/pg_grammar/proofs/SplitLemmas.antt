-- A text is cut at its first newline.
use Rattle.std.proofs.Common.{ℕ, zero, suc, ◌≡◌, ◌<◌, ◌≤◌, ◌+◌, Bool, true, false, not, cond, eqb, ltb, List, [], ◌∷◌}
use Rattle.std.proofs.Common.{length, take, drop, get_or, Some, None, refl, ap, ◌∙◌, arith}
use Rattle.std.specs.Prelude.{position}
use Rattle.std.specs.List.{onto_first, position_or_len}
use Rattle.std.proofs.lemmas.Bool.{false≢true}
use Rattle.std.proofs.lemmas.Bool.Decides.{nat_tests}
use Rattle.std.proofs.lemmas.List.Quantifiers.{position-Some}
use Rattle.pg_grammar.specs.PatternLists.{split}
use Rattle.pg_bytes.specs.Lines.{lines}
use Rattle.pg_grammar.specs.Slices.{last_line}

abbrev pub newline : ℕ → Bool
newline b = eqb b 10

-- no newline stands in front of a place
abbrev NoneBefore : List ℕ → ℕ → Type 0
NoneBefore text n = (k : ℕ) → k < n → newline (get_or text k 0) ≡ false

later : (b : ℕ) (text : List ℕ) (n : ℕ) → NoneBefore (b ∷ text) (suc n) → NoneBefore text n
later b text n h k l = h (suc k) (omega arith)

-- the parts of a text, and its lines, up to the newline at a place
split-at : (text : List ℕ) (end : ℕ) → end < length text → newline (get_or text end 0) ≡ true → NoneBefore text end
    → split text ≡ take end text ∷ split (drop (end + 1) text)
split-at [] end l e h = absurd (omega arith)
split-at (b ∷ text) zero l e h = ap (λ t. cond t ([] ∷ split text) (onto_first b (split text))) e
split-at (b ∷ text) (suc end) l e h =
    ap (λ t. cond t ([] ∷ split text) (onto_first b (split text))) (h 0 (omega arith))
    ∙ (ap (onto_first b) (split-at text end (omega arith) e (later b text end h))
    ∙ ap (λ n. (b ∷ take end text) ∷ split (drop n (b ∷ text)))
    (let f : suc (end + 1) ≡ suc end + 1 = omega arith in f))

lines-at : (text : List ℕ) (end : ℕ) → end < length text → newline (get_or text end 0) ≡ true → NoneBefore text end
    → lines 10 text ≡ take end text ∷ lines 10 (drop (end + 1) text)
lines-at [] end l e h = absurd (omega arith)
lines-at (b ∷ text) zero l e h = ap (λ t. cond t ([] ∷ lines 10 text) (onto_first b (lines 10 text))) e
lines-at (b ∷ text) (suc end) l e h =
    ap (λ t. cond t ([] ∷ lines 10 text) (onto_first b (lines 10 text))) (h 0 (omega arith))
    ∙ (ap (onto_first b) (lines-at text end (omega arith) e (later b text end h))
    ∙ ap (λ n. (b ∷ take end text) ∷ lines 10 (drop n (b ∷ text)))
    (let f : suc (end + 1) ≡ suc end + 1 = omega arith in f))

split-whole : (text : List ℕ) → NoneBefore text (length text) → split text ≡ text ∷ []
split-whole [] h = refl
split-whole (b ∷ text) h =
    ap (λ t. cond t ([] ∷ split text) (onto_first b (split text))) (h 0 (omega arith))
    ∙ ap (onto_first b) (split-whole text (later b text (length text) h))

onto-last : (b : ℕ) (text : List ℕ) → onto_first b (last_line text) ≡ (b ∷ text) ∷ []
onto-last b [] = refl
onto-last b (c ∷ text) = refl

lines-whole : (text : List ℕ) → NoneBefore text (length text) → lines 10 text ≡ last_line text
lines-whole [] h = refl
lines-whole (b ∷ text) h =
    ap (λ t. cond t ([] ∷ lines 10 text) (onto_first b (lines 10 text))) (h 0 (omega arith))
    ∙ (ap (onto_first b) (lines-whole text (later b text (length text) h)) ∙ onto-last b text)

chosen : (c d : Bool) (n : ℕ) → c ≡ d → cond c (Some n) None ≡ None → d ≡ false
chosen true true n e h = cc
chosen false true n e h = absurd (false≢true e)
chosen c false n e h = refl

none-here : (b : ℕ) (text : List ℕ) (c : Bool) → newline b ≡ c → suc (length text) ≤ position_or_len newline (b ∷ text)
    → (length text ≤ position_or_len newline text → NoneBefore text (length text))
    → NoneBefore (b ∷ text) (suc (length text))
none-here b text true e h rest = absurd (let f : position_or_len newline (b ∷ text) ≡ 0 =
    ap (λ t. cond (not t) (1 + position_or_len newline text) 0) e in omega arith)
none-here b text false e h rest = λ k l. each k l
  where
    more : position_or_len newline (b ∷ text) ≡ 1 + position_or_len newline text
    more = ap (λ t. cond (not t) (1 + position_or_len newline text) 0) e

    each : (k : ℕ) → k < suc (length text) → newline (get_or (b ∷ text) k 0) ≡ false
    each zero l = e
    each (suc k) l = rest (let f = more in omega arith) k (omega arith)

none-before : (text : List ℕ) → length text ≤ position_or_len newline text → NoneBefore text (length text)
none-before [] h = λ k l. absurd (omega arith)
none-before (b ∷ text) h = none-here b text (newline b) refl h (none-before text)

not_below : (m n : ℕ) → ltb m n ≡ false → n ≤ m
not_below m n h = grind (arith, nat_tests)

no-newline : (text : List ℕ) → position newline text ≡ None → NoneBefore text (length text)
no-newline text e = none-before text (not_below _ _
    (chosen (ltb (position_or_len newline text) (length text)) _ (position_or_len newline text) refl e))

pub found-within : (text : List ℕ) (end : ℕ) → position newline text ≡ Some end → end < length text
found-within text end e = (position-Some newline text end 0 e).0

pub split-found : (text : List ℕ) (end : ℕ) → position newline text ≡ Some end
    → split text ≡ take end text ∷ split (drop (end + 1) text)
split-found text end e = let p = position-Some newline text end 0 e in split-at text end p.0 p.1 p.2

pub lines-found : (text : List ℕ) (end : ℕ) → position newline text ≡ Some end
    → lines 10 text ≡ take end text ∷ lines 10 (drop (end + 1) text)
lines-found text end e = let p = position-Some newline text end 0 e in lines-at text end p.0 p.1 p.2

pub split-last : (text : List ℕ) → position newline text ≡ None → split text ≡ text ∷ []
split-last text e = split-whole text (no-newline text e)

pub lines-last : (text : List ℕ) → position newline text ≡ None → lines 10 text ≡ last_line text
lines-last text e = lines-whole text (no-newline text e)
