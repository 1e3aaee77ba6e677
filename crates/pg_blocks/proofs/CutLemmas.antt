-- Finished blocks.
use Rattle.std.proofs.Common.{◌≡◌, ℕ, suc, ◌+◌, ◌-◌, ◌<◌, ◌≤◌, inl, inr, Some, None, List, [], ◌∷◌, ◌++◌, length, take}
use Rattle.std.proofs.Common.{drop, get_or, refl, sym, ap, ◌∙◌, subst, arith, length-append, length-drop, append_assoc}
use Rattle.std.specs.List.{AllByRecursion}
use Rattle.std.proofs.Math.ListN.{get_or-append}
use Rattle.std.proofs.lemmas.List.{get_or-append-add, take-append-drop, drop-drop, get_or_at, get_or-take, get_or-drop}
use Rattle.std.proofs.lemmas.List.{take_more, length-take-le, take-take, append-nil}
use Rattle.std.proofs.lemmas.Bool.{eqb-true, eq-eqb, cases_lt}
use Rattle.std.proofs.lemmas.List.Concat.{flat_map-append}
use Rattle.memchr.specs.Find.{IsFirstByte, is_byte}
use Rattle.pg_blocks.specs.Blocks.{BlockData, EndsWith, IsFinished, IsUnfinished, AreNumbered, Cuts, joined}

pub end_at : (end : ℕ) (xs : List ℕ) (n : ℕ) → n ≤ length xs → EndsWith end (take n xs) → (0 < n)
    × (get_or xs (n - 1) 0 ≡ end)
end_at end xs n fits h =
    let front = h.0 in
    let len : n ≡ length front + 1 = omega
    (arith, sym (length-take-le n xs fits) ∙ ap length h.1, length-append front (end ∷ [])) in
    let at : n - 1 ≡ length front = omega arith in (
      omega arith,
      ap (λ k. get_or xs k 0) at
          ∙ (sym (get_or-take n xs (length front) 0 (omega arith))
          ∙ (ap (λ ys. get_or ys (length front) 0) h.1 ∙ get_or_at front end [] 0 (length front) refl)),
    )

ends_at : (end : ℕ) (xs : List ℕ) (n : ℕ) → 0 < n → n ≤ length xs → get_or xs (n - 1) 0 ≡ end → EndsWith end (take n xs)
ends_at end xs n some fits e =
    let back : (n - 1) + 1 ≡ n = omega arith in (
      take (n - 1) xs,
      ap (λ k. take k xs) (sym back)
          ∙ (take_more xs (n - 1) 0 (omega arith) ∙ ap (λ b. take (n - 1) xs ++ b ∷ []) e),
    )

-- an unfinished beginning has no terminator at or behind its size
pub clear_behind : (end size : ℕ) (xs : List ℕ) → IsUnfinished end size xs → (i : ℕ) → size ≤ i + 1 → i < length xs
    → get_or xs i 0 ≡ end → ⊥
clear_behind end size xs h i low high e =
    let back : (i + 1) - 1 ≡ i = omega arith in
    h (i + 1) low (omega arith) (ends_at end xs (i + 1) (omega arith) (omega arith) (ap (λ n. get_or xs n 0) back ∙ e))

-- bytes with no terminator there
pub unfinished_by : (end size : ℕ) (xs : List ℕ) → 0 < size
    → ((i : ℕ) → size ≤ i + 1 → i < length xs → get_or xs i 0 ≡ end → ⊥) → IsUnfinished end size xs
unfinished_by end size xs some clear n low high ends =
    let e = end_at end xs n high ends in
    clear (n - 1) (omega (arith, e.0)) (omega (arith, e.0)) e.1

-- bytes whose first terminator there is the last byte
pub finished_by : (end size : ℕ) (xs : List ℕ) (k : ℕ) → size ≤ k + 1 → k < length xs → get_or xs k 0 ≡ end
    → ((i : ℕ) → size ≤ i + 1 → i < k → get_or xs i 0 ≡ end → ⊥) → 0 < size → IsFinished end size (take (k + 1) xs)
finished_by end size xs k low high e clear some =
    let len = length-take-le (k + 1) xs (omega arith) in
    let back : (k + 1) - 1 ≡ k = omega arith in
    record {
      long = omega arith;
      ends = ends_at end xs (k + 1) (omega arith) (omega arith) (ap (λ n. get_or xs n 0) back ∙ e);
      shortest = λ n low' high' ends. let Q : List ℕ → Type 0 = λ ys. EndsWith end ys in
          let h = end_at end xs n (omega arith) (subst Q (take-take n (k + 1) xs (omega arith)) ends) in
          clear (n - 1) (omega (arith, h.0)) (omega (arith, h.0)) h.1;
    }

take_past : (xs ys : List ℕ) (n : ℕ) → take (length xs + n) (xs ++ ys) ≡ xs ++ take n ys
take_past [] ys n = let e : 0 + n ≡ n = omega arith in ap (λ m. take m ys) e
take_past (x ∷ xs) ys n = let e : length (x ∷ xs) + n ≡ suc (length xs + n) =
    omega arith in ap (λ m. take m (x ∷ xs ++ ys)) e ∙ ap (λ zs. x ∷ zs) (take_past xs ys n)

-- a block that begins with `rest` can't be finished before this place of the piece behind it
abbrev from_place : ℕ → List ℕ → ℕ
from_place size rest = (size - 1) - length rest

clear_of : (end size : ℕ) (rest piece : List ℕ) (k : ℕ) → IsUnfinished end size rest
    → ((j : ℕ) → from_place size rest ≤ j → j < k → get_or piece j 0 ≡ end → ⊥)
    → (i : ℕ) → size ≤ i + 1 → i < length rest + k → get_or (rest ++ piece) i 0 ≡ end → ⊥
clear_of end size rest piece k h clear i low high e = elim (cases_lt i (length rest)) [
  | inl inside ↦ clear_behind end size rest h i low inside (sym (get_or-append rest piece 0 i inside) ∙ e)
  | inr behind ↦ let at : length rest + (i - length rest) ≡ i = omega arith in
      clear (i - length rest) (omega arith) (omega arith)
      (sym (get_or-append-add rest piece (i - length rest) 0) ∙ (ap (λ n. get_or (rest ++ piece) n 0) at ∙ e))
]

pub unfinished_after : (end size : ℕ) (rest piece : List ℕ) → 0 < size → IsUnfinished end size rest
    → ((j : ℕ) → from_place size rest ≤ j → j < length piece → get_or piece j 0 ≡ end → ⊥)
    → IsUnfinished end size (rest ++ piece)
unfinished_after end size rest piece some h clear =
    unfinished_by end size (rest ++ piece) some
    (λ i low high. clear_of end size rest piece (length piece) h clear i low
    (omega (arith, length-append rest piece)))

pub finished_after : (end size : ℕ) (rest piece : List ℕ) (j : ℕ) → 0 < size → IsUnfinished end size rest
    → from_place size rest ≤ j → j < length piece → get_or piece j 0 ≡ end
    → ((i : ℕ) → from_place size rest ≤ i → i < j → get_or piece i 0 ≡ end → ⊥)
    → IsFinished end size (rest ++ take (j + 1) piece)
finished_after end size rest piece j some h low high e clear =
    let P : List ℕ → Type 0 = λ xs. IsFinished end size xs in
    let k = length rest + j in
    let n : k + 1 ≡ length rest + (j + 1) = omega arith in
    subst P (ap (λ m. take m (rest ++ piece)) n ∙ take_past rest piece (j + 1))
    (finished_by end size (rest ++ piece) k (omega arith) (omega (arith, length-append rest piece))
    (get_or-append-add rest piece j 0 ∙ e)
    (λ i low' high'. clear_of end size rest piece j h clear i low' high') some)

-- what a search from a place says of a piece
pub searched_none : (end from : ℕ) (piece : List ℕ) → IsFirstByte (is_byte end) (drop from piece) None → (j : ℕ)
    → from ≤ j → j < length piece → get_or piece j 0 ≡ end → ⊥
searched_none end from piece h j low high e =
    let at : from + (j - from) ≡ j = omega arith in
    h (j - from) (omega arith) (omega (arith, length-drop from piece))
    (eq-eqb _ end (get_or-drop from piece (j - from) 0 ∙ (ap (λ n. get_or piece n 0) at ∙ e)))

pub searched_some : (end from : ℕ) (piece : List ℕ) (len : ℕ) → IsFirstByte (is_byte end) (drop from piece) (Some len)
    → (from + len < length piece) × (get_or piece (from + len) 0 ≡ end)
    × ((i : ℕ) → from ≤ i → i < from + len → get_or piece i 0 ≡ end → ⊥)
searched_some end from piece len h = (
  omega (arith, h.0.high, length-drop from piece),
  sym (get_or-drop from piece len 0) ∙ eqb-true _ end h.1,
  λ i low high e.
      let at : from + (i - from) ≡ i = omega arith in
      h.0.before (i - from) (omega arith) (omega arith)
      (eq-eqb _ end (get_or-drop from piece (i - from) 0 ∙ (ap (λ n. get_or piece n 0) at ∙ e))),
)

pub numbered_front : (file number : ℕ) (xs ys : List BlockData) → AreNumbered file number (xs ++ ys)
    → AreNumbered file number xs
numbered_front file number [] ys h = tt
numbered_front file number (x ∷ xs) ys h = (h.0, h.1, numbered_front file (number + 1) xs ys h.2)

pub numbered_more : (file number : ℕ) (xs : List BlockData) (b : BlockData) → AreNumbered file number xs → b.file ≡ file
    → b.number ≡ number + length xs → AreNumbered file number (xs ++ b ∷ [])
numbered_more file number [] b h f n = (f, omega arith, tt)
numbered_more file number (x ∷ xs) b h f n = (h.0, h.1, numbered_more file (number + 1) xs b h.2 f (omega arith))

-- one more finished block
pub finished_more : (end size : ℕ) (blocks : List BlockData) (b : BlockData)
    → AllByRecursion (λ x. IsFinished end size x.bytes) blocks → IsFinished end size b.bytes
    → AllByRecursion (λ x. IsFinished end size x.bytes) (blocks ++ b ∷ [])
finished_more end size [] b h f = (f, tt)
finished_more end size (x ∷ blocks) b h f = (h.0, finished_more end size blocks b h.1 f)

pub joined_more : (bytes : List ℕ) (blocks : List BlockData) (at len : ℕ) (b : BlockData)
    → bytes ≡ joined blocks ++ drop at bytes → b.bytes ≡ take len (drop at bytes)
    → bytes ≡ joined (blocks ++ b ∷ []) ++ drop (at + len) bytes
joined_more bytes blocks at len b e is =
    let tail : drop at bytes ≡ b.bytes ++ drop (at + len) bytes = sym (take-append-drop len (drop at bytes))
    ∙ (ap (λ xs. xs ++ drop len (drop at bytes)) (sym is) ∙ ap (λ xs. b.bytes ++ xs) (drop-drop len at bytes)) in
    let whole : joined (blocks ++ b ∷ []) ≡ joined blocks ++ b.bytes =
    flat_map-append (λ (x : BlockData). x.bytes) blocks (b ∷ [])
    ∙ ap (λ xs. joined blocks ++ xs) (append-nil b.bytes) in
    e ∙ (ap (λ xs. joined blocks ++ xs) tail
    ∙ (sym (append_assoc (joined blocks) b.bytes (drop (at + len) bytes))
    ∙ ap (λ xs. xs ++ drop (at + len) bytes) (sym whole)))

each_append : (end size : ℕ) (xs ys : List BlockData) → AllByRecursion (λ b. IsFinished end size b.bytes) xs
    → AllByRecursion (λ b. IsFinished end size b.bytes) ys
    → AllByRecursion (λ b. IsFinished end size b.bytes) (xs ++ ys)
each_append end size [] ys a b = b
each_append end size (x ∷ xs) ys a b = (a.0, each_append end size xs ys a.1 b)

-- blocks, and then the blocks of what was left with more behind it
pub cuts_more : (end size : ℕ) (bytes piece rest left : List ℕ) (xs ys : List BlockData) → Cuts end size bytes xs rest
    → Cuts end size (rest ++ piece) ys left → Cuts end size (bytes ++ piece) (xs ++ ys) left
cuts_more end size bytes piece rest left xs ys a b = record {
  whole =
      ap (λ bs. bs ++ piece) a.whole ∙ (append_assoc (joined xs) rest piece
      ∙ (ap (λ bs. joined xs ++ bs) b.whole ∙ (sym (append_assoc (joined xs) (joined ys) left)
      ∙ ap (λ bs. bs ++ left) (sym (flat_map-append (λ (x : BlockData). x.bytes) xs ys)))));
  finished = each_append end size xs ys a.finished b.finished;
  unfinished = b.unfinished;
}

pub numbered_append : (file number : ℕ) (xs ys : List BlockData) → AreNumbered file number xs
    → AreNumbered file (number + length xs) ys → AreNumbered file number (xs ++ ys)
numbered_append file number [] ys a b = let e : number + 0 ≡ number = omega arith in let P : ℕ
    → Type 0 = λ n. AreNumbered file n ys in subst P e b
numbered_append file number (x ∷ xs) ys a b =
    let e : number + suc (length xs) ≡ (number + 1) + length xs = omega arith in
    let P : ℕ → Type 0 = λ n. AreNumbered file n ys in
    (a.0, a.1, numbered_append file (number + 1) xs ys a.2 (subst P e b))
