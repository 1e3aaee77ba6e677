-- The lines of bytes, one byte at a time, and where each stands.
use Rattle.std.proofs.Common.{cond, ◌≡◌, ◌≢◌, ℕ, zero, suc, ◌+◌, ◌-◌, ◌<◌, ◌≤◌, inl, inr, Bool, true}
use Rattle.std.proofs.Common.{false, eqb, List, [], ◌∷◌, ◌++◌, length, take, drop, get_or, refl, sym, ap, ◌∙◌, subst}
use Rattle.std.proofs.Common.{arith, append_assoc, length-append}
use Rattle.std.proofs.lemmas.Bool.Decides.{Decides-eqb}
use Rattle.std.proofs.lemmas.Bool.{false≢true, eq-eqb, ne_eqb, eqb-true}
use Rattle.std.specs.List.{onto_first}
use Rattle.std.proofs.lemmas.List.{drop_more, get_or-take, get_or-drop, get_or_default}
use Rattle.std.proofs.lemmas.List.{take-append-drop, length-take-le, take_all, append-nil}
use Rattle.std.proofs.Common.{Some, None}
use Rattle.memchr.specs.Find.{IsFirstByte, is_byte, Passes, Nowhere}
use Rattle.pg_blocks.specs.Lines.{lines, terminated, IsLine, IsClear, AreWhole}

-- how lines come about
pub data Made (end : ℕ) : List ℕ → List (List ℕ) → Type 0 where
  none : Made end [] []
  ended : {bytes : List ℕ} {ls : List (List ℕ)} → Made end bytes ls → Made end (end ∷ bytes) ([] ∷ ls)
  alone : {b : ℕ} → b ≢ end → Made end (b ∷ []) ((b ∷ []) ∷ [])
  onto : {b : ℕ} {bytes l : List ℕ} {ls : List (List ℕ)} → b ≢ end → Made end bytes (l ∷ ls)
      → Made end (b ∷ bytes) ((b ∷ l) ∷ ls)

made_nil : (end : ℕ) (bytes : List ℕ) → Made end bytes [] → bytes ≡ []
made_nil end [] none = refl
made_nil end (_ ∷ _) h = elim h [ ]

made_onto : (end b : ℕ) (bytes : List ℕ) (ls : List (List ℕ)) → b ≢ end → Made end bytes ls
    → Made end (b ∷ bytes) (onto_first b ls)
made_onto end b bytes [] ne m = let P : List ℕ
    → Type 0 = λ bs. Made end (b ∷ bs) ((b ∷ []) ∷ []) in subst P (sym (made_nil end bytes m)) (alone ne)
made_onto end b bytes (l ∷ ls) ne m = onto ne m

made_by : (end b : ℕ) (bytes : List ℕ) (ls : List (List ℕ)) (t : Bool) → eqb b end ≡ t → Made end bytes ls
    → Made end (b ∷ bytes) (cond t ([] ∷ ls) (onto_first b ls))
made_by end b bytes ls true e m = let P : ℕ
    → Type 0 = λ x. Made end (x ∷ bytes) ([] ∷ ls) in subst P (sym ((Decides-eqb b end).0 e)) (ended m)
made_by end b bytes ls false e m = made_onto end b bytes ls (λ same. false≢true (sym e ∙ (Decides-eqb b end).1 same)) m

pub made : (end : ℕ) (bytes : List ℕ) → Made end bytes (lines end bytes)
made end [] = none
made end (b ∷ bytes) = made_by end b bytes (lines end bytes) (eqb b end) refl (made end bytes)

-- what stands before a line, and after it
pub around : (end : ℕ) (bytes : List ℕ) (ls : List (List ℕ)) → Made end bytes ls → (k : ℕ) → k < length ls
    → (tail : List ℕ) × (bytes ≡ terminated end (take k ls) ++ (get_or ls k [] ++ tail))
around end _ _ none k h = absurd (omega arith)
around end _ _ (ended {bytes} {ls} m) zero h = (end ∷ bytes, refl)
around end _ _ (ended {bytes} {ls} m) (suc k) h = let r =
    around end bytes ls m k (omega arith) in (r.0, ap (λ bs. end ∷ bs) r.1)
around end _ _ (alone {b} ne) zero h = ([], refl)
around end _ _ (alone {b} ne) (suc k) h = absurd (omega arith)
around end _ _ (onto {b} {bytes} {l} {ls} ne m) zero h = let r =
    around end bytes (l ∷ ls) m zero (omega arith) in (r.0, ap (λ bs. b ∷ bs) r.1)
around end _ _ (onto {b} {bytes} {l} {ls} ne m) (suc k) h = let r =
    around end bytes (l ∷ ls) m (suc k) (omega arith) in (r.0, ap (λ bs. b ∷ bs) r.1)

pub length-terminated-cons : (end : ℕ) (ls : List (List ℕ)) (l : List ℕ)
    → length (terminated end (l ∷ ls)) ≡ length l + 1 + length (terminated end ls)
length-terminated-cons end ls l = omega (
  arith,
  length-append (l ++ end ∷ []) (terminated end ls),
  length-append l (end ∷ []),
)

-- a text without terminator, and its terminator, in front
pub lines-line : (end : ℕ) (l rest : List ℕ) → IsLine end l → lines end (l ++ end ∷ rest) ≡ l ∷ lines end rest
lines-line end [] rest h = ap (λ t. cond t ([] ∷ lines end rest) (onto_first end (lines end rest)))
    (eq-eqb end end refl)
lines-line end (b ∷ l) rest h =
    ap (λ t. cond t ([] ∷ lines end (l ++ end ∷ rest)) (onto_first b (lines end (l ++ end ∷ rest))))
    (ne_eqb b end (λ e. h (zero, omega arith, e)))
    ∙ ap (onto_first b) (lines-line end l rest (λ c. h (suc c.0, omega (arith, c.1), c.2)))

-- the last one, without
pub lines-last : (end : ℕ) (b : ℕ) (l : List ℕ) → IsLine end (b ∷ l) → lines end (b ∷ l) ≡ (b ∷ l) ∷ []
lines-last end b [] h = ap (λ t. cond t ([] ∷ []) ((b ∷ []) ∷ [])) (ne_eqb b end (λ e. h (zero, omega arith, e)))
lines-last end b (c ∷ l) h =
    ap (λ t. cond t ([] ∷ lines end (c ∷ l)) (onto_first b (lines end (c ∷ l))))
    (ne_eqb b end (λ e. h (zero, omega arith, e)))
    ∙ ap (onto_first b) (lines-last end c l (λ k. h (suc k.0, omega (arith, k.1), k.2)))

pub no_end_in_front : (end : ℕ) (xs : List ℕ) (k : ℕ) → k ≤ length xs → Nowhere (Passes (is_byte end) xs) 0 k
    → IsLine end (take k xs)
no_end_in_front end xs k fits h c =
    let n : c.0 < k = omega (arith, c.1, length-take-le k xs fits) in
    h c.0 (omega arith) n (eq-eqb _ end (get_or_default xs c.0 0 end (omega arith)
    ∙ (sym (get_or-take k xs c.0 end n) ∙ c.2)))

-- what a search for the terminator says of the first line
pub first_line_at : (end : ℕ) (xs : List ℕ) (k : ℕ) → IsFirstByte (is_byte end) xs (Some k)
    → lines end xs ≡ take k xs ∷ lines end (drop (k + 1) xs)
first_line_at end xs k h =
    let e : xs ≡ take k xs ++ end ∷ drop (k + 1) xs =
    sym (take-append-drop k xs) ∙ ap (λ ys. take k xs ++ ys)
    (drop_more xs k 0 h.0.high ∙ ap (λ b. b ∷ drop (k + 1) xs) (eqb-true (get_or xs k 0) end h.1)) in
    ap (lines end) e ∙ lines-line end (take k xs) (drop (k + 1) xs)
    (no_end_in_front end xs k (omega (arith, h.0.high)) h.0.before)

pub only_line : (end : ℕ) (xs : List ℕ) → 0 < length xs → IsFirstByte (is_byte end) xs None → lines end xs ≡ xs ∷ []
only_line end [] some h = absurd (omega arith)
only_line end (b ∷ xs) some h = lines-last end b xs
    (let P : List ℕ → Type 0 = λ ys. IsLine end ys in subst P (take_all (length (b ∷ xs)) (b ∷ xs) (omega arith))
    (no_end_in_front end (b ∷ xs) (length (b ∷ xs)) (omega arith) h))

onto_first-append : (b : ℕ) (xs ys : List (List ℕ)) → 0 < length xs → onto_first b (xs ++ ys) ≡ onto_first b xs ++ ys
onto_first-append b [] ys h = absurd (omega arith)
onto_first-append b (x ∷ xs) ys h = refl

length-onto_first : (b : ℕ) (ls : List (List ℕ)) → 0 < length (onto_first b ls)
length-onto_first b [] = omega arith
length-onto_first b (l ∷ ls) = omega arith

pub some_line : (end b : ℕ) (bytes : List ℕ) → 0 < length (lines end (b ∷ bytes))
some_line end b bytes = elim (eqb b end) as
    (λ t. 0 < length (cond t ([] ∷ lines end bytes) (onto_first b (lines end bytes))))
    [ true ↦ omega arith | false ↦ length-onto_first b (lines end bytes) ]

lines-ended : (end : ℕ) (front ys : List ℕ)
    → lines end ((front ++ end ∷ []) ++ ys) ≡ lines end (front ++ end ∷ []) ++ lines end ys
lines-ended end [] ys = let P : Bool → Type 0 =
    λ t. cond t ([] ∷ lines end ys) (onto_first end (lines end ys)) ≡ cond t ([] ∷ [])
    (onto_first end []) ++ lines end ys in subst P (sym (eq-eqb end end refl)) refl
lines-ended end (b ∷ front) ys =
    let e = lines-ended end front ys in
    let some : 0 < length (lines end (front ++ end ∷ [])) = nonempty_ended end front in
    elim (eqb b end) as (λ t. cond t ([] ∷ lines end ((front ++ end ∷ []) ++ ys))
    (onto_first b (lines end ((front ++ end ∷ []) ++ ys))) ≡ cond t ([] ∷ lines end (front ++ end ∷ []))
    (onto_first b (lines end (front ++ end ∷ []))) ++ lines end ys) [
      | true ↦ ap (λ ls. [] ∷ ls) e
      | false ↦ ap (onto_first b) e ∙ onto_first-append b (lines end (front ++ end ∷ [])) (lines end ys) some
    ]
  where
    nonempty_ended : (end : ℕ) (front : List ℕ) → 0 < length (lines end (front ++ end ∷ []))
    nonempty_ended end [] = some_line end end []
    nonempty_ended end (c ∷ front) = some_line end c (front ++ end ∷ [])

-- the lines of whole lines and of what stands behind them
pub lines-append : (end : ℕ) (xs ys : List ℕ) → AreWhole end xs → lines end (xs ++ ys) ≡ lines end xs ++ lines end ys
lines-append end xs ys (inl e) = ap (λ bs. lines end (bs ++ ys)) e ∙ sym (ap (λ bs. lines end bs ++ lines end ys) e)
lines-append end xs ys (inr h) = ap (λ bs. lines end (bs ++ ys)) h.1
    ∙ (lines-ended end h.0 ys ∙ sym (ap (λ bs. lines end bs ++ lines end ys) h.1))

pub whole_tail : (end b : ℕ) (bytes : List ℕ) → AreWhole end (b ∷ bytes) → AreWhole end bytes
whole_tail end b bytes (inl e) = absurd (cc)
whole_tail end b bytes (inr h) = ended_tail end b bytes h.0 h.1
  where
    ended_tail : (end b : ℕ) (bytes front : List ℕ) → b ∷ bytes ≡ front ++ end ∷ [] → AreWhole end bytes
    ended_tail end b bytes [] e = inl (cc)
    ended_tail end b bytes (c ∷ front) e = let tail : bytes ≡ front ++ end ∷ [] = cc in inr (front, tail)

last_is : (end b : ℕ) → AreWhole end (b ∷ []) → b ≡ end
last_is end b (inl e) = absurd (cc)
last_is end b (inr h) = ended_alone end b h.0 h.1
  where
    ended_alone : (end b : ℕ) (front : List ℕ) → b ∷ [] ≡ front ++ end ∷ [] → b ≡ end
    ended_alone end b [] e = cc
    ended_alone end b (c ∷ []) e = let n = ap length e in absurd (omega arith)
    ended_alone end b (c ∷ d ∷ front) e = let n = ap length e in absurd (omega arith)

terminated_made : (end : ℕ) (bytes : List ℕ) (ls : List (List ℕ)) → Made end bytes ls → AreWhole end bytes
    → terminated end ls ≡ bytes
terminated_made end _ _ none w = refl
terminated_made end _ _ (ended {bytes} {ls} m) w =
    ap (λ bs. end ∷ bs) (terminated_made end bytes ls m (whole_tail end end bytes w))
terminated_made end _ _ (alone {b} ne) w = absurd (ne (last_is end b w))
terminated_made end _ _ (onto {b} {bytes} {l} {ls} ne m) w =
    ap (λ bs. b ∷ bs) (terminated_made end bytes (l ∷ ls) m (whole_tail end b bytes w))

-- whole lines are their lines, each with the terminator
pub terminated-lines : (end : ℕ) (bytes : List ℕ) → AreWhole end bytes → terminated end (lines end bytes) ≡ bytes
terminated-lines end bytes w = terminated_made end bytes (lines end bytes) (made end bytes) w

-- a text without the terminator is one line, unless it is empty
pub lines-alone : (end : ℕ) (l : List ℕ) → 0 < length l → IsLine end l → lines end l ≡ l ∷ []
lines-alone end [] some h = absurd (omega arith)
lines-alone end (b ∷ l) some h = lines-last end b l h

pub whole_append : (end : ℕ) (xs ys : List ℕ) → AreWhole end xs → AreWhole end ys → AreWhole end (xs ++ ys)
whole_append end xs ys w (inl e) = let P : List ℕ
    → Type 0 = λ bs. AreWhole end bs in subst P (sym (ap (λ bs. xs ++ bs) e ∙ append-nil xs)) w
whole_append end xs ys w (inr h) = inr (xs ++ h.0, ap (λ bs. xs ++ bs) h.1 ∙ sym (append_assoc xs h.0 (end ∷ [])))

-- what a search for the terminator from a place says of the bytes
pub clear_to : (end : ℕ) (bytes : List ℕ) (place k : ℕ)
    → ((i : ℕ) → 0 ≤ i → i < k → is_byte end (get_or (drop place bytes) i 0) ≡ true → ⊥)
    → IsClear end bytes place (place + k)
clear_to end bytes place k h i from to e =
    let at : place + (i - place) ≡ i = omega arith in
    h (i - place) (omega arith) (omega arith)
    (eq-eqb _ end (get_or-drop place bytes (i - place) 0 ∙ (ap (λ n. get_or bytes n 0) at ∙ e)))
