-- Lines that are too long, and the line that is open at the end.
use Rattle.std.proofs.Common.{◌≡◌, ℕ, zero, suc, ◌+◌, ◌<◌, ◌≤◌, ◌⊎◌, inl, inr, Bool, true, false, ◌||◌, cond, eqb}
use Rattle.std.proofs.Common.{nat_lt, Some, None, List, [], ◌∷◌, ◌++◌, length, get_or, refl, sym, ap, ◌∙◌, arith}
use Rattle.std.proofs.Common.{Decides}
use Rattle.std.proofs.Common.{◌-◌, take, drop, length-drop, length-append, append_assoc, subst}
use Rattle.std.proofs.lemmas.Bool.Decides.{nat_tests}
use Rattle.std.proofs.lemmas.List.{take-append-drop, drop_more, get_or-drop, take_at, drop_at}
use Rattle.std.specs.List.{Any}
use Rattle.std.proofs.lemmas.Bool.{false≢true, eq-eqb, eqb-true, ne_eqb, ltb-true, lt-ltb, or_cases, cases_lt}
use Rattle.std.proofs.lemmas.Bool.{cases_Bool}
use Rattle.pg_blocks.specs.Blocks.{EndsWith}
use Rattle.pg_blocks.specs.Lines.{lines, IsLine}
use Rattle.pg_blocks.specs.Long.{has_long, open_from}
use Rattle.memchr.specs.Find.{IsLastByte, is_byte}
use Rattle.pg_blocks.proofs.LineLemmas.{Made, none, ended, alone, onto, made}
use Rattle.std.proofs.Math.Bool.{or-true}

cond_map : {A B : Type 0} (F : A → B) (t : Bool) (u v : A) (x y : B) → x ≡ F u → y ≡ F v → cond t x y ≡ F (cond t u v)
cond_map F true u v x y e f = e
cond_map F false u v x y e f = f

cond_map2 : {A C B : Type 0} (F : A → C → B) (t : Bool) (u v : A) (p q : C) (x y : B) → x ≡ F u p → y ≡ F v q
    → cond t x y ≡ F (cond t u v) (cond t p q)
cond_map2 F true u v p q x y e f = e
cond_map2 F false u v p q x y e f = f

pub open_append : (end n : ℕ) (xs ys : List ℕ) → open_from end n (xs ++ ys) ≡ open_from end (open_from end n xs) ys
open_append end n [] ys = refl
open_append end n (x ∷ xs) ys = cond_map (λ m. open_from end m ys) (eqb x end) _ _ _ _ (open_append end 0 xs ys)
    (open_append end (n + 1) xs ys)

or_assoc : (a b c : Bool) → (a || (b || c)) ≡ ((a || b) || c)
or_assoc true b c = refl
or_assoc false b c = refl

pub long_append : (end longest n : ℕ) (xs ys : List ℕ)
    → has_long end longest n (xs ++ ys) ≡ (has_long end longest n xs || has_long end longest (open_from end n xs) ys)
long_append end longest n [] ys = refl
long_append end longest n (x ∷ xs) ys =
    cond_map2 (λ b m. b || has_long end longest m ys) (eqb x end) _ _ (open_from end 0 xs)
    (open_from end (n + 1) xs) _ _
    (long_append end longest 0 xs ys)
    (ap (λ b. nat_lt longest (n + 1) || b) (long_append end longest (n + 1) xs ys)
    ∙ or_assoc (nat_lt longest (n + 1)) (has_long end longest (n + 1) xs) _)

-- by recursion on the lines, the first one longer by n
abbrev SomeLong : ℕ → List (List ℕ) → Type 0
SomeLong longest [] = ⊥
SomeLong longest (l ∷ ls) = (longest < length l) ⊎ SomeLong longest ls

abbrev SomeLongFrom : ℕ → ℕ → List (List ℕ) → Type 0
SomeLongFrom longest n [] = ⊥
SomeLongFrom longest n (l ∷ ls) = (longest < n + length l) ⊎ SomeLong longest ls

from_zero : (longest : ℕ) (ls : List (List ℕ)) → SomeLong longest ls → SomeLongFrom longest 0 ls
from_zero longest [] h = h
from_zero longest (l ∷ ls) (inl h) = inl (omega arith)
from_zero longest (l ∷ ls) (inr h) = inr h

to_zero : (longest : ℕ) (ls : List (List ℕ)) → SomeLongFrom longest 0 ls → SomeLong longest ls
to_zero longest [] h = h
to_zero longest (l ∷ ls) (inl h) = inl (omega arith)
to_zero longest (l ∷ ls) (inr h) = inr h

same_end : (end x : ℕ) → x ≡ end → eqb x end ≡ true
same_end end x e = eq-eqb x end e

module _ (end longest : ℕ) where
  long_made : (bytes : List ℕ) (ls : List (List ℕ)) → Made end bytes ls → (n : ℕ) → n ≤ longest
      → has_long end longest n bytes ≡ true → SomeLongFrom longest n ls
  long_made _ _ none n le e = absurd (false≢true e)
  long_made _ _ (ended {bytes} {ls} m) n le e =
      inr (to_zero longest ls (long_made bytes ls m 0 (omega arith)
      (sym (ap (λ t. cond t (has_long end longest 0 bytes)
      (nat_lt longest (n + 1) || has_long end longest (n + 1) bytes)) (same_end end end refl)) ∙ e)))
  long_made _ _ (alone {b} ne) n le e =
      elim (or_cases (nat_lt longest (n + 1)) false
      (sym (ap (λ t. cond t false (nat_lt longest (n + 1) || false)) (ne_eqb b end ne)) ∙ e)) [
        | inl h ↦ inl (ltb-true longest (n + 1) h)
        | inr h ↦ absurd (false≢true h)
      ]
  long_made _ _ (onto {b} {bytes} {l} {ls} ne m) n le e =
      elim (or_cases (nat_lt longest (n + 1)) (has_long end longest (n + 1) bytes)
      (sym (ap (λ t. cond t (has_long end longest 0 bytes)
      (nat_lt longest (n + 1) || has_long end longest (n + 1) bytes)) (ne_eqb b end ne)) ∙ e)) [
        | inl h ↦ let k : longest < n + 1 = ltb-true longest (n + 1) h in inl (omega arith)
        | inr h ↦ elim (cases_lt longest (n + 1)) [
          | inl k ↦ inl (omega arith)
          | inr k ↦ elim (long_made bytes (l ∷ ls) m (n + 1) k h) [ inl q ↦ inl (omega arith) | inr q ↦ inr q ]
        ]
      ]

  made_long : (bytes : List ℕ) (ls : List (List ℕ)) → Made end bytes ls → (n : ℕ) → n ≤ longest
      → SomeLongFrom longest n ls → has_long end longest n bytes ≡ true
  made_long _ _ none n le h = absurd h
  made_long _ _ (ended {bytes} {ls} m) n le h =
      ap (λ t. cond t (has_long end longest 0 bytes) (nat_lt longest (n + 1) || has_long end longest (n + 1) bytes))
      (same_end end end refl)
      ∙ elim h [ inl k ↦ absurd (omega arith) | inr k ↦ made_long bytes ls m 0 (omega arith) (from_zero longest ls k) ]
  made_long _ _ (alone {b} ne) n le h =
      ap (λ t. cond t false (nat_lt longest (n + 1) || false)) (ne_eqb b end ne)
      ∙ elim h [ inl k ↦ ap (λ t. t || false) (lt-ltb longest (n + 1) (omega arith)) | inr k ↦ absurd k ]
  made_long _ _ (onto {b} {bytes} {l} {ls} ne m) n le h =
      ap (λ t. cond t (has_long end longest 0 bytes) (nat_lt longest (n + 1) || has_long end longest (n + 1) bytes))
      (ne_eqb b end ne)
      ∙ elim (cases_lt longest (n + 1)) [
        | inl k ↦ ap (λ t. t || has_long end longest (n + 1) bytes) (lt-ltb longest (n + 1) k)
        | inr k ↦ let next : SomeLongFrom longest (n + 1) (l ∷ ls) =
            elim h [ inl q ↦ inl (omega arith) | inr q ↦ inr q ] in
            ap (λ t. nat_lt longest (n + 1) || t) (made_long bytes (l ∷ ls) m (n + 1) k next)
            ∙ or-true (nat_lt longest (n + 1))
      ]

any_long : (longest : ℕ) (ls : List (List ℕ)) → SomeLong longest ls → Any (λ l. longest < length l) ls
any_long longest [] h = absurd h
any_long longest (l ∷ ls) (inl h) = (zero, l, omega arith, refl, h)
any_long longest (l ∷ ls) (inr h) = let r = any_long longest ls h in (suc r.0, r.1, omega (arith, r.2), r.3, r.4)

long_any : (longest : ℕ) (ls : List (List ℕ)) (k : ℕ) (l : List ℕ) → k < length ls → get_or ls k l ≡ l
    → longest < length l → SomeLong longest ls
long_any longest [] k l below e h = absurd (omega arith)
long_any longest (x ∷ ls) zero l below e h = let n = ap length e in inl (omega arith)
long_any longest (x ∷ ls) (suc k) l below e h = inr (long_any longest ls k l (omega arith) e h)

-- the test on all bytes
pub long_decides : (end longest : ℕ) (bytes : List ℕ)
    → Decides (has_long end longest 0 bytes) (Any (λ l. longest < length l) (lines end bytes))
long_decides end longest bytes =
    let ls = lines end bytes in (
      λ e. any_long longest ls (to_zero longest ls (long_made end longest bytes ls (made end bytes) 0 (omega arith) e)),
      λ a. made_long end longest bytes ls (made end bytes) 0 (omega arith)
          (from_zero longest ls (long_any longest ls a.0 a.1 a.2 a.3 a.4)),
    )

pub chosen_some : (b : Bool) (x y : ℕ) → Some y ≡ cond b None (Some x) → (b ≡ false) × (y ≡ x)
chosen_some true x y e = absurd (cc)
chosen_some false x y e = (refl, cc)

pub chosen_none : (b : Bool) (x : ℕ) → None ≡ cond b None (Some x) → b ≡ true
chosen_none true x e = refl
chosen_none false x e = absurd (cc)

-- a piece that is short enough makes no line too long
pub short_piece : (end longest n : ℕ) (xs : List ℕ) → n + length xs ≤ longest → has_long end longest n xs ≡ false
short_piece end longest n [] h = refl
short_piece end longest n (x ∷ xs) h = elim (eqb x end) as
    (λ t. cond t (has_long end longest 0 xs) (nat_lt longest (n + 1) || has_long end longest (n + 1) xs) ≡ false) [
      | true ↦ short_piece end longest 0 xs (omega arith)
      | false ↦ grind (arith, nat_tests, short_piece end longest (n + 1) xs (omega arith))
    ]

-- the open line where the terminator stands nowhere
pub open_nowhere : (end n : ℕ) (xs : List ℕ) → ((i : ℕ) → i < length xs → get_or xs i 0 ≡ end → ⊥)
    → open_from end n xs ≡ n + length xs
open_nowhere end n [] h = omega arith
open_nowhere end n (x ∷ xs) h =
    ap (λ t. cond t (open_from end 0 xs) (open_from end (n + 1) xs)) (ne_eqb x end (λ e. h zero (omega arith) e))
    ∙ omega (arith, open_nowhere end (n + 1) xs (λ i below e. h (suc i) (omega arith) e))

-- the open line behind the last terminator
pub open_behind : (end n : ℕ) (xs : List ℕ) (k : ℕ) → IsLastByte (is_byte end) xs (Some k)
    → open_from end n xs ≡ length xs - k - 1
open_behind end n xs k h =
    let e : xs ≡ take k xs ++ end ∷ drop (k + 1) xs =
    sym (take-append-drop k xs) ∙ ap (λ ys. take k xs ++ ys)
    (drop_more xs k 0 h.0.high ∙ ap (λ b. b ∷ drop (k + 1) xs) (eqb-true (get_or xs k 0) end h.1)) in
    let rest = drop (k + 1) xs in
    let none : (i : ℕ) → i < length rest → get_or rest i 0 ≡ end → ⊥ = λ i below at.
    h.0.after (k + 1 + i) (omega arith) (omega (arith, length-drop (k + 1) xs))
    (eq-eqb _ end (sym (get_or-drop (k + 1) xs i 0) ∙ at)) in
    ap (open_from end n) e ∙ (open_append end n (take k xs) (end ∷ rest)
    ∙ (ap (λ t. cond t (open_from end 0 rest) (open_from end (open_from end n (take k xs) + 1) rest))
    (eq-eqb end end refl)
    ∙ omega (arith, open_nowhere end 0 rest none, length-drop (k + 1) xs, h.0.high)))

pub open_alone : (end n : ℕ) (xs : List ℕ) → IsLastByte (is_byte end) xs None → open_from end n xs ≡ n + length xs
open_alone end n xs h = open_nowhere end n xs (λ i below e. h i (omega arith) below (eq-eqb _ end e))

-- The open line, and the whole lines before it.

no_end : (end b : ℕ) (xs : List ℕ) → eqb b end ≡ false → IsLine end xs → (k : ℕ) → k < length (b ∷ xs)
    → get_or (b ∷ xs) k end ≡ end → ⊥
no_end end b xs e h zero less at = false≢true (sym e ∙ eq-eqb b end at)
no_end end b xs e h (suc k) less at = h (k, omega (arith, less), at)

abbrev IsAlone : ℕ → ℕ → List ℕ → Type 0
IsAlone end n xs = IsLine end xs × (open_from end n xs ≡ n + length xs)

abbrev IsBehind : ℕ → ℕ → List ℕ → Type 0
IsBehind end n xs =
    (front : List ℕ) × (tail : List ℕ) × (xs ≡ front ++ end ∷ tail) × IsLine end tail
    × (open_from end n xs ≡ length tail)

open_parts : (end n : ℕ) (xs : List ℕ) → IsAlone end n xs ⊎ IsBehind end n xs
open_parts end n [] = inl (λ c. absurd (omega (arith, c.1)), omega arith)
open_parts end n (b ∷ xs) =
    let by : Bool → ℕ = λ t. cond t (open_from end 0 xs) (open_from end (n + 1) xs) in
    elim (cases_Bool (eqb b end)) [
      | inl e ↦ elim (open_parts end 0 xs) [
        | inl a ↦ inr ([], xs, ap (λ x. x ∷ xs) (eqb-true b end e), a.0, ap by e ∙ (a.1 ∙ omega arith))
        | inr h ↦ inr (b ∷ h.0, h.1, ap (λ ys. b ∷ ys) h.2, h.3, ap by e ∙ h.4)
      ]
      | inr e ↦ elim (open_parts end (n + 1) xs) [
        | inl a ↦ inl (λ c. no_end end b xs e a.0 c.0 c.1 c.2, ap by e ∙ (a.1 ∙ omega arith))
        | inr h ↦ inr (b ∷ h.0, h.1, ap (λ ys. b ∷ ys) h.2, h.3, ap by e ∙ h.4)
      ]
    ]

-- where it is shorter than the bytes, whole lines stand before it
pub open_cut : (end : ℕ) (xs : List ℕ) (k : ℕ) → k ≡ open_from end 0 xs → k < length xs
    → EndsWith end (take (length xs - k) xs) × IsLine end (drop (length xs - k) xs)
open_cut end xs k is less = elim (open_parts end 0 xs) [
  | inl a ↦ absurd (omega (arith, is, a.1, less))
  | inr h ↦
      let front = h.0 ++ end ∷ [] in
      let same : xs ≡ front ++ h.1 = h.2 ∙ sym (append_assoc h.0 (end ∷ []) h.1) in
      let n : length xs - k ≡ length front = omega (arith, ap length same, length-append front h.1, is, h.4) in
      let P : List ℕ → Type 0 = λ ys. EndsWith end ys in
      let Q : List ℕ → Type 0 = λ ys. IsLine end ys in (
        subst P (sym (ap (λ m. take m xs) n
            ∙ (ap (take (length front)) same ∙ take_at front h.1 (length front) refl))) (h.0, refl),
        subst Q (sym (ap (λ m. drop m xs) n
            ∙ (ap (drop (length front)) same ∙ drop_at front h.1 (length front) refl))) h.3,
      )
]

-- else none does
pub open_none : (end : ℕ) (xs : List ℕ) (k : ℕ) → k ≡ open_from end 0 xs → length xs ≤ k → IsLine end xs
open_none end xs k is most = elim (open_parts end 0 xs) [
  | inl a ↦ a.0
  | inr h ↦ absurd (omega (arith, is, h.4, most, ap length h.2, length-append h.0 (end ∷ h.1)))
]
