-- How many lines there are, by how often the terminator stands among the bytes.
use Rattle.std.proofs.Common.{◌≡◌, ◌==◌, ℕ, suc, ◌+◌, ◌-◌, ◌<◌, ◌≤◌, Bool, true, false, cond, get_or}
use Rattle.std.proofs.Common.{List, [], ◌∷◌, ◌++◌, length, take, inl, inr, not, refl, sym, ap, ◌∙◌, subst, arith}
use Rattle.std.proofs.Common.{length-append}
use mir.Val.{bool_byte}
use Rattle.std.specs.List.{onto_first, count_by}
use Rattle.std.proofs.lemmas.List.Sums.{sum_by-cons}
use Rattle.std.specs.List.{AllByRecursion}
use Rattle.std.proofs.lemmas.Bool.{eq-eqb, ne_eqb}
use Rattle.std.proofs.lemmas.List.{append-nil, get_or_at, get_or_default, take_at, take_all}
use Rattle.pg_blocks.specs.Lines.{lines, IsLine, terminated}
use Rattle.pg_blocks.proofs.LineLemmas.{some_line}
use Rattle.pg_blocks.proofs.LineLaws.{lines_are_lines}

-- how often the terminator stands among the bytes
abbrev pub ends_in : ℕ → List ℕ → ℕ
ends_in end bytes = count_by (λ b. b == end) bytes

-- one more for a last line that lacks it
abbrev pub open_lines : ℕ → List ℕ → ℕ
open_lines end [] = 0
open_lines end (b ∷ []) = cond (b == end) 0 1
open_lines end (b ∷ c ∷ bytes) = open_lines end (c ∷ bytes)

ends-cons : (end b : ℕ) (bytes : List ℕ) → ends_in end (b ∷ bytes) ≡ cond (b == end) 1 0 + ends_in end bytes
ends-cons end b bytes = sum_by-cons (λ x. cond (x == end) 1 0) b bytes

length-onto_some : (b : ℕ) (ls : List (List ℕ)) → 0 < length ls → length (onto_first b ls) ≡ length ls
length-onto_some b [] some = absurd (omega arith)
length-onto_some b (l ∷ ls) some = refl

pub length-lines : (end : ℕ) (bytes : List ℕ) → length (lines end bytes) ≡ ends_in end bytes + open_lines end bytes
length-lines end [] = refl
length-lines end (b ∷ []) =
    let alone : length (cond (b == end) ([] ∷ []) ((b ∷ []) ∷ [])) ≡ cond (b == end) 1 0 + 0 + cond (b == end) 0 1 =
    elim (b == end) as (λ t. length (cond t ([] ∷ []) ((b ∷ []) ∷ [])) ≡ cond t 1 0 + 0 + cond t 0 1) [
      | true ↦ refl
      | false ↦ refl
    ] in
    alone ∙ ap (λ n. n + cond (b == end) 0 1) (sym (ends-cons end b []))
length-lines end (b ∷ c ∷ bytes) =
    let ls = lines end (c ∷ bytes) in
    let more = open_lines end (c ∷ bytes) in
    let later = length-lines end (c ∷ bytes) in
    let counted : length (cond (b == end) ([] ∷ ls) (onto_first b ls))
    ≡ (cond (b == end) 1 0 + ends_in end (c ∷ bytes)) + more =
    elim (b == end) as (λ t. length (cond t ([] ∷ ls) (onto_first b ls))
    ≡ (cond t 1 0 + ends_in end (c ∷ bytes)) + more) [
      | true ↦ omega (arith, later)
      | false ↦ omega (arith, length-onto_some b ls (some_line end c bytes), later)
    ] in
    counted ∙ ap (λ n. n + more) (sym (ends-cons end b (c ∷ bytes)))

-- the last byte tells whether the last line lacks the terminator
pub open_by_last : (end : ℕ) (bytes : List ℕ) → 0 < length bytes
    → open_lines end bytes ≡ cond (get_or bytes (length bytes - 1) 0 == end) 0 1
open_by_last end [] some = absurd (omega arith)
open_by_last end (b ∷ []) some = refl
open_by_last end (b ∷ c ∷ bytes) some =
    let back : length (b ∷ c ∷ bytes) - 1 ≡ suc (length (c ∷ bytes) - 1) = omega arith in
    open_by_last end (c ∷ bytes) (omega arith)
    ∙ ap (λ n. cond (get_or (b ∷ c ∷ bytes) n 0 == end) 0 1) (sym back)

-- there are no more lines than bytes
pub few_lines : (end : ℕ) (bytes : List ℕ) → length (lines end bytes) ≤ length bytes
few_lines end [] = omega arith
few_lines end (b ∷ bytes) =
    let later = few_lines end bytes in
    let ls = lines end bytes in
    elim (b == end) as (λ t. length (cond t ([] ∷ ls) (onto_first b ls)) ≤ length (b ∷ bytes)) [
      | true ↦ omega (arith, later)
      | false ↦ few_onto ls later
    ]
  where
    few_onto : (ls : List (List ℕ)) → length ls ≤ length bytes → length (onto_first b ls) ≤ length (b ∷ bytes)
    few_onto [] few = omega arith
    few_onto (l ∷ ls) few = omega arith

-- the count of lines by the last byte
pub counted_by_last : (end : ℕ) (bytes : List ℕ) → 0 < length bytes
    → ends_in end bytes + cond (not (get_or bytes (length bytes - 1) 0 == end)) 1 0 ≡ length (lines end bytes)
counted_by_last end bytes some =
    let last = get_or bytes (length bytes - 1) 0 in
    let opened = open_by_last end bytes some ∙ sym (turned (last == end)) in
    sym (length-lines end bytes ∙ ap (λ n. ends_in end bytes + n) opened)
  where
    turned : (t : Bool) → ◌≡◌ {A = ℕ} (cond (not t) 1 0) (cond t 0 1)
    turned true = refl
    turned false = refl

pub counted_none : (end : ℕ) (bytes : List ℕ) → length bytes ≡ 0 → ends_in end bytes ≡ length (lines end bytes)
counted_none end [] e = refl
counted_none end (b ∷ bytes) e = absurd (omega (arith, e))

-- a line is its text, without a last byte that is the terminator
text_front : (end : ℕ) (line text : List ℕ) → line ≡ text ++ end ∷ []
    → take (length line - cond (get_or line (length line - 1) 0 == end) 1 0) line ≡ text
text_front end line text e =
    let long : length line - 1 ≡ length text = omega (arith, ap length e, length-append text (end ∷ [])) in
    let last : get_or line (length line - 1) 0 ≡ end =
    ap (λ n. get_or line n 0) long
    ∙ (ap (λ xs. get_or xs (length text) 0) e ∙ get_or_at text end [] 0 (length text) refl) in
    ap (λ t. take (length line - cond t 1 0) line) (eq-eqb (get_or line (length line - 1) 0) end last)
    ∙ (ap (λ n. take n line) long ∙ (ap (take (length text)) e ∙ take_at text (end ∷ []) (length text) refl))

text_whole : (end : ℕ) (line : List ℕ) → 0 < length line → IsLine end line
    → take (length line - cond (get_or line (length line - 1) 0 == end) 1 0) line ≡ line
text_whole end line some alone =
    let last = get_or line (length line - 1) 0 in
    let other : (last ≡ end → ⊥) =
    λ e. alone (length line - 1, omega arith, get_or_default line (length line - 1) end 0 (omega arith) ∙ e) in
    ap (λ t. take (length line - cond t 1 0) line) (ne_eqb last end other)
    ∙ take_all (length line - 0) line (omega arith)

pub text_is : (end : ℕ) (line text : List ℕ) → 0 < length line → lines end line ≡ text ∷ []
    → take (length line - cond (get_or line (length line - 1) 0 == end) 1 0) line ≡ text
text_is end line text some one = elim (lines_are_lines end line).whole [
  | inl e ↦ text_front end line text (e ∙ (ap (terminated end) one ∙ append-nil (text ++ end ∷ [])))
  | inr h ↦
      let P : List (List ℕ) → Type 0 = λ ls. AllByRecursion (IsLine end) ls in
      let each = subst P one (lines_are_lines end line).each in
      let same = only h.front h.last text (sym h.joins ∙ one) in
      let is : line ≡ text = h.whole ∙ ap (λ fs. terminated end fs ++ h.last) same.0 ∙ same.1 in
      let Q : List ℕ → Type 0 = λ xs. IsLine end xs in
      text_whole end line some (subst Q (sym is) each.0) ∙ is
]
  where
    only : (front : List (List ℕ)) (last text : List ℕ) → front ++ last ∷ [] ≡ text ∷ []
        → (front ≡ []) × (last ≡ text)
    only [] last text e = (refl, cc)
    only (f ∷ []) last text e = absurd (omega (arith, ap length e))
    only (f ∷ g ∷ front) last text e = absurd (omega (arith, ap length e))

pub no_line : (end : ℕ) (line text : List ℕ) → length line ≡ 0 → lines end line ≡ text ∷ [] → ⊥
no_line end [] text none one = omega (arith, ap length one)
no_line end (b ∷ line) text none one = omega (arith, none)

-- a condition as a number
pub one_if : (t : Bool) → bool_byte t ≡ cond t 1 0
one_if true = refl
one_if false = refl
