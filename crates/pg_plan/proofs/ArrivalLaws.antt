-- The first arrival of an announced block's result is taken.
use Rattle.std.proofs.Common.{◌≡◌, ℕ, ◌+◌, ◌<◌, ◌≤◌, Bool, true, false, ◌&&◌, ◌==◌, inl, inr, cond, Option, Some, None}
use Rattle.std.proofs.Common.{List, [], ◌∷◌, ◌++◌, length, get_or, refl, sym, ap, ◌∙◌, subst, arith}
use Rattle.std.specs.List.{AllByRecursion, Contains, find}
use Rattle.std.specs.Str.{bytes_eq}
use Rattle.std.proofs.Math.ListN.{get_or-append}
use Rattle.std.proofs.lemmas.Bool.{eq-eqb, ne_eqb, cases_eq, cases_lt}
use Rattle.std.proofs.lemmas.List.{get_or_at, length_push}
use Rattle.std.proofs.lemmas.Slice.Eq.{bytes_eq-Decides}
use Rattle.pg_selection.specs.Search.{terminator}
use Rattle.pg_selection.specs.Same.{same_text, text_equal}
use Rattle.pg_selection.specs.Searched.{SearchedBlock}
use Rattle.pg_blocks.specs.Blocks.{BlockData}
use Rattle.pg_plan.specs.declared.answers.Arrival.TheVariants.{Taken, Double, Stranger}
use Rattle.pg_plan.specs.Plan.{Step, Opens, Announces, Ends, Misses, IsShaped, opened, announced, last_blocks}
use Rattle.pg_plan.specs.History.{Past, plan, answer, answer_after, arrival_at, is_block, is_taken, taken_of, if_same}

-- a block's file was opened, and its number is below those still to come
abbrev pub IsBelow : List Step → BlockData → Type 0
IsBelow p b = (b.file + 1 ≤ opened p) × (b.file + 1 ≡ opened p → b.number < length (last_blocks p))

below_opened : (name : List ℕ) (p : List Step) (bs : List BlockData) → AllByRecursion (IsBelow p) bs
    → AllByRecursion (IsBelow (Opens name ∷ p)) bs
below_opened name p [] h = tt
below_opened name p (b ∷ bs) h = (
  (omega (arith, h.0.0), λ e. absurd (omega (arith, h.0.0))),
  below_opened name p bs h.1,
)

below_announced : (c : BlockData) (p : List Step) (bs : List BlockData) → AllByRecursion (IsBelow p) bs
    → AllByRecursion (IsBelow (Announces c ∷ p)) bs
below_announced c p [] h = tt
below_announced c p (b ∷ bs) h = (
  (h.0.0, λ e. let n = h.0.1 e in omega (arith, length_push (last_blocks p) c)),
  below_announced c p bs h.1,
)

below_push : (p : List Step) (bs : List BlockData) (c : BlockData) → AllByRecursion (IsBelow p) bs → IsBelow p c
    → AllByRecursion (IsBelow p) (bs ++ c ∷ [])
below_push p [] c h i = (i, tt)
below_push p (b ∷ bs) c h i = (h.0, below_push p bs c h.1 i)

pub all_below : (end : ℕ) (p : List Step) → IsShaped end p → AllByRecursion (IsBelow p) (announced p)
all_below end [] h = tt
all_below end (Opens name ∷ p) h = below_opened name p (announced p) (all_below end p h.1)
all_below end (Announces c ∷ p) h =
    below_push (Announces c ∷ p) (announced p) c (below_announced c p (announced p) (all_below end p h.1))
    (omega (arith, h.0.file), λ e. omega (arith, h.0.number, length_push (last_blocks p) c))
all_below end (Ends failed ∷ p) h = all_below end p h.1
all_below end (Misses name ∷ p) h = all_below end p h.1

-- of those before it no block has the number of the next
other_key : (p : List Step) (b c : BlockData) → IsBelow p b → c.file + 1 ≡ opened p → c.number ≡ length (last_blocks p)
    → is_block c.file c.number b ≡ false
other_key p b c h file number = elim (cases_eq b.file c.file) [
  | inr ne ↦ ap (λ t. t && (b.number == c.number)) (ne_eqb b.file c.file ne)
  | inl same ↦ let n = h.1 (omega arith) in
      ap (λ t. t && (b.number == c.number)) (eq-eqb b.file c.file same) ∙ ne_eqb b.number c.number (λ e. omega arith)
]

find_last : (p : List Step) (bs : List BlockData) (c : BlockData) → AllByRecursion (IsBelow p) bs
    → c.file + 1 ≡ opened p → c.number ≡ length (last_blocks p)
    → find (is_block c.file c.number) (bs ++ c ∷ []) ≡ Some c
find_last p [] c h file number =
    ap (λ t. cond (t && (c.number == c.number)) (Some c) None) (eq-eqb c.file c.file refl)
    ∙ ap (λ t. cond t (Some c) None) (eq-eqb c.number c.number refl)
find_last p (b ∷ bs) c h file number =
    ap (λ t. cond t (Some b) (find (is_block c.file c.number) (bs ++ c ∷ []))) (other_key p b c h.0 file number)
    ∙ find_last p bs c h.1 file number

by_test : (t : Bool) (one other rest : Option BlockData) → (other ≡ one → rest ≡ one) → (x : BlockData)
    → cond t (Some x) other ≡ one → cond t (Some x) rest ≡ one
by_test true one other rest h x e = e
by_test false one other rest h x e = h e

find_front : (f : BlockData → Bool) (xs ys : List BlockData) (b : BlockData) → find f xs ≡ Some b
    → find f (xs ++ ys) ≡ Some b
find_front f [] ys b e = absurd (cc)
find_front f (x ∷ xs) ys b e = by_test (f x) (Some b) (find f xs) (find f (xs ++ ys)) (find_front f xs ys b) x e

-- an announced block is found by its file and number
found : (end : ℕ) (p : List Step) → IsShaped end p → (k : ℕ) (b : BlockData) → k < length (announced p)
    → get_or (announced p) k b ≡ b → find (is_block b.file b.number) (announced p) ≡ Some b
found end [] h k b below e = absurd (omega arith)
found end (Opens name ∷ p) h k b below e = found end p h.1 k b below e
found end (Ends failed ∷ p) h k b below e = found end p h.1 k b below e
found end (Misses name ∷ p) h k b below e = found end p h.1 k b below e
found end (Announces c ∷ p) h k b below e = elim (cases_lt k (length (announced p))) [
  | inl less ↦ find_front (is_block b.file b.number) (announced p) (c ∷ []) b
      (found end p h.1 k b less (sym (get_or-append (announced p) (c ∷ []) b k less) ∙ e))
  | inr high ↦
      let at : k ≡ length (announced p) = omega (arith, length_push (announced p) c) in
      let same : c ≡ b = sym (get_or_at (announced p) c [] b (length (announced p)) refl)
      ∙ (ap (λ n. get_or (announced p ++ c ∷ []) n b) (sym at) ∙ e) in
      let P : BlockData → Type 0 = λ x. find (is_block x.file x.number) (announced p ++ c ∷ []) ≡ Some x in
      subst P same (find_last p (announced p) c (all_below end p h.1) h.0.file h.0.number)
]

pub first_is_taken : (past : Past) (r : SearchedBlock) → IsShaped (terminator past.query) (plan past)
    → r.query ≡ past.query.text → Contains (announced (plan past)) r.block
    → is_taken (taken_of past.query past.events) r.block ≡ false → answer past r ≡ Taken
unfolding answer_after
first_is_taken past r h query known new =
    let keys = taken_of past.query past.events in
    let b = r.block in
    let same : same_text past.query.text r.query ≡ true = ap (same_text past.query.text) query
    ∙ text_equal.complete past.query.text in
    ap (λ t. cond t (arrival_at (find (is_block b.file b.number) (announced (plan past))) keys b) Stranger) same
    ∙ (ap (λ o. arrival_at o keys b) (found (terminator past.query) (plan past) h known.0 b known.1 known.2)
    ∙ (ap (λ t. cond t Double (if_same (bytes_eq b.bytes b.bytes))) new
    ∙ ap if_same ((bytes_eq-Decides b.bytes b.bytes).1 refl)))
