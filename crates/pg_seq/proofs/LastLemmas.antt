-- Whether the rows of a file were all written, by the files that wait.
use Rattle.std.proofs.Common.{◌≡◌, ℕ, ◌+◌, ◌-◌, ◌<◌, ◌≤◌, Bool, true, false, not, ◌&&◌, eqb, leb, inl, inr}
use Rattle.std.proofs.Common.{List, length, drop, get_or, sym, ap, ◌∙◌, arith}
use Rattle.std.proofs.lemmas.Bool.{cases_lt, false≢true}
use Rattle.std.proofs.lemmas.Bool.Decides.{nat_tests}
use Rattle.std.proofs.lemmas.List.{drop_more, drop_all}
use Rattle.pg_seq.specs.declared.ahead.Lookahead.{Lookahead}
use Rattle.pg_seq.specs.declared.assembler.Assembler.{Assembler}
use Rattle.pg_seq.specs.declared.opening.Opening.{Opening}
use Rattle.pg_seq.specs.Standing.{is_last_block}
use Rattle.pg_seq.specs.Ahead.{is_over}

-- no file waits behind so many
pub none_behind : (n m : ℕ) → (n < m → false ≡ true) → m ≤ n
none_behind n m h = elim (cases_lt n m) [ inl below ↦ absurd (false≢true (h below)) | inr past ↦ past ]

not_more : (n m : ℕ) → leb n m ≡ eqb (n - m) 0
not_more n m = grind (arith, nat_tests)

pub still_runs : (running empty : Bool) → running ≡ true → not running ≡ (not running && empty)
still_runs running empty e = ap not e ∙ sym (ap (λ b. not b && empty) e)

module _ {A : Type 0} where
  -- by the file that waits first
  pub last_before : (waiting : List (Opening A)) (k : ℕ) (next : Opening A) (more : Bool) (held count : ℕ)
      → k < length waiting → next ≡ get_or waiting k next
      → eqb next.start count ≡ is_last_block (drop k waiting) more held count
  last_before waiting k next more held count below is =
      ap (λ (x : Opening A). eqb x.start count) is
      ∙ sym (ap (λ xs. is_last_block xs more held count) (drop_more waiting k next below))

  -- where none waits
  pub last_of_all : (waiting : List (Opening A)) (k : ℕ) (more : Bool) (held count : ℕ) → length waiting ≤ k
      → (not more && eqb held 0) ≡ is_last_block (drop k waiting) more held count
  last_of_all waiting k more held count past =
      sym (ap (λ xs. is_last_block xs more held count) (drop_all k waiting past))

  -- the same of what could be done
  pub over_before : (s : Assembler A) (a : Lookahead) (next : Opening A) (handed : ℕ) → handed ≡ s.buffer.handed
      → a.files < length s.waiting.items → next ≡ get_or s.waiting.items a.files next
      → eqb next.start (handed + a.blocks) ≡ is_over s a
  over_before s a next handed e below is =
      ap (λ n. eqb next.start (n + a.blocks)) e
      ∙ last_before s.waiting.items a.files next s.running (length s.buffer.slots.items - a.blocks) _ below is

  pub over_at_last : (s : Assembler A) (a : Lookahead) (held : ℕ) → held ≡ length s.buffer.slots.items
      → s.running ≡ false → length s.waiting.items ≤ a.files → leb held a.blocks ≡ is_over s a
  over_at_last s a held e ended past =
      let left = length s.buffer.slots.items - a.blocks in
      ap (λ n. leb n a.blocks) e
      ∙ (not_more (length s.buffer.slots.items) a.blocks
      ∙ (sym (ap (λ b. not b && eqb left 0) ended)
      ∙ last_of_all s.waiting.items a.files s.running left (s.buffer.handed + a.blocks) past))

  pub not_over : (s : Assembler A) (a : Lookahead) → s.running ≡ true → length s.waiting.items ≤ a.files
      → not s.running ≡ is_over s a
  not_over s a runs past =
      let left = length s.buffer.slots.items - a.blocks in
      still_runs s.running (eqb left 0) runs
      ∙ last_of_all s.waiting.items a.files s.running left (s.buffer.handed + a.blocks) past
