-- What stands before a kept line.
use Rattle.std.proofs.Common.{◌≡◌, ℕ, ◌+◌, ◌-◌, ◌≤◌, inl, inr, min, cond, List, [], ◌++◌, length, drop, sym, ap}
use Rattle.std.proofs.Common.{◌∙◌}
use Rattle.std.proofs.Common.{arith, length-append}
use Rattle.circular_buffer.specs.Buffer.{keep_last}
use Rattle.std.proofs.lemmas.Bool.{cases_lt, cases_Bool}
use Rattle.std.proofs.Math.Seq.{drop-append-add}
use Rattle.pg_rows.specs.declared.format.Format.{Format}
use Rattle.pg_rows.specs.declared.progress.Progress.{Progress}
use Rattle.pg_rows.specs.Output.{bytes_in}
use Rattle.pg_rows.specs.Stretch.{marked_rows, plain}
use Rattle.pg_rows.specs.Printing.{leading, rows_of_leading}
use Rattle.pg_rows.proofs.StretchLemmas.{length_keep_last}
use Rattle.pg_rows.proofs.RowLemmas.{marked_append, marked_anywhere}
use Rattle.pg_rows.proofs.SizeLemmas.{size_append}
use Rattle.pg_rows.proofs.PrintLemmas.{last_behind, keep_none}

-- the last ones of two lists are the last ones of each
pub last_of_both : {X : Type 0} (n : ℕ) (xs ys : List X) → n ≤ length xs + length ys
    → keep_last n (xs ++ ys) ≡ keep_last (n - min n (length ys)) xs ++ keep_last (min n (length ys)) ys
last_of_both n xs ys fits =
    let whole = length-append xs ys in
    elim (cases_lt n (length ys)) [
      | inl less ↦
          let none : n - min n (length ys) ≡ 0 = omega arith in
          let skip : length (xs ++ ys) - n ≡ length xs + (length ys - n) = omega arith in
          let same : length ys - n ≡ length ys - min n (length ys) = omega arith in
          ap (λ k. drop k (xs ++ ys)) skip
          ∙ (drop-append-add xs ys (length ys - n)
          ∙ (ap (λ k. drop k ys) same
          ∙ sym (ap (λ zs. zs ++ keep_last (min n (length ys)) ys) (ap (λ k. keep_last k xs) none ∙ keep_none xs))))
      | inr all ↦
          let rest : length ys - min n (length ys) ≡ 0 = omega arith in
          let more : (n - min n (length ys)) + length ys ≡ n = omega arith in
          ap (λ k. keep_last k (xs ++ ys)) (sym more)
          ∙ (sym (last_behind (n - min n (length ys)) xs ys (omega arith))
          ∙ ap (λ k. keep_last (n - min n (length ys)) xs ++ drop k ys) (sym rest))
    ]

-- the rows of leading context: of lines that were held, and of those that stand close before the kept one
pub leading_rows : (format : Format) (end : ℕ) (name : List ℕ) (p : Progress) (xs ys : List (List ℕ))
    (n close offset start : ℕ)
    → n ≡ leading format p → close ≡ min n (length ys) → n ≤ length xs + length ys → n ≤ p.number
    → start ≡ offset - bytes_in (keep_last close ys) → bytes_in (keep_last (leading format p) (xs ++ ys)) ≤ offset
    → rows_of_leading format end name (xs ++ ys) p offset
    ≡ marked_rows format end name 45 plain ((p.number + 1) - n) (start - bytes_in (keep_last (n - close) xs))
    (keep_last (n - close) xs)
    ++ marked_rows format end name 45 plain ((p.number + 1) - close) start (keep_last close ys)
leading_rows format end name p xs ys n close offset start is close_is fits few start_is low =
    let first = (p.number + 1) - n in
    let far = keep_last (n - close) xs in
    let near = keep_last close ys in
    let rows = λ (number at : ℕ) (ls : List (List ℕ)). marked_rows format end name 45 plain number at ls in
    let left = length_keep_last (n - close) xs in
    let number : first + length far ≡ (p.number + 1) - close = omega arith in
    let apart : keep_last n (xs ++ ys) ≡ far ++ near =
    last_of_both n xs ys fits ∙ ap (λ k. keep_last (n - k) xs ++ keep_last k ys) (sym close_is) in
    let whole : keep_last (leading format p) (xs ++ ys) ≡ far ++ near =
    ap (λ k. keep_last k (xs ++ ys)) (sym is) ∙ apart in
    let size = ap bytes_in whole ∙ size_append far near in
    let from : offset - bytes_in (keep_last (leading format p) (xs ++ ys)) ≡ start - bytes_in far =
    omega (arith, size, start_is) in
    let next : (start - bytes_in far) + bytes_in far ≡ start = omega (arith, size, start_is, low) in
    ap (λ k. rows ((p.number + 1) - k) (offset - bytes_in (keep_last (leading format p) (xs ++ ys)))
    (keep_last (leading format p) (xs ++ ys))) (sym is)
    ∙ (ap (λ k. rows first k (keep_last (leading format p) (xs ++ ys))) from
    ∙ (ap (rows first (start - bytes_in far)) whole
    ∙ (marked_append format end name 45 plain first (start - bytes_in far) far near
    ∙ (ap (λ k. rows first (start - bytes_in far) far ++ rows k ((start - bytes_in far) + bytes_in far) near) number
    ∙ ap (λ k. rows first (start - bytes_in far) far ++ rows ((p.number + 1) - close) k near) next))))

-- the rows of lines that were held begin where these begin, which only offsets ask for
pub held_start : (format : Format) (end : ℕ) (name : List ℕ) (number start at : ℕ) (ls : List (List ℕ))
    → at ≡ cond format.offsets (start - bytes_in ls) 0
    → marked_rows format end name 45 plain number at ls
    ≡ marked_rows format end name 45 plain number (start - bytes_in ls) ls
held_start format end name number start at ls is = elim (cases_Bool format.offsets) [
  | inl on ↦ ap (λ k. marked_rows format end name 45 plain number k ls)
      (is ∙ ap (λ b. cond b (start - bytes_in ls) 0) on)
  | inr off ↦ marked_anywhere format end name 45 plain number at (start - bytes_in ls) ls off
]

-- where no line is shown before the kept one
pub no_leading : (format : Format) (end : ℕ) (name : List ℕ) (p : Progress) (hidden : List (List ℕ)) (n offset : ℕ)
    → n ≡ leading format p → n ≡ 0 → rows_of_leading format end name hidden p offset ≡ []
no_leading format end name p hidden n offset is none =
    ap (marked_rows format end name 45 plain ((p.number + 1) - leading format p)
    (offset - bytes_in (keep_last (leading format p) hidden)))
    (ap (λ k. keep_last k hidden) (sym is ∙ none) ∙ keep_none hidden)
