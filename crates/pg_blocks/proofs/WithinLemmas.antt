-- No line is longer than all bytes. Serves whoever has few bytes, as tests have.
use Rattle.std.proofs.Common.{ℕ, suc, ◌≤◌, ◌^◌, ◌==◌, true, false, cond, List, [], ◌∷◌, length, arith}
use Rattle.std.specs.List.{AllByRecursion, onto_first}
use Rattle.pg_blocks.specs.Lines.{lines}

abbrev AreShort : ℕ → List (List ℕ) → Type 0
AreShort n ls = AllByRecursion (λ l. length l ≤ n) ls

longer : (m n : ℕ) (ls : List (List ℕ)) → m ≤ n → AreShort m ls → AreShort n ls
longer m n [] h s = tt
longer m n (l ∷ ls) h s = (omega (arith, h, s.0), longer m n ls h s.1)

one_more : (b n : ℕ) (ls : List (List ℕ)) → AreShort n ls → AreShort (suc n) (onto_first b ls)
one_more b n [] s = (omega arith, tt)
one_more b n (l ∷ ls) s = (omega (arith, s.0), longer n (suc n) ls (omega arith) s.1)

-- a line is no longer than all bytes
lines_within : (end : ℕ) (bytes : List ℕ) → AreShort (length bytes) (lines end bytes)
lines_within end [] = tt
lines_within end (b ∷ bytes) =
    let n = length bytes in
    elim (b == end) as (λ t. AreShort (suc n) (cond t ([] ∷ lines end bytes) (onto_first b (lines end bytes)))) [
      | true ↦ (omega arith, longer n (suc n) (lines end bytes) (omega arith) (lines_within end bytes))
      | false ↦ one_more b n (lines end bytes) (lines_within end bytes)
    ]

pub lines_short : (end : ℕ) (bytes : List ℕ) → length bytes ≤ 100
    → AllByRecursion (λ l. length l ≤ 2 ^ 30) (lines end bytes)
lines_short end bytes h = longer (length bytes) (2 ^ 30) (lines end bytes) (omega (arith, h)) (lines_within end bytes)
