-- What lawful draws and merges have in common: nothing is left out.
use Rattle.std.proofs.Common.{◌≡◌, ℕ, zero, suc, ◌+◌, ◌≤◌, Any, List, [], ◌∷◌, true, length, min, arith, if◌then◌else◌}
use Rattle.std.proofs.Common.{◌==◌}
use Rattle.std.proofs.lemmas.Bool.Decides.{nat_tests}
use Rattle.pg_board.specs.declared.draws.BoardSize.{BoardSize}
use Rattle.pg_board.specs.declared.draws.Draws.{Draws}
use Rattle.pg_board.specs.Counts.{times, once_below}
use Rattle.pg_board.specs.Draws.{all_drawn, IsLawful}
use Rattle.pg_board.proofs.CountLemmas.{total_any}

-- f of each number below n, added up
abbrev sum_below : (ℕ → ℕ) → ℕ → ℕ
sum_below f zero = 0
sum_below f (suc n) = f n + sum_below f n

sum_none : (n : ℕ) → sum_below (λ x. times x []) n ≡ 0
sum_none zero = omega arith
sum_none (suc n) = let r = sum_none n in omega arith

sum_both : (f g : ℕ → ℕ) (n : ℕ) → sum_below (λ x. f x + g x) n ≡ sum_below f n + sum_below g n
sum_both f g zero = omega arith
sum_both f g (suc n) = let r = sum_both f g n in omega arith

-- one number is one of those below n at most once
sum_one : (y n : ℕ) → sum_below (λ x. if y == x then 1 else 0) n ≡ once_below y n
sum_one y zero = grind (arith, nat_tests)
sum_one y (suc n) = let r = sum_one y n in let e : once_below y (suc n) ≡ once_below y n + (if y == n then 1 else 0) =
    grind (arith, nat_tests) in omega arith

sum_times : (n : ℕ) (ys : List ℕ) → sum_below (λ x. times x ys) n ≤ length ys
sum_times n [] = let r = sum_none n in omega arith
sum_times n (y ∷ ys) =
    let both = sum_both (λ x. if y == x then 1 else 0) (λ x. times x ys) n in let one =
    sum_one y n in let few : once_below y n ≤ 1 = grind (arith, nat_tests) in
    let r = sum_times n ys in omega arith

sum_all : (f : ℕ → ℕ) (n m : ℕ) → n ≤ m → ((x : ℕ) → f x ≡ once_below x m) → sum_below f n ≡ n
sum_all f zero m low each = omega arith
sum_all f (suc n) m low each = let r = sum_all f n m (omega arith) each in let e =
    each n in let o : once_below n m ≡ 1 = grind (arith, nat_tests) in omega arith

-- who has each number below n has n numbers
has_all : (n : ℕ) (ys : List ℕ) → ((x : ℕ) → times x ys ≡ once_below x n) → n ≤ length ys
has_all n ys each = let a = sum_all (λ x. times x ys) n n (omega arith) each in let b = sum_times n ys in omega arith

pub past_limit : (size : BoardSize) (word : ℕ) (seats : List Draws) → IsLawful size word seats
    → Any (λ (d : Draws). d.spent ≡ true) seats → size.limit ≤ word
past_limit size word seats h a =
    let some_spent = total_any (λ (d : Draws). d.spent) seats a.0 a.1 a.2 a.3 a.4 in
    let count = has_all (min word size.limit) (all_drawn seats) h.each_once in let c = h.counted in omega arith
