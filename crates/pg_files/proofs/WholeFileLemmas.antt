-- What a read of a file that was read ahead gives: for WholeFile::read.
use Rattle.std.specs.Prelude.{◌≡◌, ℕ, ◌+◌, ◌-◌, ◌≤◌, List, ◌++◌, length, take, drop}
use Rattle.std.proofs.Common.{arith, sym, ap, ◌∙◌}
use Rattle.std.proofs.lemmas.List.{take-append-drop, take-append-le, take_all, drop-drop, length-drop, length-take-le}

-- the bytes in the buffer's front, and what is left behind them, are what was left before
pub left_is_given : (bytes front rest : List ℕ) (given count : ℕ)
    → front ≡ take count (take (length bytes - given) (drop given bytes)) → count ≤ length bytes - given
    → drop given bytes ≡ take count (front ++ rest) ++ drop (given + count) bytes
left_is_given bytes front rest given count from room =
    let all : take (length bytes - given) (drop given bytes) ≡ drop given bytes =
    take_all (length bytes - given) (drop given bytes) (omega (arith, length-drop given bytes)) in
    let is : front ≡ take count (drop given bytes) = from ∙ ap (take count) all in
    let len : length front ≡ count =
    ap length is ∙ length-take-le count (drop given bytes) (omega (arith, room, length-drop given bytes)) in
    let whole : take count (front ++ rest) ≡ front =
    take-append-le count front rest (omega (arith, len)) ∙ take_all count front (omega (arith, len)) in
    let behind : drop count (drop given bytes) ≡ drop (given + count) bytes =
    drop-drop count given bytes ∙ ap (λ n. drop n bytes) (omega arith) in
    sym (take-append-drop count (drop given bytes))
    ∙ ap (λ xs. xs ++ drop count (drop given bytes)) (sym (whole ∙ is))
    ∙ ap (λ xs. take count (front ++ rest) ++ xs) behind
