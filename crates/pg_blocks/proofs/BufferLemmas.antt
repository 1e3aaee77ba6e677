-- A buffer, some of whose bytes count.
use Rattle.std.proofs.Common.{◌≡◌, ℕ, ◌+◌, ◌-◌, ◌<◌, ◌≤◌, Bool, true, false, cond, List, Vec, [], ◌++◌, length, take}
use Rattle.std.proofs.Common.{drop}
use Rattle.std.proofs.Common.{sym, ap, ◌∙◌, arith, append_assoc, length-append, length-drop, Result, Ok, Err, is_ok}
use Rattle.std.proofs.lemmas.List.{take-append-le, length-take-le, append-nil, nil_from_length, take_all}
use Rattle.std.proofs.lemmas.List.{take-take, length-take}
use Rattle.std.specs.Prelude.{IfOk, OnOk}
use Rattle.std.proofs.Math.Seq.{take-length, take-append_seam, drop-append_seam}
use Rattle.std.specs.Vec.{with_items_from}

-- as many as there were behind the place are all that stands there
pub back_is : {A : Type 0} (v : Vec ℕ A) (n : ℕ) (ws : List ℕ) → n ≤ length v.items
    → length ws ≡ length (drop n v.items) → drop n (with_items_from v n ws).items ≡ ws
back_is v n ws h fits =
    let xs = v.items in
    let behind = drop n xs in
    let front = length-take-le n xs h in
    let none : drop (length ws) behind ≡ [] =
    nil_from_length (drop (length ws) behind) (omega (arith, length-drop (length ws) behind)) in
    let tail : ws ++ drop (length ws) behind ≡ ws = ap (λ ys. ws ++ ys) none ∙ append-nil ws in
    let all = take n xs ++ (ws ++ drop (length ws) behind) in
    let all-is : all ≡ take n xs ++ ws = ap (λ ys. take n xs ++ ys) tail in
    let len : length all ≡ v.len =
    omega (arith, ap length all-is, length-append (take n xs) ws, front, length-drop n xs, v.ok.0) in
    let rest = drop (length all) xs in
    let kept : take v.len (all ++ rest) ≡ take n xs ++ ws =
    ap (λ k. take k (all ++ rest)) (sym len)
    ∙ (take-append-le (length all) all rest (omega arith) ∙ (take-length all ∙ all-is)) in
    ap (drop n) kept ∙ (ap (λ k. drop k (take n xs ++ ws)) (sym front) ∙ drop-append_seam (take n xs) ws)

-- what was put behind the first ones is what stands there, and they stay
pub put_behind : {T E : Type 0} (r : Result T E) (n : ℕ) (xs ys zs : List ℕ) → length xs ≡ n
    → zs ≡ cond (is_ok r) (xs ++ ys) xs → (take n zs ≡ xs) × (n ≤ length zs) × OnOk r (drop n zs ≡ ys)
put_behind (Ok x) n xs ys zs size is = (
  ap (take n) is ∙ (ap (λ k. take k (xs ++ ys)) (sym size) ∙ take-append_seam xs ys),
  omega (arith, size, ap length is, length-append xs ys),
  ap (drop n) is ∙ (ap (λ k. drop k (xs ++ ys)) (sym size) ∙ drop-append_seam xs ys),
)
put_behind (Err e) n xs ys zs size is =
    (ap (take n) is ∙ take_all n xs (omega (arith, size)), omega (arith, size, ap length is), tt)

-- what stood first stays where the length grew
pub front_grown : (b : Bool) (n m : ℕ) (xs ys zs : List ℕ) → n ≤ length xs → length xs ≤ m
    → ys ≡ cond b (take m xs ++ zs) xs → take n ys ≡ take n xs
front_grown true n m xs ys zs within grown is =
    let all : take m xs ≡ xs = take_all m xs grown in
    ap (take n) (is ∙ ap (λ ts. ts ++ zs) all) ∙ take-append-le n xs zs within
front_grown false n m xs ys zs within grown is = ap (take n) is

pub length_grown : (b : Bool) (n m len : ℕ) → len ≤ m → n ≡ cond b m len → len ≤ n
length_grown true n m len h e = omega arith
length_grown false n m len h e = omega arith

-- the piece of a slice by its ends
pub piece_is : (f n : ℕ) (xs ys : List ℕ) → ys ≡ xs → take ((f + n) - f) (drop f ys) ≡ take n (drop f xs)
piece_is f n xs ys e =
    let same : (f + n) - f ≡ n = omega arith in
    ap (λ k. take k (drop f ys)) same ∙ ap (λ zs. take n (drop f zs)) e

-- of nothing there is one beginning
pub none_held : (n : ℕ) (xs ys : List ℕ) → n ≡ 0 → take n xs ≡ take n ys
none_held n xs ys e = ap (λ k. take k xs) e ∙ ap (λ k. take k ys) (sym e)

-- what is written over the front of a buffer stands there
pub front_written : {A : Type 0} (v : Vec ℕ A) (xs ws : List ℕ) → ws ≡ xs → length xs ≤ v.len
    → take (length xs) (take v.len ((ws ++ drop (length ws) v.items)
    ++ drop (length (ws ++ drop (length ws) v.items)) v.items)) ≡ xs
front_written v xs ws e h =
    let all = ws ++ drop (length ws) v.items in
    let n : length xs ≡ length ws = sym (ap length e) in
    let behind = drop (length ws) v.items ++ drop (length all) v.items in
    take-take (length xs) v.len (all ++ drop (length all) v.items) h
    ∙ (ap (take (length xs)) (append_assoc ws (drop (length ws) v.items) (drop (length all) v.items))
    ∙ (ap (λ k. take k (ws ++ behind)) n ∙ (take-append_seam ws behind ∙ e)))

pub long_enough : (xs ys : List ℕ) → take (length ys) xs ≡ ys → length ys ≤ length xs
long_enough xs ys e = omega (arith, ap length e, length-take (length ys) xs)

-- room behind a block, where the buffer grew
pub room_made : {T E : Type 0} (r : Result T E) (filled m n len : ℕ) (xs : List ℕ) → n ≡ length xs → filled < m
    → n ≡ cond (is_ok r) m len → OnOk r (0 < length (drop filled xs))
room_made (Ok x) filled m n len xs long h e = omega (arith, length-drop filled xs)
room_made (Err x) filled m n len xs long h e = tt

-- a copy begins with what was copied
pub all_begins : {A E : Type 0} (r : Result (Vec ℕ A) E) (xs : List ℕ) → IfOk r (λ v. v.items ≡ xs)
    → IfOk r (λ v. take (length xs) v.items ≡ xs)
all_begins (Ok v) xs e = ap (take (length xs)) e ∙ take-length xs
all_begins (Err e) xs h = tt

pub all_within : {A E : Type 0} (r : Result (Vec ℕ A) E) (xs : List ℕ) → IfOk r (λ v. v.items ≡ xs)
    → IfOk r (λ v. length xs ≤ length v.items)
all_within (Ok v) xs e = omega (arith, ap length e)
all_within (Err e) xs h = tt
