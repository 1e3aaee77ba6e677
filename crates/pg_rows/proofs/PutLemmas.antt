-- What the places of a set give, one after another.
use Rattle.std.proofs.Common.{◌≡◌, ℕ, zero, suc, ◌+◌, ◌<◌, ◌≤◌, Bool, true, false, not, ◌&&◌, ◌||◌, cond, List, [], ◌∷◌}
use Rattle.std.proofs.Common.{◌++◌, refl, sym, ap, ◌∙◌, arith, append_assoc}
use Rattle.std.specs.List.{range_with_len, list_any, filter, flat_map}
use Rattle.pg_rows.specs.declared.format.Format.{Format}
use Rattle.pg_rows.specs.Output.{gap_text, separator, is_behind, has_separators, when}
use Rattle.pg_rows.proofs.NearLemmas.{any_same}

abbrev pub put : (ℕ → Bool) → (ℕ → List ℕ) → ℕ → ℕ → List ℕ
put set emit a n = flat_map emit (filter set (range_with_len a n))

first_of : (f : ℕ → List ℕ) (a : ℕ) (rest : List ℕ) (t : Bool)
    → flat_map f (cond t (a ∷ rest) rest) ≡ cond t (f a) [] ++ flat_map f rest
first_of f a rest true = refl
first_of f a rest false = refl

pub put_first : (set : ℕ → Bool) (emit : ℕ → List ℕ) (a n : ℕ)
    → put set emit a (suc n) ≡ cond (set a) (emit a) [] ++ put set emit (a + 1) n
put_first set emit a n = first_of emit a (filter set (range_with_len (a + 1) n)) (set a)

pub put_same : (set set' : ℕ → Bool) (emit emit' : ℕ → List ℕ) (a n : ℕ)
    → ((i : ℕ) → a ≤ i → i < a + n → cond (set i) (emit i) [] ≡ cond (set' i) (emit' i) [])
    → put set emit a n ≡ put set' emit' a n
put_same set set' emit emit' a zero h = refl
put_same set set' emit emit' a (suc n) h =
    put_first set emit a n
    ∙ (ap (λ xs. xs ++ put set emit (a + 1) n) (h a (omega arith) (omega arith))
    ∙ (ap (λ xs. cond (set' a) (emit' a) [] ++ xs)
    (put_same set set' emit emit' (a + 1) n (λ i low high. h i (omega arith) (omega arith)))
    ∙ sym (put_first set' emit' a n)))

pub put_none : (set : ℕ → Bool) (emit : ℕ → List ℕ) (a n : ℕ) → ((i : ℕ) → a ≤ i → i < a + n → set i ≡ false)
    → put set emit a n ≡ []
put_none set emit a zero h = refl
put_none set emit a (suc n) h =
    put_first set emit a n
    ∙ (ap (λ t. cond t (emit a) [] ++ put set emit (a + 1) n) (h a (omega arith) (omega arith))
    ∙ put_none set emit (a + 1) n (λ i low high. h i (omega arith) (omega arith)))

pub put_all : (set : ℕ → Bool) (emit emit' : ℕ → List ℕ) (a n : ℕ)
    → ((i : ℕ) → a ≤ i → i < a + n → (set i ≡ true) × (emit i ≡ emit' i))
    → put set emit a n ≡ flat_map emit' (range_with_len a n)
put_all set emit emit' a zero h = refl
put_all set emit emit' a (suc n) h =
    let here = h a (omega arith) (omega arith) in
    put_first set emit a n
    ∙ (ap (λ t. cond t (emit a) [] ++ put set emit (a + 1) n) here.0
    ∙ (ap (λ xs. xs ++ put set emit (a + 1) n) here.1
    ∙ ap (λ xs. emit' a ++ xs) (put_all set emit emit' (a + 1) n (λ i low high. h i (omega arith) (omega arith)))))

pub put_split : (set : ℕ → Bool) (emit : ℕ → List ℕ) (a n m : ℕ)
    → put set emit a (n + m) ≡ put set emit a n ++ put set emit (a + n) m
put_split set emit a zero m =
    let e : 0 + m ≡ m = omega arith in
    let f : a ≡ a + 0 = omega arith in
    ap (put set emit a) e ∙ ap (λ b. put set emit b m) f
put_split set emit a (suc n) m =
    let e : suc n + m ≡ suc (n + m) = omega arith in
    let f : (a + 1) + n ≡ a + suc n = omega arith in
    ap (put set emit a) e
    ∙ (put_first set emit a (n + m)
    ∙ (ap (λ xs. cond (set a) (emit a) [] ++ xs)
    (put_split set emit (a + 1) n m ∙ ap (λ b. put set emit (a + 1) n ++ put set emit b m) f)
    ∙ (sym (append_assoc (cond (set a) (emit a) []) (put set emit (a + 1) n) (put set emit (a + suc n) m))
    ∙ ap (λ xs. xs ++ put set emit (a + suc n) m) (sym (put_first set emit a n)))))

behind_same : (set set' : ℕ → Bool) (i : ℕ) → ((k : ℕ) → k < i → set k ≡ set' k) → is_behind set i ≡ is_behind set' i
behind_same set set' zero h = refl
behind_same set set' (suc i) h = h i (omega arith)

pub separator_same : (format : Format) (end : ℕ) (set set' : ℕ → Bool) (earlier : Bool) (i : ℕ)
    → ((k : ℕ) → k < i → set k ≡ set' k) → separator format end set earlier i ≡ separator format end set' earlier i
separator_same format end set set' earlier i h =
    ap (λ t. when (has_separators format && not t && (earlier || list_any set (range_with_len 0 i)))
    (gap_text format end))
    (behind_same set set' i h)
    ∙ ap (λ t. when (has_separators format && not (is_behind set' i) && (earlier || t)) (gap_text format end))
    (any_same set set' 0 i (λ k low high. h k (omega arith)))
