-- A bracket is its elements, folded and complemented.
use Rattle.std.proofs.Common.{ℕ, ◌≡◌, ◌+◌, Bool, true, false, cond, eqb, List, [], ◌∷◌, length, drop, Option, Some}
use Rattle.std.proofs.Common.{None, option_and_then, refl, sym, ap, ◌∙◌, arith, length-drop, add-one}
use Rattle.std.proofs.lemmas.List.{drop-drop}
use Rattle.pg_bytes.specs.Sets.{Bytes, empty, complement}
use Rattle.pg_grammar.specs.Brackets.{negates}
use Rattle.pg_syntax.specs.BracketReading.{Elements, Fresh, members_of, inside_at, set_of, same, unite, bracket, shape}
use Rattle.pg_syntax.specs.BracketReading.{unread, rest_of, elements_from}
use Rattle.pg_pattern.specs.Patterns.{folded}
use Rattle.pg_syntax.proofs.BracketRuns.{nothing}

abbrev pub shaped_by : Bool → Bool → Option (Bytes × List ℕ) → Option (Bytes × List ℕ)
shaped_by turn fold o = option_and_then (λ x. Some (shape turn fold x.0, x.1)) o

plain : (fold : Bool) (o : Elements) → set_of fold same o ≡ shaped_by false fold (rest_of unread o)
plain fold None = refl
plain fold (Some x) = one (members_of Fresh x.0)
  where
    one : (m : Option Bytes) → option_and_then (λ s. Some (same (folded fold s), x.1)) m ≡ shaped_by false fold
        (option_and_then (λ s. Some (s, x.1)) (unite (Some empty) m))
    one None = refl
    one (Some s) = refl

turned : (fold : Bool) (o : Elements) → set_of fold complement o ≡ shaped_by true fold (rest_of unread o)
turned fold None = refl
turned fold (Some x) = one (members_of Fresh x.0)
  where
    one : (m : Option Bytes) → option_and_then (λ s. Some (complement (folded fold s), x.1)) m ≡ shaped_by true fold
        (option_and_then (λ s. Some (s, x.1)) (unite (Some empty) m))
    one None = refl
    one (Some s) = refl

by_rest : (fold : Bool) (t : List ℕ) → bracket fold (91 ∷ t) ≡ cond (negates t)
    (shaped_by true fold (rest_of unread (inside_at (length (drop 1 t)) true (drop 1 t))))
    (shaped_by false fold (rest_of unread (inside_at (length t) true t)))
unfolding bracket
by_rest fold [] = sym (ap (λ o. shaped_by false fold (rest_of unread o)) (nothing 0 true))
by_rest fold (c ∷ t) =
    ap (λ x. cond (eqb c 94) x (set_of fold same (inside_at (length t + 1) true (c ∷ t))))
    (turned fold (inside_at (length t) true t))
    ∙ ap (λ x. cond (eqb c 94) (shaped_by true fold (rest_of unread (inside_at (length t) true t))) x)
    (plain fold (inside_at (length t + 1) true (c ∷ t))
    ∙ ap (λ n. shaped_by false fold (rest_of unread (inside_at n true (c ∷ t)))) (add-one (length t)))

pub whole_is : (fold : Bool) (text : List ℕ) (at : ℕ) (turn : Bool) (start : ℕ) → drop at text ≡ 91 ∷ drop (at + 1) text
    → turn ≡ negates (drop (at + 1) text) → start ≡ cond turn (at + 2) (at + 1)
    → bracket fold (drop at text) ≡ shaped_by turn fold (elements_from text start)
whole_is fold text at turn start s n e = ap (bracket fold) s
    ∙ (by_rest fold (drop (at + 1) text) ∙
    (ap (λ b. cond b (shaped_by true fold
    (rest_of unread (inside_at (length (drop 1 (drop (at + 1) text))) true (drop 1 (drop (at + 1) text)))))
    (shaped_by false fold (rest_of unread (inside_at (length (drop (at + 1) text)) true (drop (at + 1) text))))) (sym n)
    ∙ go turn e))
  where
    go : (b : Bool) → start ≡ cond b (at + 2) (at + 1)
        → cond b (shaped_by true fold (rest_of unread
        (inside_at (length (drop 1 (drop (at + 1) text))) true (drop 1 (drop (at + 1) text)))))
        (shaped_by false fold (rest_of unread (inside_at (length (drop (at + 1) text)) true (drop (at + 1) text)))) ≡
        shaped_by b fold (elements_from text start)
    go true f =
        let k : at + 1 + 1 ≡ start = let g : start ≡ at + 2 = f in omega arith in
        let d : drop 1 (drop (at + 1) text) ≡ drop start text = drop-drop 1 (at + 1) text ∙ ap (λ n. drop n text) k in
        ap (λ t. shaped_by true fold (rest_of unread (inside_at (length t) true t))) d
        ∙ ap (λ k. shaped_by true fold (rest_of unread (inside_at k true (drop start text))))
        (length-drop start text)
    go false f =
        ap (λ k. shaped_by false fold (rest_of unread (inside_at (length (drop k text)) true (drop k text)))) (sym f)
        ∙ ap (λ k. shaped_by false fold (rest_of unread (inside_at k true (drop start text))))
        (length-drop start text)
