-- How a derived comparison and one of lists compute.
use Rattle.std.proofs.Common.{◌≡◌, Bool, ◌&&◌, ◌==◌, List, [], ◌∷◌, map, refl, ap}
use Rattle.std.specs.Cmp.Lexicographic.{pointwise}
use denote.Enum.Bare.{sameb}
use Rattle.pg_grammar.specs.contracts.pattern_list.Kind.{the_type}
use Rattle.pg_selection.specs.Search.{Kind, Basic, Extended, Fixed}
use Rattle.pg_selection.specs.Same.{kind_number}

pub kind-same : (a b : Kind) → sameb the_type a b ≡ (kind_number a == kind_number b)
kind-same Basic Basic = refl
kind-same Basic Extended = refl
kind-same Basic Fixed = refl
kind-same Extended Basic = refl
kind-same Extended Extended = refl
kind-same Extended Fixed = refl
kind-same Fixed Basic = refl
kind-same Fixed Extended = refl
kind-same Fixed Fixed = refl

pub pointwise-map : {X Y : Type 0} (f : X → Y) (test : Y → Y → Bool) (xs ys : List X)
    → pointwise (λ a b. test (f a) (f b)) xs ys ≡ pointwise test (map f xs) (map f ys)
pointwise-map f test [] [] = refl
pointwise-map f test [] (y ∷ ys) = refl
pointwise-map f test (x ∷ xs) [] = refl
pointwise-map f test (x ∷ xs) (y ∷ ys) = ap (λ b. test (f x) (f y) && b) (pointwise-map f test xs ys)
