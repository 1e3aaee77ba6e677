-- What complements and unions make of a range and of a class.
use Rattle.std.proofs.Common.{ℕ, ◌≡◌, ◌<◌, ◌+◌, Bool, true, false, not, ◌&&◌, ◌||◌, leb, ltb, refl, arith}
use Rattle.std.proofs.lemmas.Bool.Decides.{nat_tests}
use Rattle.std.proofs.Math.Path.{fun_ext}
use Rattle.pg_bytes.specs.Sets.{all, union, complement, between, below}
use Rattle.pg_bytes.specs.Classes.{graph, alnum, punct}

between-at : (first last n : ℕ) → last < 256
    → (ltb n 256 && not ((ltb n 256 && not (ltb n (last + 1))) || ltb n first)) ≡ (leb first n && leb n last)
between-at first last n h = grind (arith, nat_tests)

-- neither above the last nor below the first
pub complement-outside : (first last : ℕ) → last < 256
    → complement (union (complement (below (last + 1))) (below first)) ≡ between first last
complement-outside first last h = fun_ext (λ n. between-at first last n h)

outside : (a g x : Bool) → (g ≡ true → a ≡ true) → (a && not ((a && not g) || x)) ≡ (g && not x)
outside true true x h = refl
outside true false x h = refl
outside false false x h = refl
outside false true x h = let e = h refl in cc

graph-small : (n : ℕ) → graph n ≡ true → all n ≡ true
graph-small n h = grind (arith, nat_tests)

-- neither without a glyph nor a letter or digit
pub complement-punct : complement (union (complement graph) alnum) ≡ punct
complement-punct = fun_ext (λ n. outside (all n) (graph n) (alnum n) (graph-small n))
