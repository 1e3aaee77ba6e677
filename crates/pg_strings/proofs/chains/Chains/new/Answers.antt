use Rattle.std.proofs.Common.{◌≡◌, ℕ, zero, suc, List, [], length, arith, refl, ap, ◌∙◌, rules}
use Rattle.std.specs.Prelude.{replicate, slice_index}
use Rattle.pg_strings.specs.Keys.{AreChains}
use Rattle.pg_strings.proofs.chains.Chains.new.Goals as goal

zeros : (xs : List ℕ) (n : ℕ) → xs ≡ replicate n 0 → (i : ℕ) → slice_index xs i ≡ 0
zeros xs n e i = ap (λ v. slice_index v i) e ∙ at n i
  where
    at : (n i : ℕ) → slice_index (replicate n 0) i ≡ 0
    at zero i = refl
    at (suc n) zero = refl
    at (suc n) (suc i) = at n i

empty_chains : (first next : List ℕ) (n : ℕ) → first ≡ replicate n 0 → length first ≡ 8192 → next ≡ []
    → AreChains first next []
empty_chains first next n is long none = record {
  count = long;
  links = ap length none;
  starts = λ h low. omega (arith, zeros first n is h);
  falls = λ i low. omega (arith, low);
  covers = λ h i low is. omega (arith, low);
  covers_before = λ i j less low same. omega (arith, low);
  own = λ h low some. omega (arith, zeros first n is h, some);
  own_before = λ j low some. omega (arith, low);
}

pub returns : goal.returns
returns g c =
    empty_chains c.in_ok-first.first.items c.new.result.items 8192
    (c.in_ok-first.ensures.items_if_clones_equal (λ y h. search rules))
    (omega (arith, c.in_ok-first.ensures.len)) c.new.ensures.items
