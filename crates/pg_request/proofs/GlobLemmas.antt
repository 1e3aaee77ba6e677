-- A glob without the slash at its end. For `without_slash`.
use Rattle.std.proofs.Common.{◌≡◌, ◌≢◌, ℕ, ◌==◌, Bool, true, false, cond, List, [], ◌∷◌, ◌++◌, refl, ap, arith}
use Rattle.std.proofs.lemmas.Bool.Decides.{nat_tests}
use Rattle.pg_request.specs.Asked.{without_slash}

pub cut_slash : (t : List ℕ) → without_slash (t ++ 47 ∷ []) ≡ t
cut_slash [] = refl
cut_slash (x ∷ []) = refl
cut_slash (x ∷ y ∷ t) = ap (λ r. x ∷ r) (cut_slash (y ∷ t))

is_slash : (x : ℕ) → (x == 47) ≡ true → x ≡ 47
is_slash x e = grind (arith, nat_tests)

one_byte : (x : ℕ) (b : Bool) → (x == 47) ≡ b → ((front : List ℕ) → x ∷ [] ≢ front ++ 47 ∷ [])
    → cond b [] (x ∷ []) ≡ x ∷ []
one_byte x true e none = absurd (none [] (ap (λ y. y ∷ []) (is_slash x e)))
one_byte x false e none = refl

pub no_slash : (t : List ℕ) → ((front : List ℕ) → t ≢ front ++ 47 ∷ []) → without_slash t ≡ t
no_slash [] none = refl
no_slash (x ∷ []) none = one_byte x (x == 47) refl none
no_slash (x ∷ y ∷ t) none =
    ap (λ r. x ∷ r) (no_slash (y ∷ t) (λ front e. none (x ∷ front) (ap (λ r. x ∷ r) e)))
