-- Links in a circle. For `stands_above`, `is_in_circle` and `operand`.
use Rattle.std.proofs.Common.{ℕ, zero, suc, ◌≡◌, ◌<◌, ◌≤◌, ◌+◌, ◌-◌, ◌==◌, ◌||◌, ◌&&◌, Bool, true, false, cond, List}
use Rattle.std.proofs.Common.{[], ◌∷◌, length, take, Option, Some, None, refl, sym, ap, ◌∙◌, arith}
use Rattle.std.specs.Prelude.{slice_index}
use Rattle.std.specs.List.{filter, list_any}
use Rattle.std.proofs.lemmas.Bool.Decides.{nat_tests}
use Rattle.std.proofs.lemmas.List.{get_or-take, length-take-le}
use Rattle.pg_walk.specs.Answers.{Path, Answers}
use Rattle.pg_walk.specs.Paths.{ends_with_slash, beginnings, above}
use Rattle.pg_walk.specs.Circles.{are_one}
use Rattle.pg_walk.specs.Scopes.{Scope, sights}
use Rattle.pg_walk.specs.declared.tree.Identity.{Identity}
use Rattle.std.proofs.Math.Bool.{and-false}

-- one of the longest so many beginnings that end with a slash, among those of at most so many bytes, passes the test
abbrev pub some_above : (Path → Bool) → Path → ℕ → ℕ → Bool
some_above test path left n = list_any test (take left (filter ends_with_slash (beginnings path n)))

-- this file stands at the path
abbrev pub is_own : Answers → Identity → Path → Bool
is_own a own path = are_one (a.identity path) (Some own)

ends_as : (path : Path) (n : ℕ) → n < length path → ends_with_slash (take (suc n) path) ≡ (slice_index path n == 47)
ends_as path n h =
    let k : length (take (suc n) path) - 1 ≡ n =
    ap (λ m. m - 1) (length-take-le (suc n) path (omega arith)) ∙ omega arith in
    ap (λ m. slice_index (take (suc n) path) m == 47) k
    ∙ ap (λ x. x == 47) (get_or-take (suc n) path n 0 (omega arith))

is_slash : (x : ℕ) → x ≡ 47 → (x == 47) ≡ true
is_slash x e = grind (arith, nat_tests)

is_other : (x : ℕ) → (x ≡ 47 → ⊥) → (x == 47) ≡ false
is_other x e = grind (arith, nat_tests)

module _ (test : Path → Bool) (path : Path) where
  slash_at : (left n : ℕ) → n < length path → (slice_index path n == 47) ≡ true
      → some_above test path (suc left) (suc n) ≡ (test (take (suc n) path) || some_above test path left n)
  slash_at left n h e =
      let rest = filter ends_with_slash (beginnings path n) in
      ap (λ b. list_any test (take (suc left) (cond b (take (suc n) path ∷ rest) rest))) (ends_as path n h ∙ e)

  other_at : (left n : ℕ) → n < length path → (slice_index path n == 47) ≡ false
      → some_above test path left (suc n) ≡ some_above test path left n
  other_at left n h e =
      let rest = filter ends_with_slash (beginnings path n) in
      ap (λ b. list_any test (take left (cond b (take (suc n) path ∷ rest) rest))) (ends_as path n h ∙ e)

  -- the byte before the end is a slash: the beginning up to it is looked at next
  pub behind_slash : (left end : ℕ) → 0 < left → 0 < end → end ≤ length path → slice_index path (end - 1) ≡ 47
      → (b : Bool) → b ≡ test (take (end - 1 + 1) path)
      → some_above test path left end ≡ (b || some_above test path (left - 1) (end - 1))
  behind_slash left end some more within e b looked =
      let l : left ≡ suc (left - 1) = omega arith in
      let n : end ≡ suc (end - 1) = omega arith in
      let m : suc (end - 1) ≡ end - 1 + 1 = omega arith in
      ap (λ k. some_above test path k end) l ∙ ap (λ k. some_above test path (suc (left - 1)) k) n
      ∙ slash_at (left - 1) (end - 1) (omega arith) (is_slash (slice_index path (end - 1)) e)
      ∙ ap (λ k. test (take k path) || some_above test path (left - 1) (end - 1)) m
      ∙ ap (λ c. c || some_above test path (left - 1) (end - 1)) (sym looked)

  -- it is another byte
  pub behind_other : (left end : ℕ) → 0 < end → end ≤ length path → (slice_index path (end - 1) ≡ 47 → ⊥)
      → some_above test path left end ≡ some_above test path left (end - 1)
  behind_other left end more within e =
      let n : end ≡ suc (end - 1) = omega arith in
      ap (some_above test path left) n
      ∙ other_at left (end - 1) (omega arith) (is_other (slice_index path (end - 1)) e)

  pub at_head : (left end : ℕ) → end ≡ 0 → false ≡ some_above test path left end
  at_head left end e = sym (ap (some_above test path left) e ∙ none_before left)
    where
      none_before : (left : ℕ) → some_above test path left 0 ≡ false
      none_before zero = refl
      none_before (suc left) = refl

no_own : (f : Path → Option Identity) (directories : List Path)
    → list_any (λ directory. are_one (f directory) None) directories ≡ false
no_own f [] = refl
no_own f (d ∷ ds) = ap (λ b. b || list_any (λ directory. are_one (f directory) None) ds) (none_one (f d)) ∙ no_own f ds
  where
    none_one : (o : Option Identity) → are_one o None ≡ false
    none_one None = refl
    none_one (Some x) = refl

-- what can't be told lies in nothing
pub untold_free : (s : Scope) (a : Answers) (depth : ℕ) (path : Path) → a.identity path ≡ None
    → (sights s a).circle depth path ≡ false
untold_free s a depth path e =
    ap (λ o. s.follows && list_any (λ directory. are_one (a.identity directory) o) (above depth path)) e
    ∙ (ap (λ b. s.follows && b) (no_own a.identity (above depth path)) ∙ and-false s.follows)

-- an operand lies in nothing
pub operand_free : (s : Scope) (a : Answers) (path : Path) → (sights s a).circle 0 path ≡ false
operand_free s a path = and-false s.follows
