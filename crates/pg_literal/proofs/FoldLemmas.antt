-- Lines and sets as they are searched.
use Rattle.std.proofs.Common.{ℕ, ◌≡◌, ◌<◌, ◌≤◌, ◌==◌, List, [], ◌∷◌, ◌++◌, length, Bool, true, false}
use Rattle.std.proofs.Common.{rules, Option, Some, None, refl, sym, ap, ◌∙◌, arith, ◌⊎◌, inl, inr, ◌↔◌, ◌≢◌, not}
use mathlib.Core.Bool.{beq}
use Rattle.std.specs.Bool.{Decides}
use Rattle.std.specs.Prelude.{slice_get, option_map}
use Rattle.std.proofs.lemmas.Bool.{false≢true, cases_lt}
use Rattle.std.proofs.lemmas.Bool.Decides.{nat_tests}
use Rattle.std.proofs.lemmas.List.{length-map, map-append}
use Rattle.std.proofs.lemmas.Option.{slice_get-map, none-some, same_Some}
use Rattle.pg_bytes.specs.contracts.byte_set.ByteSetPartialEq.TheImpl.{eq-value}
use Rattle.pg_bytes.specs.declared.byte_set.ByteSet.{ByteSet}
use Rattle.pg_bytes.specs.ByteSets.{bytes}
use Rattle.pg_bytes.specs.Sets.{Bytes, one, closed, lower_case}
use Rattle.pg_pattern.specs.Patterns.{folded}
use Rattle.pg_literal.specs.Literals.{as_searched}
use Rattle.pg_literal.specs.Rows.{byte_as_searched, IsAlone}

-- sets that are told to be the same are
pub same_sets : (a b : ByteSet) → Decides (eq-value.it a b) (a ≡ b)
same_sets a b = search rules

-- no byte is gained or lost
pub length_searched : (fold : Bool) (line : List ℕ) → length (as_searched fold line) ≡ length line
length_searched false line = refl
length_searched true line = length-map line lower_case

-- of two texts in a row
pub searched_append : (fold : Bool) (xs ys : List ℕ)
    → as_searched fold (xs ++ ys) ≡ as_searched fold xs ++ as_searched fold ys
searched_append false xs ys = refl
searched_append true xs ys = map-append lower_case xs ys

-- of no byte
pub searched_nothing : (fold : Bool) → as_searched fold [] ≡ []
searched_nothing false = refl
searched_nothing true = refl

-- of one byte
pub searched_one : (fold : Bool) (b : ℕ) → as_searched fold (b ∷ []) ≡ byte_as_searched fold b ∷ []
searched_one false b = refl
searched_one true b = refl

-- a byte of the line
pub searched_byte : (fold : Bool) (line : List ℕ) (i b : ℕ) → slice_get line i ≡ Some b
    → slice_get (as_searched fold line) i ≡ Some (byte_as_searched fold b)
searched_byte false line i b is = is
searched_byte true line i b is = slice_get-map lower_case line i ∙ ap (λ o. option_map lower_case o) is

-- where a byte of the line as it is searched comes from
pub byte_of_searched : (fold : Bool) (line : List ℕ) (i b : ℕ) → slice_get (as_searched fold line) i ≡ Some b
    → (c : ℕ) × (slice_get line i ≡ Some c) × (byte_as_searched fold c ≡ b)
byte_of_searched false line i b is = (b, is, refl)
byte_of_searched true line i b is = from (slice_get line i) (sym (slice_get-map lower_case line i) ∙ is)
  where
    from : (o : Option ℕ) → option_map lower_case o ≡ Some b → (c : ℕ) × (o ≡ Some c) × (lower_case c ≡ b)
    from None e = absurd (none-some b e)
    from (Some c) e = (c, refl, same_Some (lower_case c) b e)

-- letters in lower case stay as they are
pub searched_again : (fold : Bool) (b : ℕ) → byte_as_searched fold (byte_as_searched fold b) ≡ byte_as_searched fold b
searched_again false b = refl
searched_again true b = grind (arith, nat_tests)

-- a byte that is one of another's cases is searched for as that one
lower_same : (b c : ℕ) → closed (one b) c ≡ true → lower_case c ≡ lower_case b
lower_same b c is = grind (arith, nat_tests)

-- a byte that is searched for as another is one of its cases
same_lower : (b c : ℕ) → lower_case c ≡ lower_case b → closed (one b) c ≡ true
same_lower b c is = grind (arith, nat_tests)

-- the set of a byte, with its other case where case is folded
pub folded_alone : (fold : Bool) (b : ℕ) → IsAlone fold (folded fold (one b)) (byte_as_searched fold b)
folded_alone false b = (grind (arith, nat_tests), λ c. (λ is. grind (arith, nat_tests), λ is. grind (arith, nat_tests)))
folded_alone true b =
    (same_lower b (lower_case b) (searched_again true b), λ c. (lower_same b c, same_lower b c))

-- a set is searched for as one byte only
pub alone_once : (fold : Bool) (b c : ℕ) → IsAlone fold (folded fold (one b)) c → c ≡ byte_as_searched fold b
alone_once false b c alone = grind (arith, nat_tests)
alone_once true b c alone = sym ((alone.1 b).0 (same_lower b b refl))

-- what the tests of a byte tell of it
pub searched_alike : (fold : Bool) (set : Bytes) (b c s : ℕ) (has : Bool) → has ≡ set c → s ≡ byte_as_searched fold c
    → not (beq has (s == b)) ≡ false → (set c ≡ true) ↔ (byte_as_searched fold c ≡ b)
searched_alike fold set b c s true is same test =
    let alike : s ≡ b = grind (arith, nat_tests) in
    (λ _. sym same ∙ alike, λ _. sym is)
searched_alike fold set b c s false is same test =
    let other : s ≢ b = grind (arith, nat_tests) in
    (λ in_set. absurd (false≢true (is ∙ in_set)), λ alike. absurd (other (same ∙ alike)))

-- no byte comes before the one that it is searched for as
searched_up : (fold : Bool) (b : ℕ) → b ≤ byte_as_searched fold b
searched_up false b = omega arith
searched_up true b = grind (arith, nat_tests)

-- bytes that are searched for as one of them
pub alone_found : (fold : Bool) (set : ByteSet) (a b : ℕ) → bytes set a ≡ true → b ≡ byte_as_searched fold a → b < 256
    → ((c : ℕ) → c < 256 → (bytes set c ≡ true) ↔ (byte_as_searched fold c ≡ b)) → IsAlone fold (bytes set) b
alone_found fold set a b some is small alike =
    let again = ap (byte_as_searched fold) is ∙ searched_again fold a ∙ sym is in
    ((alike b small).1 again, λ c. each c (cases_lt c 256))
  where
    each : (c : ℕ) → (c < 256) ⊎ (256 ≤ c) → (bytes set c ≡ true) ↔ (byte_as_searched fold c ≡ b)
    each c (inl less) = alike c less
    each c (inr more) =
        let outside : bytes set c ≡ true → ⊥ = λ in_set. grind (arith, nat_tests) in
        (λ in_set. absurd (outside in_set), λ same. absurd (omega (arith, searched_up fold c)))
