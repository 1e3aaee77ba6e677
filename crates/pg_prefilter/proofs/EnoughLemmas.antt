-- The literals that are enough where others aren't, for `copies_of_enough`, `enough_of` and `LiteralSet::of`.
use Rattle.std.proofs.Common.{◌≡◌, ◌≤◌, ◌<◌, ℕ, zero, suc, List, [], ◌∷◌, ◌++◌, length, map, IsTrue, Vec, true, get_or}
use Rattle.std.proofs.Common.{sym, ◌∙◌, subst, arith}
use Rattle.std.specs.List.{All, Any as AnyOf, Contains}
use Rattle.std.specs.Set.{is_member}
use Rattle.std.specs.Str.{bytes_eq}
use Rattle.std.proofs.lemmas.List.Elements.{All-append, All-weaker}
use Rattle.std.proofs.lemmas.List.Sums.{AllPass-from_list_all, list_all-from_AllPass}
use Rattle.std.proofs.lemmas.Map.Made.{is_member-Decides}
use Rattle.std.proofs.lemmas.Slice.Eq.{bytes_eq-Decides}
use Rattle.pg_literal.specs.declared.literal.Literal.{Literal}
use Rattle.pg_literal.proofs.RowLemmas.{any-map}
use Rattle.pg_prefilter.specs.Enough.{AreSomeOf, IsOneEnough}

-- each of some strings is one of them
pub among_all : (strings some : List (List ℕ)) → AreSomeOf strings some → All (Contains strings) some
among_all strings some are =
    All-weaker (λ s. is_member bytes_eq strings s ≡ true) (Contains strings)
    (λ s is. (is_member-Decides bytes_eq-Decides strings s).0 is) some
    (AllPass-from_list_all (is_member bytes_eq strings) some are)

all_among : (strings some : List (List ℕ)) → All (Contains strings) some → AreSomeOf strings some
all_among strings some all =
    list_all-from_AllPass (is_member bytes_eq strings) some (All-weaker (Contains strings)
    (λ s. is_member bytes_eq strings s ≡ true) (λ s is. (is_member-Decides bytes_eq-Decides strings s).1 is) some all)

-- the texts of literals that are enough are among those of all
pub enough_among : {A : Type 0} (literals : List (Literal A)) (strings some : List (List ℕ))
    → strings ≡ map (λ l. l.text.items) literals → All (IsOneEnough literals) some → AreSomeOf strings some
enough_among {A} literals strings some same all =
    all_among strings some (All-weaker (IsOneEnough literals) (Contains strings) own some all)
  where
    own : (s : List ℕ) → IsOneEnough literals s → Contains strings s
    own s one =
        let h = any-map (λ t. t ≡ s) (λ (l : Literal A). l.text.items) literals
        (one.0, one.1, one.2, one.3, one.4.1) in
        subst (λ ss. Contains ss s) (sym same) (subst (Contains (map (λ (l : Literal A). l.text.items) literals)) h.4
        (h.0, h.2, h.3))

-- they have a byte where all have
pub enough_some : {A : Type 0} (literals : List (Literal A)) (copies : List (Vec ℕ A))
    → All (λ l. 1 ≤ length l.text.items) literals → All (λ copy. IsOneEnough literals copy.items) copies
    → All (λ copy. 1 ≤ length copy.items) copies
enough_some {A} literals copies some all =
    All-weaker (λ (copy : Vec ℕ A). IsOneEnough literals copy.items) (λ copy. 1 ≤ length copy.items)
    (λ copy one. subst (λ (s : List ℕ). 1 ≤ length s) one.4.1
    (subst (λ (l : Literal A). 1 ≤ length l.text.items) one.3 (some one.0 one.1 one.2))) copies all

-- one more copy
pub all_push : {X : Type 0} (P : X → Type 0) (xs : List X) (x : X) → All P xs → P x → All P (xs ++ x ∷ [])
all_push P xs x all p = All-append P xs (x ∷ []) all one
  where
    one : All P (x ∷ [])
    one zero d low = p
    one (suc k) d low = absurd (omega (arith, low))
