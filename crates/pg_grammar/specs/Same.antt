-- Pattern lists are compared by their contents.
use Rattle.std.specs.Prelude.{◌≡◌, Bool, true, false, refl}
use Rattle.std.specs.Str.{bytes_eq}
use Rattle.std.specs.Cmp.{IsEquivalence}
use Rattle.std.proofs.Common.{sym, ap, subst}
use Rattle.std.proofs.lemmas.Bool.{false≢true}
use Rattle.std.proofs.lemmas.Slice.Eq.{bytes_eq-Decides}
use Rattle.pg_grammar.specs.PatternLists.{Patterns, Split, ByLine}

-- both are texts or both are files, and their bytes are the same
abbrev pub same_patterns : Patterns → Patterns → Bool
same_patterns (Split a) (Split b) = bytes_eq a b
same_patterns (Split a) (ByLine b) = false
same_patterns (ByLine a) (Split b) = false
same_patterns (ByLine a) (ByLine b) = bytes_eq a b

-- A test that holds exactly of equal values.
pub record TestsEqual {K : Type 0} (test : K → K → Bool) : Type 0 where
  pub sound : (a b : K) → test a b ≡ true → a ≡ b
  pub complete : (a : K) → test a a ≡ true

both_ways : (s t : Bool) → (s ≡ true → t ≡ true) → (t ≡ true → s ≡ true) → s ≡ t
both_ways true true f g = refl
both_ways true false f g = sym (f refl)
both_ways false true f g = g refl
both_ways false false f g = refl

-- such a test is an equivalence
pub equivalence_of : {K : Type 0} {test : K → K → Bool} → TestsEqual test → IsEquivalence test
equivalence_of {K} {test} h =
    let along : (x y : K) → x ≡ y → test x y ≡ true =
    λ x y e. let P : K → Type 0 = λ z. test x z ≡ true in subst P e (h.complete x) in
    record {
      refl = h.complete;
      symm = λ x y. both_ways (test x y) (test y x) (λ e. along y x (sym (h.sound x y e)))
          (λ e. along x y (sym (h.sound y x e)));
      congr = λ x y z e. ap (λ v. test v z) (h.sound x y e);
    }

patterns_sound : (a b : Patterns) → same_patterns a b ≡ true → a ≡ b
patterns_sound (Split a) (Split b) e = ap Split ((bytes_eq-Decides a b).0 e)
patterns_sound (Split a) (ByLine b) e = absurd (false≢true e)
patterns_sound (ByLine a) (Split b) e = absurd (false≢true e)
patterns_sound (ByLine a) (ByLine b) e = ap ByLine ((bytes_eq-Decides a b).0 e)

patterns_complete : (a : Patterns) → same_patterns a a ≡ true
patterns_complete (Split a) = (bytes_eq-Decides a a).1 refl
patterns_complete (ByLine a) = (bytes_eq-Decides a a).1 refl

-- the comparison of pattern lists holds exactly of equal ones
pub patterns_equal : TestsEqual same_patterns
patterns_equal = record { sound = patterns_sound; complete = patterns_complete }

-- the comparison of pattern lists is an equivalence
pub same_patterns-laws : IsEquivalence same_patterns
same_patterns-laws = equivalence_of patterns_equal
