-- Where strings stand, by their keys.
use Rattle.std.proofs.Common.{◌≡◌, ◌==◌, ℕ, ◌+◌, ◌*◌, ◌/◌, ◌<◌, ◌≤◌, ◌↔◌, ◌||◌, IsTrue, Vec, Bool, true, false}
use Rattle.std.proofs.Common.{List, [], ◌∷◌, ◌++◌, length, map, drop, take, set, get_or, refl, sym, ap, ◌∙◌, arith}
use Rattle.std.proofs.Common.{subst}
use Rattle.std.proofs.Common.{inl, inr, length-drop, length-take}
use Rattle.std.specs.Prelude.{slice_index_or}
use Rattle.std.specs.Cmp.Lexicographic.{pointwise}
use Rattle.std.specs.List.{All}
use Rattle.std.proofs.Math.Nat.{mul-le-mul_right, add-mul}
use Rattle.std.proofs.Math.Seq.{take-length}
use Rattle.std.proofs.lemmas.Bool.{cases_lt}
use Rattle.std.proofs.lemmas.Bool.Decides.{Decides-eqb}
use Rattle.std.proofs.lemmas.Grind.{common_steps}
use Rattle.std.proofs.lemmas.List.{get_or-map, get_or_default, take_more, map-append}
use Rattle.std.proofs.lemmas.List.Elements.{All-push, All-weaker}
use Rattle.std.proofs.lemmas.Slice.Eq.{slice_eq-Decides}
use Rattle.memchr.proofs.lemmas.MatchLemmas.{OccursAt-part, OccursAt-from_part}
use Rattle.memchr.specs.Find.{OccursAt, Nowhere}
use Rattle.pg_strings.specs.Keys.{key, home, Weighs, AreLong, AreFlagged}
use Rattle.pg_pattern.specs.Strings.{items_of}
use Rattle.pg_pattern.specs.declared.bounds.Bounds.{Bounds}
use Rattle.pg_pattern.specs.declared.bounds.Bounds.TheVariants.{Any}
use Rattle.pg_strings.specs.Outcomes.{IsOutcome}
use Rattle.pg_strings.specs.declared.outcome.Outcome.{Outcome}
use Rattle.pg_strings.specs.declared.outcome.Outcome.TheVariants.{Found, NotFound, GaveUp}
use Rattle.pg_strings.specs.Sets.{SomeStands, StandsAs, SomeStandsAs, SomeHit}
use Rattle.pg_strings.specs.Short.{SomeLongStands}
use Rattle.pg_strings.proofs.KeyLemmas.{key_at_place}

-- where the key of a place isn't flagged, no string of three bytes or more stands
pub unflagged : (factor width : ℕ) (flags : List Bool) (strings : List (List ℕ)) (bytes : List ℕ) (place k : ℕ)
    → Weighs factor width → AreLong width strings → AreFlagged factor flags strings → k ≡ key factor (drop place bytes)
    → slice_index_or flags k true ≡ false → SomeLongStands strings bytes place → ⊥
unflagged factor width flags strings bytes place k weighs are_long are_flagged e none (i, string, less, is, there) =
    let long : width ≤ length string =
    subst (λ t. 3 ≤ length t → width ≤ length t) is (are_long i string less).1 there.0 in
    let flagged : slice_index_or flags (key factor string) true ≡ true =
    subst (λ t. slice_index_or flags (key factor t) true ≡ true) is (are_flagged i string less) in
    let same : k ≡ key factor string = e ∙ key_at_place factor width bytes string place weighs long there.1 in
    let both : true ≡ false = sym flagged ∙ (ap (λ n. slice_index_or flags n true) (sym same) ∙ none) in
    cc

-- a string of the list that stands at a place and ends where a match may
pub stands : (strings : List (List ℕ)) (bounds : Bounds) (bytes : List ℕ) (place i : ℕ) → i < length strings
    → StandsAs bounds bytes place (get_or strings i []) → SomeStandsAs strings bounds bytes place
stands strings bounds bytes place i less there =
    (i, get_or strings i [], less, get_or_default strings i (get_or strings i []) [] less, there)

-- where no string stands, there is none that begins and ends as a match may
pub no_hits : (strings : List (List ℕ)) (bounds : Bounds) (bytes : List ℕ) (i j : ℕ)
    → Nowhere (SomeStands strings bytes) i j → Nowhere (SomeHit strings bounds bytes) i j
no_hits strings bounds bytes i j none n low high (begins, (k, string, less, at, there)) =
    none n low high (k, string, less, at, there.0)

-- a string that stands begins and ends as a match may, where any match counts
any_hit : (strings : List (List ℕ)) (bytes : List ℕ) (i : ℕ) → SomeStands strings bytes i → SomeHit strings Any bytes i
any_hit strings bytes i (k, string, less, at, there) = (tt, (k, string, less, at, (there, tt)))

-- so what is found there is found of all that stand
pub outcome_of_any : (strings : List (List ℕ)) (bytes : List ℕ) (from stop : ℕ) (outcome : Outcome)
    → IsOutcome (SomeHit strings Any bytes) from stop outcome → IsOutcome (SomeStands strings bytes) from stop outcome
outcome_of_any strings bytes from stop (Found place) (first, (begins, (k, string, less, at, there))) = (
  record {
    low = first.low;
    high = first.high;
    before = λ n low high some. first.before n low high (any_hit strings bytes n some);
  },
  (k, string, less, at, there.0),
)
outcome_of_any strings bytes from stop NotFound none = λ n low high some. none n low high (any_hit strings bytes n some)
outcome_of_any strings bytes from stop (GaveUp place) (low, high, none) =
    (low, high, λ n least most some. none n least most (any_hit strings bytes n some))

-- nowhere in two stretches that meet
pub nowhere_joined : (P : ℕ → Type 0) (i j k : ℕ) → Nowhere P i j → Nowhere P j k → Nowhere P i k
nowhere_joined P i j k one two n low high = elim (cases_lt n j) [
  | inl before ↦ one n low before
  | inr behind ↦ two n behind high
]

-- nor at one place
pub nowhere_at : (P : ℕ → Type 0) (i : ℕ) → (P i → ⊥) → Nowhere P i (i + 1)
nowhere_at P i none n low high =
    let e : n ≡ i = omega (arith, low, high) in
    λ h. none (subst P e h)

-- the bytes from a place on begin with the string
pub stands_is : (bytes string s : List ℕ) (place : ℕ) (r : Bool) → place ≤ length bytes → s ≡ drop place bytes
    → r ≡ pointwise (λ x y. x == y) string (take (length string) s) → IsTrue r ↔ OccursAt bytes string place
stands_is bytes string s place r within is value =
    let decides = slice_eq-Decides Decides-eqb string (take (length string) s) r value in (
      λ yes.
          let same : string ≡ take (length string) (drop place bytes) = decides.0 yes
          ∙ ap (λ l. take (length string) l) is in
          let short = ap length same ∙ length-take (length string) (drop place bytes) in
          OccursAt-from_part bytes string place (omega (arith, short, length-drop place bytes, within)) (sym same),
      λ occurs. decides.1 (sym (ap (λ l. take (length string) l) is ∙ OccursAt-part bytes string place occurs)),
    )

-- four places, of which none may hold
pub four_clear : (P : ℕ → Type 0) (i : ℕ) (a b c d : Bool) → (a ≡ false → P i → ⊥) → (b ≡ false → P (i + 1) → ⊥)
    → (c ≡ false → P (i + 2) → ⊥) → (d ≡ false → P (i + 3) → ⊥) → (((a || b) || c) || d) ≡ false → Nowhere P i (i + 4)
four_clear P i true b c d one two three four clear = absurd (let h : true ≡ false = clear in cc)
four_clear P i false true c d one two three four clear = absurd (let h : true ≡ false = clear in cc)
four_clear P i false false true d one two three four clear = absurd (let h : true ≡ false = clear in cc)
four_clear P i false false false true one two three four clear = absurd (let h : true ≡ false = clear in cc)
four_clear P i false false false false one two three four clear =
    nowhere_joined P i (i + 1) (i + 4) (nowhere_at P i (one refl))
    (nowhere_joined P (i + 1) (i + 1 + 1) (i + 4) (nowhere_at P (i + 1) (two refl)) (
    λ n low high h. elim (cases_lt n (i + 3)) [
      | inl before ↦ (let e : n ≡ i + 2 = omega (arith, low, before) in three refl (subst P e h))
      | inr behind ↦ (let e : n ≡ i + 3 = omega (arith, behind, high) in four refl (subst P e h))
    ]))

-- the bytes of an element
pub string_at : {A : Type 0} (strings : List (Vec ℕ A)) (i : ℕ) (string : Vec ℕ A) → i < length strings
    → string ≡ get_or strings i string
    → get_or (map items_of strings) i [] ≡ string.items
string_at strings i string less is = get_or-map items_of strings i string [] less ∙ ap (λ t. t.items) (sym is)

-- a flag stays set
pub set_keeps : (flags : List Bool) (k n : ℕ) → k < length flags → slice_index_or flags n true ≡ true
    → slice_index_or (set flags k true) n true ≡ true
set_keeps flags k n less is = grind (arith, common_steps, is)

-- and one that was set is
pub set_stands : (flags : List Bool) (k n : ℕ) → k < length flags → n ≡ k
    → slice_index_or (set flags k true) n true ≡ true
set_stands flags k n less is = grind (arith, common_steps, is)

-- one more string is flagged
pub flagged_more : (factor : ℕ) (flags : List Bool) (strings : List (List ℕ)) (i k : ℕ) → i < length strings
    → k < length flags → k ≡ key factor (get_or strings i []) → AreFlagged factor flags (take i strings)
    → AreFlagged factor (set flags k true) (take (i + 1) strings)
flagged_more factor flags strings i k less few is before =
    let P : List ℕ → Type 0 = λ string. slice_index_or (set flags k true) (key factor string) true ≡ true in
    let kept = All-weaker (λ string. slice_index_or flags (key factor string) true ≡ true) P
    (λ string yes. set_keeps flags k (key factor string) few yes) (take i strings) before in
    subst (λ xs. All P xs) (sym (take_more strings i [] less))
    (All-push P (take i strings) (get_or strings i []) kept (set_stands flags k (key factor
    (get_or strings i [])) few (sym is)))

-- the chains of one more string
pub homes_more : (factor : ℕ) (strings : List (List ℕ)) (i k : ℕ) → i < length strings
    → k ≡ key factor (get_or strings i [])
    → map (home factor) (take i strings) ++ (k / 16 ∷ []) ≡ map (home factor) (take (i + 1) strings)
homes_more factor strings i k less is =
    sym (ap (λ xs. map (home factor) xs) (take_more strings i [] less)
    ∙ (map-append (home factor) (take i strings) (get_or strings i [] ∷ [])
    ∙ ap (λ v. map (home factor) (take i strings) ++ (v / 16 ∷ [])) (sym is)))

-- all of a list
pub take_whole : {X : Type 0} (xs : List X) (n : ℕ) → n ≡ length xs → take n xs ≡ xs
take_whole xs n is = ap (λ k. take k xs) is ∙ take-length xs

-- more places cost no less
pub further : (old left now a b all : ℕ) → a ≤ b → left ≤ now → old ≤ left + a * all → old ≤ now + b * all
further old left now a b all low more was =
    let product : a * all ≤ b * all = mul-le-mul_right all low in
    grind (arith, product, more, was)

-- and the one that was looked at
pub looked : (old left now a b all : ℕ) → b ≡ a + 1 → left ≤ now + all → old ≤ left + a * all → old ≤ now + b * all
looked old left now a b all is cost was =
    let product : b * all ≡ a * all + 1 * all = ap (λ n. n * all) is ∙ add-mul a 1 all in
    grind (arith, product, cost, was)
