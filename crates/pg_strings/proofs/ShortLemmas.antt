-- Tables of the strings of one and two bytes: those of no string, for `empty` of `ShortStrings`; which strings they
-- find at a place, for its `longest_at` and `stands_at`; and what that tells of all strings, for those of `StringSet`
-- that ask it: `short_at`, `may_stand`, `skip`, `look_at` and `longest_at`.
use Rattle.std.proofs.Common.{◌≡◌, ℕ, zero, suc, ◌+◌, ◌*◌, ◌<◌, ◌≤◌, Bool, true, false, List, []}
use Rattle.std.proofs.Common.{length, get_or, refl, sym, ap, ◌∙◌, arith, subst, inl, inr}
use Rattle.std.specs.Prelude.{slice_index, slice_index_or, replicate}
use Rattle.std.specs.List.{All, Any as AnyOf, list_any}
use Rattle.std.proofs.lemmas.Bool.{cases_lt}
use Rattle.std.proofs.lemmas.Grind.{common_steps}
use Rattle.std.proofs.lemmas.List.{get_or_default}
use Rattle.std.proofs.lemmas.List.Folds.{Any-from_list_any, list_any-from_Any}
use Rattle.memchr.specs.Find.{OccursAt, Nowhere}
use Rattle.pg_strings.specs.Keys.{AreLong}
use Rattle.pg_pattern.specs.Bounds.{MayEnd}
use Rattle.pg_pattern.specs.declared.bounds.Bounds.{Bounds}
use Rattle.pg_pattern.specs.declared.bounds.Bounds.TheVariants.{Any}
use Rattle.pg_strings.specs.Sets.{SomeStands, StandsAs, SomeStandsAs, StandsSo}
use Rattle.pg_strings.specs.Short.{is_single, is_pair, AreTables, AreLonger, IsLongestShort, SomeLongStands}

-- a table of which nothing was set
clear : (table : List Bool) (n : ℕ) → table ≡ replicate n false → (i : ℕ) → slice_index_or table i false ≡ false
clear table n is i = ap (λ t. slice_index_or t i false) is ∙ at n i
  where
    at : (n i : ℕ) → slice_index_or (replicate n false) i false ≡ false
    at zero i = refl
    at (suc n) zero = refl
    at (suc n) (suc i) = at n i

-- tables of which nothing was set tell of no string
pub empty_tables : (singles pairs : List Bool) (m n : ℕ) → singles ≡ replicate m false → pairs ≡ replicate n false
    → length singles ≡ 256 → length pairs ≡ 65536 → AreTables singles pairs []
empty_tables singles pairs m n none none' all all' = record {
  all_singles = all;
  all_pairs = all';
  single = λ byte low. clear singles m none byte;
  pair = λ first second low low'. clear pairs n none' (first + 256 * second);
}

-- what was read of a table is what it tells
pub read_of : (table : List Bool) (k : ℕ) (told read value : Bool) → k < length table
    → slice_index_or table k false ≡ told → read ≡ get_or table k read → read ≡ value → told ≡ value
read_of table k told read value less is at e = sym is ∙ (get_or_default table k false read less ∙ (sym at ∙ e))

-- a string that is the byte of a place stands there
single_there : (bytes string : List ℕ) (place : ℕ) → place < length bytes → length string ≡ 1
    → slice_index string 0 ≡ slice_index bytes place → OccursAt bytes string place
single_there bytes string place within one is = record {
  fits = omega (arith, within, one);
  reads = λ j less.
      let e : j ≡ 0 = omega (arith, less, one) in
      let here : place + j ≡ place = omega (arith, e) in
      ap (λ n. get_or bytes n 0) here ∙ (sym is ∙ ap (λ n. get_or string n 0) (sym e));
}

-- as does one that is the two bytes from there on
pair_there : (bytes string : List ℕ) (place : ℕ) → place + 2 ≤ length bytes → length string ≡ 2
    → slice_index string 0 ≡ slice_index bytes place → slice_index string 1 ≡ slice_index bytes (place + 1)
    → OccursAt bytes string place
pair_there bytes string place within two is is' = record {
  fits = omega (arith, within, two);
  reads = λ j less. elim (cases_lt j 1) [
    | inl before ↦
        let e : j ≡ 0 = omega (arith, before) in
        let here : place + j ≡ place = omega (arith, e) in
        ap (λ n. get_or bytes n 0) here ∙ (sym is ∙ ap (λ n. get_or string n 0) (sym e))
    | inr behind ↦
        let e : j ≡ 1 = omega (arith, behind, less, two) in
        ap (λ n. get_or bytes (place + n) 0) e ∙ (sym is' ∙ ap (λ n. get_or string n 0) (sym e))
  ];
}

-- a string of one byte, of which a table tells, stands at the place
single_stands : (strings : List (List ℕ)) (bytes : List ℕ) (place : ℕ) → place < length bytes
    → list_any (is_single (slice_index bytes place)) strings ≡ true
    → AnyOf (λ string. OccursAt bytes string place × (length string ≡ 1)) strings
single_stands strings bytes place within told =
    let (i, string, less, at, is) = Any-from_list_any (is_single (slice_index bytes place)) strings told in
    let one : length string ≡ 1 = grind (arith, common_steps, is) in
    let same : slice_index string 0 ≡ slice_index bytes place = grind (arith, common_steps, is) in
    (i, string, less, at, (single_there bytes string place within one same, one))

-- as does one of two bytes
pair_stands : (strings : List (List ℕ)) (bytes : List ℕ) (place : ℕ) → place + 2 ≤ length bytes
    → list_any (is_pair (slice_index bytes place) (slice_index bytes (place + 1))) strings ≡ true
    → AnyOf (λ string. OccursAt bytes string place × (length string ≡ 2)) strings
pair_stands strings bytes place within told =
    let (i, string, less, at, is) =
    Any-from_list_any (is_pair (slice_index bytes place) (slice_index bytes (place + 1))) strings told in
    let two : length string ≡ 2 = grind (arith, common_steps, is) in
    let same : slice_index string 0 ≡ slice_index bytes place = grind (arith, common_steps, is) in
    let same' : slice_index string 1 ≡ slice_index bytes (place + 1) = grind (arith, common_steps, is) in
    (i, string, less, at, (pair_there bytes string place within two same same', two))

-- the table of pairs tells of each string of two bytes that stands at the place
pair_told : (strings : List (List ℕ)) (bytes : List ℕ) (place : ℕ) (i : ℕ) (string : List ℕ) → i < length strings
    → get_or strings i string ≡ string → OccursAt bytes string place → length string ≡ 2
    → list_any (is_pair (slice_index bytes place) (slice_index bytes (place + 1))) strings ≡ true
pair_told strings bytes place i string less at occurs two =
    let here : place + 0 ≡ place = omega arith in
    let same : slice_index string 0 ≡ slice_index bytes place =
    sym (occurs.reads 0 (omega (arith, two))) ∙ ap (λ n. get_or bytes n 0) here in
    let same' : slice_index string 1 ≡ slice_index bytes (place + 1) = sym (occurs.reads 1 (omega (arith, two))) in
    list_any-from_Any (is_pair (slice_index bytes place) (slice_index bytes (place + 1))) strings
    (i, string, less, at, grind (arith, common_steps, two, same, same'))

-- and that of single bytes of each of one byte
single_told : (strings : List (List ℕ)) (bytes : List ℕ) (place : ℕ) (i : ℕ) (string : List ℕ) → i < length strings
    → get_or strings i string ≡ string → OccursAt bytes string place → length string ≡ 1
    → list_any (is_single (slice_index bytes place)) strings ≡ true
single_told strings bytes place i string less at occurs one =
    let here : place + 0 ≡ place = omega arith in
    let same : slice_index string 0 ≡ slice_index bytes place =
    sym (occurs.reads 0 (omega (arith, one))) ∙ ap (λ n. get_or bytes n 0) here in
    list_any-from_Any (is_single (slice_index bytes place)) strings
    (i, string, less, at, grind (arith, common_steps, one, same))

-- a string that stands at the place stands so where a match may end behind it
stands_so : (strings : List (List ℕ)) (bounds : Bounds) (bytes : List ℕ) (place n : ℕ)
    → MayEnd bounds bytes (place + n) → AnyOf (λ string. OccursAt bytes string place × (length string ≡ n)) strings
    → StandsSo strings bounds bytes place n
stands_so strings bounds bytes place n ends (i, string, less, at, there) = (
  i,
  string,
  less,
  at,
  ((there.0, subst (λ k. MayEnd bounds bytes (place + k)) (sym there.1) ends), there.1),
)

-- where the bytes of a place are a string of two bytes behind which a match may end, that is the longest short one
pub longest_pair : (strings : List (List ℕ)) (bounds : Bounds) (bytes : List ℕ) (place : ℕ)
    → place + 2 ≤ length bytes → MayEnd bounds bytes (place + 2)
    → list_any (is_pair (slice_index bytes place) (slice_index bytes (place + 1))) strings ≡ true
    → IsLongestShort strings bounds bytes place 2
longest_pair strings bounds bytes place within ends told = record {
  stands = λ some. stands_so strings bounds bytes place 2 ends (pair_stands strings bytes place within told);
  longest = λ k d less stands short. short;
}

-- no string of two bytes is at the place, behind which a match may end
abbrev pub NoPair : List (List ℕ) → Bounds → List ℕ → ℕ → Type 0
NoPair strings bounds bytes place = place + 2 ≤ length bytes → MayEnd bounds bytes (place + 2)
    → list_any (is_pair (slice_index bytes place) (slice_index bytes (place + 1))) strings ≡ false

-- no string of one byte is
abbrev pub NoSingle : List (List ℕ) → Bounds → List ℕ → ℕ → Type 0
NoSingle strings bounds bytes place = place + 1 ≤ length bytes → MayEnd bounds bytes (place + 1)
    → list_any (is_single (slice_index bytes place)) strings ≡ false

-- then none of one or two bytes that stands so has two
no_pair : (strings : List (List ℕ)) (bounds : Bounds) (bytes : List ℕ) (place : ℕ) → NoPair strings bounds bytes place
    → All (λ string. StandsAs bounds bytes place string → length string ≤ 2 → length string ≤ 1) strings
no_pair strings bounds bytes place none k d less stands short = elim (cases_lt (length (get_or strings k d)) 2) [
  | inl before ↦ omega (arith, before)
  | inr behind ↦
      let two : length (get_or strings k d) ≡ 2 = omega (arith, behind, short) in
      let at = get_or_default strings k (get_or strings k d) d less in
      let yes = pair_told strings bytes place k (get_or strings k d) less at stands.0 two in
      let fits = stands.0.fits in
      let no = none (omega (arith, fits, two)) (subst (λ n. MayEnd bounds bytes (place + n)) two stands.1) in
      let both : true ≡ false = sym yes ∙ no in
      absurd cc
]

-- there a string of one byte is the longest short one
pub longest_single : (strings : List (List ℕ)) (bounds : Bounds) (bytes : List ℕ) (place : ℕ)
    → place + 1 ≤ length bytes → MayEnd bounds bytes (place + 1) → NoPair strings bounds bytes place
    → list_any (is_single (slice_index bytes place)) strings ≡ true
    → IsLongestShort strings bounds bytes place 1
longest_single strings bounds bytes place within ends none told = record {
  stands = λ some. stands_so strings bounds bytes place 1 ends
      (single_stands strings bytes place (omega (arith, within)) told);
  longest = no_pair strings bounds bytes place none;
}

-- and where no string of one byte is there either, none stands
pub longest_clear : (strings : List (List ℕ)) (bounds : Bounds) (bytes : List ℕ) (place : ℕ)
    → NoPair strings bounds bytes place → NoSingle strings bounds bytes place
    → IsLongestShort strings bounds bytes place 0
longest_clear strings bounds bytes place none none' = record {
  stands = λ some. absurd (omega (arith, some));
  longest = λ k d less stands short.
      let few = no_pair strings bounds bytes place none k d less stands short in
      elim (cases_lt (length (get_or strings k d)) 1) [
        | inl before ↦ omega (arith, before)
        | inr behind ↦
            let one : length (get_or strings k d) ≡ 1 = omega (arith, behind, few) in
            let at = get_or_default strings k (get_or strings k d) d less in
            let yes = single_told strings bytes place k (get_or strings k d) less at stands.0 one in
            let fits = stands.0.fits in
            let no = none' (omega (arith, fits, one)) (subst (λ n. MayEnd bounds bytes (place + n)) one stands.1) in
            let both : true ≡ false = sym yes ∙ no in
            absurd cc
      ];
}

-- where no string is short, none stands
pub longest_none : (strings : List (List ℕ)) (bounds : Bounds) (bytes : List ℕ) (place : ℕ) → AreLonger strings
    → IsLongestShort strings bounds bytes place 0
longest_none strings bounds bytes place longer = record {
  stands = λ some. absurd (omega (arith, some));
  longest = λ k d less stands short. let long = longer k d less in absurd (omega (arith, long, short));
}

-- a short string that stands so is a string that does
pub short_stands : (strings : List (List ℕ)) (bounds : Bounds) (bytes : List ℕ) (place n : ℕ)
    → IsLongestShort strings bounds bytes place n → 0 < n → SomeStandsAs strings bounds bytes place
short_stands strings bounds bytes place n longest some =
    let (i, string, less, at, there) = longest.stands some in
    (i, string, less, at, there.0)

-- where neither a short string stands so nor a longer one, none does
pub none_stands : (width : ℕ) (strings : List (List ℕ)) (bounds : Bounds) (bytes : List ℕ) (place n : ℕ)
    → AreLong width strings → IsLongestShort strings bounds bytes place n → n ≡ 0
    → All (λ string. StandsAs bounds bytes place string → 3 ≤ length string → ⊥) strings
    → SomeStandsAs strings bounds bytes place → ⊥
none_stands width strings bounds bytes place n are_long longest none no_long (i, string, less, at, stands) =
    let some : 1 ≤ length string = subst (λ t. 1 ≤ length t) at (are_long i string less).0 in
    elim (cases_lt (length string) 3) [
      | inl before ↦
          let short : length string ≤ n =
          subst (λ t. StandsAs bounds bytes place t → length t ≤ 2 → length t ≤ n) at (longest.longest i string less)
          stands (omega (arith, before)) in
          absurd (omega (arith, short, none, some))
      | inr behind ↦
          subst (λ t. StandsAs bounds bytes place t → 3 ≤ length t → ⊥) at (no_long i string less) stands behind
    ]

-- where neither a short string stands nor a longer one, none does
pub any_stands : (width : ℕ) (strings : List (List ℕ)) (bytes : List ℕ) (place : ℕ) → AreLong width strings
    → IsLongestShort strings Any bytes place 0 → (SomeLongStands strings bytes place → ⊥)
    → SomeStands strings bytes place → ⊥
any_stands width strings bytes place are_long longest no_long (i, string, less, at, occurs) =
    none_stands width strings Any bytes place 0 are_long longest refl
    (λ k d low stands long. no_long
    (k, get_or strings k d, low, get_or_default strings k (get_or strings k d) d low, (long, stands.0)))
    (i, string, less, at, (occurs, tt))

-- where each string has three bytes or more, those are all
pub all_long : (strings : List (List ℕ)) (bytes : List ℕ) (from stop : ℕ) → AreLonger strings
    → Nowhere (SomeLongStands strings bytes) from stop → Nowhere (SomeStands strings bytes) from stop
all_long strings bytes from stop longer none n low high (i, string, less, at, occurs) =
    none n low high (i, string, less, at, (subst (λ t. 3 ≤ length t) at (longer i string less), occurs))
