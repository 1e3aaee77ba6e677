-- Strings that are known by all their bytes: for `PrefixHash`, `WholeStrings` and the searches in find_whole.rt.
use Rattle.std.proofs.Common.{◌≡◌, ℕ, ◌+◌, ◌-◌, ◌*◌, ◌%◌, ◌<◌, ◌≤◌, ◌↔◌, ◌++◌, ◌∷◌, ◌||◌}
use Rattle.std.proofs.Common.{IsTrue, Bool, true, false, not, take-take}
use Rattle.std.proofs.Common.{List, [], length, map, drop, take, get_or, refl, sym, ap, ◌∙◌, arith}
use Rattle.std.proofs.Common.{subst, max, ◌⊎◌, inl, inr}
use Rattle.std.specs.Prelude.{nat_eq, Contains, slice_index_or, MatchOption, Option}
use Rattle.std.specs.List.{All, list_any, sum_by}
use Rattle.std.proofs.lemmas.Bool.{eqb-true, eq-eqb, cases_lt, false≢true}
use Rattle.std.proofs.lemmas.List.{get_or_default, map-append}
use Rattle.std.proofs.lemmas.List.Elements.{All-push, All-weaker}
use Rattle.std.proofs.lemmas.List.{drop-drop}
use Rattle.std.proofs.Math.Seq.{take-add}
use Rattle.std.specs.List.Sorted.{IsPermutation, IsNonDecreasing}
use Rattle.std.proofs.lemmas.List.Sorted.{Contains-permutation, sum_by-IsPermutation}
use Rattle.std.proofs.lemmas.List.Folds.{Any-from_list_any, list_any-from_Any, list_any-append}
use Rattle.std.proofs.lemmas.List.Sums.{sum_by-append}
use Rattle.std.proofs.Math.Bool.{or-true}
use Rattle.memchr.specs.Find.{OccursAt}
use Rattle.memchr.proofs.lemmas.MatchLemmas.{OccursAt-part, OccursAt-from_part}
use Rattle.pg_strings.specs.Keys.{AreChains}
use Rattle.pg_pattern.specs.Bounds.{MayEnd}
use Rattle.pg_pattern.specs.declared.bounds.Bounds.{Bounds}
use Rattle.pg_strings.specs.Outcomes.{IsLongestAt}
use Rattle.pg_strings.specs.Sets.{StandsAs, SomeStandsAs, StandsSo}
use Rattle.pg_strings.specs.Whole.{AreIndexed, IsFlaggedAt, KeepsFlags, NoneLonger, flag_by, hash_behind, whole_home}
use Rattle.pg_strings.proofs.WalkLemmas.{IsWalked}
use Rattle.pg_strings.proofs.LongestLemmas.{longest_told}

-- the hash of bytes behind others
hash_appended : (before : ℕ) (xs ys : List ℕ)
    → hash_behind before (xs ++ ys) ≡ hash_behind (hash_behind before xs) ys
hash_appended before [] ys = refl
hash_appended before (x ∷ xs) ys =
    hash_appended ((before * 11400714819323198485 % 18446744073709551616 + x) % 18446744073709551616) xs ys

-- the hash of some bytes from a place on, and that of those up to more of them
pub prefix_more : (bytes : List ℕ) (place less more hash : ℕ) → less ≤ more
    → hash ≡ hash_behind 0 (take less (drop place bytes))
    → hash_behind hash (take (place + more - (place + less)) (drop (place + less) bytes))
    ≡ hash_behind 0 (take more (drop place bytes))
prefix_more bytes place less more hash low is =
    let rest = drop place bytes in
    let e : less + (more - less) ≡ more = omega (arith, low) in
    let n : place + more - (place + less) ≡ more - less = omega (arith, low) in
    let all : take more rest ≡ take less rest ++ take (more - less) (drop less rest) =
    ap (λ k. take k rest) (sym e) ∙ take-add less (more - less) rest in
    ap (λ k. hash_behind k (take (place + more - (place + less)) (drop (place + less) bytes))) is
    ∙ (sym (hash_appended 0 (take less rest) (take (place + more - (place + less)) (drop (place + less) bytes)))
    ∙ ap (hash_behind 0) (ap (λ k. take less rest ++ take k (drop (place + less) bytes)) n
    ∙ (ap (λ xs. take less rest ++ take (more - less) xs) (sym (drop-drop less place bytes)) ∙ sym all)))

-- lengths in another order
pub whole_moved : (lengths moved first next : List ℕ) (strings : List (List ℕ)) → IsPermutation lengths moved
    → AreIndexed lengths first next strings → AreIndexed moved first next strings
whole_moved lengths moved first next strings permuted are = record {
  all = All-weaker (λ string. list_any (λ len. nat_eq len (length string)) lengths ≡ true)
      (λ string. list_any (λ len. nat_eq len (length string)) moved ≡ true)
      (λ string told.
      let (i, len, less, at, is) = Any-from_list_any (λ len. nat_eq len (length string)) lengths told in
      let (j, low, there) = Contains-permutation lengths moved len permuted (i, less, at) in
      list_any-from_Any (λ len. nat_eq len (length string)) moved (j, len, low, there, is)) strings are.all;
  worth =
      let same = sum_by-IsPermutation (λ len. 1 + len) lengths moved permuted in
      let worth = are.worth in
      omega (arith, same, worth);
  linked = are.linked;
}

-- a string that stands at a place is the text of its length there
pub text_there : (bytes string text : List ℕ) (place len : ℕ) → text ≡ take len (drop place bytes)
    → OccursAt bytes string place → length string ≡ len → string ≡ text
text_there bytes string text place len is occurs same =
    sym (OccursAt-part bytes string place occurs) ∙ (ap (λ n. take n (drop place bytes)) same ∙ sym is)

-- and the text there stands at the place
pub stands_there : (bytes string text : List ℕ) (place len : ℕ) → text ≡ take len (drop place bytes)
    → place + len ≤ length bytes → length string ≡ len → string ≡ text → OccursAt bytes string place
stands_there bytes string text place len is fits same e =
    OccursAt-from_part bytes string place (omega (arith, fits, same))
    (ap (λ n. take n (drop place bytes)) same ∙ (sym is ∙ sym e))

-- among other lengths are those before and one more, and they cost no more than both
abbrev pub LengthsOf : (before after : List ℕ) → ℕ → Type 0
LengthsOf before after more =
    ((n : ℕ) → list_any (λ len. nat_eq len n) before ≡ true → list_any (λ len. nat_eq len n) after ≡ true)
    × (list_any (λ len. nat_eq len more) after ≡ true)
    × (sum_by (λ len. 1 + len) after ≤ sum_by (λ len. 1 + len) before + (1 + more))

-- the tables of one more string
pub whole_more : (lengths lengths' first next first' next' : List ℕ) (strings : List (List ℕ)) (string : List ℕ) (h : ℕ)
    → AreIndexed lengths first next strings → LengthsOf lengths lengths' (length string) → h ≡ whole_home string
    → AreChains first' next' (map whole_home strings ++ (h ∷ []))
    → AreIndexed lengths' first' next' (strings ++ (string ∷ []))
whole_more lengths lengths' first next first' next' strings string h before more is chains = record {
  all = All-push (λ s. list_any (λ len. nat_eq len (length s)) lengths' ≡ true) strings string
      (All-weaker (λ s. list_any (λ len. nat_eq len (length s)) lengths ≡ true)
      (λ s. list_any (λ len. nat_eq len (length s)) lengths' ≡ true) (λ s yes. more.0 (length s) yes) strings
      before.all)
      more.1;
  worth =
      let all = sum_by-append (λ s. 1 + length s) strings (string ∷ []) in
      let worth = before.worth in
      omega (arith, all, worth, more.2);
  linked = subst (λ homes. AreChains first' next' homes)
      (ap (λ v. map whole_home strings ++ (v ∷ [])) is ∙ sym (map-append whole_home strings (string ∷ []))) chains;
}

-- a length that is new is added
pub one_more : (lengths : List ℕ) (n : ℕ) → LengthsOf lengths (lengths ++ (n ∷ [])) n
one_more lengths n =
    let all = sum_by-append (λ len. 1 + len) lengths (n ∷ []) in (
      λ m yes. list_any-append (λ len. nat_eq len m) lengths (n ∷ [])
          ∙ ap (λ b. b || list_any (λ len. nat_eq len m) (n ∷ [])) yes,
      list_any-append (λ len. nat_eq len n) lengths (n ∷ [])
          ∙ (ap (λ b. list_any (λ len. nat_eq len n) lengths || (b || false)) (eq-eqb n n refl)
          ∙ or-true (list_any (λ len. nat_eq len n) lengths)),
      omega (arith, all),
    )

-- P holds of no string of the chain of a text, so the text is none
pub none_is : (strings : List (List ℕ)) (text : List ℕ) (h : ℕ) → h ≡ whole_home text
    → IsWalked (λ string. string ≡ text → ⊥) whole_home strings 0 h → Contains strings text → ⊥
none_is strings text h is walked among =
    let at : get_or strings among.0 [] ≡ text =
    get_or_default strings among.0 [] text among.1 ∙ among.2 in
    walked.seen among.0 among.1 (omega arith) (ap whole_home at ∙ sym is) at

-- a string of the list that is the text
pub one_is : (strings : List (List ℕ)) (text : List ℕ) (i : ℕ) → i < length strings → get_or strings i [] ≡ text
    → Contains strings text
one_is strings text i less at = (i, less, get_or_default strings i text [] less ∙ at)

-- a string of its length stands at a place, behind which a match may end, if the text there is a string
pub text_stands : (strings : List (List ℕ)) (bounds : Bounds) (bytes text : List ℕ) (place len : ℕ) (b : Bool)
    → text ≡ take len (drop place bytes) → length text ≡ len
    → (place + len ≤ length bytes) × MayEnd bounds bytes (place + len) → (IsTrue b ↔ Contains strings text)
    → IsTrue b ↔ StandsSo strings bounds bytes place len
text_stands strings bounds bytes text place len b is size fits among = (
  λ yes.
      let one = among.0 yes in
      let there = stands_there bytes text text place len is fits.0 size refl in (
        one.0,
        text,
        one.1,
        one.2,
        ((there, subst (λ n. MayEnd bounds bytes (place + n)) (sym size) fits.1), size),
      ),
  λ one.
      let same = text_there bytes one.1 text place len is one.4.0.0 one.4.1 in
      among.1 (one.0, one.2, get_or_default strings one.0 text one.1 one.2 ∙ (one.3 ∙ same)),
)

-- where a string of a length stands, so many bytes are there, behind which a match may end
pub so_fits : (strings : List (List ℕ)) (bounds : Bounds) (bytes : List ℕ) (place len : ℕ)
    → StandsSo strings bounds bytes place len
    → (place + len ≤ length bytes) × MayEnd bounds bytes (place + len)
so_fits strings bounds bytes place len (i, string, less, at, there) = (
  (let fits = there.0.0.fits in omega (arith, fits, there.1)),
  subst (λ n. MayEnd bounds bytes (place + n)) there.1 there.0.1,
)

-- No string of these lengths stands at a place.
abbrev pub NoneOf : List (List ℕ) → Bounds → List ℕ → ℕ → List ℕ → ℕ → Type 0
NoneOf strings bounds bytes place lengths count = (i : ℕ) → i < count
    → StandsSo strings bounds bytes place (get_or lengths i 0) → ⊥

-- the place of a string's length
pub length_at : (lengths first next : List ℕ) (strings : List (List ℕ)) → AreIndexed lengths first next strings
    → (k : ℕ) (string : List ℕ) → k < length strings
    → (i : ℕ) × (i < length lengths) × (get_or lengths i 0 ≡ length (get_or strings k string))
length_at lengths first next strings whole k string less =
    let one = Any-from_list_any (λ len. nat_eq len (length (get_or strings k string))) lengths
    (whole.all k string less) in (
      one.0,
      one.2,
      get_or_default lengths one.0 0 one.1 one.2 ∙ (one.3 ∙ eqb-true one.1 (length (get_or strings k string)) one.4),
    )

-- where none of any length stands, none stands
pub none_at_all : (lengths first next : List ℕ) (strings : List (List ℕ)) (bounds : Bounds) (bytes : List ℕ)
    (place : ℕ) → AreIndexed lengths first next strings → NoneOf strings bounds bytes place lengths (length lengths)
    → SomeStandsAs strings bounds bytes place → ⊥
none_at_all lengths first next strings bounds bytes place whole none some =
    let at = length_at lengths first next strings whole some.0 some.1 some.2 in
    none at.0 at.1 (some.0, some.1, some.2, some.3, (some.4, sym (at.2 ∙ ap length some.3)))

-- one more length
pub none_more : (strings : List (List ℕ)) (bounds : Bounds) (bytes : List ℕ) (place : ℕ) (lengths : List ℕ)
    (at len : ℕ) → get_or lengths at 0 ≡ len → (StandsSo strings bounds bytes place len → ⊥)
    → NoneOf strings bounds bytes place lengths at → NoneOf strings bounds bytes place lengths (at + 1)
none_more strings bounds bytes place lengths at len is none before i low there = elim (cases_lt i at) [
  | inl earlier ↦ before i earlier there
  | inr last ↦
      let e : i ≡ at = omega (arith, low, last) in
      none (subst (StandsSo strings bounds bytes place) (ap (λ n. get_or lengths n 0) e ∙ is) there)
]

-- a flag that isn't set
pub unset : (flag : Bool) → IsTrue (not flag) → flag ≡ false
unset false h = refl
unset true h = absurd (false≢true h)

-- where bytes have no flag no string that stands there is longer
pub none_flagged : (strings : List (List ℕ)) (lengths : List ℕ) (flags : List Bool) (bytes : List ℕ)
    (place at hash : ℕ) → All (IsFlaggedAt lengths flags) strings → at < length lengths
    → hash ≡ hash_behind 0 (take (get_or lengths at 0) (drop place bytes))
    → slice_index_or flags (flag_by hash) true ≡ false → NoneLonger strings bytes place (get_or lengths at 0)
none_flagged strings lengths flags bytes place at hash flagged within is clear k d less occurs =
    let string = get_or strings k d in
    let len = get_or lengths at 0 in
    elim (cases_lt len (length string)) [
      | inl longer ↦
          let same : take len string ≡ take len (drop place bytes) =
          ap (take len) (sym (OccursAt-part bytes string place occurs))
          ∙ take-take len (length string) (drop place bytes) (omega (arith, longer)) in
          let set = flagged k d less at 0 within longer in
          let told : slice_index_or flags (flag_by hash) true ≡ true =
          ap (λ n. slice_index_or flags (flag_by n) true) (is ∙ ap (hash_behind 0) (sym same)) ∙ set in
          absurd (false≢true (sym clear ∙ told))
      | inr short ↦ omega (arith, short)
    ]

module _ (strings : List (List ℕ)) (bounds : Bounds) (bytes : List ℕ) (place : ℕ) (lengths : List ℕ) (at : ℕ)
    (rises : IsNonDecreasing lengths) (none : NoneLonger strings bytes place (get_or lengths at 0)) where
  -- no later length is greater
  no_greater : (i : ℕ) → at ≤ i → i < length lengths → StandsSo strings bounds bytes place (get_or lengths i 0)
      → get_or lengths i 0 ≡ get_or lengths at 0
  no_greater i low less (k, string, below, is, there) =
      let high = subst (λ t. OccursAt bytes t place → length t ≤ get_or lengths at 0) is (none k string below)
      there.0.0 in
      let up = rises at i 0 low less in
      omega (arith, high, up, there.1)

  -- so none stands, where none of those up to this one does
  pub none_later : NoneOf strings bounds bytes place lengths (at + 1)
      → NoneOf strings bounds bytes place lengths (length lengths)
  none_later before i less there = elim (cases_lt i (at + 1)) [
    | inl earlier ↦ before i earlier there
    | inr later ↦
        let same = no_greater i (omega (arith, later)) less there in
        before at (omega arith) (subst (StandsSo strings bounds bytes place) same there)
  ]

-- what was found of the lengths before one
pub record IsLongestOf (strings : List (List ℕ)) (bounds : Bounds) (bytes : List ℕ) (place : ℕ) (lengths : List ℕ)
    (count longest : ℕ) : Type 0 where
  pub stands : 0 < longest → StandsSo strings bounds bytes place longest
  pub most : (i : ℕ) → i < count → StandsSo strings bounds bytes place (get_or lengths i 0)
      → get_or lengths i 0 ≤ longest

-- one more length, of which a string stands and it is taken if it is greater, or none does
pub longest_more : (strings : List (List ℕ)) (bounds : Bounds) (bytes : List ℕ) (place : ℕ) (lengths : List ℕ)
    (at len before after : ℕ) → get_or lengths at 0 ≡ len
    → StandsSo strings bounds bytes place len × (after ≡ max len before)
    ⊎ (StandsSo strings bounds bytes place len → ⊥) × (after ≡ before)
    → IsLongestOf strings bounds bytes place lengths at before
    → IsLongestOf strings bounds bytes place lengths (at + 1) after
longest_more strings bounds bytes place lengths at len before after is (inl (stands, most)) was = record {
  stands = λ some. elim (cases_lt before after) [
    | inl more ↦ subst (StandsSo strings bounds bytes place) (omega (arith, most, more)) stands
    | inr same ↦
        let e : before ≡ after = omega (arith, most, same) in
        subst (StandsSo strings bounds bytes place) e (was.stands (omega (arith, e, some)))
  ];
  most = λ i less there. elim (cases_lt i at) [
    | inl earlier ↦
        let high = was.most i earlier there in
        omega (arith, most, high)
    | inr last ↦
        let e : i ≡ at = omega (arith, less, last) in
        omega (arith, ap (λ n. get_or lengths n 0) e, is, most)
  ];
}
longest_more strings bounds bytes place lengths at len before after is (inr (none, same)) was = record {
  stands = λ some. subst (StandsSo strings bounds bytes place) (sym same) (was.stands (omega (arith, same, some)));
  most = λ i less there. elim (cases_lt i at) [
    | inl earlier ↦
        let high = was.most i earlier there in
        omega (arith, same, high)
    | inr last ↦
        let e : i ≡ at = omega (arith, less, last) in
        absurd (none (subst (StandsSo strings bounds bytes place) (ap (λ n. get_or lengths n 0) e ∙ is) there))
  ];
}

-- and what was found of the lengths up to one, no string being longer, is found of all
pub longest_later : (strings : List (List ℕ)) (bounds : Bounds) (bytes : List ℕ) (place : ℕ) (lengths : List ℕ)
    (at longest : ℕ) → IsNonDecreasing lengths → NoneLonger strings bytes place (get_or lengths at 0)
    → IsLongestOf strings bounds bytes place lengths (at + 1) longest
    → IsLongestOf strings bounds bytes place lengths (length lengths) longest
longest_later strings bounds bytes place lengths at longest rises none before = record {
  stands = before.stands;
  most = λ i less there. elim (cases_lt i (at + 1)) [
    | inl earlier ↦ before.most i earlier there
    | inr later ↦
        let same = no_greater strings bounds bytes place lengths at rises none i (omega (arith, later)) less there in
        let most = before.most at (omega arith) (subst (StandsSo strings bounds bytes place) same there) in
        omega (arith, same, most)
  ];
}

-- what stands is no longer than the longest of all lengths
pub none_longer : (lengths first next : List ℕ) (strings : List (List ℕ)) (bounds : Bounds) (bytes : List ℕ)
    (place longest : ℕ) → AreIndexed lengths first next strings
    → IsLongestOf strings bounds bytes place lengths (length lengths) longest
    → All (λ string. StandsAs bounds bytes place string → length string ≤ longest) strings
none_longer lengths first next strings bounds bytes place longest whole found k d less stands =
    let at = length_at lengths first next strings whole k d less in
    let high = found.most at.0 at.1 (
      k,
      get_or strings k d,
      less,
      get_or_default strings k (get_or strings k d) d less,
      (stands, sym at.2),
    ) in
    omega (arith, high, at.2)

-- so that is the longest string that stands, if any does
pub longest_of_all : (lengths first next : List ℕ) (strings : List (List ℕ)) (bounds : Bounds) (bytes : List ℕ)
    (place longest : ℕ) → AreIndexed lengths first next strings → All (λ string. 1 ≤ length string) strings
    → IsLongestOf strings bounds bytes place lengths (length lengths) longest → (result : Option ℕ)
    → MatchOption result (longest ≡ 0) (λ n. (0 < n) × (n ≡ longest)) → IsLongestAt strings bounds bytes place result
longest_of_all lengths first next strings bounds bytes place longest whole some found result told =
    longest_told strings bounds bytes place longest some found.stands
    (none_longer lengths first next strings bounds bytes place longest whole found) result told

-- a string whose beginnings are flagged, where flags are kept
pub flagged_kept : (lengths : List ℕ) (before after : List Bool) → KeepsFlags before after → (string : List ℕ)
    → IsFlaggedAt lengths before string → IsFlaggedAt lengths after string
flagged_kept lengths before after keeps string flagged k d less longer =
    keeps (flag_by (hash_behind 0 (take (get_or lengths k d) string))) (flagged k d less longer)
