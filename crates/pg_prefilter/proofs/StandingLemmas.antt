-- Strings that stand in a line where a match may begin and end, for `next_standing` and `whole_line`.
use Rattle.std.proofs.Common.{◌≡◌, ◌<◌, ◌≤◌, ◌+◌, ℕ, None, Some}
use Rattle.std.proofs.Common.{List, length, get_or, sym, ap, ◌∙◌, subst, arith}
use Rattle.std.specs.List.{All, Any as AnyOf, Contains}
use Rattle.std.proofs.lemmas.List.{get_or_default, same_lists}
use Rattle.std.proofs.lemmas.List.Elements.{All-weaker}
use Rattle.memchr.specs.Find.{OccursAt, Nowhere, NoneBefore}
use Rattle.pg_pattern.specs.Bounds.{MayEnd}
use Rattle.pg_strings.specs.Sets.{StandsAs, SomeHit}
use Rattle.pg_strings.specs.Outcomes.{strings_of, IsLongestAt}
use Rattle.pg_strings.specs.declared.set.StringSet.{StringSet}
use Rattle.pg_selection.specs.Search.{Bounds, Whole}
use Rattle.pg_prefilter.specs.Strings.{IsStringHit, IsNextString, HasNoString}

-- each string of a set has a byte
pub are_some : {A : Type 0} (set : StringSet A) → All (λ s. 1 ≤ length s) (strings_of set)
are_some set =
    All-weaker (λ (s : List ℕ). (1 ≤ length s) × (3 ≤ length s → set.width ≤ length s)) (λ s. 1 ≤ length s)
    (λ s long. long.0) (strings_of set) set.long

module _ (strings : List (List ℕ)) (bounds : Bounds) (line : List ℕ) (some : All (λ s. 1 ≤ length s) strings) where
  -- the string of a hit has a byte, and ends within the line
  hit_some : (i j : ℕ) → IsStringHit strings bounds line i j → (i < j) × (j ≤ length line)
  hit_some i j hit =
      let any = hit.stands in
      let long = subst (λ (s : List ℕ). 1 ≤ length s) any.3 (some any.0 any.1 any.2) in
      (omega (arith, long, any.4.1), omega (arith, any.4.0.fits, any.4.1))

  -- it stands, and ends as a match may
  hit_stands : (i j : ℕ) → IsStringHit strings bounds line i j
      → AnyOf (λ s. StandsAs bounds line i s × (i + length s ≡ j)) strings
  hit_stands i j hit =
      let any = hit.stands in
      (any.0, any.1, any.2, any.3, ((any.4.0, subst (MayEnd bounds line) (sym any.4.1) hit.ends), any.4.1))

  -- so some string does
  hit_somewhere : (i j : ℕ) → IsStringHit strings bounds line i j → SomeHit strings bounds line i
  hit_somewhere i j hit =
      let any = hit_stands i j hit in
      (hit.begins, (any.0, any.1, any.2, any.3, any.4.0))

  -- where no string stands so from there on, there is none at all
  pub none_from : (from : ℕ) → Nowhere (SomeHit strings bounds line) from (length line)
      → HasNoString strings bounds line from
  none_from from nowhere i j low hit =
      let inside = hit_some i j hit in
      nowhere i low (omega (arith, inside.0, inside.1)) (hit_somewhere i j hit)

  module _ (from place : ℕ) (first : NoneBefore (SomeHit strings bounds line) from (length line) place)
      (here : SomeHit strings bounds line place) where
    -- the longest string that stands so at the first place where one does is the next one
    pub next_is : (len : ℕ) → IsLongestAt strings bounds line place (Some len)
        → IsNextString strings bounds line from place (place + len)
    next_is len longest =
        let any = longest.0 in
        let long = subst (λ (s : List ℕ). 1 ≤ length s) any.3 (some any.0 any.1 any.2) in
        record {
          later = first.low;
          some = omega (arith, long, any.4.1);
          hit = record {
            begins = here.0;
            ends = subst (λ n. MayEnd bounds line (place + n)) any.4.1 any.4.0.1;
            stands = (any.0, any.1, any.2, any.3, (any.4.0.0, ap (λ n. place + n) any.4.1));
          };
          first = λ i j low before hit. first.before i low before (hit_somewhere i j hit);
          longest = λ j hit.
              let other = hit_stands place j hit in
              let high = subst (λ s. StandsAs bounds line place s → length s ≤ len) other.3
              (longest.1 other.0 other.1 other.2) other.4.0 in
              omega (arith, high, other.4.1);
        }

    -- and there is one
    pub some_is : IsLongestAt strings bounds line place None → ⊥
    some_is none = none here.1

-- a text that stands at the begin of a line and has its length is the line
occurs_whole : (line s : List ℕ) → OccursAt line s 0 → 0 + length s ≡ length line → s ≡ line
occurs_whole line s o same =
    same_lists s line (omega (arith, same)) (λ k d less.
    get_or_default s k d 0 less
    ∙ (sym (o.reads k less)
    ∙ ((let at : 0 + k ≡ k = omega arith in ap (λ n. get_or line n 0) at)
    ∙ get_or_default line k 0 d (omega (arith, less, same)))))

module _ (strings : List (List ℕ)) (line : List ℕ) (some : All (λ s. 1 ≤ length s) strings) where
  -- a hit is the whole line
  pub hit_is_whole : (i j : ℕ) → IsStringHit strings Whole line i j → (i ≡ 0) × Contains strings line
  hit_is_whole i j hit =
      let any = hit.stands in
      let start = hit.begins in
      let stop = hit.ends in
      let P : ℕ → Type 0 = λ k. OccursAt line any.1 k × (k + length any.1 ≡ length line) in
      let o = subst P start (any.4.0, any.4.1 ∙ stop) in
      let is = occurs_whole line any.1 o.0 o.1 in
      let Q : List ℕ → Type 0 = λ s. get_or strings any.0 s ≡ s in
      (start, (any.0, any.2, subst Q is any.3))
