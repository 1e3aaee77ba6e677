-- The longest of the strings that stand at a place, for `longest_at` and `contains`.
use Rattle.std.proofs.Common.{◌≡◌, ℕ, ◌<◌, ◌≤◌, List, [], length, take, get_or, sym, ap, ◌∙◌, arith}
use Rattle.std.proofs.Common.{subst, inl, inr, ◌↔◌, IsTrue, Bool, Option, None, Some, is_some, zero-add}
use Rattle.std.specs.Prelude.{Contains, MatchOption}
use Rattle.std.specs.List.{All}
use Rattle.std.proofs.Math.Seq.{take-length}
use Rattle.memchr.proofs.lemmas.MatchLemmas.{OccursAt-part}
use Rattle.std.proofs.lemmas.Bool.{cases_lt, false≢true}
use Rattle.std.proofs.lemmas.List.{get_or_default}
use Rattle.memchr.specs.Find.{OccursAt}
use Rattle.pg_pattern.specs.declared.bounds.Bounds.{Bounds}
use Rattle.pg_pattern.specs.declared.bounds.Bounds.TheVariants.{Whole}
use Rattle.pg_strings.specs.Keys.{AreLong}
use Rattle.pg_strings.specs.Sets.{StandsAs, SomeStandsAs, StandsSo}
use Rattle.pg_strings.specs.Outcomes.{IsLongestAt}
use Rattle.pg_strings.specs.Short.{IsLongestShort}

-- a string of the length that is kept stands there, after one more string too; and no short one that does is longer
pub short_kept : (strings : List (List ℕ)) (bounds : Bounds) (bytes : List ℕ) (place i before : ℕ) (string : List ℕ)
    (kept : ℕ) → i < length strings → get_or strings i [] ≡ string → before ≤ kept
    → (before < kept → StandsAs bounds bytes place string × (length string ≡ kept))
    → IsLongestShort strings bounds bytes place before → IsLongestShort strings bounds bytes place kept
short_kept strings bounds bytes place i before string kept less at low own was = record {
  stands = λ some. elim (cases_lt before kept) [
    | inl more ↦ (i, string, less, get_or_default strings i string [] less ∙ at, own more)
    | inr same ↦
        let e : before ≡ kept = omega (arith, low, same) in
        let one = was.stands (omega (arith, e, some)) in
        (one.0, one.1, one.2, one.3, (one.4.0, one.4.1 ∙ e))
  ];
  longest = λ k d few stands short.
      let high = was.longest k d few stands short in
      omega (arith, high, low);
}

-- each string has a byte
pub some_bytes : (width : ℕ) (strings : List (List ℕ)) → AreLong width strings
    → All (λ string. 1 ≤ length string) strings
some_bytes width strings are_long k d less = (are_long k d less).0

-- the greatest length of those that stand is told, unless it is 0
pub longest_told : (strings : List (List ℕ)) (bounds : Bounds) (bytes : List ℕ) (place longest : ℕ)
    → All (λ string. 1 ≤ length string) strings → (0 < longest → StandsSo strings bounds bytes place longest)
    → All (λ string. StandsAs bounds bytes place string → length string ≤ longest) strings → (result : Option ℕ)
    → MatchOption result (longest ≡ 0) (λ n. (0 < n) × (n ≡ longest)) → IsLongestAt strings bounds bytes place result
longest_told strings bounds bytes place longest some stands most None none = λ (i, string, less, at, there).
    let high = subst (λ t. StandsAs bounds bytes place t → length t ≤ longest) at (most i string less) there in
    let long = subst (λ (t : List ℕ). 1 ≤ length t) at (some i string less) in
    absurd (omega (arith, high, long, none))
longest_told strings bounds bytes place longest some stands most (Some n) (more, is) = (
  subst (StandsSo strings bounds bytes place) (sym is) (stands (omega (arith, more, is))),
  λ k d less there.
      let high = most k d less there in
      omega (arith, high, is),
)

-- the line stands at its own begin
stands_whole : (line : List ℕ) → OccursAt line line 0
stands_whole line = record { fits = omega arith; reads = λ j less. ap (λ k. get_or line k 0) (zero-add j) }

-- a string that stands at the begin of a line and ends where it does is the line
whole_line : (line string : List ℕ) → StandsAs Whole line 0 string → string ≡ line
whole_line line string stands =
    let same : length string ≡ length line = omega (arith, stands.1) in
    sym (OccursAt-part line string 0 stands.0) ∙ (ap (λ n. take n line) same ∙ take-length line)

-- some string stands so, where the line is a string
some_whole : (strings : List (List ℕ)) (line : List ℕ) → Contains strings line → SomeStandsAs strings Whole line 0
some_whole strings line (i, less, at) = (i, line, less, at, (stands_whole line, omega arith))

-- and where one does, the line is a string
line_contained : (strings : List (List ℕ)) (line : List ℕ) → SomeStandsAs strings Whole line 0
    → Contains strings line
line_contained strings line (i, string, less, at, stands) =
    let is = whole_line line string stands in
    (i, less, get_or_default strings i line string less ∙ (at ∙ is))

-- a line is a string where some length is the longest of those that stand so
pub line_found : (strings : List (List ℕ)) (line : List ℕ) (found : Option ℕ) (told : Bool)
    → IsLongestAt strings Whole line 0 found → told ≡ is_some found → IsTrue told ↔ Contains strings line
line_found strings line None told none is = (
  λ some. absurd (false≢true (sym is ∙ some)),
  λ among. absurd (none (some_whole strings line among)),
)
line_found strings line (Some n) told longest is = (
  λ some.
      let (i, string, less, at, there) = longest.0 in
      line_contained strings line (i, string, less, at, there.0),
  λ among. is,
)
