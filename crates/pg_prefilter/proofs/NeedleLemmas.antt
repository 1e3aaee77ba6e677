-- Where needles stand.
use Rattle.std.proofs.Common.{◌≡◌, ◌<◌, ◌≤◌, ◌+◌, ◌-◌, ◌⊎◌, ℕ, zero, suc, Bool, true, false, Option, Some, None, inl}
use Rattle.std.proofs.Common.{inr}
use Rattle.std.proofs.Common.{List, [], ◌∷◌, length, get_or, set, map, take, drop, cond, refl, sym, ap, ◌∙◌, subst}
use Rattle.std.proofs.Common.{arith, length-drop, slice_range}
use Rattle.std.specs.Option.{IfNone, IfSome, IsSomeAnd}
use Rattle.std.specs.List.{All, Any, Contains}
use Rattle.std.proofs.lemmas.Bool.{cases_lt}
use Rattle.std.proofs.lemmas.List.{drop_at, length-take-le, take-append-drop, take-map, length-map}
use Rattle.std.proofs.lemmas.List.{get_or-drop, get_or-map, get_or_default}
use Rattle.std.proofs.lemmas.List.Elements.{All-weaker, All-contains}
use Rattle.memchr.specs.Find.{OccursAt, FindsNeedle}
use Rattle.pg_literal.specs.Literals.{as_searched}
use Rattle.pg_literal.specs.Rows.{byte_as_searched}
use Rattle.pg_literal.proofs.FoldLemmas.{length_searched, searched_append}
use Rattle.pg_blocks.specs.Lines.{lines, IsLine}
use Rattle.pg_prefilter.specs.Literals.{LiteralData}
use Rattle.pg_selection.specs.Search.{SearchText, terminator_of}
use Rattle.pg_prefilter.specs.Candidates.{AreWithout, IsFirstWith, IsLineAround}
use Rattle.pg_prefilter.specs.Candidates.{literal_of, IsAhead, IsFoundBehind, NeedleAt, IsBefore}
use Rattle.pg_prefilter.specs.Candidates.{IsNeedleList}
use Rattle.pg_prefilter.specs.declared.needle.Needle.{Needle}
use Rattle.pg_prefilter.specs.declared.needle.NeedleList.{NeedleList}
use Rattle.pg_prefilter.specs.declared.needle.Place.{Place}
use Rattle.pg_prefilter.specs.declared.candidate.Candidate.{Candidate}
use Rattle.pg_prefilter.proofs.LineLemmas.{NoneBefore, nowhere_lines, without_each, first_found}
use Rattle.pg_literal.proofs.RowLemmas.{any-unmap}

-- what occurs behind a place occurs in the whole
pub occurs_whole : (xs p : List ℕ) (at k : ℕ) → at ≤ length xs → OccursAt (drop at xs) p k → OccursAt xs p (at + k)
occurs_whole xs p at k within o = record {
  fits = let fits = o.fits in omega (arith, length-drop at xs);
  reads = λ j less.
      let same : at + k + j ≡ at + (k + j) = omega arith in
      ap (λ n. get_or xs n 0) same ∙ (sym (get_or-drop at xs (k + j) 0) ∙ o.reads j less);
}

-- and the other way round
pub occurs_part : (xs p : List ℕ) (at k : ℕ) → at ≤ length xs → OccursAt xs p (at + k) → OccursAt (drop at xs) p k
occurs_part xs p at k within o = record {
  fits = let fits = o.fits in omega (arith, length-drop at xs);
  reads = λ j less.
      let same : at + (k + j) ≡ at + k + j = omega arith in
      get_or-drop at xs (k + j) 0 ∙ (ap (λ n. get_or xs n 0) same ∙ o.reads j less);
}

-- what holds anyway holds where there is nothing
pub if_none : {X : Type 0} (P : Type 0) (o : Option X) → P → IfNone o P
if_none P None p = p
if_none P (Some x) p = tt

-- where a needle's next place is
abbrev pub IsNext : List ℕ → ℕ → List ℕ → Option ℕ → Type 0
IsNext searched at p next =
    IfSome next (OccursAt searched p) × ((k : ℕ) → at ≤ k → OccursAt searched p k → IsSomeAnd next (λ place. place ≤ k))

-- a needle stands no further where nothing is found behind a place
pub next_none : (searched p : List ℕ) (at : ℕ) → at ≤ length searched → FindsNeedle (drop at searched) p 0 None
    → IsNext searched at p None
next_none searched p at within none = (
  tt,
  λ k low o.
      let from : k ≡ at + (k - at) = omega arith in
      let here = occurs_part searched p at (k - at) within (subst (OccursAt searched p) from o) in
      absurd (none (k - at) (omega arith) (omega (arith, here.fits)) here),
)

-- the first place behind another one
pub next_some : (searched p : List ℕ) (at found : ℕ) → at ≤ length searched
    → FindsNeedle (drop at searched) p 0 (Some found) → IsNext searched at p (Some (at + found))
next_some searched p at found within first = (
  occurs_whole searched p at found within first.1,
  λ k low o.
      let from : k ≡ at + (k - at) = omega arith in
      let here = occurs_part searched p at (k - at) within (subst (OccursAt searched p) from o) in
      elim (cases_lt (k - at) found) [
        | inl before ↦ absurd (first.0.before (k - at) (omega arith) before here)
        | inr behind ↦ omega arith
      ],
)

-- what stands behind a place, as it is searched
pub searched_behind : (fold : Bool) (bytes searched : List ℕ) (at : ℕ) → searched ≡ as_searched fold bytes
    → at ≤ length bytes → drop at searched ≡ as_searched fold (drop at bytes)
searched_behind fold bytes searched at is within =
    ap (drop at) (is ∙ (ap (as_searched fold) (sym (take-append-drop at bytes))
    ∙ searched_append fold (take at bytes) (drop at bytes)))
    ∙ drop_at (as_searched fold (take at bytes)) (as_searched fold (drop at bytes)) at
    (length_searched fold (take at bytes) ∙ length-take-le at bytes within)

-- the front of a line, as it is searched
pub take_searched : (fold : Bool) (n : ℕ) (xs : List ℕ) → take n (as_searched fold xs) ≡ as_searched fold (take n xs)
take_searched false n xs = refl
take_searched true n xs = take-map _ n xs

-- a line that stands at a place, as it is searched
pub cut_searched : (fold : Bool) (bytes searched : List ℕ) (at : ℕ) (line : List ℕ) → searched ≡ as_searched fold bytes
    → at ≤ length bytes → line ≡ take (length line) (drop at bytes)
    → slice_range searched at (at + length line) ≡ as_searched fold line
cut_searched fold bytes searched at line is within same =
    let size : at + length line - at ≡ length line = omega arith in
    ap (λ n. take n (drop at searched)) size
    ∙ (ap (take (length line)) (searched_behind fold bytes searched at is within)
    ∙ (take_searched fold (length line) (drop at bytes) ∙ ap (as_searched fold) (sym same)))

-- as many bytes are searched as there are
pub searched_length : (fold : Bool) (bytes searched : List ℕ) → searched ≡ as_searched fold bytes
    → length searched ≡ length bytes
searched_length fold bytes searched is = ap length is ∙ length_searched fold bytes

-- the terminators aren't letters
pub plain_end : (text : SearchText) (fold : Bool) → byte_as_searched fold (terminator_of text) ≡ terminator_of text
plain_end text false = refl
plain_end text true = zero_or_newline text.zero
  where
    zero_or_newline : (zero : Bool) → byte_as_searched true (cond zero 0 10) ≡ cond zero 0 10
    zero_or_newline true = refl
    zero_or_newline false = refl

-- a needle stays ahead of later places
ahead_later : (searched : List ℕ) (at later : ℕ) (needles : List Needle) → at ≤ later
    → All (IsAhead searched at) needles → All (IsAhead searched later) needles
ahead_later searched at later needles low all =
    All-weaker (IsAhead searched at) (IsAhead searched later) (λ n is. record {
      stands = is.stands;
      first = λ k from o. is.first k (omega arith) o;
    }) needles all

pub needles_later : {A : Type 0} (text : SearchText) (bytes : List ℕ) (at later : ℕ) (needles : NeedleList A)
    → at ≤ later
    → IsNeedleList text bytes at needles → IsNeedleList text bytes later needles
needles_later text bytes at later needles low are = record {
  literals = are.literals;
  searched = are.searched;
  ahead = ahead_later needles.searched.now at later needles.needles.items low are.ahead;
}

-- a literal of the needles is that of one
of_needle : (needles : List Needle) (l : LiteralData) → Contains (map literal_of needles) l
    → (n : Needle) × Contains needles n × (literal_of n ≡ l)
of_needle needles l among =
    let h = any-unmap (λ m. m ≡ l) literal_of needles (among.0, l, among.1, among.2, refl) in
    (h.1, (h.0, h.2, h.3), h.4)

-- the literal of a needle is among those of all
to_literal : (needles : List Needle) (n : Needle) → Contains needles n
    → Contains (map literal_of needles) (literal_of n)
to_literal needles n among = (
  among.0,
  omega (arith, among.1, length-map needles literal_of),
  get_or-map literal_of needles among.0 n (literal_of n) among.1 ∙ ap literal_of among.2,
)

-- a needle that was looked for stands at its place, which isn't before the one that all were asked for
least_found : (searched : List ℕ) (at : ℕ) (needles : List Needle) (place : Place)
    → All (IsFoundBehind searched at) needles → (stands : Any (NeedleAt place) needles)
    → (at ≤ place.at) × OccursAt searched stands.1.finder place.at
least_found searched at needles place found stands =
    let n = stands.1 in
    subst (λ o. IfSome o (λ p. (at ≤ p) × OccursAt searched n.finder p)) stands.4.0
    (All-contains (IsFoundBehind searched at) needles n found (stands.0, stands.2, stands.3))

-- places in the bytes as they are searched, and in what stands behind one
module _ (fold : Bool) (bytes searched : List ℕ) (at : ℕ) (is : searched ≡ as_searched fold bytes)
    (within : at ≤ length bytes) where
  pub whole_place : (p : List ℕ) (k : ℕ) → OccursAt (as_searched fold (drop at bytes)) p k
      → OccursAt searched p (at + k)
  whole_place p k o =
      occurs_whole searched p at k (omega (arith, searched_length fold bytes searched is, within))
      (subst (λ xs. OccursAt xs p k) (sym (searched_behind fold bytes searched at is within)) o)

  pub part_place : (p : List ℕ) (k : ℕ) → OccursAt searched p (at + k)
      → OccursAt (as_searched fold (drop at bytes)) p k
  part_place p k o =
      subst (λ xs. OccursAt xs p k) (searched_behind fold bytes searched at is within)
      (occurs_part searched p at k (omega (arith, searched_length fold bytes searched is, within)) o)

module _ (fold : Bool) (bytes searched : List ℕ) (at : ℕ) (needles : List Needle)
    (is : searched ≡ as_searched fold bytes)
    (within : at ≤ length bytes) (ahead : All (IsAhead searched at) needles) where
  -- where no needle stands further, no line holds a literal
  pub nowhere_further : (end : ℕ) → All (IsBefore None) needles
      → AreWithout fold end (map literal_of needles) (drop at bytes)
  nowhere_further end none =
      without_each fold (map literal_of needles) (lines end (drop at bytes)) (λ l among.
      nowhere_lines fold end l.text (drop at bytes) (λ k o.
      let n = of_needle needles l among in
      let P : LiteralData → Type 0 = λ m. OccursAt (as_searched fold (drop at bytes)) m.text k in
      let here = whole_place fold bytes searched at is within n.0.finder k (subst P (sym n.2) o) in
      let next = (All-contains (IsAhead searched at) needles n.0 ahead n.1).first (at + k) (omega arith) here in
      not_next (at + k) n.0.next (All-contains (IsBefore None) needles n.0 none n.1) next))
    where
      not_next : (k : ℕ) (next : Option ℕ) → IfSome next (λ n. IsSomeAnd {T = Place} None (λ place. place.at ≤ n))
          → IsSomeAnd next (λ place. place ≤ k) → ⊥
      not_next k None none some = some
      not_next k (Some n) none some = none

  -- no needle stands before the least place
  none_before : (place : Place) → at ≤ place.at → All (IsBefore (Some place)) needles
      → NoneBefore fold (map literal_of needles) (drop at bytes) (place.at - at)
  none_before place low least l among k from to o =
      let n = of_needle needles l among in
      let P : LiteralData → Type 0 = λ m. OccursAt (as_searched fold (drop at bytes)) m.text k in
      let here = whole_place fold bytes searched at is within n.0.finder k (subst P (sym n.2) o) in
      let next = (All-contains (IsAhead searched at) needles n.0 ahead n.1).first (at + k) (omega arith) here in
      let far = not_before place.at (at + k) n.0.next
      (All-contains (IsBefore (Some place)) needles n.0 least n.1) next in
      omega arith
    where
      not_before : (p m : ℕ) (next : Option ℕ) → IfSome next (λ n. p ≤ n) → IsSomeAnd next (λ place. place ≤ m)
          → p ≤ m
      not_before p m None before some = absurd some
      not_before p m (Some n) before some = omega arith

  -- a needle that was looked for stands within the bytes
  pub stands_within : (place : Place) → All (IsFoundBehind searched at) needles → Any (NeedleAt place) needles
      → place.at ≤ length bytes
  stands_within place found stands =
      let here = least_found searched at needles place found stands in
      omega (arith, here.1.fits, searched_length fold bytes searched is)

  -- the line around the least place
  pub line_of_least : (end : ℕ) (place : Place) (found : Candidate) → byte_as_searched fold end ≡ end
      → All (λ l. IsLine end l.text) (map literal_of needles) → All (IsFoundBehind searched at) needles
      → Any (NeedleAt place) needles → All (IsBefore (Some place)) needles → place.is_enough ≡ found.is_enough
      → 0 < length (drop at bytes) → IsLineAround end at (drop at bytes) (place.at - at) found.line
      → IsFirstWith fold end (map literal_of needles) at (drop at bytes) found
      × (found.line.start < found.line.end) × (found.line.end ≤ length bytes)
  line_of_least end place found plain alone behind stands least flag some h =
      let n = stands.1 in
      let among : Contains needles n = (stands.0, stands.2, stands.3) in
      let both = least_found searched at needles place behind stands in
      let low = both.0 in
      let here = both.1 in
      let k = place.at - at in
      let from : place.at ≡ at + k = omega arith in
      let o = part_place fold bytes searched at is within n.finder k (subst (OccursAt searched n.finder) from here) in
      let literals = map literal_of needles in
      let all = to_literal needles n among in
      let line = All-contains (λ l. IsLine end l.text) literals (literal_of n) alone all in
      let first = first_found fold end literals (literal_of n) (drop at bytes) at k found plain line all
      (stands.4.1 ∙ flag) o (none_before place low least) some h in
      (first.0, first.1, omega (arith, first.2, length-drop at bytes))

-- a needle's place that a lesser one replaces
before_more : (old new : Option Place) (n : Needle) → IfSome old (λ p. IsSomeAnd new (λ q. q.at ≤ p.at))
    → IsBefore old n → IsBefore new n
before_more old new n less before = go old new n.next less before
  where
    go : (old new : Option Place) (next : Option ℕ) → IfSome old (λ p. IsSomeAnd new (λ q. q.at ≤ p.at))
        → IfSome next (λ m. IsSomeAnd old (λ p. p.at ≤ m)) → IfSome next (λ m. IsSomeAnd new (λ q. q.at ≤ m))
    go old new None less before = tt
    go None new (Some m) less before = absurd before
    go (Some p) None (Some m) less before = absurd less
    go (Some p) (Some q) (Some m) less before = omega arith

module _ (needles : List Needle) (i : ℕ) (n : Needle) (below : i < length needles) (is : n ≡ get_or needles i n)
    (old new : Option Place) where
  -- the least place of one needle more
  pub least_more : IfSome old (λ p. IsSomeAnd new (λ q. q.at ≤ p.at)) → IsBefore new n
      → ((k : ℕ) (d : Needle) → k < i → IsBefore old (get_or needles k d)) → (k : ℕ) (d : Needle) → k < i + 1
      → IsBefore new (get_or needles k d)
  least_more less own before k d low = elim (cases_lt k i) [
    | inl front ↦ before_more old new (get_or needles k d) less (before k d front)
    | inr here ↦
        let last : i ≡ k = omega arith in
        let same : n ≡ get_or needles k d =
        is ∙ (get_or_default needles i n d below ∙ ap (λ j. get_or needles j d) last) in
        subst (IsBefore new) same own
  ]

  -- a needle stands there
  pub stands_more : IfSome old (λ p. Any (NeedleAt p) needles) → IfSome new (λ p. (old ≡ new) ⊎ NeedleAt p n)
      → IfSome new (λ p. Any (NeedleAt p) needles)
  stands_more before own = go old new before own
    where
      go : (old new : Option Place) → IfSome old (λ p. Any (NeedleAt p) needles)
          → IfSome new (λ p. (old ≡ new) ⊎ NeedleAt p n) → IfSome new (λ p. Any (NeedleAt p) needles)
      go old None before own = tt
      go old (Some p) before (inl same) = subst (λ o. IfSome o (λ q. Any (NeedleAt q) needles)) same before
      go old (Some p) before (inr stands) = (i, n, below, sym is, stands)

-- a needle that was found anew is that of the same literal
pub literals_set : (needles : List Needle) (i : ℕ) (n : Needle) (d : Needle) → i < length needles
    → literal_of n ≡ literal_of (get_or needles i d) → map literal_of (set needles i n) ≡ map literal_of needles
literals_set [] i n d below same = absurd (omega arith)
literals_set (m ∷ needles) zero n d below same = ap (λ l. l ∷ map literal_of needles) same
literals_set (m ∷ needles) (suc i) n d below same =
    ap (λ ls. literal_of m ∷ ls) (literals_set needles i n d (omega arith) same)
