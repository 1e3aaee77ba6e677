-- A text that stands near where each hit of a search begins, and where it stands in a line.
use Rattle.std.proofs.Common.{◌≡◌, ◌↔◌, ◌<◌, ◌≤◌, ◌+◌, ◌-◌, ℕ, zero, suc, Option, Some, None, IsTrue, List, []}
use Rattle.std.proofs.Common.{◌∷◌, length, get_or, take, drop, slice_range, refl, sym, ap, ◌∙◌, subst, arith}
use Rattle.std.proofs.Common.{Bool, map, max, length-drop}
use Rattle.std.specs.Option.{IfSome, MatchOption, is_some}
use Rattle.std.specs.List.{All}
use Rattle.std.proofs.lemmas.List.{take_rest, length-take-le, get_or-take}
use Rattle.memchr.specs.Find.{OccursAt, FindsNeedle}
use Rattle.pg_pattern.specs.Tests.{has_hit}
use Rattle.pg_prefilter.proofs.HitLemmas.{hit_found, hit_missed}
use Rattle.pg_pattern.specs.Hits.{Hit, HasHit, IsNext, HasNoNext}
use Rattle.pg_literal.specs.Literals as P
use Rattle.pg_literal.specs.Literals.{as_searched, Holds}
use Rattle.pg_literal.specs.Reaches.{IsReach}
use Rattle.pg_literal.specs.Rests.{IgnoresFront}
use Rattle.pg_literal.specs.declared.literal.Literal.{Literal}
use Rattle.pg_literal.proofs.FoldLemmas.{length_searched}
use Rattle.pg_prefilter.specs.Literals.{AreLiterals, LiteralData, TellHeads, data_of, flagged}
use Rattle.pg_pattern.specs.declared.bounds.Bounds.TheVariants.{Any}
use Rattle.pg_selection.specs.Search.{SearchText, Pattern, Bounds, AreTreesOf, bounds_of}
use Rattle.pg_selection.proofs.TreeLemmas.{same_trees}
use Rattle.pg_prefilter.specs.Strings.{HitsIgnoreFront, IsNear, IsTextReach, FindsPart}
use Rattle.pg_prefilter.specs.declared.strings.NextString.TheVariants.{Nowhere, Behind}
use Rattle.pg_prefilter.proofs.NeedleLemmas.{next_none, next_some, occurs_whole, searched_behind}
use Rattle.pg_prefilter.proofs.NeedleLemmas.{take_searched}

module _ (text : SearchText) (near : List ℕ) (before : ℕ) (is : IsNear text near before) (searched line : List ℕ)
    (from : ℕ) (same : searched ≡ as_searched text.fold line) (within : from ≤ length searched) where
  abbrev own : List ℕ
  own = as_searched text.fold line

  low_own : from ≤ length own
  low_own = omega (arith, within, ap length same)

  -- what was found in the rest of the line, in the line as it is searched
  rest_of : (found : Option ℕ) → FindsNeedle (slice_range searched from (length searched)) near 0 found
      → FindsNeedle (drop from own) near 0 found
  rest_of found finds =
      let Finds : List ℕ → Type 0 = λ xs. FindsNeedle xs near 0 found in
      subst Finds (take_rest searched from ∙ ap (drop from) same) finds

  -- nothing begins where the text stands no more
  pub near_nowhere : FindsNeedle (slice_range searched from (length searched)) near 0 None
      → (trees : List Pattern) → AreTreesOf text trees → FindsPart trees (bounds_of text) line from Nowhere
  near_nowhere none trees spelled i j low hit =
      let h = is trees spelled line i j hit in
      (next_none own near from low_own (rest_of None none)).1 h.1.0 (omega (arith, low, h.1.1)) h.1.3

  -- nor so many bytes before the place where it stands next
  pub near_behind : (place next : ℕ) → next ≡ max from (from + place - before)
      → FindsNeedle (slice_range searched from (length searched)) near 0 (Some place)
      → (trees : List Pattern) → AreTreesOf text trees → FindsPart trees (bounds_of text) line from (Behind next)
  near_behind place next is_next found trees spelled =
      let stands = next_some own near from place low_own (rest_of (Some place) found) in
      let fits = stands.0.fits in (
        omega (arith, is_next),
        omega (arith, is_next, fits, low_own, length_searched text.fold line),
        λ i j low hit.
            let h = is trees spelled line i j hit in
            let later = stands.1 h.1.0 (omega (arith, low, h.1.1)) h.1.3 in
            (omega (arith, is_next, low, later, h.1.2), h.0),
      )

module _ (trees : List Pattern) (bounds : Bounds) (line : List ℕ) (from place : ℕ)
    (behind : (i j : ℕ) → from ≤ i → Hit trees bounds line i j → (place ≤ i) × (i < j)) where
  -- the next part behind a place that none begins before is the next one
  pub next_behind : from ≤ place → (i j : ℕ) → IsNext trees bounds line place i j → IsNext trees bounds line from i j
  next_behind low i j next = record {
    later = omega (arith, low, next.later);
    some = next.some;
    hit = next.hit;
    first = λ i' j' later before some hit. next.first i' j' (behind i' j' later hit).0 before some hit;
    longest = next.longest;
  }

  -- and no part is left where none stands there
  pub none_behind : HasNoNext trees bounds line place → (i j : ℕ) → from ≤ i → Hit trees bounds line i j → ⊥
  none_behind none i j low hit = let h = behind i j low hit in none i j h.0 h.1 hit

  -- what was found behind it is the next part, or there is none
  pub piece_behind : from ≤ place → (found : Option (ℕ × ℕ)) → MatchOption found (HasNoNext trees bounds line place)
      (λ part. IsNext trees bounds line place part.0 part.1)
      → MatchOption found (HasNoNext trees bounds line from) (λ part. IsNext trees bounds line from part.0 part.1)
  piece_behind low None none = λ i j later some hit. none_behind none i j later hit
  piece_behind low (Some part) next = next_behind low part.0 part.1 next

  -- a line has a hit where a part was found behind it
  pub piece_tells : (found : Option (ℕ × ℕ)) → from ≡ 0 → MatchOption found (HasNoNext trees bounds line place)
      (λ part. IsNext trees bounds line place part.0 part.1) → is_some found ≡ has_hit trees bounds line
  piece_tells None first none =
      sym (hit_missed trees bounds line (λ i j low hit. none_behind none i j (omega (arith, first)) hit))
  piece_tells (Some part) first next = sym (hit_found trees bounds line part.0 part.1 next.hit)

-- the rest of a line tells of it, where no hit begins before that and none depends on what does
pub rest_tells : (trees : List Pattern) (bounds : Bounds) (line : List ℕ) (place : ℕ) → place ≤ length line
    → IgnoresFront trees bounds
    → ((i j : ℕ) → 0 ≤ i → Hit trees bounds line i j → (place ≤ i) × (i < j))
    → HasHit trees bounds (drop place line) ↔ HasHit trees bounds line
rest_tells trees bounds line place within ignores behind = (
  λ h. (place + h.0, place + h.1, (ignores line place h.0 h.1 within).1 h.2),
  λ h.
      let low = behind h.0 h.1 (omega arith) h.2 in
      let i : h.0 ≡ place + (h.0 - place) = omega (arith, low.0) in
      let j : h.1 ≡ place + (h.1 - place) = omega (arith, low.0, low.1) in
      let there = subst (λ n. Hit trees bounds line n (place + (h.1 - place))) i
      (subst (λ n. Hit trees bounds line h.0 n) j h.2) in
      (h.0 - place, h.1 - place, (ignores line place (h.0 - place) (h.1 - place) within).0 there),
)

-- a part behind a place stands behind those before it
pub within_behind : (from place len : ℕ) (found : Option (ℕ × ℕ)) → from ≤ place
    → IfSome found (λ part. (place ≤ part.0) × (part.0 < part.1) × (part.1 ≤ len))
    → IfSome found (λ part. (from ≤ part.0) × (part.0 < part.1) × (part.1 ≤ len))
within_behind from place len None low within = tt
within_behind from place len (Some part) low within = (omega (arith, within.0), within.1, within.2)

-- what is known of the fronts of lines by a text's trees
pub front_known : (text : SearchText) (trees : List Pattern) (bounds : Bounds) → AreTreesOf text trees
    → bounds ≡ bounds_of text → IgnoresFront trees bounds → HitsIgnoreFront text
front_known text trees bounds spelled same ignores trees' spelled' =
    subst (λ ts. IgnoresFront ts (bounds_of text)) (same_trees text trees trees' spelled spelled')
    (subst (IgnoresFront trees) same ignores)

-- how far matches of a text's trees reach, where any match counts
pub reach_of_known : (text : SearchText) (trees : List Pattern) (found : Option ℕ) → AreTreesOf text trees
    → bounds_of text ≡ Any → IfSome found (IsReach trees) → IfSome found (IsTextReach text)
reach_of_known text trees None spelled any known = tt
reach_of_known text trees (Some reach) spelled any known = λ trees' spelled'.
    (any, subst (λ ts. IsReach ts reach) (same_trees text trees trees' spelled spelled') known)

-- an item of a list of one
the_one : {X : Type 0} (xs : List X) (x : X) (k : ℕ) (y : X) → k < length xs → get_or xs k y ≡ y → xs ≡ x ∷ [] → y ≡ x
the_one xs x zero y below same is = sym same ∙ ap (λ ys. get_or ys 0 y) is
the_one xs x (suc k) y below same is = absurd (omega (arith, ap length is))

-- the literals of a text's patterns
pub heads_are : {A : Type 0} (text : SearchText) (trees : List Pattern) → AreTreesOf text trees
    → (literals : List (Literal A)) → (0 < length literals → All (λ l. IsTrue l.is_head) literals
    → P.AreHeads text.fold trees (bounds_of text) literals) → TellHeads text literals
heads_are {A} text trees spelled literals are some all trees' spelled' =
    subst (λ ts. P.AreHeads text.fold ts (bounds_of text) literals) (same_trees text trees trees' spelled spelled')
    (are some all)

-- a text that stands in what is before a place stands in all, and ends before it
take_occurs : (xs s : List ℕ) (p stop : ℕ) → stop ≤ length xs → OccursAt (take stop xs) s p
    → OccursAt xs s p × (p + length s ≤ stop)
take_occurs xs s p stop within o =
    let long = length-take-le stop xs within in
    let short : p + length s ≤ stop = omega (arith, long, o.fits) in (
      record {
        fits = omega (arith, short, within);
        reads = λ j less. sym (get_or-take stop xs (p + j) 0 (omega (arith, less, short))) ∙ o.reads j less;
      },
      short,
    )

module _ (text : SearchText) (needle : List ℕ) (reach : ℕ) (reaches : IsTextReach text reach) (flag : Bool)
    (are : AreLiterals text (flagged flag needle ∷ [])) (trees : List Pattern) (spelled : AreTreesOf text trees) where
  -- the only literal stands in each hit
  stands_within : (line : List ℕ) (i j : ℕ) → Hit trees Any line i j
      → (place : ℕ) × (i ≤ place) × (place + length needle ≤ j) × OccursAt (as_searched text.fold line) needle place
  stands_within line i j hit =
      let known = reaches trees spelled in
      let HasOwn : Bounds → Type 0 = λ bounds. HasHit trees bounds (slice_range line i j) in
      let own = subst HasOwn (sym known.0) (known.1.alone line i j hit) in
      let held = are.needed (omega arith) trees spelled (slice_range line i j) own in
      let one = the_one (flagged flag needle ∷ []) (flagged flag needle) held.0 held.1 held.2 held.3 refl in
      let stands = subst (λ (m : LiteralData). Holds text.fold (slice_range line i j) m.text) one held.4 in
      let low : i ≤ length line = omega (arith, hit.ordered, hit.within) in
      let rest = drop i (as_searched text.fold line) in
      let cut : as_searched text.fold (slice_range line i j) ≡ take (j - i) rest =
      sym (take_searched text.fold (j - i) (drop i line))
      ∙ ap (take (j - i)) (sym (searched_behind text.fold line (as_searched text.fold line) i refl low)) in
      let size = length-drop i (as_searched text.fold line) in
      let long = length_searched text.fold line in
      let front = take_occurs rest needle stands.0 (j - i) (omega (arith, size, long, hit.within))
      (subst (λ xs. OccursAt xs needle stands.0) cut stands.1) in (
        i + stands.0,
        omega arith,
        omega (arith, front.1, hit.ordered),
        occurs_whole (as_searched text.fold line) needle i stands.0 (omega (arith, low, long)) front.0,
      )

-- so it stands near where each begins, if it isn't empty
pub reach_is_near : {A : Type 0} (text : SearchText) (literals : List (Literal A)) (e : Literal A) (reach before : ℕ)
    → AreLiterals text (map data_of literals) → IsTextReach text reach → length literals ≡ 1
    → 0 < length (get_or literals 0 e).text.items → reach ≡ length (get_or literals 0 e).text.items + before
    → IsNear text (get_or literals 0 e).text.items before
reach_is_near text [] e reach before are known one some is = absurd (omega (arith, one))
reach_is_near text (l ∷ []) e reach before are known one some is = λ trees spelled line i j hit.
    let needle = l.text.items in
    let any = known trees spelled in
    let own = subst (λ bounds. Hit trees bounds line i j) any.0 hit in
    let whole = stands_within text needle reach known l.is_enough are trees spelled line i j own in
    let first = any.1.near line i j own in
    let near = stands_within text needle reach known l.is_enough are trees spelled line i first.0 first.2 in (
      omega (arith, some, whole.1, whole.2),
      (near.0, near.1, omega (arith, near.2, first.1, is), near.3),
    )
reach_is_near text (l ∷ m ∷ ls) e reach before are known one some is = absurd (omega (arith, one))
