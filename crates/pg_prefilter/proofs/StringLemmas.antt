-- What a fixed string matches: its text, and nothing else.
use Rattle.std.proofs.Common.{◌≡◌, ◌<◌, ◌≤◌, ◌+◌, ◌-◌, ℕ, zero, suc, Bool, true, false, inl, inr, Some}
use Rattle.std.proofs.Common.{List, [], ◌∷◌, ◌++◌, length, map, get_or, refl, sym, ap, ◌∙◌, subst, arith}
use Rattle.std.proofs.Common.{length-append}
use Rattle.std.specs.List.{All, Any as AnyOf, AllZip}
use Rattle.std.proofs.lemmas.Bool.{cases_lt}
use Rattle.std.proofs.lemmas.Bool.Decides.{nat_tests}
use Rattle.std.proofs.lemmas.List.{get_or-append-add, get_or_append_left}
use Rattle.memchr.specs.Find.{OccursAt}
use Rattle.pg_pattern.specs.Patterns.{Set}
use Rattle.pg_grammar.specs.Grammar as G
use Rattle.pg_grammar.specs.Grammar.{Literal, Spells}
use Rattle.pg_pattern.specs.Matches.{Match}
use Rattle.pg_pattern.specs.Bounds.{is_word_byte, MayBegin, MayEnd}
use Rattle.pg_pattern.specs.Hits.{Matched, Hit, IsNext}
use Rattle.pg_literal.specs.Literals.{as_searched}
use Rattle.pg_literal.specs.Rows.{byte_as_searched, IsAlone}
use Rattle.pg_literal.specs.Strings.{IsOfString}
use Rattle.pg_selection.proofs.TreeLemmas.{same_trees}
use Rattle.pg_literal.proofs.RowLemmas.{occurs_nothing, occurs_more, occurs_first}
use Rattle.pg_literal.proofs.FoldLemmas.{length_searched, searched_append, searched_nothing, searched_one}
use Rattle.pg_literal.proofs.FoldLemmas.{searched_byte, byte_of_searched, folded_alone}
use Rattle.pg_selection.specs.Search.{SearchText, Pattern, Bounds, Any, Word, Whole, Fixed, AreTreesOf, patterns}
use Rattle.pg_prefilter.specs.Fixed.{AreFixed}
use Rattle.pg_prefilter.specs.Strings.{AreStrings, IsStringHit, IsNextString, HasNoString, FindsString, FindsPart}
use Rattle.pg_prefilter.specs.declared.strings.NextString.{NextString}
use Rattle.pg_prefilter.specs.declared.strings.NextString.TheVariants.{Found, Nowhere, OnlyEmpty, Behind, GaveUp}

-- the first of two texts in a row
occurs_front : (xs s t : List ℕ) (i : ℕ) → OccursAt xs (s ++ t) i → OccursAt xs s i
occurs_front xs s t i o =
    let long = length-append s t in
    record {
      fits = omega (arith, o.fits, long);
      reads = λ j less. o.reads j (omega (arith, less, long)) ∙ get_or_append_left s t 0 j less;
    }

-- the second
occurs_rest : (xs s t : List ℕ) (i : ℕ) → OccursAt xs (s ++ t) i → OccursAt xs t (i + length s)
occurs_rest xs s t i o =
    let long = length-append s t in
    record {
      fits = omega (arith, o.fits, long);
      reads = λ j less.
          let at : i + length s + j ≡ i + (length s + j) = omega arith in
          ap (λ k. get_or xs k 0) at ∙ o.reads (length s + j) (omega (arith, less, long)) ∙ get_or-append-add s t j 0;
    }

-- both
occurs_both : (xs s t : List ℕ) (i : ℕ) → OccursAt xs s i → OccursAt xs t (i + length s) → OccursAt xs (s ++ t) i
occurs_both xs s t i one two =
    let long = length-append s t in
    record {
      fits = omega (arith, two.fits, long);
      reads = λ j less. elim (cases_lt j (length s)) [
        | inl front ↦ one.reads j front ∙ sym (get_or_append_left s t 0 j front)
        | inr behind ↦
            let k : length s + (j - length s) ≡ j = omega (arith, behind) in
            let at : i + length s + (j - length s) ≡ i + j = omega (arith, behind) in
            ap (λ n. get_or xs n 0) (sym at) ∙ two.reads (j - length s) (omega (arith, less, long, behind))
            ∙ sym (get_or-append-add s t (j - length s) 0) ∙ ap (λ n. get_or (s ++ t) n 0) k
      ];
    }

module _ (fold : Bool) (line : List ℕ) where
  abbrev searched : List ℕ
  searched = as_searched fold line

  -- a text as it is searched for stands there
  abbrev Stands : List ℕ → ℕ → ℕ → Type 0
  Stands text i j = OccursAt searched text i × (i + length text ≡ j)

  -- one byte
  byte_stands : (set : ℕ → Bool) (b i j : ℕ) → IsAlone fold set (byte_as_searched fold b) → j ≤ length line
      → Match (Set set) line i j → Stands (as_searched fold (b ∷ [])) i j
  byte_stands set b i j alone within m =
      let is = searched_byte fold line i m.0 m.1 ∙ ap Some ((alone.1 m.0).0 m.2) in
      let none = occurs_nothing searched (i + 1) (omega (arith, within, m.3, length_searched fold line)) in
      let o = occurs_more searched [] (byte_as_searched fold b) i is none in
      let P : List ℕ → Type 0 = λ t. OccursAt searched t i × (i + length t ≡ j) in
      subst P (sym (searched_one fold b)) (o, omega (arith, m.3))

  byte_matched : (set : ℕ → Bool) (b i j : ℕ) → IsAlone fold set (byte_as_searched fold b)
      → Stands (as_searched fold (b ∷ [])) i j → Match (Set set) line i j
  byte_matched set b i j alone stands =
      let P : List ℕ → Type 0 = λ t. OccursAt searched t i × (i + length t ≡ j) in
      let o = subst P (searched_one fold b) stands in
      let byte = byte_of_searched fold line i (byte_as_searched fold b)
      (occurs_first searched [] (byte_as_searched fold b) i o.0) in
      (byte.0, byte.1, (alone.1 byte.0).1 byte.2, omega (arith, o.1))

  -- a text that is a row of bytes
  literal_stands : {text : List ℕ} {p : Pattern} → Literal fold text p → (i j : ℕ) → j ≤ length line
      → Match p line i j → Stands (as_searched fold text) i j
  literal_stands (G.first b) i j within m = byte_stands _ b i j (folded_alone fold b) within m
  literal_stands (G.more {text = t} l b) i j within m =
      let k = m.0 in
      let two = byte_stands _ b k j (folded_alone fold b) within m.2 in
      let one = literal_stands l i k (omega (arith, m.2.3, within)) m.1 in
      let T = as_searched fold t in
      let B = as_searched fold (b ∷ []) in
      let P : List ℕ → Type 0 = λ t. OccursAt searched t i × (i + length t ≡ j) in
      let O : ℕ → Type 0 = λ n. OccursAt searched B n in
      let at : k ≡ i + length T = omega (arith, one.1) in
      subst P (sym (searched_append fold t (b ∷ [])))
      (occurs_both searched T B i one.0 (subst O at two.0), omega (arith, length-append T B, one.1, two.1))

  literal_matched : {text : List ℕ} {p : Pattern} → Literal fold text p → (i j : ℕ)
      → Stands (as_searched fold text) i j → Match p line i j
  literal_matched (G.first b) i j stands = byte_matched _ b i j (folded_alone fold b) stands
  literal_matched (G.more {text = t} l b) i j stands =
      let T = as_searched fold t in
      let B = as_searched fold (b ∷ []) in
      let P : List ℕ → Type 0 = λ t. OccursAt searched t i × (i + length t ≡ j) in
      let both = subst P (searched_append fold t (b ∷ [])) stands in
      let k = i + length T in (
        k,
        literal_matched l i k (occurs_front searched T B i both.0, refl),
        byte_matched _ b k j (folded_alone fold b)
            (occurs_rest searched T B i both.0, omega (arith, length-append T B, both.1)),
      )

  -- a fixed string
  pub fixed_stands : {text : List ℕ} {p : Pattern} → Spells Fixed fold text p → (i j : ℕ) → j ≤ length line
      → Match p line i j → Stands (as_searched fold text) i j
  fixed_stands G.nothing i j within m =
      let P : List ℕ → Type 0 = λ t. OccursAt searched t i × (i + length t ≡ j) in
      subst P (sym (searched_nothing fold))
      (occurs_nothing searched i (omega (arith, within, m, length_searched fold line)), omega (arith, m))
  fixed_stands (G.some small l) i j within m = literal_stands l i j within m

  pub fixed_matched : {text : List ℕ} {p : Pattern} → Spells Fixed fold text p → (i j : ℕ)
      → Stands (as_searched fold text) i j → Match p line i j
  fixed_matched G.nothing i j stands =
      let P : List ℕ → Type 0 = λ t. OccursAt searched t i × (i + length t ≡ j) in
      let none = subst P (searched_nothing fold) stands in
      omega (arith, none.1)
  fixed_matched (G.some small l) i j stands = literal_matched l i j stands

  -- the string of a pattern that matches
  pub matched_stands : (texts : List (List ℕ)) (trees : List Pattern) → AllZip (Spells Fixed fold) texts trees
      → (i j k : ℕ) (p : Pattern) → j ≤ length line → k < length trees → get_or trees k p ≡ p → Match p line i j
      → AnyOf (λ s. OccursAt searched s i × (i + length s ≡ j)) (map (as_searched fold) texts)
  matched_stands [] [] h i j k p within less is m = absurd (omega (arith, less))
  matched_stands [] (t ∷ trees) h i j k p within less is m = absurd h
  matched_stands (t ∷ texts) [] h i j k p within less is m = absurd h
  matched_stands (t ∷ texts) (q ∷ trees) h i j zero p within less is m =
      let own = subst (λ r. Match r line i j) (sym is) m in
      (0, as_searched fold t, omega arith, refl, fixed_stands h.0 i j within own)
  matched_stands (t ∷ texts) (q ∷ trees) h i j (suc k) p within less is m =
      let later = matched_stands texts trees h.1 i j k p within (omega (arith, less)) is m in
      (suc later.0, later.1, omega (arith, later.2), later.3, later.4)

  -- the pattern of a string that stands
  pub stands_matched : (texts : List (List ℕ)) (trees : List Pattern) → AllZip (Spells Fixed fold) texts trees
      → (i j k : ℕ) (s : List ℕ) → k < length (map (as_searched fold) texts)
      → get_or (map (as_searched fold) texts) k s ≡ s → OccursAt searched s i × (i + length s ≡ j)
      → Matched trees line i j
  stands_matched [] [] h i j k s less is o = absurd (omega (arith, less))
  stands_matched [] (t ∷ trees) h i j k s less is o = absurd h
  stands_matched (t ∷ texts) [] h i j k s less is o = absurd h
  stands_matched (t ∷ texts) (q ∷ trees) h i j zero s less is o =
      let P : List ℕ → Type 0 = λ t. OccursAt searched t i × (i + length t ≡ j) in
      (q, (0, omega arith, refl), fixed_matched h.0 i j (subst P (sym is) o))
  stands_matched (t ∷ texts) (q ∷ trees) h i j (suc k) s less is o =
      let later = stands_matched texts trees h.1 i j k s (omega (arith, less)) is o in
      (later.0, (suc later.1.0, omega (arith, later.1.1), later.1.2), later.2)

-- patterns that spell what they do as fixed strings spell these
pub fixed_are : (text : SearchText) → AreFixed text
    → AreStrings text (map (as_searched text.fold) (patterns text.lists))
fixed_are text fixed = record { fixed = patterns text.lists; spelled = fixed; each = refl }

-- fixed strings that spell some trees, one each
zip_of_all : (fold : Bool) (trees : List Pattern) → All (IsOfString fold) trees
    → (fixed : List (List ℕ)) × AllZip (Spells Fixed fold) fixed trees
zip_of_all fold [] each = ([], tt)
zip_of_all fold (t ∷ trees) each =
    let own = each 0 t (omega arith) in
    let rest = zip_of_all fold trees (λ k d less. each (suc k) d (omega (arith, less))) in
    (own.0 ∷ rest.0, (own.1, rest.1))

-- so are the patterns whose trees they spell
pub strings_are : (text : SearchText) (trees : List Pattern) (texts : List (List ℕ)) → AreTreesOf text trees
    → All (IsOfString text.fold) trees
    → ((fixed : List (List ℕ)) → AllZip (Spells Fixed text.fold) fixed trees
    → texts ≡ map (as_searched text.fold) fixed)
    → AreStrings text texts
strings_are text trees texts spelled each exact =
    let all = zip_of_all text.fold trees each in
    record {
      fixed = all.0;
      spelled = λ trees' spelled'.
          subst (AllZip (Spells Fixed text.fold) all.0) (same_trees text trees trees' spelled spelled') all.1;
      each = exact all.0 all.1;
    }

-- a letter's case makes no word of it
word_byte : (b : ℕ) → is_word_byte (byte_as_searched true b) ≡ is_word_byte b
word_byte b = grind (arith, nat_tests)

word_searched : (fold : Bool) (line : List ℕ) (k : ℕ)
    → is_word_byte (get_or (as_searched fold line) k 0) ≡ is_word_byte (get_or line k 0)
word_searched false line k = refl
word_searched true [] k = refl
word_searched true (b ∷ line) zero = word_byte b
word_searched true (b ∷ line) (suc k) = word_searched true line k

-- a match may begin at the same places in the line as it is searched
begins_searched : (bounds : Bounds) (fold : Bool) (line : List ℕ) (i : ℕ) → MayBegin bounds line i
    → MayBegin bounds (as_searched fold line) i
begins_searched Any fold line i h = tt
begins_searched Word fold line i (inl start) = inl start
begins_searched Word fold line i (inr free) = inr (word_searched fold line (i - 1) ∙ free)
begins_searched Whole fold line i h = h

begins_line : (bounds : Bounds) (fold : Bool) (line : List ℕ) (i : ℕ) → MayBegin bounds (as_searched fold line) i
    → MayBegin bounds line i
begins_line Any fold line i h = tt
begins_line Word fold line i (inl start) = inl start
begins_line Word fold line i (inr free) = inr (sym (word_searched fold line (i - 1)) ∙ free)
begins_line Whole fold line i h = h

-- and end
ends_searched : (bounds : Bounds) (fold : Bool) (line : List ℕ) (j : ℕ) → MayEnd bounds line j
    → MayEnd bounds (as_searched fold line) j
ends_searched Any fold line j h = tt
ends_searched Word fold line j (inl stop) = inl (stop ∙ sym (length_searched fold line))
ends_searched Word fold line j (inr free) = inr (word_searched fold line j ∙ free)
ends_searched Whole fold line j h = h ∙ sym (length_searched fold line)

ends_line : (bounds : Bounds) (fold : Bool) (line : List ℕ) (j : ℕ) → MayEnd bounds (as_searched fold line) j
    → MayEnd bounds line j
ends_line Any fold line j h = tt
ends_line Word fold line j (inl stop) = inl (stop ∙ length_searched fold line)
ends_line Word fold line j (inr free) = inr (sym (word_searched fold line j) ∙ free)
ends_line Whole fold line j h = h ∙ length_searched fold line

module _ (text : SearchText) (strings : List (List ℕ)) (are : AreStrings text strings) (trees : List Pattern)
    (spelled : AreTreesOf text trees) (bounds : Bounds) (line : List ℕ) where
  abbrev folded_line : List ℕ
  folded_line = as_searched text.fold line

  own : AllZip (Spells Fixed text.fold) are.fixed trees
  own = are.spelled trees spelled

  -- a hit is one of a string
  pub hit_stands : (i j : ℕ) → Hit trees bounds line i j → IsStringHit strings bounds folded_line i j
  hit_stands i j hit =
      let m = hit.matched in
      let P : List (List ℕ) → Type 0 = λ ss. AnyOf (λ s. OccursAt folded_line s i × (i + length s ≡ j)) ss in
      record {
        begins = begins_searched bounds text.fold line i hit.begins;
        ends = ends_searched bounds text.fold line j hit.ends;
        stands = subst P (sym are.each)
            (matched_stands text.fold line are.fixed trees own i j m.1.0 m.0 hit.within m.1.1 m.1.2 m.2);
      }

  -- and the other way round
  pub stands_hit : (i j : ℕ) → IsStringHit strings bounds folded_line i j → Hit trees bounds line i j
  stands_hit i j hit =
      let P : List (List ℕ) → Type 0 = λ ss. AnyOf (λ s. OccursAt folded_line s i × (i + length s ≡ j)) ss in
      let any = subst P are.each hit.stands in
      let fits = any.4.0.fits in
      record {
        ordered = omega (arith, any.4.1);
        within = omega (arith, any.4.1, fits, length_searched text.fold line);
        begins = begins_line bounds text.fold line i hit.begins;
        ends = ends_line bounds text.fold line j hit.ends;
        matched =
            stands_matched text.fold line are.fixed trees own i j any.0 any.1 any.2 any.3 any.4;
      }

  -- the next string is the next part
  pub next_is_part : (place i j : ℕ) → IsNextString strings bounds folded_line place i j
      → IsNext trees bounds line place i j
  next_is_part place i j next = record {
    later = next.later;
    some = next.some;
    hit = stands_hit i j next.hit;
    first = λ i' j' low before some hit. next.first i' j' low before (hit_stands i' j' hit);
    longest = λ j' hit. next.longest j' (hit_stands i j' hit);
  }

  -- without a string there is no hit
  pub none_is_hit : (place : ℕ) → HasNoString strings bounds folded_line place → (i j : ℕ) → place ≤ i
      → Hit trees bounds line i j → ⊥
  none_is_hit place none i j low hit = none i j low (hit_stands i j hit)

  -- what is found of strings is found of the patterns
  pub found_part : (place : ℕ) (found : NextString) → FindsString strings bounds folded_line place found
      → FindsPart trees bounds line place found
  found_part place (Found span) next = next_is_part place span.start span.end next
  found_part place Nowhere none = none_is_hit place none
  found_part place (Behind next) behind = (
    behind.0,
    omega (arith, behind.1, length_searched text.fold line),
    λ i j low hit. behind.2 i j low (hit_stands i j hit),
  )
  found_part place OnlyEmpty none = λ i j low some hit. none i j low some (hit_stands i j hit)
  found_part place GaveUp none = tt
