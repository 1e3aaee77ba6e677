-- The strings with a byte of a query some of whose patterns are empty.
use Rattle.std.proofs.Common.{◌≡◌, ◌<◌, ◌≤◌, ◌+◌, ℕ, zero, suc, List, [], ◌∷◌, ◌++◌, length, map, take, get_or}
use Rattle.std.proofs.Common.{refl, sym, ap, ◌∙◌, subst, arith, inl, inr, Bool, true, false, ◌==◌}
use Rattle.std.specs.Borrow.{Bor}
use Rattle.std.specs.List.{All, Any as AnyOf}
use Rattle.std.proofs.lemmas.Bool.{cases_lt, eqb-true}
use Rattle.std.proofs.lemmas.Bool.Decides.{nat_tests}
use Rattle.std.proofs.lemmas.List.{append-nil, map-append, take_more}
use Rattle.memchr.specs.Find.{OccursAt}
use Rattle.pg_grammar.specs.Slices.{bytes_of}
use Rattle.pg_pattern.specs.Hits.{Hit}
use Rattle.pg_literal.specs.Literals.{as_searched}
use Rattle.pg_selection.specs.Search.{SearchText, Pattern, Bounds, AreTreesOf}
use Rattle.pg_prefilter.specs.Strings.{AreNonEmpty, IsStringHit, FindsString, FindsPart, of_all, without_empty}
use Rattle.pg_prefilter.specs.declared.strings.NextString.{NextString}
use Rattle.pg_prefilter.specs.declared.strings.NextString.TheVariants.{Found, Nowhere, OnlyEmpty, Behind, GaveUp}
use Rattle.pg_prefilter.proofs.StringLemmas.{hit_stands, stands_hit}

-- one more string
without_more : (strings : List (List ℕ)) (s : List ℕ)
    → without_empty (strings ++ s ∷ []) ≡ without_empty strings ++ without_empty (s ∷ [])
without_more [] s = refl
without_more ([] ∷ strings) s = without_more strings s
without_more ((b ∷ t) ∷ strings) s = ap (λ l. (b ∷ t) ∷ l) (without_more strings s)

without_next : (strings : List (Bor (List ℕ))) (i : ℕ) (d : Bor (List ℕ)) → i < length strings
    → without_empty (bytes_of (take (i + 1) strings))
    ≡ without_empty (bytes_of (take i strings)) ++ without_empty ((get_or strings i d).now ∷ [])
without_next strings i d less =
    ap (λ l. without_empty (bytes_of l)) (take_more strings i d less)
    ∙ (ap without_empty (map-append (λ (s : Bor (List ℕ)). s.now) (take i strings) (get_or strings i d ∷ []))
    ∙ without_more (bytes_of (take i strings)) (get_or strings i d).now)

-- which has a byte, or has none
without_one : (s : List ℕ) → 0 < length s → without_empty (s ∷ []) ≡ s ∷ []
without_one [] some = absurd (omega (arith, some))
without_one (b ∷ s) some = refl

without_none : (s : List ℕ) → length s ≡ 0 → without_empty (s ∷ []) ≡ []
without_none [] none = refl
without_none (b ∷ s) none = absurd (omega (arith, none))

-- so the copies of those before are those of all up to it
pub some_copied : (strings : List (Bor (List ℕ))) (i : ℕ) (d : Bor (List ℕ)) → i < length strings
    → (old new : List (List ℕ)) → old ≡ without_empty (bytes_of (take i strings))
    → (length (get_or strings i d).now == 0) ≡ false → new ≡ old ++ (get_or strings i d).now ∷ []
    → new ≡ without_empty (bytes_of (take (i + 1) strings))
some_copied strings i d less old new was some joins =
    let string = (get_or strings i d).now in
    let long : 0 < length string = grind (arith, nat_tests, some) in
    joins ∙ (ap (λ l. l ++ string ∷ []) was
    ∙ (ap (λ l. without_empty (bytes_of (take i strings)) ++ l) (sym (without_one string long))
    ∙ sym (without_next strings i d less)))

pub none_copied : (strings : List (Bor (List ℕ))) (i : ℕ) (d : Bor (List ℕ)) → i < length strings
    → (old : List (List ℕ)) → old ≡ without_empty (bytes_of (take i strings))
    → (length (get_or strings i d).now == 0) ≡ true → old ≡ without_empty (bytes_of (take (i + 1) strings))
none_copied strings i d less old was none =
    let string = (get_or strings i d).now in
    let before = without_empty (bytes_of (take i strings)) in
    was ∙ sym (without_next strings i d less
    ∙ (ap (λ l. before ++ l) (without_none string (eqb-true (length string) 0 none)) ∙ append-nil before))

-- without cases the strings are searched for as they are
pub own_strings : (fold : Bool) → fold ≡ false → (strings : List (List ℕ)) → map (as_searched fold) strings ≡ strings
own_strings fold own strings = ap (λ f. map (as_searched f) strings) own ∙ same strings
  where
    same : (strings : List (List ℕ)) → map (as_searched false) strings ≡ strings
    same [] = refl
    same (s ∷ strings) = ap (λ l. s ∷ l) (same strings)

-- they have a byte
pub without_some : (strings : List (List ℕ)) → All (λ s. 1 ≤ length s) (without_empty strings)
without_some [] k d less = absurd (omega (arith, less))
without_some ([] ∷ strings) k d less = without_some strings k d less
without_some ((b ∷ s) ∷ strings) zero d less = omega arith
without_some ((b ∷ s) ∷ strings) (suc k) d less = without_some strings k d (omega (arith, less))

-- no others stand where a match with a byte does
stands_below : (line : List ℕ) (i j : ℕ) (strings : List (List ℕ)) → i < j
    → AnyOf (λ s. OccursAt line s i × (i + length s ≡ j)) strings
    → AnyOf (λ s. OccursAt line s i × (i + length s ≡ j)) (without_empty strings)
stands_below line i j [] some (k, s, less, is, o) = absurd (omega (arith, less))
stands_below line i j ([] ∷ strings) some (zero, s, less, is, o) =
    absurd (omega (arith, some, o.1, ap length is))
stands_below line i j ([] ∷ strings) some (suc k, s, less, is, o) =
    stands_below line i j strings some (k, s, omega (arith, less), is, o)
stands_below line i j ((b ∷ t) ∷ strings) some (zero, s, less, is, o) = (zero, s, omega arith, is, o)
stands_below line i j ((b ∷ t) ∷ strings) some (suc k, s, less, is, o) =
    let rest = stands_below line i j strings some (k, s, omega (arith, less), is, o) in
    (suc rest.0, rest.1, omega (arith, rest.2), rest.3, rest.4)

stands_above : (line : List ℕ) (i j : ℕ) (strings : List (List ℕ))
    → AnyOf (λ s. OccursAt line s i × (i + length s ≡ j)) (without_empty strings)
    → AnyOf (λ s. OccursAt line s i × (i + length s ≡ j)) strings
stands_above line i j [] any = any
stands_above line i j ([] ∷ strings) any =
    let rest = stands_above line i j strings any in
    (suc rest.0, rest.1, omega (arith, rest.2), rest.3, rest.4)
stands_above line i j ((b ∷ t) ∷ strings) (zero, s, less, is, o) = (zero, s, omega arith, is, o)
stands_above line i j ((b ∷ t) ∷ strings) (suc k, s, less, is, o) =
    let rest = stands_above line i j strings (k, s, omega (arith, less), is, o) in
    (suc rest.0, rest.1, omega (arith, rest.2), rest.3, rest.4)

module _ (text : SearchText) (strings : List (List ℕ)) (are : AreNonEmpty text strings) (trees : List Pattern)
    (spelled : AreTreesOf text trees) (bounds : Bounds) (line : List ℕ) where
  -- where case isn't folded, the line is looked at as it is
  own_line : as_searched text.fold line ≡ line
  own_line = ap (λ fold. as_searched fold line) are.fold

  -- a hit with a byte is one of these strings
  some_stands : (i j : ℕ) → i < j → Hit trees bounds line i j → IsStringHit strings bounds line i j
  some_stands i j some hit =
      let all = subst (λ l. IsStringHit are.all bounds l i j) own_line
      (hit_stands text are.all are.are trees spelled bounds line i j hit) in
      record {
        begins = all.begins;
        ends = all.ends;
        stands = subst (AnyOf (λ s. OccursAt line s i × (i + length s ≡ j))) (sym are.each)
            (stands_below line i j are.all some all.stands);
      }

  stands_some : (i j : ℕ) → IsStringHit strings bounds line i j → Hit trees bounds line i j
  stands_some i j hit =
      stands_hit text are.all are.are trees spelled bounds line i j
      (subst (λ l. IsStringHit are.all bounds l i j) (sym own_line) (record {
        begins = hit.begins;
        ends = hit.ends;
        stands = stands_above line i j are.all
            (subst (AnyOf (λ s. OccursAt line s i × (i + length s ≡ j))) are.each hit.stands);
      }))

  none_below : (place : ℕ) → ((i j : ℕ) → place ≤ i → i < j → IsStringHit strings bounds line i j → ⊥)
      → FindsPart trees bounds line place OnlyEmpty
  none_below place none i j low some hit = none i j low some (some_stands i j some hit)

  -- what is found of these strings tells of the patterns
  pub found_of_all : (place : ℕ) (found : NextString) → FindsString strings bounds line place found
      → FindsPart trees bounds line place (of_all found)
  found_of_all place (Found span) next = record {
    later = next.later;
    some = next.some;
    hit = stands_some span.start span.end next.hit;
    first = λ i' j' low before some hit. next.first i' j' low before (some_stands i' j' some hit);
    longest = λ j' hit. elim (cases_lt span.start j') [
      | inl some ↦ next.longest j' (some_stands span.start j' some hit)
      | inr few ↦ omega (arith, few, next.some)
    ];
  }
  found_of_all place Nowhere none = none_below place (λ i j low some hit. none i j low hit)
  found_of_all place OnlyEmpty none = none_below place none
  found_of_all place (Behind next) behind = tt
  found_of_all place GaveUp none = tt
