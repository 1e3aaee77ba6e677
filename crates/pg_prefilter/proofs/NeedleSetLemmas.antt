-- Where one of many literals stands.
use Rattle.std.proofs.Common.{◌≡◌, ◌<◌, ◌≤◌, ◌+◌, ◌-◌, ℕ, zero, suc, Bool, IsTrue, inl, inr, Vec, Option, None, Some}
use Rattle.std.proofs.Common.{List, [], ◌∷◌, ◌++◌, true, length, map, take, drop, refl, sym, ap, ◌∙◌, subst, arith}
use Rattle.std.proofs.Common.{length-drop, slice_range}
use Rattle.std.specs.Option.{IfSome}
use Rattle.std.specs.List.{All, Any as AnyOf, Contains}
use Rattle.std.proofs.lemmas.Bool.{cases_lt}
use Rattle.std.proofs.lemmas.List.{drop-drop, length-map, get_or-map}
use Rattle.std.proofs.lemmas.List.Elements.{All-append, All-contains, All-map, All-weaker}
use Rattle.std.proofs.lemmas.List.Elements.{Contains-append_cases, Contains-append_left, Contains-append_right}
use Rattle.memchr.specs.Find.{OccursAt, Nowhere, NoneBefore as IsFirstOf}
use Rattle.pg_literal.specs.Literals.{as_searched, Holds}
use Rattle.pg_literal.specs.Rows.{byte_as_searched}
use Rattle.pg_literal.proofs.FoldLemmas.{length_searched}
use Rattle.pg_strings.specs.Sets.{SomeStands}
use Rattle.pg_blocks.specs.Lines.{lines, IsLine}
use Rattle.pg_selection.specs.Search.{SearchText, terminator_of}
use Rattle.pg_prefilter.specs.Strings.{AreStrings, IsSetOf}
use Rattle.pg_pattern.specs.Strings.{items_of}
use Rattle.pg_strings.specs.Outcomes.{strings_of}
use Rattle.pg_literal.specs.declared.literal.Literal.{Literal}
use Rattle.pg_prefilter.specs.declared.literal_set.LiteralSet.{LiteralSet}
use Rattle.pg_blocks.specs.declared.span.Span.{Span}
use Rattle.pg_prefilter.specs.Enough.{IsOneEnough, strings_if_some}
use Rattle.pg_prefilter.specs.Literals.{LiteralData, flagged, set_literals, data_of, IsEnough, AreLiterals}
use Rattle.pg_prefilter.specs.declared.candidate.Candidate.{Candidate}
use Rattle.pg_prefilter.specs.Candidates.{AreWithout, IsFirstWith, IsLineAround}
use Rattle.pg_prefilter.proofs.NeedleLemmas.{cut_searched, searched_length, whole_place, part_place}
use Rattle.pg_prefilter.proofs.LineLemmas.{NoneBefore, line_among, nowhere_lines, without_each, first_found}
use Rattle.pg_literal.proofs.RowLemmas.{any-map, any-unmap}

-- the string is the text of a literal that is enough
abbrev IsOneData : List LiteralData → List ℕ → Type 0
IsOneData literals s = AnyOf (λ l. IsTrue l.is_enough × (l.text ≡ s)) literals

-- literals with one flag, which is that of each of them where it is set
flag_are : (text : SearchText) (literals : List LiteralData) (strings : List (List ℕ)) (enough : Bool)
    → AreLiterals text literals → strings ≡ map (λ l. l.text) literals
    → (IsTrue enough → All (λ l. IsTrue l.is_enough) literals) → AreLiterals text (map (flagged enough) strings)
flag_are text literals strings enough are same all =
    let Text : LiteralData → List ℕ = λ l. l.text in
    subst (λ ss. AreLiterals text (map (flagged enough) ss)) (sym same) (record {
      lines = All-map (λ l. IsLine (terminator_of text) l.text) (flagged enough) (map Text literals)
          (All-map (λ s. IsLine (terminator_of text) s) Text literals are.lines);
      needed = λ some trees spelled line hit.
          let held = are.needed (omega (
            arith,
            some,
            length-map (map Text literals)
                (flagged enough),
            length-map literals Text,
          ))
          trees spelled line hit in
          any-map (λ l. Holds text.fold line l.text) (flagged enough) (map Text literals)
          (any-map (λ s. Holds text.fold line s) Text literals held);
      enough = All-map (IsEnough text) (flagged enough) (map Text literals)
          (All-map (λ s. IsEnough text (flagged enough s)) Text literals
          (λ k d low yes. are.enough k d low (all yes k d low)));
    })

-- more literals, which are enough
with_enough : (text : SearchText) (literals : List LiteralData) (more : List (List ℕ)) → AreLiterals text literals
    → 0 < length literals → All (IsLine (terminator_of text)) more → All (λ s. IsEnough text (flagged true s)) more
    → AreLiterals text (literals ++ map (flagged true) more)
with_enough text literals more are some lines enough = record {
  lines = All-append (λ l. IsLine (terminator_of text) l.text) literals (map (flagged true) more) are.lines
      (All-map (λ l. IsLine (terminator_of text) l.text) (flagged true) more lines);
  needed = λ _ trees spelled line hit.
      let held = are.needed some trees spelled line hit in
      let among = Contains-append_left literals (map (flagged true) more) held.1 (held.0, held.2, held.3) in
      (among.0, held.1, among.1, among.2, held.4);
  enough = All-append (IsEnough text) literals (map (flagged true) more) are.enough
      (All-map (IsEnough text) (flagged true) more enough);
}

-- the literals of a set
pub set_are : (text : SearchText) (literals : List LiteralData) (strings more : List (List ℕ)) (enough : Bool)
    → 0 < length strings → AreLiterals text literals → strings ≡ map (λ l. l.text) literals
    → (IsTrue enough → All (λ l. IsTrue l.is_enough) literals) → All (IsOneData literals) more
    → AreLiterals text (map (flagged enough) strings ++ map (flagged true) more)
set_are text literals strings more enough some are same all each =
    with_enough text (map (flagged enough) strings) more (flag_are text literals strings enough are same all)
    (omega (arith, some, length-map strings (flagged enough)))
    (λ k d low.
    let one = each k d low in
    subst (IsLine (terminator_of text)) one.4.1 (own (λ l. IsLine (terminator_of text) l.text) one are.lines))
    (λ k d low yes trees spelled line held.
    let one = each k d low in
    own (IsEnough text) one are.enough one.4.0 trees spelled line
    (subst (Holds text.fold line) (sym one.4.1) held))
  where
    own : {s : List ℕ} (P : LiteralData → Type 0) (one : IsOneData literals s) → All P literals → P one.1
    own P one all = subst P one.3 (all one.0 one.1 one.2)

-- a literal of a set is a string of it
string_of : (enough : Bool) (strings more : List (List ℕ)) → All (Contains strings) more → (l : LiteralData)
    → Contains (map (flagged enough) strings ++ map (flagged true) more) l → Contains strings l.text
string_of enough strings more each l among = elim (Contains-append_cases (map (flagged enough) strings)
    (map (flagged true) more) l among) [
      | inl one ↦
          let h = any-unmap (λ m. m ≡ l) (flagged enough) strings (one.0, l, one.1, one.2, refl) in
          subst (Contains strings) (ap (λ (m : LiteralData). m.text) h.4) (h.0, h.2, h.3)
      | inr one ↦
          let h = any-unmap (λ m. m ≡ l) (flagged true) more (one.0, l, one.1, one.2, refl) in
          let own = subst (Contains strings) h.3 (each h.0 h.1 h.2) in
          subst (Contains strings) (ap (λ (m : LiteralData). m.text) h.4) own
    ]

-- and the other way round
to_literal : (flag : Bool) (strings : List (List ℕ)) (s : List ℕ) → Contains strings s
    → Contains (map (flagged flag) strings) (flagged flag s)
to_literal flag strings s among = (
  among.0,
  omega (arith, among.1, length-map strings (flagged flag)),
  get_or-map (flagged flag) strings among.0 s (flagged flag s) among.1 ∙ ap (flagged flag) among.2,
)

module _ (fold : Bool) (bytes searched : List ℕ) (at : ℕ) (strings more : List (List ℕ)) (enough : Bool)
    (each : All (Contains strings) more) (is : searched ≡ as_searched fold bytes) (within : at < length bytes) where
  abbrev literals : List LiteralData
  literals = map (flagged enough) strings ++ map (flagged true) more

  -- a literal stands nowhere up to a place where no string does
  none_up_to : (stop : ℕ) → Nowhere (SomeStands strings searched) at stop
      → NoneBefore fold literals (drop at bytes) (stop - at)
  none_up_to stop none l among k from to o =
      let s = string_of enough strings more each l among in
      let here = whole_place fold bytes searched at is (omega (arith, within)) l.text k o in
      none (at + k) (omega arith) (omega (arith, to)) (s.0, l.text, s.1, s.2, here)

  -- where no string stands, no line holds a literal
  pub nowhere_behind : (end : ℕ) → Nowhere (SomeStands strings searched) at (length searched)
      → AreWithout fold end literals (drop at bytes)
  nowhere_behind end none =
      without_each fold literals (lines end (drop at bytes)) (λ l among.
      nowhere_lines fold end l.text (drop at bytes) (λ k o.
      let before = none_up_to (length searched) none l among in
      let size = length_searched fold (drop at bytes) in
      let whole = searched_length fold bytes searched is in
      let long = length-drop at bytes in
      let low : k < length searched - at = elim (cases_lt k (length searched - at)) [
        | inl less ↦ less
        | inr more ↦ absurd (before 0 (omega arith) (omega (arith, whole, within)) (record {
          fits = omega (arith, o.fits, size, whole, long, more);
          reads = λ j less. absurd (omega (arith, less, o.fits, size, whole, long, more));
        }))
      ] in
      before k (omega arith) low o))

  -- the line around the first place at which a string stands
  pub line_of_first : (end place : ℕ) (found : Candidate) → byte_as_searched fold end ≡ end
      → All (λ l. IsLine end l.text) literals → IsFirstOf (SomeStands strings searched) at (length searched) place
      → SomeStands strings searched place → enough ≡ found.is_enough
      → IsLineAround end at (drop at bytes) (place - at) found.line
      → IsFirstWith fold end literals at (drop at bytes) found × (found.line.start < found.line.end)
      × (found.line.end ≤ length bytes)
  line_of_first end place found plain alone first stands flag h =
      let s = stands.1 in
      let low = first.low in
      let from : place ≡ at + (place - at) = omega arith in
      let here = subst (OccursAt searched s) from stands.4 in
      let o = part_place fold bytes searched at is (omega (arith, within)) s (place - at) here in
      let in_set = Contains-append_left (map (flagged enough) strings) (map (flagged true) more) (flagged enough s)
      (to_literal enough strings s (stands.0, stands.2, stands.3)) in
      let line = All-contains (λ l. IsLine end l.text) literals (flagged enough s) alone in_set in
      let long = length-drop at bytes in
      let all = first_found fold end literals (flagged enough s) (drop at bytes) at (place - at) found plain line in_set
      flag o (none_up_to place first.before) (omega (arith, long, within)) h in
      (all.0, all.1, omega (arith, all.2, long, within))

take_again : (n : ℕ) (xs : List ℕ) → take (length (take n xs)) xs ≡ take n xs
take_again zero xs = refl
take_again (suc n) [] = refl
take_again (suc n) (x ∷ xs) = ap (λ l. x ∷ l) (take_again n xs)

-- A string that stands in the line that was found, as it is searched, is held by it.
pub held_by_line : (fold : Bool) (end : ℕ) (all : List LiteralData) (more : List (List ℕ)) (at : ℕ)
    (bytes searched : List ℕ) (found : Candidate) → searched ≡ as_searched fold bytes
    → (first : IsFirstWith fold end all at (drop at bytes) found) → found.line.start ≤ length bytes
    → ((text : List ℕ) → lines end (slice_range bytes found.line.start found.line.end) ≡ text ∷ []
    → AnyOf (λ s. (place : ℕ) × OccursAt (slice_range searched found.line.start (found.line.start + length text)) s
    place) more)
    → AnyOf (Holds fold (take (first.e - first.s) (drop first.s (drop at bytes)))) more
held_by_line fold end all more at bytes searched found is first within stands =
    let line = take (first.e - first.s) (drop first.s (drop at bytes)) in
    let any = stands line (line_among end at bytes first.s first.e first.stop found.line first.is first.starts
    first.ends) in
    let from : line ≡ take (first.e - first.s) (drop found.line.start bytes) =
    ap (take (first.e - first.s)) (drop-drop first.s at bytes ∙ ap (λ n. drop n bytes) (sym first.starts)) in
    let here = cut_searched fold bytes searched found.line.start line is within (from
    ∙ (sym (take_again (first.e - first.s) (drop found.line.start bytes))
    ∙ ap (λ l. take (length l) (drop found.line.start bytes)) (sym from))) in
    (any.0, any.1, any.2, any.3, (any.4.0, subst (λ xs. OccursAt xs any.1 any.4.0) here any.4.1))

-- A first line that holds a literal that is enough may be told so.
pub first_with_enough : (fold : Bool) (end : ℕ) (strings more : List (List ℕ)) (enough : Bool) (at : ℕ)
    (bytes : List ℕ) (found told : Candidate) → told.line ≡ found.line → told.is_enough ≡ true
    → (first : IsFirstWith fold end (map (flagged enough) strings ++ map (flagged true) more) at bytes found)
    → AnyOf (Holds fold (take (first.e - first.s) (drop first.s bytes))) more
    → IsFirstWith fold end (map (flagged enough) strings ++ map (flagged true) more) at bytes told
first_with_enough fold end strings more enough at bytes found told same flag first held =
    let line = take (first.e - first.s) (drop first.s bytes) in
    let one = Contains-append_right (map (flagged enough) strings) (map (flagged true) more) (flagged true held.1)
    (to_literal true more held.1 (held.0, held.2, held.3)) in
    record {
      s = first.s;
      e = first.e;
      stop = first.stop;
      is = first.is;
      front = first.front;
      without = first.without;
      holds = (one.0, flagged true held.1, one.1, one.2, (sym flag, held.4));
      starts = ap (λ (l : Span). l.start) same ∙ first.starts;
      ends = ap (λ (l : Span). l.end) same ∙ first.ends;
    }

-- what holds of the elements seen holds of what is seen of them
pub all_unmap : {X Y : Type 0} (P : Y → Type 0) (f : X → Y) (xs : List X) → All P (map f xs) → All (λ x. P (f x)) xs
all_unmap P f xs all k d low =
    subst P (get_or-map f xs k d (f d) low) (all k (f d) (omega (arith, low, length-map xs f)))

-- copies of texts are as long as the texts
pub copies_some : {A : Type 0} (copies : List (Vec ℕ A)) (literals : List (Literal A))
    → map items_of copies ≡ map (λ literal. literal.text.items) literals
    → All (λ literal. 1 ≤ length literal.text.items) literals → All (λ copy. 1 ≤ length copy.items) copies
copies_some {A} copies literals same some =
    let Some : List ℕ → Type 0 = λ s. 1 ≤ length s in
    let Text : Literal A → List ℕ = λ l. l.text.items in
    all_unmap Some items_of copies (subst (λ ss. All Some ss) (sym same) (All-map Some Text literals some))

-- the set of a query's literals
pub prepared_are : {A : Type 0} (text : SearchText) (literals : List (Literal A)) (set : Option (LiteralSet A))
    → AreLiterals text (map data_of literals)
    → IfSome set (λ set. strings_of set.strings ≡ map (λ literal. literal.text.items) literals)
    → IfSome set (λ set. IsTrue set.is_enough → All (λ literal. IsTrue literal.is_enough) literals)
    → IfSome set (λ set. All (IsOneEnough literals) (strings_if_some set.enough))
    → IfSome set (λ set. AreLiterals text (set_literals set))
prepared_are text found None are same all some = tt
prepared_are {A} text found (Some set) are same all some =
    set_are text (map data_of found) (strings_of set.strings) (strings_if_some set.enough) set.is_enough set.some are
    (same ∙ sym (map-map found)) (λ yes. All-map (λ l. IsTrue l.is_enough) data_of found (all yes))
    (All-weaker (IsOneEnough found) (IsOneData (map data_of found)) own (strings_if_some set.enough) some)
  where
    own : (s : List ℕ) → IsOneEnough found s → IsOneData (map data_of found) s
    own s one = any-map (λ l. IsTrue l.is_enough × (l.text ≡ s)) data_of found one

    map-map : (ls : List (Literal A)) → map (λ l. l.text) (map data_of ls) ≡ map (λ l. l.text.items) ls
    map-map [] = refl
    map-map (l ∷ ls) = ap (λ ss. l.text.items ∷ ss) (map-map ls)

-- what holds anyway
pub if_some : {X : Type 0} (P : Type 0) (o : Option X) → P → IfSome o (λ _. P)
if_some P None p = tt
if_some P (Some x) p = p

-- the set of fixed strings has what the patterns spell
pub set_is : {A : Type 0} (text : SearchText) (literals : List (Literal A)) (set : Option (LiteralSet A))
    (is_fixed : Bool)
    → (IsTrue is_fixed → 0 < length literals → AreStrings text (map (λ literal. literal.text.items) literals))
    → IfSome set (λ set. strings_of set.strings ≡ map (λ literal. literal.text.items) literals)
    → IfSome set (λ set. set.is_fixed ≡ is_fixed) → IfSome set (λ set. AreLiterals text (set_literals set))
    → IfSome set (IsSetOf text)
set_is text literals None is_fixed fixed same flag are = tt
set_is {A} text literals (Some set) is_fixed fixed same flag are = (
  are,
  λ told.
      let some = set.some in
      let size = ap length same ∙ length-map literals (λ (l : Literal A). l.text.items) in
      subst (AreStrings text) (sym same) (fixed (sym flag ∙ told) (omega (arith, some, size))),
)
