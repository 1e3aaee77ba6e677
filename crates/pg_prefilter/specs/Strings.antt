-- Queries whose patterns are all fixed strings, or spell what such strings do, or whose matches have a text near where
-- they begin or are a line's end, and where these stand in a line (XCU grep, -F; GNU grep, -w and -o).
use Rattle.std.specs.Prelude.{◌≡◌, ℕ, ◌+◌, ◌<◌, ◌≤◌, List, [], ◌∷◌, length, map, slice_range}
use Rattle.std.specs.Prelude.{Option, None, Some, IsTrue, false}
use Rattle.std.specs.Borrow.{Bor}
use Rattle.std.specs.List.{Any, AllZip}
use Rattle.memchr.specs.Find.{OccursAt}
use Rattle.pg_grammar.specs.Grammar.{Spells}
use Rattle.pg_pattern.specs.Bounds.{MayBegin, MayEnd}
use Rattle.pg_pattern.specs.Hits.{Hit, IsNext}
use Rattle.pg_pattern.specs.declared.bounds.Bounds.TheVariants as B
use Rattle.pg_literal.specs.Literals.{as_searched}
use Rattle.pg_literal.specs.Reaches.{IsReach}
use Rattle.pg_literal.specs.Rests.{IgnoresFront}
use Rattle.pg_literal.specs.Suffixes.{IsSuffix, suffix_row}
use Rattle.pg_literal.specs.declared.suffix.LineSuffix.{LineSuffix}
use Rattle.pg_strings.specs.Outcomes.{strings_of}
use Rattle.pg_strings.specs.declared.set.StringSet.{StringSet}
use Rattle.pg_selection.specs.Search.{SearchText, Pattern, Bounds, Fixed, AreTreesOf, bounds_of}
use Rattle.pg_prefilter.specs.Literals.{AreLiterals, set_literals}
use Rattle.pg_prefilter.specs.declared.literal_set.LiteralSet.{LiteralSet}
use Rattle.pg_prefilter.specs.declared.strings.BlockJudge.{BlockJudge}
use Rattle.pg_prefilter.specs.declared.strings.LineJudge.{LineJudge}
use Rattle.pg_prefilter.specs.declared.strings.LineJudge.TheVariants.{Strings, NonEmpty, Suffix, Near, Nothing}
use Rattle.pg_prefilter.specs.declared.strings.NearText.{NearText}
use Rattle.pg_prefilter.specs.declared.strings.NextString.{NextString}
use Rattle.pg_prefilter.specs.declared.strings.NextString.TheVariants.{Found, Nowhere, OnlyEmpty, Behind, GaveUp}

-- the patterns spell what these fixed strings spell; with -i they are in lower case
pub record AreStrings (text : SearchText) (strings : List (List ℕ)) : Type 0 where
  pub fixed : List (List ℕ)
  pub spelled : (trees : List Pattern) → AreTreesOf text trees → AllZip (Spells Fixed text.fold) fixed trees
  pub each : strings ≡ map (as_searched text.fold) fixed

-- those of the strings that have a byte
abbrev pub without_empty : List (List ℕ) → List (List ℕ)
without_empty [] = []
without_empty ([] ∷ strings) = without_empty strings
without_empty ((b ∷ string) ∷ strings) = (b ∷ string) ∷ without_empty strings

-- the patterns spell what some fixed strings spell, of which these have a byte; case isn't folded
pub record AreNonEmpty (text : SearchText) (strings : List (List ℕ)) : Type 0 where
  pub fold : text.fold ≡ false
  pub all : List (List ℕ)
  pub are : AreStrings text all
  pub each : strings ≡ without_empty all

-- a string stands in the line from one place up to another, and a match may begin and end there
pub record IsStringHit (strings : List (List ℕ)) (bounds : Bounds) (line : List ℕ) (i j : ℕ) : Type 0 where
  pub begins : MayBegin bounds line i
  pub ends : MayEnd bounds line j
  pub stands : Any (λ string. OccursAt line string i × (i + length string ≡ j)) strings

-- of the strings that stand so the one that starts first from a place on, and of these the longest
pub record IsNextString (strings : List (List ℕ)) (bounds : Bounds) (line : List ℕ) (place i j : ℕ) : Type 0 where
  pub later : place ≤ i
  pub some : i < j
  pub hit : IsStringHit strings bounds line i j
  pub first : (i' j' : ℕ) → place ≤ i' → i' < i → IsStringHit strings bounds line i' j' → ⊥
  pub longest : (j' : ℕ) → IsStringHit strings bounds line i j' → j' ≤ j

-- no string stands so from a place on
abbrev pub HasNoString : List (List ℕ) → Bounds → List ℕ → ℕ → Type 0
HasNoString strings bounds line place = (i j : ℕ) → place ≤ i → IsStringHit strings bounds line i j → ⊥

-- the next string of a line, or a place that none begins before, if the search wasn't given up
abbrev pub FindsString : List (List ℕ) → Bounds → List ℕ → ℕ → NextString → Type 0
FindsString strings bounds line place (Found span) = IsNextString strings bounds line place span.start span.end
FindsString strings bounds line place Nowhere = HasNoString strings bounds line place
FindsString strings bounds line place (Behind next) =
    (place ≤ next) × (next ≤ length line)
    × ((i j : ℕ) → place ≤ i → IsStringHit strings bounds line i j → (next ≤ i) × (i < j))
FindsString strings bounds line place OnlyEmpty =
    (i j : ℕ) → place ≤ i → i < j → IsStringHit strings bounds line i j → ⊥
FindsString strings bounds line place GaveUp = Unit {0}

-- the next match of some patterns from a place on; or there is none, or none with a byte; or a place that none begins
-- before, and none is empty
abbrev pub FindsPart : List Pattern → Bounds → List ℕ → ℕ → NextString → Type 0
FindsPart patterns bounds line place (Found span) = IsNext patterns bounds line place span.start span.end
FindsPart patterns bounds line place Nowhere = (i j : ℕ) → place ≤ i → Hit patterns bounds line i j → ⊥
FindsPart patterns bounds line place (Behind next) =
    (place ≤ next) × (next ≤ length line)
    × ((i j : ℕ) → place ≤ i → Hit patterns bounds line i j → (next ≤ i) × (i < j))
FindsPart patterns bounds line place OnlyEmpty = (i j : ℕ) → place ≤ i → i < j → Hit patterns bounds line i j → ⊥
FindsPart patterns bounds line place GaveUp = Unit {0}

-- what is found of all strings, where only those with a byte were looked for
abbrev pub of_all : NextString → NextString
of_all (Found span) = Found span
of_all Nowhere = OnlyEmpty
of_all OnlyEmpty = OnlyEmpty
of_all (Behind next) = GaveUp
of_all GaveUp = GaveUp

-- the literals of a set tell of the query's lines; where it says so they are what its patterns spell
abbrev pub IsSetOf : {A : Type 0} → SearchText → LiteralSet A → Type 0
IsSetOf text set =
    AreLiterals text (set_literals set) × (IsTrue set.is_fixed → AreStrings text (strings_of set.strings))

-- each hit of the search has a byte, and the text stands at most so many bytes behind where it begins; with -i in the
-- line in lower case
abbrev pub IsNear : SearchText → List ℕ → ℕ → Type 0
IsNear text near before =
    (trees : List Pattern) → AreTreesOf text trees → (line : List ℕ) (i j : ℕ) → Hit trees (bounds_of text) line i j
    → (i < j) × ((place : ℕ) × (i ≤ place) × (place ≤ i + before) × OccursAt (as_searched text.fold line) near place)

-- any match counts, each hit of the search is one by itself, and where one begins, one ends within so many bytes
abbrev pub IsTextReach : SearchText → ℕ → Type 0
IsTextReach text reach = (trees : List Pattern) → AreTreesOf text trees → (bounds_of text ≡ B.Any) × IsReach trees reach

-- the hits of the search behind a place of a line are those of the rest of the line
abbrev pub HitsIgnoreFront : SearchText → Type 0
HitsIgnoreFront text = (trees : List Pattern) → AreTreesOf text trees → IgnoresFront trees (bounds_of text)

-- the hits of the search are where the suffix stands at a line's end
abbrev pub IsSuffixOf : {A : Type 0} → SearchText → LineSuffix A → Type 0
IsSuffixOf text suffix =
    (trees : List Pattern) → AreTreesOf text trees → IsSuffix trees (bounds_of text) (suffix_row suffix)

-- the first that there is: strings, those with a byte, a suffix, a text that stands near where matches begin; or
-- nothing
abbrev pub first_judge : {A : Type 0} → Option (Bor (StringSet A)) → Option (Bor (StringSet A))
    → Option (Bor (LineSuffix A)) → Option NearText → LineJudge A
first_judge (Some set) non_empty suffix near = Strings set
first_judge None (Some set) suffix near = NonEmpty set
first_judge None None (Some suffix) near = Suffix suffix
first_judge None None None (Some near) = Near near
first_judge None None None None = Nothing

-- the strings are what the query's patterns spell, the suffix is its hits, or the text stands near where they begin
abbrev pub IsJudgeOf : {A : Type 0} → SearchText → LineJudge A → Type 0
IsJudgeOf text (Strings set) = AreStrings text (strings_of set.now)
IsJudgeOf text (NonEmpty set) = AreNonEmpty text (strings_of set.now)
IsJudgeOf text (Suffix suffix) = IsSuffixOf text suffix.now
IsJudgeOf text (Near near) = IsNear text near.finder near.before
IsJudgeOf text Nothing = Unit {0}

-- the judge looks in the bytes as they are searched, as strings and a text do; a suffix is looked for in the line
abbrev pub ReadsSearched : {A : Type 0} → LineJudge A → Type 0
ReadsSearched (Strings set) = Unit {0}
ReadsSearched (NonEmpty set) = ⊥
ReadsSearched (Suffix suffix) = ⊥
ReadsSearched (Near near) = Unit {0}
ReadsSearched Nothing = ⊥

-- what judges the query's lines, and the bytes as it needs them
pub record IsBlockJudge {A : Type 0} (text : SearchText) (bytes : List ℕ) (strings : BlockJudge A) : Type 0 where
  pub judge : IsJudgeOf text strings.judge
  pub searched : ReadsSearched strings.judge → strings.searched.now ≡ as_searched text.fold bytes

-- what judges the query's lines, and the bytes as it needs them, in which the line stands at a place
pub record JudgesLine {A : Type 0} (text : SearchText) (strings : BlockJudge A) (line : List ℕ) (at : ℕ) : Type 0
  where
    pub judge : IsJudgeOf text strings.judge
    pub searched : ReadsSearched strings.judge → (at + length line ≤ length strings.searched.now)
        × (slice_range strings.searched.now at (at + length line) ≡ as_searched text.fold line)
