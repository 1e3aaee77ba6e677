-- Which lines hold a literal, or a row.
use Rattle.std.specs.Prelude.{◌≡◌, ◌≢◌, ◌<◌, ◌≤◌, Bool, ℕ, ◌+◌, ◌-◌, ◌⊎◌, List, [], ◌∷◌, ◌++◌, length, take, drop, map}
use Rattle.std.specs.Prelude.{Option, IfSome, None, Some, IsSomeAnd, IsTrue}
use Rattle.std.specs.List.{AllByRecursion, All, Any}
use Rattle.memchr.specs.Find.{OccursAt}
use Rattle.pg_literal.specs.Literals.{Holds, as_searched}
use Rattle.pg_blocks.specs.Lines.{lines, AreWhole, IsClear, Stops}
use Rattle.pg_blocks.specs.declared.span.Span.{Span}
use Rattle.pg_literal.specs.declared.row_finder.RowFinder.{RowFinder}
use Rattle.pg_selection.specs.Search.{SearchText, terminator_of}
use Rattle.pg_prefilter.specs.Literals.{LiteralData, HoldsOne, HoldsRow, AreLiterals, IsRowOf}
use Rattle.pg_prefilter.specs.Literals.{finder_row, set_literals}
use Rattle.pg_prefilter.specs.declared.needle.Needle.{Needle}
use Rattle.pg_prefilter.specs.declared.needle.NeedleList.{NeedleList}
use Rattle.pg_prefilter.specs.declared.needle_set.NeedleSet.{NeedleSet}
use Rattle.pg_prefilter.specs.declared.candidate.NextLine.{NextLine}
use Rattle.pg_prefilter.specs.declared.candidate.NextLine.TheVariants.{Found, Nowhere, GaveUp}
use Rattle.pg_prefilter.specs.declared.literal_needles.LiteralNeedles.{LiteralNeedles}
use Rattle.pg_prefilter.specs.declared.literal_needles.LiteralNeedles.TheVariants.{Few, Many}
use Rattle.pg_prefilter.specs.declared.needles.Needles.{Needles}
use Rattle.pg_prefilter.specs.declared.needles.Needles.TheVariants.{Literals, Row, GivenUp, TooSlow}
use Rattle.pg_prefilter.specs.declared.needle.Place.{Place}
use Rattle.pg_prefilter.specs.declared.candidate.Candidate.{Candidate}

-- A line of the bytes: its text from s up to e, and the next line at `stop`.
pub record IsLineAt (end : ℕ) (bytes : List ℕ) (s e stop : ℕ) : Type 0 where
  pub text : List ℕ
  pub later : List ℕ
  pub joins : bytes ≡ (take s bytes ++ text) ++ later
  pub one : lines end text ≡ take (e - s) (drop s bytes) ∷ []
  pub front : length (take s bytes) ≡ s
  pub len : s + length text ≡ stop
  pub some : text ≢ []
  pub whole : (AreWhole end text × (later ≡ drop stop bytes)) ⊎ ((later ≡ []) × (stop ≡ length bytes))

-- The line that a place is in, of bytes that stand from `at` on: it starts at s, its text ends at e, and the next line
-- starts at `stop`.
pub record IsLineAround (end at : ℕ) (bytes : List ℕ) (place : ℕ) (line : Span) : Type 0 where
  pub s : ℕ
  pub e : ℕ
  pub stop : ℕ
  pub low : s ≤ place
  pub high : place ≤ e
  pub front : AreWhole end (take s bytes)
  pub clear : IsClear end bytes s e
  pub stops : Stops end bytes e stop
  pub starts : line.start ≡ at + s
  pub ends : line.end ≡ at + stop

-- no line of the bytes holds a literal
abbrev pub AreWithout : Bool → ℕ → List LiteralData → List ℕ → Type 0
AreWithout fold end literals bytes = AllByRecursion (λ line. HoldsOne fold literals line → ⊥) (lines end bytes)

-- The first line that holds a literal, in bytes that stand from a place on: before it are whole lines without one. The
-- flag is that of a literal which it holds.
pub record IsFirstWith (fold : Bool) (end : ℕ) (literals : List LiteralData) (at : ℕ) (bytes : List ℕ)
    (found : Candidate) : Type 0 where
  pub s : ℕ
  pub e : ℕ
  pub stop : ℕ
  pub is : IsLineAt end bytes s e stop
  pub front : AreWhole end (take s bytes)
  pub without : AreWithout fold end literals (take s bytes)
  pub holds : Any (λ literal. (literal.is_enough ≡ found.is_enough)
      × Holds fold (take (e - s) (drop s bytes)) literal.text) literals
  pub starts : found.line.start ≡ at + s
  pub ends : found.line.end ≡ at + stop

-- no line of the bytes holds the row
abbrev pub AreWithoutRow : ℕ → List (ℕ → Bool) → List ℕ → Type 0
AreWithoutRow end row bytes = AllByRecursion (λ line. HoldsRow row line → ⊥) (lines end bytes)

-- The first line that holds a finder's row, in bytes that stand from a place on: before it are whole lines without it.
-- The flag is the finder's.
pub record IsFirstWithRow {A : Type 0} (end : ℕ) (finder : RowFinder A) (at : ℕ) (bytes : List ℕ)
    (found : Candidate) : Type 0 where
  pub s : ℕ
  pub e : ℕ
  pub stop : ℕ
  pub is : IsLineAt end bytes s e stop
  pub front : AreWhole end (take s bytes)
  pub without : AreWithoutRow end (finder_row finder) (take s bytes)
  pub holds : HoldsRow (finder_row finder) (take (e - s) (drop s bytes))
  pub enough : found.is_enough ≡ finder.is_enough
  pub starts : found.line.start ≡ at + s
  pub ends : found.line.end ≡ at + stop

-- the literal of a needle
abbrev pub literal_of : Needle → LiteralData
literal_of needle = record { text = needle.finder; is_enough = needle.is_enough }

-- from a place on the needle stands nowhere before where it says, and there if it was looked for
pub record IsAhead (searched : List ℕ) (at : ℕ) (needle : Needle) : Type 0 where
  pub stands : IsTrue needle.is_sought → IfSome needle.next (OccursAt searched needle.finder)
  pub first : (k : ℕ) → at ≤ k → OccursAt searched needle.finder k → IsSomeAnd needle.next (λ place. place ≤ k)

-- the needle stands where it says, and that is behind a place
abbrev pub IsFoundBehind : List ℕ → ℕ → Needle → Type 0
IsFoundBehind searched at needle =
    IfSome needle.next (λ place. (at ≤ place) × OccursAt searched needle.finder place)

-- the needle stands at the place
abbrev pub NeedleAt : Place → Needle → Type 0
NeedleAt place needle = (needle.next ≡ Some place.at) × (needle.is_enough ≡ place.is_enough)

-- the place, if there is one, isn't behind that of the needle
abbrev pub IsBefore : Option Place → Needle → Type 0
IsBefore place needle = IfSome needle.next (λ next. IsSomeAnd place (λ place. place.at ≤ next))

-- literals of the search, the bytes as they are searched for in them, and where they stand from a place on
pub record IsNeedleList {A : Type 0} (text : SearchText) (bytes : List ℕ) (at : ℕ) (list : NeedleList A) : Type 0 where
  pub literals : AreLiterals text (map literal_of list.needles.items)
  pub searched : 0 < length list.needles.items → list.searched.now ≡ as_searched text.fold bytes
  pub ahead : All (IsAhead list.searched.now at) list.needles.items

-- many literals of the search, and the bytes as they are searched for in them
pub record IsNeedleSet {A : Type 0} (text : SearchText) (bytes : List ℕ) (set : NeedleSet A) : Type 0 where
  pub literals : AreLiterals text (set_literals set.literals.now)
  pub searched : set.searched.now ≡ as_searched text.fold bytes

-- few literals of the search, or many, the bytes as they are searched for in them, and where few of them stand from a
-- place on
abbrev pub AreLiteralNeedles : {A : Type 0} → SearchText → List ℕ → ℕ → LiteralNeedles A → Type 0
AreLiteralNeedles text bytes at (Few list) = IsNeedleList text bytes at list
AreLiteralNeedles text bytes at (Many set) = IsNeedleSet text bytes set

-- Needles are of the search: literals, or a row and the literals that may take its place. Nothing is said where they
-- were given up or are too slow.
abbrev pub AreNeedles : {A : Type 0} → SearchText → List ℕ → ℕ → Needles A → Type 0
AreNeedles text bytes at (Literals needles) = AreLiteralNeedles text bytes at needles
AreNeedles text bytes at (Row row) =
    IsRowOf text row.finder.now × IfSome row.literals (AreLiteralNeedles text bytes 0)
AreNeedles text bytes at GivenUp = Unit {0}
AreNeedles text bytes at TooSlow = Unit {0}

-- the literals that needles are of
abbrev pub literals_of : {A : Type 0} → LiteralNeedles A → List LiteralData
literals_of (Few list) = map literal_of list.needles.items
literals_of (Many set) = set_literals set.literals.now

-- something is looked for: they aren't given up, and there is a literal
abbrev pub AreSome : {A : Type 0} → Needles A → Type 0
AreSome (Literals needles) = 0 < length (literals_of needles)
AreSome (Row row) = Unit {0}
AreSome GivenUp = ⊥
AreSome TooSlow = ⊥

-- the first line that holds a literal, in bytes from a place on, if there is one and the search wasn't given up
abbrev pub IsNextWith : Bool → ℕ → List LiteralData → ℕ → List ℕ → NextLine → Type 0
IsNextWith fold end literals at bytes (Found found) =
    (at ≤ found.line.start) × (found.line.start < found.line.end) × (found.line.end ≤ length bytes)
    × IsFirstWith fold end literals at (drop at bytes) found
IsNextWith fold end literals at bytes Nowhere = AreWithout fold end literals (drop at bytes)
IsNextWith fold end literals at bytes GaveUp = Unit {0}

-- The first line that holds a finder's row, in bytes from a place on, if there is one and the search wasn't given up.
abbrev pub IsNextWithRow : {A : Type 0} → ℕ → RowFinder A → ℕ → List ℕ → NextLine → Type 0
IsNextWithRow end finder at bytes (Found found) =
    (at ≤ found.line.start) × (found.line.start < found.line.end) × (found.line.end ≤ length bytes)
    × IsFirstWithRow end finder at (drop at bytes) found
IsNextWithRow end finder at bytes Nowhere = AreWithoutRow end (finder_row finder) (drop at bytes)
IsNextWithRow end finder at bytes GaveUp = Unit {0}

-- the literals that are looked for
abbrev pub literals_sought : {A : Type 0} → Needles A → List LiteralData
literals_sought (Literals needles) = literals_of needles
literals_sought (Row row) = []
literals_sought GivenUp = []
literals_sought TooSlow = []

-- the literals of needles, if there are such needles
abbrev pub literals_if_some : {A : Type 0} → Option (LiteralNeedles A) → List LiteralData
literals_if_some None = []
literals_if_some (Some needles) = literals_of needles

-- the literals that may take the place of the row that needles are
abbrev pub literals_behind : {A : Type 0} → Needles A → List LiteralData
literals_behind (Literals needles) = []
literals_behind (Row row) = literals_if_some row.literals
literals_behind GivenUp = []
literals_behind TooSlow = []

-- the finder whose row they are, if they are one
abbrev pub row_sought : {A : Type 0} → Needles A → Option (RowFinder A)
row_sought (Literals needles) = None
row_sought (Row row) = Some row.finder.now
row_sought GivenUp = None
row_sought TooSlow = None

-- the first line that holds one of the literals, or the row, that needles are of; none is looked for where they were
-- given up
abbrev pub IsNextSought : {A : Type 0} → SearchText → Needles A → ℕ → List ℕ → NextLine → Type 0
IsNextSought text (Literals needles) at bytes next =
    IsNextWith text.fold (terminator_of text) (literals_of needles) at bytes next
IsNextSought text (Row row) at bytes next = IsNextWithRow (terminator_of text) row.finder.now at bytes next
IsNextSought text GivenUp at bytes next = next ≡ GaveUp
IsNextSought text TooSlow at bytes next = next ≡ GaveUp
