-- What stands where a fault is found.
use Rattle.std.specs.Prelude.{ℕ, zero, suc, ◌≡◌, ◌≢◌, ◌≤◌, ◌<◌, Bool, true, false, List, [], ◌∷◌, ◌++◌, length, drop}
use Rattle.std.specs.Prelude.{take, ◌⊎◌, Option, None}
use Rattle.pg_pattern.specs.Patterns.{Pattern}
use Rattle.pg_grammar.specs.Grammar.{opening, closing, brace, unbrace, is_escaped, Mark, Body}
use Rattle.pg_grammar.specs.Intervals.{IsBounds}
use Rattle.pg_grammar.specs.Brackets.{Element, Single, Enclosed, Inside, IsFront, member, HaveNoRange, OpensBracket}
use Rattle.pg_grammar.specs.Brackets.{ReadsUpTo}
use Rattle.pg_grammar.specs.declared.syntax.Syntax.{Syntax}
use Rattle.pg_grammar.specs.declared.syntax.Syntax.TheVariants as S
use Rattle.pg_grammar.specs.declared.syntax.Syntax.TheVariants.{Basic, Extended}
use Rattle.pg_grammar.specs.declared.pattern_list.Kind.{Kind}
use Rattle.pg_grammar.specs.declared.pattern_list.Kind.TheVariants as K
use Rattle.pg_grammar.specs.declared.fault.FaultKind.{FaultKind}
use Rattle.pg_grammar.specs.declared.fault.FaultKind.TheVariants.{TrailingBackslash, BadEscape, BackReference}
use Rattle.pg_grammar.specs.declared.fault.FaultKind.TheVariants.{UnmatchedBracket, BadClass, BadCollating, BadRange}
use Rattle.pg_grammar.specs.declared.fault.FaultKind.TheVariants.{UnmatchedGroup, BadInterval, NothingToRepeat}
use Rattle.pg_grammar.specs.declared.fault.FaultKind.TheVariants.{EmptyOperand, TooDeep, OutOfMemory, TooLong}

-- the bytes stand in the text at this offset
abbrev pub BytesStand : List ℕ → ℕ → List ℕ → Type 0
BytesStand text at w = (rest : List ℕ) × (drop at text ≡ w ++ rest)

-- the text is longer than 4,096 bytes, and the fault stands behind the last that may be
abbrev pub IsPastLongest : List ℕ → ℕ → Type 0
IsPastLongest text at = (at ≡ 4096) × (4096 < length text)

-- a backslash makes this byte no ordinary one, and opens or closes no group and opens no interval with it
abbrev pub IsUnescaped : Syntax → ℕ → Type 0
IsUnescaped syntax b = (is_escaped syntax b ≡ false) × (92 ∷ b ∷ [] ≢ opening syntax) × (92 ∷ b ∷ [] ≢ closing syntax)
    × (92 ∷ b ∷ [] ≢ brace syntax)

-- the escape of this byte has no meaning: nor is it a digit from 1 to 9
abbrev pub HasNoMeaning : Syntax → ℕ → Type 0
HasNoMeaning syntax b = IsUnescaped syntax b × ((b < 49) ⊎ (57 < b))

-- what opens an interval stands at this offset, but no bounds with what closes it behind that
abbrev pub HasNoInterval : Syntax → List ℕ → ℕ → Type 0
HasNoInterval syntax text at = BytesStand text at (brace syntax)
    × ((t : List ℕ) (m : ℕ) (n : Option ℕ) → IsBounds t m n
    → BytesStand text at (brace syntax ++ (t ++ unbrace syntax)) → ⊥)

-- what opens a bracket stands at this offset, but no elements with the `]` that closes it behind that
pub record HasNoEnd (text : List ℕ) (at : ℕ) : Type 0 where
  pub elements : List ℕ
  pub opens : OpensBracket (drop at text) elements
  pub none : (inside rest : List ℕ) (es : List Element) → Inside true inside es → elements ≡ inside ++ rest → ⊥

-- The elements of the bracket that begins at the first offset are read up to the second one, where this is the next
-- one. Only the first one can be a `]`, which else closes the bracket.
abbrev pub StandsInBracket : List ℕ → (bracket at : ℕ) → Element → Type 0
StandsInBracket text bracket at e = (elements : List ℕ) × (first : Bool)
    × OpensBracket (drop bracket text) elements × ReadsUpTo elements first (drop at text)
    × ((first ≡ true) ⊎ (e ≢ Single 93))

-- an element that this mark encloses stands at this offset, inside a bracket, and stands for no bytes
pub record IsBadElement (mark : ℕ) (text : List ℕ) (bracket at : ℕ) : Type 0 where
  pub content : List ℕ
  pub rest : List ℕ
  pub inside : StandsInBracket text bracket at (Enclosed mark content)
  pub front : IsFront (Enclosed mark content) (drop at text) rest
  pub nothing : member (Enclosed mark content) ≡ None

-- a `-` and one more element, which is no `]`, stand at the front
pub record IsRangedOn (text : List ℕ) : Type 0 where
  pub next : Element
  pub from : List ℕ
  pub rest : List ℕ
  pub dash : text ≡ 45 ∷ from
  pub front : IsFront next from rest
  pub inner : next ≢ Single 93

-- An element, a `-` and one more element stand at this offset of a text, inside a bracket, and this follows them. The
-- second one is no `]`, which would close the bracket.
pub record HasRange (text : List ℕ) (bracket at : ℕ) (low high : Element) (rest : List ℕ) : Type 0 where
  pub inside : StandsInBracket text bracket at low
  pub from : List ℕ
  pub begins : IsFront low (drop at text) (45 ∷ from)
  pub ends : IsFront high from rest
  pub inner : high ≢ Single 93

-- at this offset of a bracket a range begins that no range can be, or behind which another one would begin
abbrev pub IsBadRange : List ℕ → (bracket at : ℕ) → Type 0
IsBadRange text bracket at = (low high : Element) × (rest : List ℕ) × HasRange text bracket at low high rest
    × (HaveNoRange low high ⊎ IsRangedOn rest)

-- what closes this many groups
abbrev pub closings : Syntax → ℕ → List ℕ
closings syntax zero = []
closings syntax (suc groups) = closing syntax ++ closings syntax groups

-- More than so many groups are open where the text ends: one more byte, an `a`, and what closes so many make it no
-- expression, but that byte and what closes more do.
pub record LeavesOpen (syntax : Syntax) (many : ℕ) (text : List ℕ) : Type 0 where
  pub fold : Bool
  pub groups : ℕ
  pub more : many < groups
  pub pattern : Pattern
  pub closed : Body syntax fold (text ++ 97 ∷ closings syntax groups) pattern 0
  pub needed : (p : Pattern) → Body syntax fold (text ++ 97 ∷ closings syntax many) p 0 → ⊥

-- the last alternative is empty where the text ends: one more byte, an `a`, makes it an expression
pub record LeavesEmpty (syntax : Syntax) (text : List ℕ) : Type 0 where
  pub fold : Bool
  pub pattern : Pattern
  pub filled : Body syntax fold (text ++ 97 ∷ []) pattern 0

-- one more byte, an `a`, and what closes its open groups, make the front of a text an expression
pub record CanGoOn (syntax : Syntax) (front : List ℕ) : Type 0 where
  pub fold : Bool
  pub groups : ℕ
  pub pattern : Pattern
  pub closed : Body syntax fold (front ++ 97 ∷ closings syntax groups) pattern 0

-- No expression goes on behind the front of a text and a token: one more byte, an `a`, and what closes any number of
-- groups, make none.
pub record CannotGoOn (syntax : Syntax) (front token : List ℕ) : Type 0 where
  pub fold : Bool
  pub none : (groups : ℕ) (p : Pattern) → Body syntax fold (front ++ (token ++ 97 ∷ closings syntax groups)) p 0 → ⊥

-- these bytes stand in the text at this offset, and no expression goes on behind them
abbrev pub IsMisplaced : Syntax → List ℕ → ℕ → List ℕ → Type 0
IsMisplaced syntax text at w = BytesStand text at w × CannotGoOn syntax (take at text) w

-- What stands where an expression has a fault of this kind, in the token that begins at the first offset: a backslash
-- at the end, before a byte whose escape has no meaning, or before a digit from 1 to 9; a `[` that begins no bracket;
-- in a bracket, an element that stands for no bytes, or a range that can't be; what opens an interval, but begins none;
-- what opens a group where more than 99 are open; what closes a group, what repeats, or a bar, behind which no
-- expression goes on; or the end of a text that leaves a group open, or its last alternative empty. No text is at fault
-- for want of memory.
abbrev pub PlaceInToken : Syntax → FaultKind → List ℕ → (token at : ℕ) → Type 0
PlaceInToken syntax TrailingBackslash text token at = (at ≡ token) × (drop at text ≡ 92 ∷ [])
PlaceInToken syntax BadEscape text token at =
    (at ≡ token) × (b : ℕ) × HasNoMeaning syntax b × BytesStand text at (92 ∷ b ∷ [])
PlaceInToken syntax BackReference text token at =
    (at ≡ token) × (d : ℕ) × (49 ≤ d) × (d ≤ 57) × BytesStand text at (92 ∷ d ∷ [])
PlaceInToken syntax UnmatchedBracket text token at = (at ≡ token) × HasNoEnd text at
PlaceInToken syntax BadClass text token at = IsBadElement 58 text token at
PlaceInToken syntax BadCollating text token at = IsBadElement 61 text token at ⊎ IsBadElement 46 text token at
PlaceInToken syntax BadRange text token at = IsBadRange text token at
PlaceInToken syntax UnmatchedGroup text token at = (at ≡ token)
    × (((syntax ≡ Basic) × IsMisplaced Basic text at (closing Basic)) ⊎ ((at ≡ length text) × LeavesOpen syntax 0 text))
PlaceInToken syntax BadInterval text token at = (at ≡ token) × HasNoInterval syntax text at
PlaceInToken syntax NothingToRepeat text token at = (at ≡ token)
    × (mark : List ℕ) × (m : ℕ) × (n : Option ℕ) × Mark syntax mark m n × IsMisplaced syntax text at mark
PlaceInToken syntax EmptyOperand text token at = (at ≡ token)
    × (IsMisplaced syntax text at (closing syntax)
    ⊎ (((syntax ≡ Extended) × IsMisplaced syntax text at (124 ∷ [])) ⊎ ((at ≡ length text) × LeavesEmpty syntax text)))
PlaceInToken syntax TooDeep text token at =
    (at ≡ token) × BytesStand text at (opening syntax) × LeavesOpen syntax 99 (take at text)
PlaceInToken syntax OutOfMemory text token at = ⊥
PlaceInToken syntax TooLong text token at = IsPastLongest text at

-- A fault of this kind can stand at this offset of a text: its token, or the text's end, stands behind a front that
-- can go on.
abbrev pub PlaceIn : Syntax → FaultKind → List ℕ → ℕ → Type 0
PlaceIn syntax kind text at =
    (token : ℕ) × CanGoOn syntax (take token text) × PlaceInToken syntax kind text token at

-- A fault of this kind can stand at this offset of a text. A fixed string can only be too long.
abbrev pub MayStand : Kind → FaultKind → List ℕ → ℕ → Type 0
MayStand K.Basic kind text at = PlaceIn S.Basic kind text at
MayStand K.Extended kind text at = PlaceIn S.Extended kind text at
MayStand K.Fixed kind text at = (kind ≡ TooLong) × IsPastLongest text at
