-- What stands where the parts of a bracket are read.
use Rattle.std.specs.Prelude.{ℕ, ◌≡◌, ◌≢◌, ◌≤◌, ◌<◌, List, ◌∷◌, length, drop, Option, Some, None, ◌⊎◌}
use Rattle.pg_grammar.specs.Places.{StandsInBracket, HasNoEnd, IsBadElement, HasRange, IsBadRange}
use Rattle.pg_grammar.specs.Brackets as B
use Rattle.pg_syntax.specs.BracketViews.{element}
use Rattle.pg_syntax.specs.declared.element.Element.{Element}
use Rattle.pg_syntax.specs.declared.bracket.Mode.{Mode}
use Rattle.pg_syntax.specs.declared.bracket.Mode.TheVariants.{Fresh, Held, Dashed, Ranged, Barred}
use Rattle.pg_syntax.specs.declared.bracket.Reading.{Reading}
use Rattle.pg_grammar.specs.declared.fault.SyntaxFault.{SyntaxFault}
use Rattle.pg_grammar.specs.declared.fault.FaultKind.{FaultKind}
use Rattle.pg_grammar.specs.declared.fault.FaultKind.TheVariants.{TrailingBackslash, BadEscape, BackReference}
use Rattle.pg_grammar.specs.declared.fault.FaultKind.TheVariants.{UnmatchedBracket, BadClass, BadCollating, BadRange}
use Rattle.pg_grammar.specs.declared.fault.FaultKind.TheVariants.{UnmatchedGroup, BadInterval, NothingToRepeat}
use Rattle.pg_grammar.specs.declared.fault.FaultKind.TheVariants.{EmptyOperand, TooDeep, OutOfMemory, TooLong}

-- a fault of this kind can stand at this offset, in the bracket that begins at the first one
abbrev pub BracketPlace : FaultKind → List ℕ → (bracket at : ℕ) → Type 0
BracketPlace TrailingBackslash text bracket at = ⊥
BracketPlace BadEscape text bracket at = ⊥
BracketPlace BackReference text bracket at = ⊥
BracketPlace UnmatchedBracket text bracket at = (at ≡ bracket) × HasNoEnd text at
BracketPlace BadClass text bracket at = IsBadElement 58 text bracket at
BracketPlace BadCollating text bracket at = IsBadElement 61 text bracket at ⊎ IsBadElement 46 text bracket at
BracketPlace BadRange text bracket at = IsBadRange text bracket at
BracketPlace UnmatchedGroup text bracket at = ⊥
BracketPlace BadInterval text bracket at = ⊥
BracketPlace NothingToRepeat text bracket at = ⊥
BracketPlace EmptyOperand text bracket at = ⊥
BracketPlace TooDeep text bracket at = ⊥
BracketPlace OutOfMemory text bracket at = ⊥
BracketPlace TooLong text bracket at = ⊥

-- the fault stands at its place in the bracket that begins at this offset
abbrev pub FaultPlace : List ℕ → ℕ → SyntaxFault → Type 0
FaultPlace text bracket f = BracketPlace f.kind text bracket f.at

-- a fault that was found stands at its place
abbrev pub FaultPlaced : List ℕ → ℕ → Option SyntaxFault → Type 0
FaultPlaced text bracket None = Unit {0}
FaultPlaced text bracket (Some f) = FaultPlace text bracket f

-- an element stands at the second offset, inside the bracket that begins at the first one, and this follows it
pub record HasElement (text : List ℕ) (bracket at : ℕ) (a : Element) (rest : List ℕ) : Type 0 where
  pub inside : StandsInBracket text bracket at (element a)
  pub front : B.IsFront (element a) (drop at text) rest

-- a range begins at this offset, and this follows it, or is another one that begins where a range ended
abbrev pub EndsRange : List ℕ → (bracket at : ℕ) → List ℕ → Type 0
EndsRange text bracket at rest =
    ((low high : B.Element) × HasRange text bracket at low high rest) ⊎ IsBadRange text bracket at

-- the element that is held, or that began the range, stands where it says, and this follows what was read
abbrev pub ModePlaced : List ℕ → ℕ → List ℕ → Mode → Type 0
ModePlaced text bracket rest Fresh = Unit {0}
ModePlaced text bracket rest (Held at a) = HasElement text bracket at a rest
ModePlaced text bracket rest (Dashed at a) = HasElement text bracket at a (45 ∷ rest)
ModePlaced text bracket rest (Ranged at) = EndsRange text bracket at rest
ModePlaced text bracket rest (Barred at) = EndsRange text bracket at (45 ∷ rest)

-- the fault of a reading, and the element that it holds, stand where it says, and this follows what was read
abbrev pub Placed : List ℕ → ℕ → List ℕ → Reading → Type 0
Placed text bracket rest r = FaultPlaced text bracket r.fault × ModePlaced text bracket rest r.mode

-- an element stands where a reading goes on; behind the first one it is no `]`
pub record ElementFollows (text : List ℕ) (bracket : ℕ) (mode : Mode) (at : ℕ) (a : Element) (rest : List ℕ) : Type 0
  where
    pub holds : HasElement text bracket at a rest
    pub inner : (mode ≡ Fresh) ⊎ (element a ≢ B.Single 93)

-- the element that is found at an offset, and the offset after it
abbrev pub FindsElement : List ℕ → ℕ → Option (Element × ℕ) → Option (B.Element × List ℕ) → Type 0
FindsElement text at None found = found ≡ None
FindsElement text at (Some x) found =
    (found ≡ Some (element x.0, drop x.1 text)) × (at < x.1) × (x.1 ≤ length text)
