-- What reading a token at an offset gives, and what a token does.
use Rattle.std.specs.Prelude.{ℕ, ◌≡◌, ◌≤◌, ◌<◌, ◌⊎◌, List, length, drop, Option, Some, None, Result, Ok, Err}
use Rattle.pg_bytes.specs.Sets.{Bytes}
use Rattle.pg_bytes.specs.ByteSets.{bytes}
use Rattle.pg_bytes.specs.declared.byte_set.ByteSet.{ByteSet}
use Rattle.pg_pattern.specs.Patterns as P
use Rattle.pg_syntax.specs.Machine as M
use Rattle.pg_grammar.specs.Grammar.{closing}
use Rattle.pg_grammar.specs.Places.{BytesStand, PlaceInToken}
use Rattle.pg_syntax.specs.BracketPlaces.{BracketPlace}
use Rattle.pg_grammar.specs.Results.{out_of_memory}
use Rattle.pg_grammar.specs.declared.syntax.Syntax.{Syntax}
use Rattle.pg_grammar.specs.declared.syntax.Syntax.TheVariants as S
use Rattle.pg_syntax.specs.declared.token.Token.{Token}
use Rattle.pg_syntax.specs.declared.token.Token.TheVariants.{Set, Begin, LastEnd, End, Repeat, Open, Close, Bar}
use Rattle.pg_grammar.specs.declared.fault.SyntaxFault.{SyntaxFault}
use Rattle.pg_grammar.specs.declared.fault.FaultKind.{FaultKind}
use Rattle.pg_grammar.specs.declared.fault.FaultKind.TheVariants.{UnmatchedGroup, NothingToRepeat, EmptyOperand}
use Rattle.pg_grammar.specs.declared.fault.FaultKind.TheVariants.{TooDeep, OutOfMemory}

-- the token with its set as a set of numbers
abbrev pub token_of : Token → M.Token
token_of (Set s) = M.Part (P.Set (bytes s))
token_of Begin = M.Anchor P.Begin
token_of LastEnd = M.Anchor P.End
token_of End = M.Part P.End
token_of (Repeat m n) = M.Repeat m n
token_of Open = M.Open
token_of Close = M.Close
token_of Bar = M.Bar

-- what closes a group stands here in a basic expression, and closes none
abbrev pub ClosesNone : Syntax → List ℕ → ℕ → SyntaxFault → Type 0
ClosesNone syntax text at f =
    (f ≡ record { kind = UnmatchedGroup; at = at }) × (syntax ≡ S.Basic) × BytesStand text at (closing S.Basic)

-- the token that is found, and the offset after it; or a fault at its place in the token here, or at what closes no
-- group, and nothing is found
abbrev pub Finds : Syntax → List ℕ → ℕ → Result (Token × ℕ) SyntaxFault → M.NextToken → Type 0
Finds syntax text at (Ok x) found = (found ≡ Some (token_of x.0, drop x.1 text)) × (at < x.1) × (x.1 ≤ length text)
Finds syntax text at (Err f) found =
    (found ≡ None) × (ClosesNone syntax text at f ⊎ PlaceInToken syntax f.kind text at f.at)

-- the set of the bracket that is found, and the offset after it; or a fault at its place in an expression
abbrev pub FindsBracket : Syntax → List ℕ → ℕ → Result (ByteSet × ℕ) SyntaxFault → Option (Bytes × List ℕ) → Type 0
FindsBracket syntax text at (Ok x) found = (found ≡ Some (bytes x.0, drop x.1 text)) × (at < x.1) × (x.1 ≤ length text)
FindsBracket syntax text at (Err f) found = (found ≡ None) × PlaceInToken syntax f.kind text at f.at

-- The set of the bracket that begins at the first offset and whose reading goes on at the second one, and the offset
-- after it; or a fault at its place in a bracket.
abbrev pub FindsSet : List ℕ → (bracket at : ℕ) → Result (ByteSet × ℕ) SyntaxFault → Option (Bytes × List ℕ) → Type 0
FindsSet text bracket at (Ok x) found =
    (found ≡ Some (bytes x.0, drop x.1 text)) × (at < x.1) × (x.1 ≤ length text)
FindsSet text bracket at (Err f) found = (found ≡ None) × BracketPlace f.kind text bracket f.at

-- the fault of a token that can't come where it stands
abbrev pub blame : M.Token → FaultKind
blame (M.Part p) = OutOfMemory
blame (M.Anchor p) = OutOfMemory
blame (M.Repeat m n) = NothingToRepeat
blame M.Open = TooDeep
blame M.Close = EmptyOperand
blame M.Bar = EmptyOperand

-- the machine goes on with a token to another state, or memory or the machine refuses
abbrev pub Applies : {A : Type 0} → Result A SyntaxFault → M.Token → M.State → M.State → ℕ → Type 0
Applies (Ok x) k s s' at = M.after k s ≡ Some s'
Applies (Err f) k s s' at = (f ≡ out_of_memory) ⊎ ((M.after k s ≡ None) × (f ≡ record { kind = blame k; at = at }))
