-- What the parsers answer.
use Rattle.std.specs.Prelude.{ℕ, ◌≡◌, ◌<◌, ◌⊎◌, Bool, List, length}
use Rattle.pg_pattern.specs.Patterns.{Pattern, IsProper}
use Rattle.pg_grammar.specs.Grammar.{Spells}
use Rattle.pg_grammar.specs.Places.{MayStand}
use Rattle.pg_grammar.specs.declared.pattern_list.Kind.{Kind}
use Rattle.pg_grammar.specs.declared.fault.FaultKind.TheVariants.{OutOfMemory, TooLong}
use Rattle.pg_grammar.specs.declared.fault.SyntaxFault.{SyntaxFault}

-- a growth was refused
abbrev pub out_of_memory : SyntaxFault
out_of_memory = record { kind = OutOfMemory; at = 0 }

-- the text has more than 4,096 bytes
abbrev pub too_long : SyntaxFault
too_long = record { kind = TooLong; at = 4096 }

-- The text spells the pattern and no other one, and the pattern is proper.
pub record IsSpelled (kind : Kind) (fold : Bool) (text : List ℕ) (p : Pattern) : Type 0 where
  pub spells : Spells kind fold text p
  pub only : (q : Pattern) → Spells kind fold text q → q ≡ p
  pub proper : IsProper p

-- The text spells no pattern, and the fault stands at its place. A text that is too long has no other fault.
pub record IsRefused (kind : Kind) (fold : Bool) (text : List ℕ) (f : SyntaxFault) : Type 0 where
  pub none : (q : Pattern) → Spells kind fold text q → ⊥
  pub place : MayStand kind f.kind text f.at
  pub long : 4096 < length text → f ≡ too_long

-- a fault that is no refused growth is the text's
abbrev pub IsFault : Kind → Bool → List ℕ → SyntaxFault → Type 0
IsFault kind fold text f = (f ≡ out_of_memory) ⊎ IsRefused kind fold text f
