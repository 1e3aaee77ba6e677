-- What the parser of pattern lists answers.
use Rattle.std.specs.Prelude.{ℕ, ◌+◌, ◌≡◌, ◌⊎◌, Bool, List, [], ◌∷◌, ◌++◌, length}
use Rattle.pg_pattern.specs.Patterns.{Pattern}
use Rattle.pg_grammar.specs.Results.{IsSpelled, IsRefused, out_of_memory}
use Rattle.pg_grammar.specs.declared.pattern_list.Kind.{Kind}
use Rattle.pg_grammar.specs.declared.fault.ListFault.{ListFault}

-- each text spells the pattern at its place
abbrev pub AreSpelled : Kind → Bool → List (List ℕ) → List Pattern → Type 0
AreSpelled kind fold [] [] = Unit {0}
AreSpelled kind fold [] (p ∷ ps) = ⊥
AreSpelled kind fold (text ∷ texts) [] = ⊥
AreSpelled kind fold (text ∷ texts) (p ∷ ps) = IsSpelled kind fold text p × AreSpelled kind fold texts ps

-- The fault is that of the first text that spells no pattern, counted from 1: those in front of it spell their
-- patterns.
pub record IsFirstRefused (kind : Kind) (fold : Bool) (texts : List (List ℕ)) (f : ListFault) : Type 0 where
  pub front : List (List ℕ)
  pub text : List ℕ
  pub rest : List (List ℕ)
  pub joins : texts ≡ front ++ text ∷ rest
  pub number : f.pattern ≡ length front + 1
  pub trees : List Pattern
  pub spelled : AreSpelled kind fold front trees
  pub refused : IsRefused kind fold text f.fault

-- a growth was refused
abbrev pub no_memory : ListFault
no_memory = record { pattern = 0; fault = out_of_memory }

-- a fault that is no refused growth is the first text's that spells nothing
abbrev pub IsListFault : Kind → Bool → List (List ℕ) → ListFault → Type 0
IsListFault kind fold texts f = (f ≡ no_memory) ⊎ IsFirstRefused kind fold texts f
