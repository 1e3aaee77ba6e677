-- A text that is read to its end, token by token.
use Rattle.std.proofs.Common.{ℕ, ◌≡◌, Bool, List, [], Option, Some, None, option_and_then, refl}
use Rattle.pg_pattern.specs.Patterns.{Pattern}
use Rattle.pg_grammar.specs.declared.syntax.Syntax.{Syntax}
use Rattle.pg_syntax.specs.Machine.{Level, State, Token, whole, after, token}

-- the state after the token at the front, and the rest of the text
abbrev pub next : Syntax → Bool → State → List ℕ → Option (State × List ℕ)
next syntax fold s t =
    option_and_then (λ (k, rest). option_and_then (λ s'. Some (s', rest)) (after k s)) (token syntax fold s t)

-- From this state on, the rest of the text makes the pattern.
pub data Completes (syntax : Syntax) (fold : Bool) : State → List ℕ → Pattern → Type 0 where
  done : {l : Level} {p : Pattern} → whole l ≡ Some p → Completes syntax fold (record { outer = []; level = l }) [] p
  step : {s s' : State} {t rest : List ℕ} {p : Pattern} → next syntax fold s t ≡ Some (s', rest)
      → Completes syntax fold s' rest p → Completes syntax fold s t p

module _ (syntax : Syntax) (fold : Bool) where
  pub next_some : (s s' : State) (t rest : List ℕ) (k : Token) → token syntax fold s t ≡ Some (k, rest)
      → after k s ≡ Some s' → next syntax fold s t ≡ Some (s', rest)
  next_some s s' t rest k e f = rw (e, f) refl

  pub next_no_state : (s : State) (t rest : List ℕ) (k : Token) → token syntax fold s t ≡ Some (k, rest)
      → after k s ≡ None → next syntax fold s t ≡ None
  next_no_state s t rest k e f = rw (e, f) refl
