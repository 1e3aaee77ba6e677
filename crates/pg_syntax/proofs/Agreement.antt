-- What is spelled is what is read, and a text spells one pattern.
use Rattle.std.proofs.Common.{ℕ, ◌≡◌, ◌≢◌, ◌≤◌, Bool, List, [], length, Option, Some, None, refl, sym, ap, ◌∙◌, subst}
use Rattle.pg_pattern.specs.Patterns.{Pattern}
use Rattle.pg_grammar.specs.Grammar as G
use Rattle.pg_grammar.specs.Grammar.{Body, Expression, Spells}
use Rattle.pg_syntax.specs.Expressions.{kind_of}
use Rattle.pg_grammar.specs.declared.syntax.Syntax.TheVariants as S
use Rattle.pg_syntax.specs.Machine.{State, start, whole}
use Rattle.pg_syntax.proofs.Reading.{next, Completes, done, step}
use Rattle.pg_grammar.specs.declared.syntax.Syntax.{Syntax}
use Rattle.pg_syntax.proofs.Complete.{complete}
use Rattle.pg_syntax.proofs.Sound.{sound, after_rest}

-- what an expression of a syntax is
pub body_of : (syntax : Syntax) (fold : Bool) (text : List ℕ) (p : Pattern) → Expression (kind_of syntax) fold text p
    → Body syntax fold text p 0
body_of S.Basic fold text p e = e
body_of S.Extended fold text p e = e

pub of_body : (syntax : Syntax) (fold : Bool) (text : List ℕ) (p : Pattern) → Body syntax fold text p 0
    → Expression (kind_of syntax) fold text p
of_body S.Basic fold text p b = b
of_body S.Extended fold text p b = b

abbrev state_or : State → Option (State × List ℕ) → State
state_or s None = s
state_or s (Some x) = x.0

module _ (syntax : Syntax) (fold : Bool) where
  -- after a step the same patterns are left
  pub stepped : (s s' : State) (t rest : List ℕ) (p : Pattern) → next syntax fold s t ≡ Some (s', rest)
      → Completes syntax fold s t p → Completes syntax fold s' rest p
  stepped s s' t rest p e (done w) = cc
  stepped s s' t rest p e (step {s' = s2} f c) =
      let g = sym f ∙ e in
      subst (λ x. Completes syntax fold x rest p) (ap (state_or s) g)
      (subst (λ x. Completes syntax fold s2 x p) (ap (after_rest t) g) c)

  pub stuck : (s : State) (t : List ℕ) (p : Pattern) → next syntax fold s t ≡ None → t ≢ []
      → Completes syntax fold s t p → ⊥
  stuck s t p e n (done w) = n refl
  stuck s t p e n (step f c) = cc

  pub ended : (s : State) (p q : Pattern) → s.outer ≡ [] → whole s.level ≡ Some q → Completes syntax fold s [] p → p ≡ q
  ended s p q o w (done v) = cc
  ended s p q o w (step f c) = cc

  pub spelled : {text : List ℕ} {p : Pattern} → Spells (kind_of syntax) fold text p → text ≢ []
      → Completes syntax fold start text p
  spelled G.nothing n = absurd (n refl)
  spelled (G.some {text = text} {p = p} h e) n = complete syntax fold text p (body_of syntax fold text p e)

  pub expressed : (text : List ℕ) (p : Pattern) → Completes syntax fold start text p → Body syntax fold text p 0
  expressed text p c = sound syntax fold c [] ([], [], refl, refl, ([], [], refl, refl, refl))

  pub read : (text : List ℕ) (p : Pattern) → length text ≤ 4096 → Completes syntax fold start text p
      → Spells (kind_of syntax) fold text p
  read text p l c = G.some l (of_body syntax fold text p (expressed text p c))
