-- Where an interval opens, and where none stands: `basic_escape`, `extended_token` and `interval`.
use Rattle.std.proofs.Common.{ℕ, ◌≡◌, List, [], ◌∷◌, ◌++◌, drop, Option, Some, None, refl, sym, ap, ◌∙◌, append_assoc}
use Rattle.pg_grammar.specs.Grammar.{brace, unbrace}
use Rattle.pg_grammar.specs.Intervals.{IsBounds}
use Rattle.pg_grammar.specs.Places.{HasNoInterval}
use Rattle.pg_grammar.specs.declared.syntax.Syntax.{Syntax}
use Rattle.pg_grammar.specs.declared.syntax.Syntax.TheVariants.{Basic, Extended}
use Rattle.pg_syntax.specs.IntervalReading.{Bounds, bounds}
use Rattle.pg_syntax.proofs.IntervalLemmas.{bounds_again}

pub opens-basic : (syntax : Syntax) (text : List ℕ) (at next byte : ℕ) (rest : List ℕ) → syntax ≡ Basic
    → drop at text ≡ 92 ∷ drop next text → drop next text ≡ byte ∷ rest → byte ≡ 123
    → drop at text ≡ brace syntax ++ rest
opens-basic syntax text at next byte rest s e f b =
    e ∙ (ap (λ t. 92 ∷ t) (f ∙ ap (λ x. x ∷ rest) b) ∙ ap (λ x. brace x ++ rest) (sym s))

pub opens-extended : (syntax : Syntax) (text : List ℕ) (at byte : ℕ) (rest : List ℕ) → syntax ≡ Extended
    → drop at text ≡ byte ∷ rest → byte ≡ 123 → drop at text ≡ brace syntax ++ rest
opens-extended syntax text at byte rest s e b = e ∙ (ap (λ x. x ∷ rest) b ∙ ap (λ x. brace x ++ rest) (sym s))

-- the bounds of an interval that stands at the front are read
pub interval_again : (syntax : Syntax) (t : List ℕ) (m : ℕ) (n : Option ℕ) (rest : List ℕ) → IsBounds t m n
    → bounds (unbrace syntax) ((t ++ unbrace syntax) ++ rest) ≡ Some (m, n, rest)
interval_again Basic t m n rest b =
    ap (bounds (unbrace Basic)) (append_assoc t (unbrace Basic) rest)
    ∙ bounds_again 92 (125 ∷ []) refl refl t m n rest b
interval_again Extended t m n rest b =
    ap (bounds (unbrace Extended)) (append_assoc t (unbrace Extended) rest)
    ∙ bounds_again 125 [] refl refl t m n rest b

behind_brace : (syntax : Syntax) (t u : List ℕ) → brace syntax ++ t ≡ brace syntax ++ u → t ≡ u
behind_brace Basic t u e = cc
behind_brace Extended t u e = cc

pub no_interval : (syntax : Syntax) (text : List ℕ) (at start : ℕ) → drop at text ≡ brace syntax ++ drop start text
    → bounds (unbrace syntax) (drop start text) ≡ None → HasNoInterval syntax text at
no_interval syntax text at start e none = (
  (drop start text, e),
  λ t m n b (rest, f).
      let inner = t ++ unbrace syntax in
      let same = behind_brace syntax (drop start text) (inner ++ rest)
      (sym e ∙ (f ∙ append_assoc (brace syntax) inner rest)) in
      differ (m, n, rest) (sym none ∙ (ap (bounds (unbrace syntax)) same ∙ interval_again syntax t m n rest b)),
)
  where
    differ : (x : ℕ × Option ℕ × List ℕ) → ◌≡◌ {A = Bounds} None (Some x) → ⊥
    differ x h = cc
