-- Patterns without special bytes, for `is_plain`, and for those who compile them.
use Rattle.std.proofs.Common.{ℕ, ◌≡◌, ◌≢◌, ◌+◌, Bool, true, false, not, List, [], ◌∷◌, ◌++◌, length, refl, sym, ap, ◌∙◌}
use Rattle.std.proofs.Common.{subst, arith, IsTrue, length-append}
use Rattle.std.proofs.lemmas.Bool.{false≢true}
use Rattle.std.proofs.lemmas.Bool.Decides.{nat_tests}
use Rattle.std.proofs.lemmas.List.{get_or_append_left}
use Rattle.std.proofs.Math.Seq.{get_or-append_seam}
use Rattle.pg_pattern.specs.Patterns.{Pattern, Set, folded}
use Rattle.pg_bytes.specs.Sets.{one}
use Rattle.pg_grammar.specs.Grammar as G
use Rattle.pg_grammar.specs.Grammar.{◌∈◌, IsOrdinary, Literal, Piece, Seq, Spells}
use Rattle.pg_grammar.specs.declared.syntax.Syntax.{Syntax}
use Rattle.pg_grammar.specs.declared.syntax.Syntax.TheVariants as S
use Rattle.pg_grammar.specs.declared.pattern_list.Kind.{Kind}
use Rattle.pg_grammar.specs.declared.pattern_list.Kind.TheVariants.{Basic, Extended, Fixed}
use Rattle.pg_grammar.specs.Results.{IsSpelled}
use Rattle.pg_syntax.specs.Expressions.{kind_of}
use Rattle.pg_syntax.specs.Machine.{State}
use Rattle.pg_syntax.specs.Plain.{special_of, IsPlain}
use Rattle.pg_syntax.proofs.Reading.{Completes, done, step}
use Rattle.pg_syntax.proofs.Agreement.{ended, of_body, spelled, stepped}
use Rattle.pg_syntax.proofs.TokenLoop.{nothing_else}

-- a byte that isn't special stands for itself, wherever it stands outside of groups
ordinary : (syntax : Syntax) (before after : List ℕ) (b : ℕ) → IsTrue (not (b ∈ special_of (kind_of syntax)))
    → IsOrdinary syntax 0 before b after
ordinary S.Basic before after b plain =
    let P : ℕ → Type 0 = λ c. IsTrue (not (c ∈ special_of Basic)) in (
      grind (arith, nat_tests, plain),
      λ is. absurd (false≢true (subst P is plain)),
      λ is. absurd (false≢true (subst P is plain)),
      λ is. absurd (false≢true (subst P is plain)),
    )
ordinary S.Extended before after b plain =
    let P : ℕ → Type 0 = λ c. IsTrue (not (c ∈ special_of Extended)) in
    (grind (arith, nat_tests, plain), λ is. absurd (false≢true (subst P is plain)))

-- the last byte of a plain text, and those before it
plain_last : (kind : Kind) (text : List ℕ) (b : ℕ) → IsPlain kind (text ++ b ∷ []) → IsTrue (not (b ∈ special_of kind))
plain_last kind text b plain =
    subst (λ c. IsTrue (not (c ∈ special_of kind))) (get_or-append_seam text b [] 0)
    (plain (length text) 0 (omega (arith, length-append text (b ∷ []))))

plain_front : (kind : Kind) (text : List ℕ) (b : ℕ) → IsPlain kind (text ++ b ∷ []) → IsPlain kind text
plain_front kind text b plain = λ k d less.
    subst (λ c. IsTrue (not (c ∈ special_of kind))) (get_or_append_left text (b ∷ []) d k less)
    (plain k d (omega (arith, less, length-append text (b ∷ []))))

module _ (syntax : Syntax) (fold : Bool) where
  piece : (before after : List ℕ) (b : ℕ) → IsTrue (not (b ∈ special_of (kind_of syntax)))
      → Piece syntax fold before (b ∷ []) after (Set (folded fold (one b))) 0
  piece before after b plain = G.item (G.atom (G.byte (ordinary syntax before after b plain)))

  -- the bytes of a literal, one behind the other
  pieces : {text : List ℕ} {p : Pattern} → Literal fold text p → IsPlain (kind_of syntax) text → (after : List ℕ)
      → Seq syntax fold text after p 0
  pieces (G.first b) plain after = G.first (piece [] after b (plain 0 0 (omega arith)))
  pieces (G.more {text} l b) plain after =
      G.more (pieces l (plain_front (kind_of syntax) text b plain) (b ∷ after))
      (piece text after b (plain_last (kind_of syntax) text b plain))

  -- from one state the rest of a text makes one pattern
  completes_one : {s : State} {t : List ℕ} {p q : Pattern} → Completes syntax fold s t p → Completes syntax fold s t q
      → q ≡ p
  completes_one {q = q} (done {p = p} w) other = ended syntax fold _ q p refl w other
  completes_one {q = q} (step e c) other = completes_one c (stepped syntax fold _ _ _ _ q e other)

  -- so a text spells one
  spells_one : {text : List ℕ} {p q : Pattern} → Spells (kind_of syntax) fold text p
      → Spells (kind_of syntax) fold text q → q ≡ p
  spells_one {text = []} {p = p} {q = q} one other =
      nothing_else syntax fold [] q other refl ∙ sym (nothing_else syntax fold [] p one refl)
  spells_one {text = b ∷ text} one other =
      let some : b ∷ text ≢ [] = λ none. omega (arith, ap length none) in
      completes_one (spelled syntax fold one some) (spelled syntax fold other some)

  -- what a plain text spells as a fixed string
  spelled_plain : {text : List ℕ} {p : Pattern} → IsPlain (kind_of syntax) text → Spells Fixed fold text p
      → Spells (kind_of syntax) fold text p
  spelled_plain plain G.nothing = G.nothing
  spelled_plain plain (G.some {text} {p} short l) =
      G.some short (of_body syntax fold text p (G.single (pieces l plain [])))

  syntax_plain : {text : List ℕ} {p : Pattern} → IsPlain (kind_of syntax) text → IsSpelled Fixed fold text p
      → IsSpelled (kind_of syntax) fold text p
  syntax_plain plain is = record {
    spells = spelled_plain plain is.spells;
    only = λ q other. spells_one (spelled_plain plain is.spells) other;
    proper = is.proper;
  }

-- a plain text spells what it does as a fixed string
pub plain_spelled : (kind : Kind) (fold : Bool) (text : List ℕ) (p : Pattern) → IsPlain kind text
    → IsSpelled Fixed fold text p → IsSpelled kind fold text p
plain_spelled Basic fold text p plain is = syntax_plain S.Basic fold plain is
plain_spelled Extended fold text p plain is = syntax_plain S.Extended fold plain is
plain_spelled Fixed fold text p plain is = is
