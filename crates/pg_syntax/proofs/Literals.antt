-- A fixed string spells the bytes one after the other, and nothing else.
use Rattle.std.proofs.Common.{ℕ, ◌≡◌, ◌≢◌, ◌<◌, ◌≤◌, ◌+◌, Bool, List, [], ◌∷◌, ◌++◌, length, take, get_or, refl, sym}
use Rattle.std.proofs.Common.{ap, ◌∙◌, subst, arith}
use Rattle.std.proofs.lemmas.List.{take_more}
use Rattle.pg_bytes.specs.Sets.{Bytes, one}
use Rattle.pg_pattern.specs.Patterns.{Pattern, Empty, Set, Cat, folded}
use Rattle.pg_grammar.specs.Grammar as G
use Rattle.pg_grammar.specs.Grammar.{Literal, Spells}
use Rattle.pg_grammar.specs.Results.{IsSpelled}
use Rattle.pg_grammar.specs.declared.pattern_list.Kind.TheVariants.{Fixed}
use Rattle.pg_syntax.proofs.Proper.{spelled_proper}

module _ (fold : Bool) where
  byte : ℕ → Pattern
  byte b = Set (folded fold (one b))

  -- the pattern of the bytes, behind one that was made before
  chain : Pattern → List ℕ → Pattern
  chain p [] = p
  chain p (b ∷ t) = chain (Cat p (byte b)) t

  chain-append : (p : Pattern) (t : List ℕ) (b : ℕ) → chain p (t ++ b ∷ []) ≡ Cat (chain p t) (byte b)
  unfolding chain
  chain-append p [] b = refl
  chain-append p (c ∷ t) b = chain-append (Cat p (byte c)) t b

  whole : List ℕ → Pattern
  whole [] = Empty
  whole (b ∷ t) = chain (byte b) t

  whole-append : (t : List ℕ) (b : ℕ) → t ≢ [] → whole (t ++ b ∷ []) ≡ Cat (whole t) (byte b)
  unfolding whole
  whole-append [] b n = absurd (n refl)
  whole-append (c ∷ t) b n = chain-append (byte c) t b

  append-some : (t : List ℕ) (b : ℕ) → t ++ b ∷ [] ≢ []
  append-some [] b = λ e. cc
  append-some (c ∷ t) b = λ e. cc

  literal-some : {text : List ℕ} {p : Pattern} → Literal fold text p → text ≢ []
  literal-some (G.first b) = λ e. cc
  literal-some (G.more {text = t} h b) = append-some t b

  literal-whole : {text : List ℕ} {p : Pattern} → Literal fold text p → p ≡ whole text
  unfolding byte chain whole
  literal-whole (G.first b) = refl
  literal-whole (G.more {text = t} h b) = ap (λ q. Cat q (byte b)) (literal-whole h)
      ∙ sym (whole-append t b (literal-some h))

  same-literal : (text : List ℕ) (p q : Pattern) → Literal fold text p → Spells Fixed fold text q → q ≡ p
  same-literal text p q h G.nothing = absurd (literal-some h refl)
  same-literal text p q h (G.some l e) = literal-whole e ∙ sym (literal-whole h)

  pub literal_spelled : (text : List ℕ) (p : Pattern) → length text ≤ 4096 → Literal fold text p
      → IsSpelled Fixed fold text p
  literal_spelled text p l h =
      let spells : Spells Fixed fold text p = G.some l h in
      record { spells = spells; only = λ q s. same-literal text p q h s; proper = spelled_proper spells }

  pub empty_spelled : (text : List ℕ) → text ≡ [] → IsSpelled Fixed fold text Empty
  empty_spelled text e = subst (λ t. IsSpelled Fixed fold t Empty) (sym e)
      (record { spells = G.nothing; only = λ q s. only q s; proper = tt })
    where
      only : (q : Pattern) → Spells Fixed fold [] q → q ≡ Empty
      only q G.nothing = refl
      only q (G.some l h) = absurd (literal-some h refl)

  -- the first byte
  pub literal_first : (text : List ℕ) (p : Pattern) (s t : Bytes) → 0 < length text → p ≡ Set s → s ≡ folded fold t
      → t ≡ one (get_or text 0 0) → Literal fold (take 1 text) p
  literal_first [] p s t h e f k = absurd (omega arith)
  literal_first (b ∷ text) p s t h e f k =
      subst (Literal fold (b ∷ [])) (sym (e ∙ ap Set (f ∙ ap (folded fold) k))) (G.first b)

  -- one more byte
  pub literal_more : (text : List ℕ) (at : ℕ) (p q r : Pattern) (s t : Bytes) → at < length text → r ≡ Cat p q
      → q ≡ Set s → s ≡ folded fold t → t ≡ one (get_or text at 0) → Literal fold (take at text) p
      → Literal fold (take (at + 1) text) r
  literal_more text at p q r s t h e f k m l =
      subst (λ u. Literal fold u r) (sym (take_more text at 0 h))
      (subst (Literal fold (take at text ++ get_or text at 0 ∷ []))
      (sym (e ∙ ap (Cat p) (f ∙ ap Set (k ∙ ap (folded fold) m)))) (G.more l (get_or text at 0)))
