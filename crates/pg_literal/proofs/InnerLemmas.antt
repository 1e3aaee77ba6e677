-- Texts of alternations within a pattern.
use Rattle.std.proofs.Common.{ℕ, Bool, zero, suc, ◌≡◌, ◌<◌, ◌≤◌, List, [], ◌∷◌, ◌++◌, length, get_or, map, set}
use Rattle.std.proofs.Common.{Option, refl, sym, ap, ◌∙◌, subst, arith}
use Rattle.std.specs.List.{Any as AnyOf, All}
use Rattle.std.proofs.lemmas.Bool.{false≢true}
use Rattle.pg_pattern.specs.Patterns.{Pattern, Cat, Alt, Rep}
use Rattle.pg_pattern.specs.Matches.{Match, Chain}
use Rattle.pg_pattern.specs.Hits.{HasHit}
use Rattle.pg_pattern.specs.declared.bounds.Bounds.{Bounds}
use Rattle.pg_pattern.specs.declared.bounds.Bounds.TheVariants.{Any}
use Rattle.pg_literal.specs.Literals.{Holds, AreNeeded}
use Rattle.pg_literal.specs.Added.{Adds}
use Rattle.pg_literal.specs.Inner.{text_of, AreInnerTexts, IsPart, IsNeededOnly}
use Rattle.pg_literal.specs.declared.literal.Literal.{Literal}
use Rattle.pg_pattern.proofs.LengthLemmas.{chain_forward, match_forward}
use Rattle.pg_literal.proofs.KnownLemmas.{alt_unspelled, rep_unspelled, cat_spelled}
use Rattle.pg_literal.proofs.LiteralLemmas.{alone_matched, in_one}
use Rattle.pg_literal.proofs.RowLemmas.{any-map, any-unmap}

-- a match within a line is a hit where any match counts
hit_of : (p : Pattern) (line : List ℕ) (i j : ℕ) → j ≤ length line → Match p line i j → HasHit (p ∷ []) Any line
hit_of p line i j within m = (
  i,
  j,
  record {
    ordered = match_forward p line i j m;
    within = within;
    begins = tt;
    ends = tt;
    matched = (p, in_one p, m);
  },
)

-- a hit is one where any match counts
pub hit_at_all : (p : Pattern) (bounds : Bounds) (line : List ℕ) → HasHit (p ∷ []) bounds line
    → HasHit (p ∷ []) Any line
hit_at_all p bounds line hit =
    hit_of p line hit.0 hit.1 hit.2.within (alone_matched p bounds line hit.0 hit.1 hit.2)

-- a pattern is a part of itself
pub part_self : (fold : Bool) (p : Pattern) → IsPart fold p p
part_self fold p = record { within = λ line hit. hit; spelled = λ text spells. (text, spells) }

module _ (fold : Bool) (outer : Pattern) where
  -- the first of two
  pub part_first : (p q : Pattern) → IsPart fold (Cat p q) outer → IsPart fold p outer
  part_first p q part = record {
    within = λ line hit.
        let whole = part.within line hit in
        let m = alone_matched (Cat p q) Any line whole.0 whole.1 whole.2 in
        let behind = match_forward q line m.0 whole.1 m.2 in
        let fits = whole.2.within in
        hit_of p line whole.0 m.0 (omega arith) m.1;
    spelled = λ text spells.
        let whole = part.spelled text spells in
        (cat_spelled fold p q whole.0 whole.1).0;
  }

  -- the second of two
  pub part_second : (p q : Pattern) → IsPart fold (Cat p q) outer → IsPart fold q outer
  part_second p q part = record {
    within = λ line hit.
        let whole = part.within line hit in
        let m = alone_matched (Cat p q) Any line whole.0 whole.1 whole.2 in
        hit_of q line m.0 whole.1 whole.2.within m.2;
    spelled = λ text spells.
        let whole = part.spelled text spells in
        (cat_spelled fold p q whole.0 whole.1).1;
  }

  -- the first round of a repetition that has one
  pub part_round : (p : Pattern) (least : ℕ) (most : Option ℕ) → 1 ≤ least → IsPart fold (Rep p least most) outer
      → IsPart fold p outer
  part_round p least most some part = record {
    within = λ line hit.
        let whole = part.within line hit in
        let m = alone_matched (Rep p least most) Any line whole.0 whole.1 whole.2 in
        first line whole.0 whole.1 whole.2.within m.0 (omega (arith, m.1)) m.3;
    spelled = λ text spells.
        let whole = part.spelled text spells in
        absurd (rep_unspelled fold p least most whole.0 whole.1);
  }
    where
      first : (line : List ℕ) (i j : ℕ) → j ≤ length line → (count : ℕ) → 1 ≤ count
          → Chain (Match p line) count i j → HasHit (p ∷ []) Any line
      first line i j fits zero low c = absurd (omega arith)
      first line i j fits (suc n) low c =
          let behind = chain_forward (Match p line) (match_forward p line) n c.0 j c.2 in
          hit_of p line i c.0 (omega arith) c.1

  -- the literals of an alternation
  pub within_alt : {A : Type 0} (p q : Pattern) (ls : List (Literal A)) → IsPart fold (Alt p q) outer
      → AreNeeded fold (Alt p q ∷ []) Any ls → All IsNeededOnly ls → AreInnerTexts fold outer ls
  within_alt p q ls part needed plain = record {
    needed = λ line hit. needed line (part.within line hit);
    plain = plain;
    unspelled = λ text spells.
        let whole = part.spelled text spells in
        alt_unspelled fold p q whole.0 whole.1;
  }

-- one literal in place of another one with its text
pub texts_set : {A : Type 0} (ls : List (Literal A)) (i : ℕ) (n d : Literal A) → i < length ls
    → text_of n ≡ text_of (get_or ls i d) → map (text_of {A = A}) (set ls i n) ≡ map (text_of {A = A}) ls
texts_set [] i n d below same = absurd (omega arith)
texts_set (l ∷ ls) zero n d below same = ap (λ t. t ∷ map text_of ls) same
texts_set (l ∷ ls) (suc i) n d below same =
    ap (λ ts. text_of l ∷ ts) (texts_set ls i n d (omega arith) same)

-- the literals that stand behind none are needed
pub needed_added : {A : Type 0} (fold : Bool) (p : Pattern) (bounds : Bounds) (ls : List (Literal A))
    → Adds fold bounds p [] ls → AreNeeded fold (p ∷ []) bounds ls
needed_added fold p bounds ls adds = subst (AreNeeded fold (p ∷ []) bounds) (sym adds.joins) adds.needed

-- the same texts are needed as well
pub needed_texts : {A : Type 0} (fold : Bool) (p : Pattern) (bounds : Bounds) (xs ys : List (Literal A))
    → map text_of ys ≡ map text_of xs → AreNeeded fold (p ∷ []) bounds xs → AreNeeded fold (p ∷ []) bounds ys
needed_texts {A} fold p bounds xs ys same needed line hit =
    let Held : List ℕ → Type 0 = λ t. Holds fold line t in
    any-unmap Held (text_of {A = A}) ys
    (subst (AnyOf Held) (sym same) (any-map Held (text_of {A = A}) xs (needed line hit)))

-- literals of a part, which tell no more than that they are needed
pub adds_within : {A : Type 0} (fold : Bool) (p : Pattern) (bounds : Bounds) (ls : List (Literal A))
    → AreInnerTexts fold p ls → Adds fold bounds p [] ls
adds_within {A} fold p bounds ls within = record {
  added = ls;
  joins = refl;
  needed = λ line hit. within.needed line (hit_at_all p bounds line hit);
  heads = λ all line i j hit.
      let any = within.needed line (hit_at_all p bounds line (i, j, hit)) in
      let flags = within.plain any.0 any.1 any.2 in
      absurd (false≢true (sym flags.1 ∙ all any.0 any.1 any.2));
  enough = λ k d below set. absurd (false≢true (sym (within.plain k d below).0 ∙ set));
  exact = λ text spells. absurd (within.unspelled text spells);
  fixed = λ text spells any. absurd (within.unspelled text spells);
}

-- literals that stand behind none stand behind others too
pub adds_behind : {A : Type 0} (fold : Bool) (p : Pattern) (bounds : Bounds) (own old new : List (Literal A))
    → Adds fold bounds p [] own → new ≡ old ++ own → Adds fold bounds p old new
adds_behind fold p bounds own old new adds joins = record {
  added = adds.added;
  joins = joins ∙ ap (λ ls. old ++ ls) adds.joins;
  needed = adds.needed;
  heads = adds.heads;
  enough = adds.enough;
  exact = adds.exact;
  fixed = adds.fixed;
}
