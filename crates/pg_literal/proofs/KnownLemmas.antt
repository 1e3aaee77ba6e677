-- What is known of some patterns in a row, with one more in front.
use Rattle.std.proofs.Common.{ℕ, zero, suc, ◌≡◌, ◌<◌, ◌≤◌, ◌+◌, Bool, List, [], ◌∷◌, ◌++◌, length, map, reverse}
use Rattle.std.proofs.Common.{IsTrue, true, false, Option, None, Some, inl, inr, refl, sym, ap, ◌∙◌, subst, arith}
use Rattle.std.proofs.Common.{append_assoc}
use Rattle.std.specs.Prelude.{IfSome}
use Rattle.std.proofs.lemmas.Bool.{false≢true}
use Rattle.std.proofs.lemmas.List.{reverse-append, length_push, map-append, length-append}
use Rattle.pg_bytes.specs.ByteSets.{bytes}
use Rattle.pg_bytes.specs.Sets.{Bytes, one}
use Rattle.pg_bytes.specs.declared.byte_set.ByteSet.{ByteSet}
use Rattle.pg_pattern.specs.Patterns.{Pattern, Empty, Set, Begin, End, Cat, Alt, Rep, folded}
use Rattle.pg_grammar.specs.Grammar as G
use Rattle.pg_grammar.specs.Grammar.{Literal, Spells}
use Rattle.pg_grammar.specs.declared.pattern_list.Kind.TheVariants.{Fixed}
use Rattle.pg_pattern.specs.Matches.{Match, Chain}
use Rattle.pg_literal.proofs.RowLemmas.{stands_within}
use Rattle.pg_literal.specs.Rows.{StandsAt, row_of}
use Rattle.pg_literal.specs.Known.{head_of, sets_of, HasRows, IsSureAt, MatchesEmpty, Extends, Hides, HidesLast}
use Rattle.pg_literal.specs.Known.{MatchesSet, Repeats}
use Rattle.pg_literal.specs.declared.known.MatchFacts.{MatchFacts}
use Rattle.pg_pattern.proofs.LengthLemmas.{chain_forward, match_forward}

-- the first spans of a chain
chain_front : (Span : ℕ → ℕ → Type 0) → ((i j : ℕ) → Span i j → i ≤ j) → (count all i j : ℕ) → count ≤ all
    → Chain Span all i j → (k : ℕ) × Chain Span count i k × (k ≤ j)
chain_front Span forward zero all i j few c = (i, refl, chain_forward Span forward all i j c)
chain_front Span forward (suc count) zero i j few c = absurd (omega arith)
chain_front Span forward (suc count) (suc all) i j few c =
    let others = chain_front Span forward count all c.0 j (omega arith) c.2 in
    (others.0, (c.0, c.1, others.1), others.2)

-- the last span of a chain
chain_last : (Span : ℕ → ℕ → Type 0) (count i j : ℕ) → 0 < count → Chain Span count i j → (k : ℕ) × Span k j
chain_last Span zero i j some c = absurd (omega arith)
chain_last Span (suc zero) i j some c = (i, subst (Span i) c.2 c.1)
chain_last Span (suc (suc count)) i j some c = chain_last Span (suc count) c.0 j (omega arith) c.2

-- the parts of a fixed string's pattern, and the texts that spell them
Shape : Bool → List ℕ → Pattern → Type 0
Shape fold text Empty = text ≡ []
Shape fold text (Set s) = (b : ℕ) × (text ≡ b ∷ []) × (s ≡ folded fold (one b))
Shape fold text (Cat p q) =
    (t : List ℕ) × (b : ℕ) × Spells Fixed fold t p × Spells Fixed fold (b ∷ []) q × (text ≡ t ++ b ∷ [])
Shape fold text _ = ⊥

-- the pattern of some bytes
literal_shape : {fold : Bool} {text : List ℕ} {p : Pattern} → Literal fold text p → length text ≤ 4096
    → Shape fold text p
unfolding Shape
literal_shape (G.first b) small = (b, refl, refl)
literal_shape (G.more {text = t} l b) small =
    (t, b, G.some (omega (arith, length_push t b)) l, G.some (omega arith) (G.first b), refl)

-- the pattern of a fixed string
shape : {fold : Bool} {text : List ℕ} {p : Pattern} → Spells Fixed fold text p → Shape fold text p
unfolding Shape
shape G.nothing = refl
shape (G.some small l) = literal_shape l small

-- rounds of which there may be none match the empty string
pub no_rounds : (p : Pattern) (least : ℕ) (most : Option ℕ) → least ≡ 0 → MatchesEmpty (Rep p least most)
no_rounds p least most none line i = (0, omega arith, few most, refl)
  where
    few : (most : Option ℕ) → IfSome most (λ most. 0 ≤ most)
    few None = tt
    few (Some n) = omega arith

-- two patterns that match the empty string, and one of two
pub both_empty : (p q : Pattern) → MatchesEmpty p → MatchesEmpty q → MatchesEmpty (Cat p q)
both_empty p q first second line i = (i, first line i, second line i)

pub first_empty : (p q : Pattern) → MatchesEmpty p → MatchesEmpty (Alt p q)
first_empty p q empty line i = inl (empty line i)

pub second_empty : (p q : Pattern) → MatchesEmpty q → MatchesEmpty (Alt p q)
second_empty p q empty line i = inr (empty line i)

-- no fixed string is an alternation
pub alt_unspelled : (fold : Bool) (p q : Pattern) (text : List ℕ) → Spells Fixed fold text (Alt p q) → ⊥
unfolding Shape
alt_unspelled fold p q text spells = shape spells

-- nor an anchor
pub begin_unspelled : (fold : Bool) (text : List ℕ) → Spells Fixed fold text Begin → ⊥
unfolding Shape
begin_unspelled fold text spells = shape spells

pub end_unspelled : (fold : Bool) (text : List ℕ) → Spells Fixed fold text End → ⊥
unfolding Shape
end_unspelled fold text spells = shape spells

-- nor a repetition
pub rep_unspelled : (fold : Bool) (p : Pattern) (least : ℕ) (most : Option ℕ) (text : List ℕ)
    → Spells Fixed fold text (Rep p least most) → ⊥
unfolding Shape
rep_unspelled fold p least most text spells = shape spells

-- fixed strings spell the two parts of what one spells
pub cat_spelled : (fold : Bool) (p q : Pattern) (text : List ℕ) → Spells Fixed fold text (Cat p q)
    → ((part : List ℕ) × Spells Fixed fold part p) × ((part : List ℕ) × Spells Fixed fold part q)
unfolding Shape
cat_spelled fold p q text spells =
    let is = shape spells in
    ((is.0, is.2), (is.1 ∷ [], is.3))

module _ {A : Type 0} (fold : Bool) where
  -- the empty pattern
  pub extends_empty : (rest : MatchFacts A) → Extends fold Empty rest rest
  unfolding Shape
  extends_empty rest = record {
    rows = λ line i j m has. subst (HasRows rest line) (sym m) has;
    long = λ line i j m. omega (arith, m);
    sure = λ line i o. (i, refl, o);
    fixed = λ text s. (ap (λ t. sets_of fold t ++ head_of rest) (sym (shape s)), refl, refl);
  }

  -- one set
  pub extends_set : (set : ByteSet) (rest whole : MatchFacts A) → whole.head.items ≡ rest.head.items ++ set ∷ []
      → whole.best.items ≡ rest.best.items → whole.is_sure ≡ rest.is_sure → whole.is_best_sure ≡ false
      → Extends fold (Set (bytes set)) rest whole
  unfolding Shape
  extends_set set rest whole head best sure unsure =
      let longer : head_of whole ≡ bytes set ∷ head_of rest =
      ap (λ sets. reverse (map bytes sets)) head
      ∙ ap reverse (map-append bytes rest.head.items (set ∷ []))
      ∙ reverse-append (map bytes rest.head.items) (bytes set ∷ []) in
      let size = ap length head ∙ length-append rest.head.items (set ∷ []) in
      record {
        rows = λ line i j m has. record {
          head =
              let behind = subst (StandsAt line (head_of rest)) m.3 has.head in
              subst (λ row. StandsAt line row i) (sym longer) ((m.0, m.1, m.2), behind);
          best = subst (λ sets. (place : ℕ) × StandsAt line (row_of sets) place) (sym best) has.best;
        };
        long = λ line i j m. omega (arith, m.3, size);
        sure = λ line i o. elim o [
          | inl front ↦
              let at = subst (λ row. StandsAt line row i) longer front.1 in
              (i + 1, (at.0.0, at.0.1, at.0.2, refl), inl (sym sure ∙ front.0, at.1))
          | inr other ↦ absurd (false≢true (sym unsure ∙ other.0))
        ];
        fixed = λ text s.
            let is = shape s in
            let joined = ap (sets_of fold) is.1 in
            (longer ∙ ap (λ b. b ∷ head_of rest) is.2 ∙ ap (λ row. row ++ head_of rest) (sym joined), sure, best);
      }

  -- an anchor, which matches no byte: both rows stay, and neither is sure
  anchored : (p : Pattern) → ((line : List ℕ) (i j : ℕ) → Match p line i j → j ≡ i)
      → ((text : List ℕ) → Spells Fixed fold text p → ⊥) → (rest whole : MatchFacts A)
      → whole.head.items ≡ rest.head.items → whole.best.items ≡ rest.best.items → whole.is_sure ≡ false
      → whole.is_best_sure ≡ false → Extends fold p rest whole
  anchored p stays none rest whole head best unsure unsure_best = record {
    rows = λ line i j m has.
        let moved = subst (HasRows rest line) (stays line i j m) has in
        record {
          head = subst (λ sets. StandsAt line (row_of sets) i) (sym head) moved.head;
          best = subst (λ sets. (place : ℕ) × StandsAt line (row_of sets) place) (sym best) moved.best;
        };
    long = λ line i j m. omega (arith, stays line i j m, ap length head);
    sure = λ line i o. elim o [
      | inl s ↦ absurd (false≢true (sym unsure ∙ s.0))
      | inr s ↦ absurd (false≢true (sym unsure_best ∙ s.0))
    ];
    fixed = λ text s. absurd (none text s);
  }

  pub extends_begin : (rest whole : MatchFacts A) → whole.head.items ≡ rest.head.items
      → whole.best.items ≡ rest.best.items → whole.is_sure ≡ false → whole.is_best_sure ≡ false
      → Extends fold Begin rest whole
  extends_begin = anchored Begin (λ line i j m. m.1) (begin_unspelled fold)

  pub extends_end : (rest whole : MatchFacts A) → whole.head.items ≡ rest.head.items
      → whole.best.items ≡ rest.best.items → whole.is_sure ≡ false → whole.is_best_sure ≡ false
      → Extends fold End rest whole
  extends_end = anchored End (λ line i j m. m.1) (end_unspelled fold)

  module _ (optional : Bool) (rest whole : MatchFacts A) (hides : Hides optional rest whole) where
    -- where the rows stand, what hides them stands anywhere
    hidden_at : (line : List ℕ) (i j : ℕ) → i ≤ length line → HasRows rest line j → HasRows whole line i
    hidden_at line i j within has = record {
      head =
          let none : StandsAt line (row_of []) i = within in
          subst (λ sets. StandsAt line (row_of sets) i) (sym hides.head) none;
      best = elim hides.best [
        | inl head ↦
            subst (λ row. (place : ℕ) × StandsAt line (row_of row.items) place) (sym head.0) (j, has.head)
        | inr best ↦ subst (λ row. (place : ℕ) × StandsAt line (row_of row.items) place) (sym best.0) has.best
      ];
    }

    -- where they stand further right, it does
    hidden_rows : (line : List ℕ) (i j : ℕ) → i ≤ j → HasRows rest line j → HasRows whole line i
    hidden_rows line i j forward has =
        let fits = stands_within line (head_of rest) j has.head in hidden_at line i j (omega arith) has

    -- nothing is left of the head
    hidden_long : (i j : ℕ) → i ≤ j → i + length whole.head.items ≤ j + length rest.head.items
    hidden_long i j forward = omega (arith, ap length hides.head)

    -- a sure row behind what is optional is one of the rest
    hidden_sure : (line : List ℕ) (i : ℕ) → IsSureAt whole line i → IsTrue optional × IsSureAt rest line i
    hidden_sure line i (inl front) =
        let is = hides.sure front.0 in
        let none = subst (λ sets. StandsAt line (row_of sets) i) hides.head front.1 in
        (is.0, inl (is.1, subst (λ sets. StandsAt line (row_of sets) i) (sym is.2) none))
    hidden_sure line i (inr other) = elim hides.best [
      | inl head ↦
          let is = head.1 other.0 in
          (is.0, inl (is.1, subst (λ row. StandsAt line (row_of row.items) i) head.0 other.1))
      | inr best ↦
          let is = best.1 other.0 in
          (is.0, inr (is.1, subst (λ row. StandsAt line (row_of row.items) i) best.0 other.1))
    ]

    -- a pattern that no fixed string spells
    extends_hidden : (p : Pattern) → (IsTrue optional → MatchesEmpty p)
        → ((text : List ℕ) → Spells Fixed fold text p → ⊥) → Extends fold p rest whole
    extends_hidden p empty none = record {
      rows = λ line i j m has. hidden_rows line i j (match_forward p line i j m) has;
      long = λ line i j m. hidden_long i j (match_forward p line i j m);
      sure = λ line i o. let is = hidden_sure line i o in (i, empty is.0 line i, is.1);
      fixed = λ text s. absurd (none text s);
    }

  -- one of two patterns
  pub extends_alt : (p q : Pattern) (optional : Bool) (rest whole : MatchFacts A) → Hides optional rest whole
      → (IsTrue optional → MatchesEmpty (Alt p q)) → Extends fold (Alt p q) rest whole
  extends_alt p q optional rest whole hides empty =
      extends_hidden optional rest whole hides (Alt p q) empty (alt_unspelled fold p q)

  -- patterns that match one byte of a set together
  pub extends_as_set : (p q : Pattern) (set : Bytes) (rest whole : MatchFacts A) → MatchesSet (Alt p q) set
      → Extends fold (Set set) rest whole → Extends fold (Alt p q) rest whole
  extends_as_set p q set rest whole same is = record {
    rows = λ line i j m has. is.rows line i j ((same line i j).0 m) has;
    long = λ line i j m. is.long line i j ((same line i j).0 m);
    sure = λ line i o. let h = is.sure line i o in (h.0, (same line i h.0).1 h.1, h.2);
    fixed = λ text s. absurd (alt_unspelled fold p q text s);
  }

  -- rounds of which there may be none
  pub extends_rep : (p : Pattern) (least : ℕ) (most : Option ℕ) (rest whole : MatchFacts A) → least ≡ 0
      → Hides true rest whole → Extends fold (Rep p least most) rest whole
  unfolding Shape
  extends_rep p least most rest whole none hides =
      extends_hidden true rest whole hides (Rep p least most) (λ is. no_rounds p least most none) (λ text s. shape s)

  -- two patterns
  pub extends_cat : (p q : Pattern) (rest more whole : MatchFacts A) → Extends fold q rest more
      → Extends fold p more whole → Extends fold (Cat p q) rest whole
  unfolding Shape
  extends_cat p q rest more whole second first = record {
    rows = λ line i j m has. first.rows line i m.0 m.1 (second.rows line m.0 j m.2 has);
    long = λ line i j m. omega (arith, first.long line i m.0 m.1, second.long line m.0 j m.2);
    sure = λ line i o.
        let one = first.sure line i o in
        let two = second.sure line one.0 one.2 in
        (two.0, (one.0, one.1, two.1), two.2);
    fixed = λ text s.
        let is = shape s in
        let longer = first.fixed is.0 is.2 in
        let begun = second.fixed (is.1 ∷ []) is.3 in
        let front = sets_of fold is.0 in
        let last = sets_of fold (is.1 ∷ []) in
        let whole = ap (sets_of fold) is.4 ∙ map-append (λ b. folded fold (one b)) is.0 (is.1 ∷ []) in
        let head = longer.0 ∙ ap (λ row. front ++ row) begun.0 ∙ sym (append_assoc front last (head_of rest))
        ∙ ap (λ row. row ++ head_of rest) (sym whole) in
        (head, longer.1 ∙ begun.1, longer.2 ∙ begun.2);
  }

  -- rounds that lead to the rows of the rest begin at those of the whole
  repeats_rows : (p : Pattern) (count : ℕ) (rest whole : MatchFacts A) → Repeats fold p count rest whole
      → (line : List ℕ) (i j : ℕ) → Chain (Match p line) count i j → HasRows rest line j → HasRows whole line i
  repeats_rows p zero rest whole is line i j c has =
      subst (λ k. HasRows k line i) (sym is) (subst (HasRows rest line) (sym c) has)
  repeats_rows p (suc n) rest whole more line i j c has =
      more.2.rows line i c.0 c.1 (repeats_rows p n rest more.0 more.1 line c.0 j c.2 has)

  -- they are as long as what they add to the head
  repeats_long : (p : Pattern) (count : ℕ) (rest whole : MatchFacts A) → Repeats fold p count rest whole
      → (line : List ℕ) (i j : ℕ) → Chain (Match p line) count i j
      → i + length whole.head.items ≤ j + length rest.head.items
  repeats_long p zero rest whole is line i j c = omega (arith, c, ap (λ k. length k.head.items) is)
  repeats_long p (suc n) rest whole more line i j c =
      omega (arith, more.2.long line i c.0 c.1, repeats_long p n rest more.0 more.1 line c.0 j c.2)

  -- where a sure row of the whole stands, they lead to a sure row of the rest
  repeats_sure : (p : Pattern) (count : ℕ) (rest whole : MatchFacts A) → Repeats fold p count rest whole
      → (line : List ℕ) (i : ℕ) → IsSureAt whole line i
      → (j : ℕ) × Chain (Match p line) count i j × IsSureAt rest line j
  repeats_sure p zero rest whole is line i o = (i, refl, subst (λ k. IsSureAt k line i) is o)
  repeats_sure p (suc n) rest whole more line i o =
      let one = more.2.sure line i o in
      let others = repeats_sure p n rest more.0 more.1 line one.0 one.2 in
      (others.0, (one.0, one.1, others.1), others.2)

  -- so many rounds and no others
  extends_exactly : (p : Pattern) (count : ℕ) (rest whole : MatchFacts A) → Repeats fold p count rest whole
      → Extends fold (Rep p count (Some count)) rest whole
  unfolding Shape
  extends_exactly p count rest whole all = record {
    rows = λ line i j m has. repeats_rows p count rest whole all line i j (exact line i j m.0 m.1 m.2 m.3) has;
    long = λ line i j m. repeats_long p count rest whole all line i j (exact line i j m.0 m.1 m.2 m.3);
    sure = λ line i o.
        let at = repeats_sure p count rest whole all line i o in
        (at.0, (count, omega arith, omega arith, at.1), at.2);
    fixed = λ text s. absurd (shape s);
  }
    where
      exact : (line : List ℕ) (i j n : ℕ) → count ≤ n → n ≤ count → Chain (Match p line) n i j
          → Chain (Match p line) count i j
      exact line i j n low high c =
          let same : n ≡ count = omega arith in
          subst (λ n. Chain (Match p line) n i j) same c

  -- so many rounds or more, of which the others hide what stands behind the first ones
  extends_more : (p : Pattern) (count least : ℕ) (most : Option ℕ) (optional : Bool) (rest hidden whole : MatchFacts A)
      → count ≤ least → (IsTrue optional → (least ≡ count) × IfSome most (λ most. count ≤ most))
      → Hides optional rest hidden → Repeats fold p count hidden whole → Extends fold (Rep p least most) rest whole
  unfolding Shape
  extends_more p count least most optional rest hidden whole some single hides all = record {
    rows = λ line i j m has.
        let front = chain_front (Match p line) (match_forward p line) count m.0 i j (omega (arith, m.1)) m.3 in
        repeats_rows p count hidden whole all line i front.0 front.1
        (hidden_rows optional rest hidden hides line front.0 j front.2 has);
    long = λ line i j m.
        let front = chain_front (Match p line) (match_forward p line) count m.0 i j (omega (arith, m.1)) m.3 in
        let behind = hidden_long optional rest hidden hides front.0 j front.2 in
        omega (arith, repeats_long p count hidden whole all line i front.0 front.1, behind);
    sure = λ line i o.
        let at = repeats_sure p count hidden whole all line i o in
        let is = hidden_sure optional rest hidden hides line at.0 at.2 in
        let once = single is.0 in
        (at.0, (count, omega (arith, once.0), once.1, at.1), is.1);
    fixed = λ text s. absurd (shape s);
  }

  -- so many rounds or more, of which the last one stands in front of the rest
  extends_last : (p : Pattern) (count least : ℕ) (most : Option ℕ) (rest last hidden whole : MatchFacts A)
      → 0 < count → count ≤ least → Extends fold p rest last → Hides false last hidden
      → Repeats fold p count hidden whole → Extends fold (Rep p least most) rest whole
  unfolding Shape
  extends_last p count least most rest last hidden whole one some before hides all = record {
    rows = λ line i j m has.
        let front = chain_front (Match p line) (match_forward p line) count m.0 i j (omega (arith, m.1)) m.3 in
        let round = chain_last (Match p line) m.0 i j (omega (arith, m.1)) m.3 in
        let within = stands_within line (head_of rest) j has.head in
        repeats_rows p count hidden whole all line i front.0 front.1
        (hidden_at false last hidden hides line front.0 round.0 (omega (arith, within, front.2))
        (before.rows line round.0 j round.1 has));
    long = λ line i j m.
        let front = chain_front (Match p line) (match_forward p line) count m.0 i j (omega (arith, m.1)) m.3 in
        omega (arith, repeats_long p count hidden whole all line i front.0 front.1, ap length hides.head, front.2);
    sure = λ line i o.
        let at = repeats_sure p count hidden whole all line i o in
        absurd (false≢true (hidden_sure false last hidden hides line at.0 at.2).0);
    fixed = λ text s. absurd (shape s);
  }

  -- a repetition of which some first rounds are known
  pub extends_rounds : (p : Pattern) (n rounds least : ℕ) (most : Option ℕ) (rest hidden behind whole : MatchFacts A)
      → rounds ≡ suc n → rounds ≤ least → HidesLast fold p rounds least most rest hidden
      → Repeats fold p n hidden behind → Extends fold p behind whole → Extends fold (Rep p least most) rest whole
  extends_rounds p n rounds least most rest hidden behind whole size some (inl (inl single)) others first =
      let all : Repeats fold p (suc n) hidden whole = (behind, others, first) in
      rw (single.0, single.1)
      (extends_exactly p rounds rest whole
      (subst (λ k. Repeats fold p k rest whole) (sym size)
      (subst (λ known. Repeats fold p (suc n) known whole) single.2 all)))
  extends_rounds p n rounds least most rest hidden behind whole size some (inr last) others first =
      let all : Repeats fold p (suc n) hidden whole = (behind, others, first) in
      extends_last p rounds least most rest last.0 hidden whole (omega arith) some last.1 last.2
      (subst (λ k. Repeats fold p k hidden whole) (sym size) all)
  extends_rounds p n rounds least most rest hidden behind whole size some (inl (inr hides)) others first =
      let all : Repeats fold p (suc n) hidden whole = (behind, others, first) in
      extends_more p rounds least most hides.0 rest hidden whole some hides.1 hides.2
      (subst (λ k. Repeats fold p k hidden whole) (sym size) all)
