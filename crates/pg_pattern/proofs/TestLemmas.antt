-- The tests of patterns and hits decide what is said of them.
use Rattle.std.proofs.Common.{◌≡◌, ℕ, zero, suc, ◌+◌, ◌-◌, ◌<◌, ◌≤◌, ◌==◌, ◌⊎◌, inl, inr, arith}
use Rattle.std.proofs.Common.{Bool, true, false, not, ◌&&◌, nat_le, refl, sym, ap, ◌∙◌, subst}
use Rattle.std.proofs.Common.{List, [], ◌∷◌, length, get_or, Option, Some, None}
use Rattle.std.specs.Prelude.{slice_get, slice_index, IfSome}
use Rattle.std.specs.Bool.{Decides}
use Rattle.std.specs.List.{list_any, range_with_len}
use Rattle.std.proofs.lemmas.Bool.{false≢true, leb-true, le-leb, cases_eq, cases_lt}
use Rattle.std.proofs.lemmas.Bool.Decides.{Decides-eqb, Decides-and, Decides-or}
use Rattle.pg_pattern.specs.Patterns.{Pattern, Empty, Set, Begin, End, Cat, Alt, Rep}
use Rattle.pg_pattern.specs.Matches.{Chain, Match}
use Rattle.pg_pattern.specs.Bounds.{MayBegin, MayEnd, may_end, is_word_byte}
use Rattle.pg_pattern.specs.Hits.{Matched, Hit, HasHit}
use Rattle.pg_pattern.specs.Tests.{places, is_chain, has_byte, at_most, is_match, may_begin, is_hit, has_hit}
use Rattle.pg_pattern.specs.Tests.{TestsHits, TestsMatches}
use Rattle.pg_pattern.specs.declared.bounds.Bounds.{Bounds}
use Rattle.pg_pattern.specs.declared.bounds.Bounds.TheVariants.{Any, Word, Whole}

Decides-le : (a b : ℕ) → Decides (nat_le a b) (a ≤ b)
Decides-le a b = (leb-true a b, le-leb a b)

-- ---- some place between two

abbrev InRange : (ℕ → Type 0) → ℕ → ℕ → Type 0
InRange Holds a n = (k : ℕ) × (a ≤ k) × (k < a + n) × Holds k

abbrev Between : (ℕ → Type 0) → ℕ → ℕ → Type 0
Between Holds i j = (k : ℕ) × (i ≤ k) × (k ≤ j) × Holds k

module _ (test : ℕ → Bool) (Holds : ℕ → Type 0) (each : (k : ℕ) → Decides (test k) (Holds k)) where
  in_range : (a n : ℕ) → Decides (list_any test (range_with_len a n)) (InRange Holds a n)
  in_range a zero = (λ e. absurd (false≢true e), λ h. absurd (omega (arith, h.1, h.2)))
  in_range a (suc n) =
      let d = Decides-or (test a) (list_any test (range_with_len (a + 1) n)) (each a) (in_range (a + 1) n) in (
        λ e. elim (d.0 e) [
          | inl h ↦ (a, omega arith, omega arith, h)
          | inr h ↦ (h.0, omega (arith, h.1), omega (arith, h.2), h.3)
        ],
        λ h. d.1 (elim (cases_eq h.0 a) [
          | inl same ↦ inl (subst Holds same h.3)
          | inr apart ↦ inr (h.0, omega (arith, h.1, apart), omega (arith, h.2), h.3)
        ]),
      )

  between : (i j : ℕ) → Decides (list_any test (places i j)) (Between Holds i j)
  between i j =
      let d = in_range i (j + 1 - i) in (
        λ e. let h = d.0 e in (h.0, h.1, omega (arith, h.1, h.2), h.3),
        λ h. d.1 (h.0, h.1, omega (arith, h.1, h.2), h.3),
      )

module _ (f g : ℕ → Bool) (P Q : ℕ → Type 0) where
  between_both : ((k : ℕ) → Decides (f k) (P k)) → ((k : ℕ) → Decides (g k) (Q k)) → (i j : ℕ)
      → Decides (list_any (λ k. f k && g k) (places i j)) (Between (λ k. P k × Q k) i j)
  between_both left right =
      between (λ k. f k && g k) (λ k. P k × Q k) (λ k. Decides-and (f k) (g k) (left k) (right k))

-- ---- chains of spans

-- spans that never lead back
abbrev Grows : (ℕ → ℕ → Type 0) → Type 0
Grows Span = (i j : ℕ) → Span i j → i ≤ j

-- one span, and another one from where it ends
abbrev InARow : (ℕ → ℕ → Type 0) → (ℕ → ℕ → Type 0) → ℕ → ℕ → Type 0
InARow First Second i j = (k : ℕ) × First i k × Second k j

module _ (f g : ℕ → ℕ → Bool) (First Second : ℕ → ℕ → Type 0) where
  in_a_row : Grows First → Grows Second
      → ((i j : ℕ) → Decides (f i j) (First i j)) → ((i j : ℕ) → Decides (g i j) (Second i j))
      → (i j : ℕ) → Decides (list_any (λ k. f i k && g k j) (places i j)) (InARow First Second i j)
  in_a_row grows grows' first second i j =
      let d = between_both (f i) (λ k. g k j) (First i) (λ k. Second k j) (first i) (λ k. second k j) i j in (
        λ e. let h = d.0 e in (h.0, h.3.0, h.3.1),
        λ h. d.1 (h.0, grows i h.0 h.1, grows' h.0 j h.2, (h.1, h.2)),
      )

module _ (Span : ℕ → ℕ → Type 0) (grows : Grows Span) where
  chain_grows : (count : ℕ) → Grows (Chain Span count)
  chain_grows zero i j h = omega (arith, h)
  chain_grows (suc count) i j h =
      let first = grows i h.0 h.1 in
      let later = chain_grows count h.0 j h.2 in
      omega (arith, first, later)

  -- of more spans than bytes some span is empty, and the others are a chain without it
  leave_one_out : (count i j : ℕ) → j - i ≤ count → Chain Span (suc count) i j → Chain Span count i j
  leave_one_out zero i j few h = let first = grows i h.0 h.1 in omega (arith, first, h.2)
  leave_one_out (suc count) i j few h =
      let first = grows i h.0 h.1 in
      elim (cases_eq h.0 i) [
        | inl empty ↦ subst (λ v. Chain Span (suc count) v j) empty h.2
        | inr some ↦ (h.0, h.1, leave_one_out count h.0 j (omega arith) h.2)
      ]

  -- so a chain needs no more spans than bytes
  leave_out : (count extra i j : ℕ) → j - i ≤ count → Chain Span (count + extra) i j → Chain Span count i j
  leave_out count zero i j few h =
      let e : count + 0 ≡ count = omega arith in
      subst (λ n. Chain Span n i j) e h
  leave_out count (suc extra) i j few h =
      let e : count + suc extra ≡ suc (count + extra) = omega arith in
      let h' : Chain Span (suc (count + extra)) i j = subst (λ n. Chain Span n i j) e h in
      leave_out count extra i j few (leave_one_out (count + extra) i j (omega arith) h')

  module _ (is_span : ℕ → ℕ → Bool) (each : (i j : ℕ) → Decides (is_span i j) (Span i j)) where
    chain_decided : (count i j : ℕ) → Decides (is_chain is_span count i j) (Chain Span count i j)
    chain_decided zero i j = Decides-eqb i j
    chain_decided (suc count) i j =
        in_a_row is_span (is_chain is_span count) Span (Chain Span count) grows (chain_grows count) each
        (chain_decided count) i j

-- ---- patterns

-- no more than the greatest count, if there is one
abbrev AtMost : Option ℕ → ℕ → Type 0
AtMost most count = IfSome most (λ most. count ≤ most)

at_most_decided : (most : Option ℕ) (count : ℕ) → Decides (at_most most count) (AtMost most count)
at_most_decided None count = (λ e. tt, λ h. refl)
at_most_decided (Some most) count = Decides-le count most

at_most_less : (most : Option ℕ) (count less : ℕ) → less ≤ count → AtMost most count → AtMost most less
at_most_less None count less le h = tt
at_most_less (Some most) count less le h = omega arith

byte_decided : (s : ℕ → Bool) (o : Option ℕ) → Decides (has_byte s o) ((b : ℕ) × (o ≡ Some b) × (s b ≡ true))
byte_decided s None = (λ e. absurd (false≢true e), λ h. let e = h.1 in absurd (cc))
byte_decided s (Some b) =
    (λ e. (b, refl, e), λ h. let e = h.1 in let same : b ≡ h.0 = cc in ap s same ∙ h.2)

module _ (line : List ℕ) where
  match_grows : (p : Pattern) → Grows (Match p line)
  match_grows Empty i j h = omega (arith, h)
  match_grows (Set s) i j h = omega (arith, h.3)
  match_grows Begin i j h = omega (arith, h.1)
  match_grows End i j h = omega (arith, h.1)
  match_grows (Cat p q) i j h =
      let first = match_grows p i h.0 h.1 in
      let second = match_grows q h.0 j h.2 in
      omega (arith, first, second)
  match_grows (Alt p q) i j h = elim h [ inl left ↦ match_grows p i j left | inr right ↦ match_grows q i j right ]
  match_grows (Rep p least most) i j h = chain_grows (Match p line) (match_grows p) h.0 i j h.3

  -- a repetition by one of the counts that its test looks at
  abbrev Counted : Pattern → ℕ → Option ℕ → ℕ → ℕ → Type 0
  Counted p least most i j =
      (count : ℕ) × (least ≤ count) × (count ≤ least + (j - i)) × (AtMost most count × Chain (Match p line) count i j)

  counted : (p : Pattern) (least : ℕ) (most : Option ℕ) (i j : ℕ) → Match (Rep p least most) line i j
      → Counted p least most i j
  counted p least most i j h =
      let enough = least + (j - i) in
      elim (cases_lt enough h.0) [
        | inl many ↦
            let e : h.0 ≡ enough + (h.0 - enough) = omega arith in
            let chain = subst (λ n. Chain (Match p line) n i j) e h.3 in
            let shorter = leave_out (Match p line) (match_grows p) enough (h.0 - enough) i j (omega arith) chain in
            (enough, omega arith, omega arith, (at_most_less most h.0 enough (omega arith) h.2, shorter))
        | inr few ↦ (h.0, h.1, few, (h.2, h.3))
      ]

  pub match_decided : (p : Pattern) → TestsMatches p line
  match_decided Empty i j = Decides-eqb i j
  match_decided (Set s) i j =
      let byte = byte_decided s (slice_get line i) in
      let d = Decides-and (has_byte s (slice_get line i)) (j == i + 1) byte (Decides-eqb j (i + 1)) in
      (λ e. let h = d.0 e in (h.0.0, h.0.1, h.0.2, h.1), λ h. d.1 ((h.0, h.1, h.2), h.3))
  match_decided Begin i j = Decides-and (i == 0) (j == i) (Decides-eqb i 0) (Decides-eqb j i)
  match_decided End i j =
      Decides-and (i == length line) (j == i) (Decides-eqb i (length line)) (Decides-eqb j i)
  match_decided (Cat p q) i j =
      in_a_row (is_match p line) (is_match q line) (Match p line) (Match q line) (match_grows p) (match_grows q)
      (match_decided p) (match_decided q) i j
  match_decided (Alt p q) i j =
      Decides-or (is_match p line i j) (is_match q line i j) (match_decided p i j) (match_decided q i j)
  match_decided (Rep p least most) i j =
      let chains = chain_decided (Match p line) (match_grows p) (is_match p line) (match_decided p) in
      let d =
      between_both (at_most most) (λ count. is_chain (is_match p line) count i j) (AtMost most)
      (λ count. Chain (Match p line) count i j) (at_most_decided most) (λ count. chains count i j) least
      (least + (j - i)) in
      (λ e. let h = d.0 e in (h.0, h.1, h.3.0, h.3.1), λ h. d.1 (counted p least most i j h))

  first_or_later : (p : Pattern) (patterns : List Pattern) (i j : ℕ) (q : Pattern) (k : ℕ)
      → k < length (p ∷ patterns) → get_or (p ∷ patterns) k q ≡ q → Match q line i j
      → Match p line i j ⊎ Matched patterns line i j
  first_or_later p patterns i j q zero low is m = inl (subst (λ r. Match r line i j) (sym is) m)
  first_or_later p patterns i j q (suc k) low is m = inr (q, (k, omega arith, is), m)

  matched_decided : (patterns : List Pattern) (i j : ℕ)
      → Decides (list_any (λ p. is_match p line i j) patterns) (Matched patterns line i j)
  matched_decided [] i j = (λ e. absurd (false≢true e), λ h. absurd (omega (arith, h.1.1)))
  matched_decided (p ∷ patterns) i j =
      let later = list_any (λ q. is_match q line i j) patterns in
      let d = Decides-or (is_match p line i j) later (match_decided p i j) (matched_decided patterns i j) in (
        λ e. elim (d.0 e) [
          | inl h ↦ (p, (0, omega arith, refl), h)
          | inr h ↦ (h.0, (suc h.1.0, omega (arith, h.1.1), h.1.2), h.2)
        ],
        λ h. d.1 (first_or_later p patterns i j h.0 h.1.0 h.1.1 h.1.2 h.2),
      )

-- ---- bounds

no_word_byte : (is_word : Bool) → Decides (not is_word) (is_word ≡ false)
no_word_byte true = (λ e. absurd (false≢true e), λ h. absurd (false≢true (sym h)))
no_word_byte false = (λ e. refl, λ h. refl)

begin_decided : (bounds : Bounds) (line : List ℕ) (i : ℕ) → Decides (may_begin bounds line i) (MayBegin bounds line i)
begin_decided Any line i = (λ e. tt, λ h. refl)
begin_decided Word line i =
    let is_word = is_word_byte (slice_index line (i - 1)) in
    Decides-or (i == 0) (not is_word) (Decides-eqb i 0) (no_word_byte is_word)
begin_decided Whole line i = Decides-eqb i 0

pub end_decided : (bounds : Bounds) (line : List ℕ) (j : ℕ) → Decides (may_end bounds line j) (MayEnd bounds line j)
end_decided Any line j = (λ e. tt, λ h. refl)
end_decided Word line j =
    let is_word = is_word_byte (slice_index line j) in
    Decides-or (j == length line) (not is_word) (Decides-eqb j (length line)) (no_word_byte is_word)
end_decided Whole line j = Decides-eqb j (length line)

-- ---- hits

module _ (patterns : List Pattern) (bounds : Bounds) (line : List ℕ) where
  pub hit_decided : (i j : ℕ) → Decides (is_hit patterns bounds line i j) (Hit patterns bounds line i j)
  hit_decided i j =
      let ordered = nat_le i j in
      let within = nat_le j (length line) in
      let begins = may_begin bounds line i in
      let ends = may_end bounds line j in
      let matched = list_any (λ p. is_match p line i j) patterns in
      let d2 = Decides-and ordered within (Decides-le i j) (Decides-le j (length line)) in
      let d3 = Decides-and (ordered && within) begins d2 (begin_decided bounds line i) in
      let d4 = Decides-and (ordered && within && begins) ends d3 (end_decided bounds line j) in
      let d = Decides-and (ordered && within && begins && ends) matched d4 (matched_decided line patterns i j) in (
        λ e. let h = d.0 e in record {
          ordered = h.0.0.0.0;
          within = h.0.0.0.1;
          begins = h.0.0.1;
          ends = h.0.1;
          matched = h.1;
        },
        λ h. d.1 ((((h.ordered, h.within), h.begins), h.ends), h.matched),
      )

  -- some hit begins here
  abbrev HitFrom : ℕ → Type 0
  HitFrom i = (j : ℕ) × (i ≤ j) × (j ≤ length line) × Hit patterns bounds line i j

  hit_from_decided : (i : ℕ) → Decides (list_any (is_hit patterns bounds line i) (places i (length line))) (HitFrom i)
  hit_from_decided i =
      between (is_hit patterns bounds line i) (Hit patterns bounds line i) (hit_decided i) i (length line)

  line_decided : Decides (has_hit patterns bounds line) (HasHit patterns bounds line)
  unfolding has_hit
  line_decided =
      let from : ℕ → Bool = λ i. list_any (is_hit patterns bounds line i) (places i (length line)) in
      let d = between from HitFrom hit_from_decided 0 (length line) in (
        λ e. let h = d.0 e in (h.0, h.3.0, h.3.3),
        λ h.
            let ordered = h.2.ordered in
            let within = h.2.within in
            d.1 (h.0, omega arith, omega (arith, ordered, within), (h.1, ordered, within, h.2)),
      )

  pub hits_decided : TestsHits patterns bounds line
  hits_decided = record { each_span = hit_decided; whole_line = line_decided }
