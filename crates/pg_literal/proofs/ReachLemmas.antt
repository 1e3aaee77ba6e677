-- Matches without what stands around them.
use Rattle.std.proofs.Common.{◌≡◌, ◌∙◌, inl, inr, ℕ, zero, suc, ◌+◌, ◌-◌, ◌≤◌, ◌<◌, List, take, drop}
use Rattle.std.proofs.Common.{Option, None, Some, ap, subst, arith, get_or, slice_range}
use Rattle.std.specs.Prelude.{IfSome, slice_get}
use Rattle.std.specs.List.{All}
use Rattle.std.proofs.lemmas.List.{get_or-take, length-take, length-take-le}
use Rattle.std.proofs.lemmas.List.Elements.{All-contains}
use Rattle.std.proofs.lemmas.Option.{slice_get-get_or, slice_get_within, get_or_from_slice_get}
use Rattle.pg_pattern.specs.Patterns.{Pattern, Empty, Set, Begin, End, Cat, Alt, Rep}
use Rattle.pg_pattern.specs.Matches.{Match, Chain}
use Rattle.pg_pattern.specs.Hits.{Hit, HasHit}
use Rattle.pg_pattern.specs.declared.bounds.Bounds.TheVariants.{Any}
use Rattle.pg_literal.specs.Rests.{HasNoBegin}
use Rattle.pg_literal.specs.Reaches.{HasNoAnchor, IsReach}
use Rattle.pg_pattern.specs.Lengths.{HitsEndWithin}
use Rattle.pg_pattern.proofs.LengthLemmas.{chain_forward, match_forward}
use Rattle.pg_literal.proofs.RestLemmas.{ignores_front}

-- a pattern without an anchor has none for the begin
no_begin : (p : Pattern) → HasNoAnchor p → HasNoBegin p
no_begin Empty none = tt
no_begin (Set s) none = tt
no_begin Begin none = absurd none
no_begin End none = tt
no_begin (Cat p q) none = (no_begin p none.0, no_begin q none.1)
no_begin (Alt p q) none = (no_begin p none.0, no_begin q none.1)
no_begin (Rep p least most) none = no_begin p none

-- the bytes before the place
byte_before : (line : List ℕ) (n i b : ℕ) → i < n → slice_get line i ≡ Some b → slice_get (take n line) i ≡ Some b
byte_before line n i b low at =
    let inside = slice_get_within line i b at in
    slice_get-get_or (take n line) i 0 (omega (arith, low, inside, length-take n line))
    ∙ ap Some (get_or-take n line i 0 low ∙ get_or_from_slice_get line i b 0 at)

-- spans before a place, one behind the other
chain_before : (Span Other : ℕ → ℕ → Type 0) (n : ℕ) → ((i j : ℕ) → Span i j → i ≤ j)
    → ((i j : ℕ) → j ≤ n → Span i j → Other i j) → (count i j : ℕ) → j ≤ n → Chain Span count i j
    → Chain Other count i j
chain_before Span Other n forward moves zero i j low c = c
chain_before Span Other n forward moves (suc count) i j low c =
    let later = chain_forward Span forward count c.0 j c.2 in (
      c.0,
      moves i c.0 (omega arith) c.1,
      chain_before Span Other n forward moves count c.0 j low c.2,
    )

-- matches that end before a place don't depend on what stands behind it
match_before : (p : Pattern) → HasNoAnchor p → (line : List ℕ) (n i j : ℕ) → j ≤ n → Match p line i j
    → Match p (take n line) i j
match_before Empty none line n i j low m = m
match_before (Set s) none line n i j low m = (m.0, byte_before line n i m.0 (omega (arith, m.3)) m.1, m.2, m.3)
match_before Begin none line n i j low m = absurd none
match_before End none line n i j low m = absurd none
match_before (Cat p q) none line n i j low m =
    let later = match_forward q line m.0 j m.2 in
    (m.0, match_before p none.0 line n i m.0 (omega arith) m.1, match_before q none.1 line n m.0 j low m.2)
match_before (Alt p q) none line n i j low (inl m) = inl (match_before p none.0 line n i j low m)
match_before (Alt p q) none line n i j low (inr m) = inr (match_before q none.1 line n i j low m)
match_before (Rep p least most) none line n i j low m = (
  m.0,
  m.1,
  m.2,
  chain_before (Match p line) (Match p (take n line)) n (match_forward p line) (match_before p none line n) m.0 i j low
      m.3,
)

module _ (patterns : List Pattern) (reach : ℕ) (free : All HasNoAnchor patterns) where
  -- without an anchor a hit is one in its own bytes
  hit_alone : (line : List ℕ) (i j : ℕ) → Hit patterns Any line i j → HasHit patterns Any (slice_range line i j)
  hit_alone line i j hit =
      let first : i ≡ i + 0 = omega arith in
      let last : j ≡ i + (j - i) = omega (arith, hit.ordered) in
      let there = subst (λ n. Hit patterns Any line n (i + (j - i))) first
      (subst (Hit patterns Any line i) last hit) in
      let none : All HasNoBegin patterns = λ k d below. no_begin (get_or patterns k d) (free k d below) in
      let moved = (ignores_front patterns none line i 0 (j - i) (omega (arith, hit.ordered, hit.within))).0 there in
      let m = moved.matched in
      let own = All-contains HasNoAnchor patterns m.0 free m.1 in
      let size = length-take-le (j - i) (drop i line) moved.within in (
        0,
        j - i,
        record {
          ordered = moved.ordered;
          within = omega (arith, size);
          begins = tt;
          ends = tt;
          matched = (m.0, m.1, match_before m.0 own (drop i line) (j - i) 0 (j - i) (omega arith) m.2);
        },
      )

  reach_known : HitsEndWithin patterns Any reach → IsReach patterns reach
  reach_known near = record { alone = hit_alone; near = near }

-- the reach of hits, where it is known, of patterns without an anchor
pub reach_of_free : (patterns : List Pattern) → All HasNoAnchor patterns → (reach : Option ℕ)
    → IfSome reach (HitsEndWithin patterns Any) → IfSome reach (IsReach patterns)
reach_of_free patterns free None known = tt
reach_of_free patterns free (Some bytes) known = reach_known patterns bytes free known
