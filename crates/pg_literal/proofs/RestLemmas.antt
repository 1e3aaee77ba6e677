-- Matches behind a place of a line are matches in the rest of the line.
use Rattle.std.proofs.Common.{◌≡◌, ◌∙◌, inl, inr, ℕ, zero, suc, ◌+◌, ◌-◌, ◌≤◌, List, length, drop}
use Rattle.std.proofs.Common.{Some, sym, ap, subst, arith, length-drop}
use Rattle.std.specs.Prelude.{slice_get}
use Rattle.std.specs.List.{All}
use Rattle.std.proofs.lemmas.List.{get_or-drop}
use Rattle.std.proofs.lemmas.List.Elements.{All-contains}
use Rattle.std.proofs.lemmas.Option.{slice_get-get_or, slice_get_within, get_or_from_slice_get}
use Rattle.pg_pattern.specs.Patterns.{Pattern, Empty, Set, Begin, End, Cat, Alt, Rep}
use Rattle.pg_pattern.specs.Matches.{Match, Chain}
use Rattle.pg_pattern.specs.declared.bounds.Bounds.TheVariants.{Any}
use Rattle.pg_literal.specs.Rests.{HasNoBegin, IgnoresFront}
use Rattle.pg_pattern.proofs.LengthLemmas.{match_forward}

module _ (line : List ℕ) (k : ℕ) (within : k ≤ length line) where
  abbrev rest : List ℕ
  rest = drop k line

  -- the bytes behind the place
  byte_behind : (i b : ℕ) → slice_get line (k + i) ≡ Some b → slice_get rest i ≡ Some b
  byte_behind i b at =
      let inside = slice_get_within line (k + i) b at in
      slice_get-get_or rest i 0 (omega (arith, inside, length-drop k line))
      ∙ ap Some (get_or-drop k line i 0 ∙ get_or_from_slice_get line (k + i) b 0 at)

  byte_there : (i b : ℕ) → slice_get rest i ≡ Some b → slice_get line (k + i) ≡ Some b
  byte_there i b at =
      let inside = slice_get_within rest i b at in
      slice_get-get_or line (k + i) 0 (omega (arith, inside, length-drop k line))
      ∙ ap Some (sym (get_or-drop k line i 0) ∙ get_or_from_slice_get rest i b 0 at)

  -- spans one behind the other
  chain_behind : (Span Other : ℕ → ℕ → Type 0) → ((i j : ℕ) → Span i j → i ≤ j)
      → ((i j : ℕ) → Span (k + i) (k + j) → Other i j) → (count i j : ℕ) → Chain Span count (k + i) (k + j)
      → Chain Other count i j
  chain_behind Span Other forward moves zero i j c = omega (arith, c)
  chain_behind Span Other forward moves (suc count) i j c =
      let later = forward (k + i) c.0 c.1 in
      let m = c.0 - k in
      let at : c.0 ≡ k + m = omega arith in (
        m,
        moves i m (subst (Span (k + i)) at c.1),
        chain_behind Span Other forward moves count m j (subst (λ n. Chain Span count n (k + j)) at c.2),
      )

  chain_there : (Span Other : ℕ → ℕ → Type 0) → ((i j : ℕ) → Other i j → Span (k + i) (k + j))
      → (count i j : ℕ) → Chain Other count i j → Chain Span count (k + i) (k + j)
  chain_there Span Other moves zero i j c = ap (λ n. k + n) c
  chain_there Span Other moves (suc count) i j c =
      (k + c.0, moves i c.0 c.1, chain_there Span Other moves count c.0 j c.2)

  match_behind : (p : Pattern) → HasNoBegin p → (i j : ℕ) → Match p line (k + i) (k + j) → Match p rest i j
  match_behind Empty none i j m = omega (arith, m)
  match_behind (Set s) none i j m = (m.0, byte_behind i m.0 m.1, m.2, omega (arith, m.3))
  match_behind Begin none i j m = absurd none
  match_behind End none i j m = (omega (arith, m.0, length-drop k line), omega (arith, m.1))
  match_behind (Cat p q) none i j m =
      let later = match_forward p line (k + i) m.0 m.1 in
      let n = m.0 - k in
      let at : m.0 ≡ k + n = omega arith in (
        n,
        match_behind p none.0 i n (subst (Match p line (k + i)) at m.1),
        match_behind q none.1 n j (subst (λ x. Match q line x (k + j)) at m.2),
      )
  match_behind (Alt p q) none i j (inl m) = inl (match_behind p none.0 i j m)
  match_behind (Alt p q) none i j (inr m) = inr (match_behind q none.1 i j m)
  match_behind (Rep p least most) none i j m = (
    m.0,
    m.1,
    m.2,
    chain_behind (Match p line) (Match p rest) (match_forward p line) (match_behind p none) m.0 i j m.3,
  )

  match_there : (p : Pattern) → HasNoBegin p → (i j : ℕ) → Match p rest i j → Match p line (k + i) (k + j)
  match_there Empty none i j m = ap (λ n. k + n) m
  match_there (Set s) none i j m = (m.0, byte_there i m.0 m.1, m.2, omega (arith, m.3))
  match_there Begin none i j m = absurd none
  match_there End none i j m = (omega (arith, m.0, within, length-drop k line), omega (arith, m.1))
  match_there (Cat p q) none i j m = (k + m.0, match_there p none.0 i m.0 m.1, match_there q none.1 m.0 j m.2)
  match_there (Alt p q) none i j (inl m) = inl (match_there p none.0 i j m)
  match_there (Alt p q) none i j (inr m) = inr (match_there q none.1 i j m)
  match_there (Rep p least most) none i j m =
      (m.0, m.1, m.2, chain_there (Match p line) (Match p rest) (match_there p none) m.0 i j m.3)

-- without an anchor at the begin, where any match counts, the front of a line doesn't matter
pub ignores_front : (patterns : List Pattern) → All HasNoBegin patterns → IgnoresFront patterns Any
ignores_front patterns none line k i j within = (
  λ hit. record {
    ordered = omega (arith, hit.ordered);
    within = omega (arith, hit.within, length-drop k line);
    begins = tt;
    ends = tt;
    matched =
        let m = hit.matched in
        (m.0, m.1, match_behind line k within m.0 (All-contains HasNoBegin patterns m.0 none m.1) i j m.2);
  },
  λ hit. record {
    ordered = omega (arith, hit.ordered);
    within = omega (arith, hit.within, length-drop k line, within);
    begins = tt;
    ends = tt;
    matched =
        let m = hit.matched in
        (m.0, m.1, match_there line k within m.0 (All-contains HasNoBegin patterns m.0 none m.1) i j m.2);
  },
)
