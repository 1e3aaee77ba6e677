-- What a search has found so far, and what it may still find.
use Rattle.std.specs.Prelude.{◌≡◌, ℕ, zero, suc, ◌+◌, ◌-◌, ◌^◌, ◌<◌, ◌≤◌, ◌⊎◌, Bool, List, length}
use Rattle.std.specs.Prelude.{Option, Some, None, nat_lt, nat_le, if◌then◌else◌, IsTrue}
use Rattle.pg_pattern.specs.Bounds.{may_end, MayBegin, MayEnd}
use Rattle.pg_match.specs.Automata.{Nfa, Runs}
use Rattle.pg_match.specs.StateSets.{Members, mark, IsGood}
use Rattle.pg_match.specs.Closures.{Leads, IsClosed, IsOrdered, Stepped}
use Rattle.pg_match.specs.declared.state.State.{State}

-- a start that may still win
abbrev pub Early : Option (ℕ × ℕ) → ℕ → Type 0
Early None s = Unit {0}
Early (Some b) s = s ≤ b.0

-- the automaton runs from s to j, where B allows the one and E the other
abbrev pub RunsFrom : List State → List ℕ → ℕ → (ℕ → Type 0) → (ℕ → Type 0) → ℕ → ℕ → Type 0
RunsFrom t l x B E s j = B s × E j × ((n : ℕ) × Runs t l n x s j)

-- the best of the spans that end before p: the earliest, and of these the longest
abbrev pub IsBest : List State → List ℕ → ℕ → (ℕ → Type 0) → (ℕ → Type 0) → ℕ → ℕ → Option (ℕ × ℕ) → Type 0
IsBest t l x B E from p None = (s j : ℕ) → from ≤ s → s < j → j < p → RunsFrom t l x B E s j → ⊥
IsBest t l x B E from p (Some b) =
    (from ≤ b.0) × (b.0 < b.1) × (b.1 < p) × RunsFrom t l x B E b.0 b.1
    × ((s j : ℕ) → from ≤ s → s < j → j < p → RunsFrom t l x B E s j → (b.0 ≤ s) × (s ≡ b.0 → j ≤ b.1))

-- the best of the spans from a place on that begin and end where they may
abbrev pub IsBestFrom : Nfa → List ℕ → ℕ → Option (ℕ × ℕ) → Type 0
IsBestFrom m l from span =
    IsBest m.states l m.start (MayBegin m.bounds l) (MayEnd m.bounds l) from (length l + 1) span

-- the set of position p holds what the starts from `from` to before `upto` that may still win lead to
pub record Alive (t : List State) (l : List ℕ) (x : ℕ) (B : ℕ → Type 0) (from upto p : ℕ) (now : Members)
    (best : Option (ℕ × ℕ)) : Type 0 where
  pub good : IsGood now
  pub size : length now.marks ≡ length t
  pub closed : IsClosed t l p now
  pub ordered : IsOrdered now
  pub sound : (q : ℕ) → 0 < mark now q
      → (s : ℕ) × (mark now q ≡ s + 1) × (from ≤ s) × (s < upto) × B s × Leads t l x s q p
  pub complete : (s n j : ℕ) → from ≤ s → s < upto → B s → Early best s → Runs t l n x s j → p ≤ j
      → (q : ℕ) × (m : ℕ) × (0 < mark now q) × (mark now q ≤ s + 1) × Runs t l m q p j

-- the starts before this place are in the set of a place: those before the place, and at a line's first place the one
-- there
abbrev pub start_bound : ℕ → ℕ
start_bound zero = 1
start_bound (suc p) = suc p

-- what x leads to by the byte at p was added to the set behind it, if x is wanted and B allows it at p
pub record Seeded (t : List State) (l : List ℕ) (x : ℕ) (B : ℕ → Type 0) (p : ℕ) (wanted : Bool)
    (old new : Members) : Type 0 where
  pub good : IsGood new
  pub size : length new.marks ≡ length old.marks
  pub closed : IsClosed t l (p + 1) new
  pub ordered : IsOrdered new
  pub kept : (q : ℕ) → 0 < mark old q → mark new q ≡ mark old q
  pub fresh : (q : ℕ) → mark old q ≡ 0 → 0 < mark new q → (mark new q ≡ p + 1) × B p × Leads t l x p q (p + 1)
  pub here : IsTrue wanted → B p → (n j : ℕ) → Runs t l n x p j → p + 1 ≤ j
      → (q : ℕ) × (m : ℕ) × (0 < mark new q) × (mark new q ≤ p + 1) × Runs t l m q (p + 1) j

-- the set behind p was made, with what starts at p lead to, but at a line's first place, where they are in the set of p
abbrev pub Advanced : List State → List ℕ → ℕ → (ℕ → Type 0) → ℕ → Bool → Members → Members → ℕ → Type 0
Advanced t l x B p wanted now next limit =
    (mid : Members) × Stepped t l p now mid limit
    × (((p ≡ 0) × (next ≡ mid)) ⊎ ((0 < p) × Seeded t l x B p wanted mid next))

-- the span from s to p, unless the best so far starts earlier
abbrev pub winner : ℕ → ℕ → Option (ℕ × ℕ) → Option (ℕ × ℕ)
winner p s None = Some (s, p)
winner p s (Some b) = if nat_le s b.0 then Some (s, p) else Some b

-- the best span, where a match ends at p whose start, plus one, is the second number
abbrev pub judged : ℕ → ℕ → Option (ℕ × ℕ) → Option (ℕ × ℕ)
judged p zero best = best
judged p (suc s) best = if nat_lt s p then winner p s best else best

abbrev pub limit_of : Option (ℕ × ℕ) → ℕ
limit_of None = 2 ^ 32 - 1
limit_of (Some b) = b.0 + 1

-- the start of the match that ends at p, plus one; 0 where none does
abbrev pub ending : Nfa → List ℕ → ℕ → Members → ℕ
ending m l p now = if may_end m.bounds l p then mark now 0 else 0
