-- Tables that still lack the states of one part of a pattern.
use Rattle.std.specs.Prelude.{◌≡◌, ℕ, ◌+◌, ◌<◌, ◌≤◌, List, length, Option, Some, None, slice_get, slice_set}
use Rattle.pg_pattern.specs.Patterns.{Pattern}
use Rattle.pg_match.specs.Sizes.{size_of}
use Rattle.pg_match.specs.Automata.{IsTidy}
use Rattle.pg_match.specs.Tables.{Implements, KeepsStates, NoAccept, KeepsWritten, Pushed}
use Rattle.pg_match.specs.declared.build.Gap.{Gap}
use Rattle.pg_match.specs.declared.build.Hole.{Hole}
use Rattle.pg_match.specs.declared.state.State.{State}
use Rattle.pg_match.specs.declared.state.State.TheVariants.{Fail, Split}

-- the hole, if there is one, is a `Fail` behind the first n states
abbrev pub IsHole : ℕ → List State → Option Hole → Type 0
IsHole n t None = Unit {0}
IsHole n t (Some h) = (n ≤ h.place) × (slice_get t h.place ≡ Some Fail) × (h.second < length t) × (h.entry < length t)

-- no state leads out of the table, and neither does the gap
pub record IsGap (n : ℕ) (t : List State) (g : Gap) : Type 0 where
  pub tidy : IsTidy t
  pub next_in : g.next < length t
  pub hole_in : IsHole n t g.hole

-- the hole, if there is one, was made a `Split` that leads to e; the whole begins at w
abbrev pub IsFilled : List State → List State → Option Hole → ℕ → ℕ → Type 0
IsFilled old new None e w = (new ≡ old) × (w ≡ e)
IsFilled old new (Some h) e w = (new ≡ slice_set old h.place (Split e h.second)) × (w ≡ h.entry)

-- a state was added, and the hole was made to lead to it; the whole begins at w
abbrev pub Finished : List State → List State → Option Hole → State → ℕ → Type 0
Finished old new h s w = (t : List State) × (e : ℕ) × Pushed old t s e × IsFilled t new h e w

-- the whole begins at w, and leads to e by the hole, if there is one
abbrev pub LeadsByHole : List State → Option Hole → ℕ → ℕ → Type 0
LeadsByHole t None e w = w ≡ e
LeadsByHole t (Some h) e w = (w ≡ h.entry) × (slice_get t h.place ≡ Some (Split e h.second))

-- the table grew from the old one, and has the gap
pub record HasGap (old new : List State) (g : Gap) : Type 0 where
  pub keeps : KeepsStates old new
  pub plain : NoAccept old new
  pub longer : length old ≤ length new
  pub gap_in : IsGap (length old) new g

-- the table grew, so that the gap for a pattern is one for its first part
pub record Narrowed (old new : List State) (g h : Gap) (whole part : Pattern) : Type 0 where
  pub has : (first : List State) → HasGap first old g → HasGap first new h
  pub written : KeepsWritten old new
  pub completes : (t : List State) (e w : ℕ) → KeepsWritten new t → Implements t part e h.next
      → LeadsByHole t h.hole e w
      → (k : ℕ) × Implements t whole k g.next × LeadsByHole t g.hole k w
  pub size : length new + size_of part ≡ length old + size_of whole
