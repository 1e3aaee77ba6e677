-- How a table of states grows by the states of a pattern.
use Rattle.std.specs.Prelude.{◌≡◌, ◌≢◌, ℕ, zero, suc, ◌+◌, ◌-◌, ◌*◌, ◌<◌, [], ◌∷◌, ◌++◌}
use Rattle.std.specs.Prelude.{List, length, take, sum_by, Option, Some, None, slice_get}
use Rattle.pg_bytes.specs.ByteSets.{bytes}
use Rattle.pg_bytes.specs.declared.byte_set.ByteSet.{ByteSet}
use Rattle.pg_pattern.specs.Patterns.{Pattern, Empty, Set, Begin, End, Cat, Alt, Rep}
use Rattle.pg_pattern.specs.Matches.{Chain}
use Rattle.pg_match.specs.Sizes.{size_of}
use Rattle.pg_match.specs.Automata.{IsTidy}
use Rattle.pg_match.specs.declared.state.State.{State}
use Rattle.pg_match.specs.declared.state.State.TheVariants.{Fail, Accept, Jump, Read, AtBegin, AtEnd, Split}

-- at most so many parts from the state e to the state x, each of which may be left out
abbrev pub Optional : List State → (ℕ → ℕ → Type 0) → ℕ → ℕ → ℕ → Type 0
Optional t Part zero e x = e ≡ x
Optional t Part (suc c) e x = (f : ℕ) × (k : ℕ) × (slice_get t e ≡ Some (Split f x)) × Part f k × Optional t Part c k x

-- any number of parts, from the state e to the state x
abbrev pub Loop : List State → (ℕ → ℕ → Type 0) → ℕ → ℕ → Type 0
Loop t Part e x = (f : ℕ) × (slice_get t e ≡ Some (Split f x)) × Part f e

-- what follows the parts that a repetition must have
abbrev pub AfterCopies : List State → (ℕ → ℕ → Type 0) → ℕ → Option ℕ → ℕ → ℕ → Type 0
AfterCopies t Part least None e x = Loop t Part e x
AfterCopies t Part least (Some most) e x = Optional t Part (most - least) e x

-- from the state e on the table reads what the pattern matches, and goes on at the state x
abbrev pub Implements : List State → Pattern → ℕ → ℕ → Type 0
Implements t Empty e x = slice_get t e ≡ Some (Jump x)
Implements t (Set w) e x = (s : ByteSet) × (bytes s ≡ w) × (slice_get t e ≡ Some (Read s x))
Implements t Begin e x = slice_get t e ≡ Some (AtBegin x)
Implements t End e x = slice_get t e ≡ Some (AtEnd x)
Implements t (Cat p q) e x = (k : ℕ) × Implements t p e k × Implements t q k x
Implements t (Alt p q) e x =
    (f : ℕ) × (g : ℕ) × (slice_get t e ≡ Some (Split f g)) × Implements t p f x × Implements t q g x
Implements t (Rep p least most) e x =
    (k : ℕ) × Chain (Implements t p) least e k × AfterCopies t (Implements t p) least most k x

-- each state of the old table is in the new one
abbrev pub KeepsStates : List State → List State → Type 0
KeepsStates old new = (q : ℕ) (s : State) → slice_get old q ≡ Some s → slice_get new q ≡ Some s

-- each `Accept` of the new table is one of the old one
abbrev pub NoAccept : List State → List State → Type 0
NoAccept old new = (q : ℕ) → slice_get new q ≡ Some Accept → slice_get old q ≡ Some Accept

-- each state of the old table is in the new one, but for a `Fail`, which may have been written over
abbrev pub KeepsWritten : List State → List State → Type 0
KeepsWritten old new = (q : ℕ) (s : State) → s ≢ Fail → slice_get old q ≡ Some s → slice_get new q ≡ Some s

-- the state was added at the end, as e
pub record Pushed (old new : List State) (s : State) (e : ℕ) : Type 0 where
  pub place : e ≡ length old
  pub items : new ≡ old ++ s ∷ []

-- the table grew by the states of the pattern, which begin at e and go on at x
pub record Added (old new : List State) (p : Pattern) (e x : ℕ) : Type 0 where
  pub implements : Implements new p e x
  pub keeps : KeepsStates old new
  pub plain : NoAccept old new
  pub tidy : IsTidy new
  pub inside : e < length new
  pub size : length new ≡ length old + size_of p

-- the table grew by the states of copies of the pattern, one behind the other, which begin at e and go on at x
pub record AddedCopies (old new : List State) (p : Pattern) (count e x : ℕ) : Type 0 where
  pub implements : Chain (Implements new p) count e x
  pub keeps : KeepsStates old new
  pub plain : NoAccept old new
  pub tidy : IsTidy new
  pub inside : e < length new
  pub size : length new ≡ length old + count * size_of p

-- the table grew by the states of copies of the pattern that may be left out, which begin at e and go on at x
pub record AddedOptional (old new : List State) (p : Pattern) (count e x : ℕ) : Type 0 where
  pub implements : Optional new (Implements new p) count e x
  pub keeps : KeepsStates old new
  pub plain : NoAccept old new
  pub tidy : IsTidy new
  pub inside : e < length new
  pub size : length new ≡ length old + count * size_of p + count

-- from e the table matches one of the patterns 0 to k, and goes on at x
abbrev pub Alternatives : List State → List Pattern → ℕ → ℕ → ℕ → Type 0
Alternatives t patterns zero e x = (p : Pattern) × (slice_get patterns 0 ≡ Some p) × Implements t p e x
Alternatives t patterns (suc k) e x =
    (p : Pattern) × (slice_get patterns (suc k) ≡ Some p) × (f : ℕ) × (g : ℕ) × (slice_get t e ≡ Some (Split f g))
    × Implements t p f x × Alternatives t patterns k g x

-- the table has the first c patterns, and starts at a state
pub record HasFirst (t : List State) (patterns : List Pattern) (c start : ℕ) : Type 0 where
  pub tidy : IsTidy t
  pub start_in : start < length t
  pub accept : slice_get t 0 ≡ Some Accept
  pub only : (q : ℕ) → slice_get t q ≡ Some Accept → q ≡ 0
  pub size : length t ≡ sum_by size_of (take c patterns) + (c - 1) + 1
  pub none : c ≡ 0 → start ≡ 0
  pub some : (k : ℕ) → c ≡ suc k → Alternatives t patterns k start 0
