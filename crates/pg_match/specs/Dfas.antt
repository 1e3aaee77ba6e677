-- The DFA of an automaton, as far as it is known: sets of states, and where each byte leads from them.
use Rattle.std.specs.Prelude.{◌≡◌, ◌≢◌, ℕ, ◌+◌, ◌*◌, ◌/◌, ◌<◌, ◌≤◌, ◌⊎◌, ◌↔◌, Bool, IsTrue, List, length, Option, Some}
use Rattle.std.specs.Prelude.{None, slice_get, slice_index, slice_index_or, slice_set, true, false}
use Rattle.pg_match.specs.Automata.{Nfa}
use Rattle.pg_match.specs.StateSets.{Members}
use Rattle.pg_match.specs.Steps.{Has, Starts, Goes, HitBefore, AnswersEnd, ReadsNone}
use Rattle.pg_match.specs.Stands.{Stands, HasRun, NoneBefore}
use Rattle.pg_match.specs.declared.dfa_cursor.Crossing.{Crossing}
use Rattle.pg_match.specs.declared.dfa_cursor.Crossing.TheVariants.{Found, At}
use Rattle.pg_match.specs.declared.dfa_cursor.Cursor.{Cursor}
use Rattle.pg_match.specs.declared.dfa_search.Next.{Next}
use Rattle.pg_match.specs.declared.dfa_search.Next.TheVariants.{Hit, Row, Lost, Dead}
use Rattle.pg_match.specs.declared.dfa_starts.Scan.{Scan}
use Rattle.pg_match.specs.declared.dfa_starts.Scan.TheVariants.{NoHit, Known, Unknown}

-- Row r has the steps from 256 * r on, one for each byte, the r-th answer at a line's end and the r-th flag, and its
-- states lie between two cuts of the pool. Row 0 has no state. In the DFA of all runs row 1 is that of a line's first
-- place.
pub record Dfa : Type 0 where
  pub steps : List ℕ
  pub ends : List (Option Bool)
  pub flags : List Bool
  pub pool : List ℕ
  pub cuts : List ℕ
  pub count : ℕ

-- where the states of row r begin in the pool, and those of the row before it end
abbrev pub cut : Dfa → ℕ → ℕ
cut t r = slice_index t.cuts r

-- the answer of row r at a line's end, if it is known
abbrev pub answer_at_end : Dfa → ℕ → Option Bool
answer_at_end t r = slice_index_or t.ends r None

-- The flag of row r. In the DFA of all runs it says that the row is fresh: only for places where no run is left that
-- began before them. In that of the runs of one start it says that a match may end at a place whose set the row is.
abbrev pub flag_at : Dfa → ℕ → Bool
flag_at t r = slice_index_or t.flags r false

-- the state is in the set of row r
abbrev pub In : Dfa → ℕ → ℕ → Type 0
In t r q = (j : ℕ) × (cut t r ≤ j) × (j < cut t (r + 1)) × (slice_index t.pool j ≡ q)

-- two sets have the same states
abbrev pub Same : (ℕ → Type 0) → (ℕ → Type 0) → Type 0
Same S U = (q : ℕ) → (S q → U q) × (U q → S q)

-- at most 256 sets of states below n, with the steps of each
pub record IsShape (n : ℕ) (t : Dfa) : Type 0 where
  pub steps_size : 256 * (t.count + 1) ≤ length t.steps
  pub ends_size : length t.ends ≡ 257
  pub pool_size : length t.pool ≤ 1048576
  pub flags_size : length t.flags ≡ 257
  pub cuts_size : length t.cuts ≡ 258
  pub none : cut t 0 ≡ cut t 1
  pub few : t.count ≤ 256
  pub order : (r : ℕ) → r ≤ t.count → cut t r ≤ cut t (r + 1)
  pub upto : (r : ℕ) → r ≤ t.count + 1 → cut t r ≤ cut t (t.count + 1)
  pub room : cut t (t.count + 1) ≤ length t.pool
  pub within : (r q : ℕ) → r ≤ t.count → In t r q → q < n

-- where the set stands before the byte, no match ends there or behind it
abbrev pub IsHopeless : Nfa → ℕ → (ℕ → Type 0) → Type 0
IsHopeless m b S =
    (l : List ℕ) (from p : ℕ) → p < length l → Stands m l from p S → slice_get l p ≡ Some b → HasRun m l from → ⊥

-- nothing is known of a step, or only that there was no room for the set that it leads to
abbrev pub IsUnknown : ℕ → Type 0
IsUnknown v = (v < 256) × (v ≢ 1) × (v ≢ 2)

-- what is known of a row and a byte: nothing, that a match ends before the byte, or that none does and which row is
-- next, which is fresh only if no state of the row reads the byte
abbrev pub Told : Nfa → Dfa → ℕ → ℕ → ℕ → Type 0
Told m t r b v =
    IsUnknown v ⊎ (((v ≡ 1) × HitBefore m b (In t r)) ⊎ (((v ≡ 2) × IsHopeless m b (In t r))
    ⊎ ((k : ℕ) × (v ≡ 256 * k) × (1 ≤ k) × (k ≤ t.count) × (HitBefore m b (In t r) → ⊥) × Goes m b (In t r) (In t k)
    × (flag_at t k ≡ true → ReadsNone m b (In t r)))))

-- what is known of the DFA is true of the automaton, for every line
pub record IsDfaOf (m : Nfa) (t : Dfa) : Type 0 where
  pub shape : IsShape (length m.states) t
  pub told : (r b : ℕ) → r ≤ t.count → b < 256 → Told m t r b (slice_index t.steps (256 * r + b))
  pub blank : (i : ℕ) → 256 * (t.count + 1) ≤ i → slice_index t.steps i ≡ 0
  pub told_end : (r : ℕ) (answer : Bool) → answer_at_end t r ≡ Some answer
      → (r ≤ t.count) × AnswersEnd m false (In t r) answer
  pub first : 1 ≤ t.count → Starts m true (In t 1)

-- a DFA of which no set is known, whatever the automaton
pub record IsBlank (t : Dfa) : Type 0 where
  pub shape : (n : ℕ) → IsShape n t
  pub steps : (i : ℕ) → slice_index t.steps i ≡ 0
  pub ends : (r : ℕ) → answer_at_end t r ≡ None
  pub count : t.count ≡ 0

-- the rows of the old DFA stand in the new one, with their flags
pub record KeepsRows (old new : Dfa) : Type 0 where
  pub sets : (r : ℕ) → r ≤ old.count → Same (In old r) (In new r)
  pub flags : (r : ℕ) → r ≤ old.count → flag_at new r ≡ flag_at old r
  pub more : old.count ≤ new.count

-- memory for another row, of so many states
pub record HasRowRoom (t : Dfa) (states : ℕ) : Type 0 where
  pub few : t.count < 256
  pub steps : 256 * (t.count + 2) ≤ length t.steps
  pub pool : cut t (t.count + 1) + states ≤ length t.pool

-- the new DFA has the rows, steps and answers of the old one, with more memory behind them or not
pub record Widened (old new : Dfa) : Type 0 where
  pub steps : (i : ℕ) → slice_index new.steps i ≡ slice_index old.steps i
  pub pool : (i : ℕ) → slice_index new.pool i ≡ slice_index old.pool i
  pub more_steps : length old.steps ≤ length new.steps
  pub more_states : length old.pool ≤ length new.pool
  pub few : length new.pool ≤ 1048576
  pub ends : new.ends ≡ old.ends
  pub flags : new.flags ≡ old.flags
  pub cuts : new.cuts ≡ old.cuts
  pub count : new.count ≡ old.count

-- the set was added as a row
pub record Grown (n : ℕ) (old new : Dfa) (s : Members) (flag : Bool) : Type 0 where
  pub shape : IsShape n new
  pub keeps : KeepsRows old new
  pub steps : (i : ℕ) → slice_index new.steps i ≡ slice_index old.steps i
  pub ends : new.ends ≡ old.ends
  pub count : new.count ≡ old.count + 1
  pub here : Same (Has s) (In new new.count)
  pub flag_here : flag_at new new.count ≡ flag

-- the sets are the old ones
pub record SameSets (old new : Dfa) : Type 0 where
  pub flags : new.flags ≡ old.flags
  pub pool : new.pool ≡ old.pool
  pub cuts : new.cuts ≡ old.cuts
  pub count : new.count ≡ old.count

-- a step was written
pub record Marked (old new : Dfa) (i v : ℕ) : Type 0 where
  pub steps : new.steps ≡ slice_set old.steps i v
  pub ends : new.ends ≡ old.ends
  pub sets : SameSets old new

-- the answer at a line's end was written
pub record MarkedEnd (old new : Dfa) (r : ℕ) (answer : Bool) : Type 0 where
  pub ends : new.ends ≡ slice_set old.ends r (Some answer)
  pub steps : new.steps ≡ old.steps
  pub sets : SameSets old new

-- the state of a walk is 256 times a row
pub record IsAtRow (t : Dfa) (state : ℕ) : Type 0 where
  pub row : state ≡ 256 * (state / 256)
  pub known : state / 256 ≤ t.count

-- the row of a walk's state is the set of the place
abbrev pub IsRowAt : Nfa → Dfa → List ℕ → ℕ → ℕ → ℕ → Type 0
IsRowAt m t l from p state = Stands m l from p (In t (state / 256))

-- what was learned of a row and a byte
abbrev pub Learned : Nfa → Dfa → Dfa → ℕ → ℕ → Members → Next → Type 0
Learned m old new r b s Hit = HitBefore m b (In old r)
Learned m old new r b s (Row v) =
    IsAtRow new v × (HitBefore m b (In old r) → ⊥) × Goes m b (In old r) (In new (v / 256))
    × Same (Has s) (In new (v / 256))
Learned m old new r b s Dead = IsHopeless m b (In old r)
Learned m old new r b s Lost = (HitBefore m b (In old r) → ⊥) × Goes m b (In old r) (Has s)

-- where the row's set stands before the byte, the answer is whether the line has a match
abbrev pub Settles : Nfa → ℕ → (ℕ → Type 0) → Bool → Type 0
Settles m b S answer =
    (l : List ℕ) (from p : ℕ) → p < length l → Stands m l from p S → slice_get l p ≡ Some b
    → IsTrue answer ↔ HasRun m l from

-- where the row's set stands before a line's last byte, the answer is whether the line has a match
abbrev pub Finishes : Nfa → ℕ → (ℕ → Type 0) → Bool → Type 0
Finishes m b S answer =
    (l : List ℕ) (from p : ℕ) → Stands m l from p S → slice_get l p ≡ Some b → p + 1 ≡ length l → from ≤ p + 1
    → IsTrue answer ↔ HasRun m l from

-- the row of a walk's state is the set of the place, and no hit begins from one place on before another
pub record HasScanned (m : Nfa) (t : Dfa) (l : List ℕ) (from p state start : ℕ) : Type 0 where
  pub within : p < length l
  pub near : from ≤ p + 1
  pub row : IsAtRow t state
  pub stands : IsRowAt m t l from p state
  pub later : from ≤ start
  pub upto : start ≤ length l
  pub none : NoneBefore m l from start

-- What the rows tell of the hits of a line from a place on: that there are none, or that none begins before
-- another place.
abbrev pub Scanned : Nfa → List ℕ → ℕ → Scan → Type 0
Scanned m l from NoHit = HasRun m l from → ⊥
Scanned m l from (Known start) = (from ≤ start) × (start ≤ length l) × NoneBefore m l from start
Scanned m l from (Unknown start) = (from ≤ start) × (start ≤ length l) × NoneBefore m l from start

-- the cursor's row is the set of its place, for the runs that began at `from` or behind it
pub record IsCursor (m : Nfa) (t : Dfa) (l : List ℕ) (c : Cursor) : Type 0 where
  pub within : c.place < length l
  pub near : c.from ≤ c.place + 1
  pub row : IsAtRow t c.state
  pub stands : IsRowAt m t l c.from c.place c.state

-- What is found at a step that stopped a walk: whether there is a hit from the cursor's `from` on, or a cursor further
-- on, where there is one if and only if there is one from its own `from` on.
abbrev pub Crosses : Nfa → Dfa → List ℕ → Cursor → Crossing → Type 0
Crosses m t l c (Found answer) = IsTrue answer ↔ HasRun m l c.from
Crosses m t l c (At next) =
    (c.place < next.place) × IsCursor m t l next × (HasRun m l c.from ↔ HasRun m l next.from)

-- the place that was come to, in a line of n bytes
abbrev pub reached : ℕ → Crossing → ℕ
reached n (Found answer) = n
reached n (At next) = next.place
