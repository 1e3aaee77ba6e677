-- The DFA of the runs that begin at one place, as far as it is known: that of anchored searches.
use Rattle.std.specs.Prelude.{◌≡◌, ℕ, zero, suc, ◌+◌, ◌*◌, ◌/◌, ◌<◌, ◌≤◌, ◌⊎◌, ◌↔◌, Bool, true, false}
use Rattle.std.specs.Prelude.{List, length, slice_get, slice_index, Option, Some, None}
use Rattle.pg_match.specs.Automata.{Nfa, Edge, Runs}
use Rattle.pg_match.specs.Closures.{Leads}
use Rattle.pg_pattern.specs.Bounds.{MayBegin, MayEnd}
use Rattle.pg_match.specs.Dfas.{Dfa, In, IsShape, IsUnknown, IsAtRow, flag_at, answer_at_end}
use Rattle.pg_match.specs.Steps.{Reads, LeadsStill, IsStill, Starts, ReadsNone, AnswersEnd}
use Rattle.pg_match.specs.Searches.{IsBestFrom, RunsFrom}
use Rattle.pg_match.specs.declared.dfa_anchored.KnownSpan.{KnownSpan}
use Rattle.pg_match.specs.declared.dfa_anchored.KnownSpan.TheVariants.{Longest, Nothing, Unknown}
use Rattle.pg_match.specs.declared.single_start.AnchoredRun.{AnchoredRun}
use Rattle.pg_match.specs.declared.state.State.{State}

-- from S alone, with no start behind the byte, the byte leads to U, but for what needs the line's end
pub record GoesAlone (t : List State) (b : ℕ) (S U : ℕ → Type 0) : Type 0 where
  pub comes : (r : ℕ) → U r → (q : ℕ) × (y : ℕ) × S q × Reads (slice_get t q) b y × LeadsStill t false false y r
  pub goes : (q r : ℕ) → S q → Reads (slice_get t q) b r → U r
  pub still : IsStill t false false U

-- what is known of a row and a byte: nothing, that no state of the row reads the byte, or which row is next
abbrev pub ToldAlone : Nfa → Dfa → ℕ → ℕ → ℕ → Type 0
ToldAlone m t r b v =
    IsUnknown v ⊎ (((v ≡ 2) × ReadsNone m b (In t r))
    ⊎ ((k : ℕ) × (v ≡ 256 * k) × (1 ≤ k) × (k ≤ t.count) × GoesAlone m.states b (In t r) (In t k)))

-- the row of a start at a place: at a line's first one, or inside a line
abbrev pub start_row : ℕ → ℕ
start_row zero = 2
start_row (suc s) = 1

-- What is known of the DFA of the runs of one start is true of the automaton, for every line. A row's flag says whether
-- a match may end at a place inside a line whose set the row is. Row 1 is that of a start inside a line, and row 2 that
-- of a start at a line's first place.
pub record IsAnchoredDfaOf (m : Nfa) (t : Dfa) : Type 0 where
  pub shape : IsShape (length m.states) t
  pub told : (r b : ℕ) → r ≤ t.count → b < 256 → ToldAlone m t r b (slice_index t.steps (256 * r + b))
  pub blank : (i : ℕ) → 256 * (t.count + 1) ≤ i → slice_index t.steps i ≡ 0
  pub accepts : (r : ℕ) → 1 ≤ r → r ≤ t.count → (flag_at t r ≡ true) ↔ In t r 0
  pub told_end : (r : ℕ) (answer : Bool) → answer_at_end t r ≡ Some answer
      → (r ≤ t.count) × AnswersEnd m false (In t r) answer
  pub inside : 1 ≤ t.count → Starts m false (In t 1)
  pub first : 2 ≤ t.count → Starts m true (In t 2)

-- no span with a byte, which begins and ends where it may, begins from one place on before another
abbrev pub NothingBefore : Nfa → List ℕ → ℕ → ℕ → Type 0
NothingBefore m l from place =
    (i j : ℕ) → from ≤ i → i < place → i < j → j < length l + 1
    → RunsFrom m.states l m.start (MayBegin m.bounds l) (MayEnd m.bounds l) i j → ⊥

-- the longest of the spans with a byte that begin at s ends at e
abbrev pub IsLongestFrom : Nfa → List ℕ → ℕ → ℕ → Type 0
IsLongestFrom m l s e = IsBestFrom m l s (Some (s, e))

-- what is told of the spans with a byte that begin at a place: where the longest one ends, or that there is none, or
-- nothing
abbrev pub TellsKnownSpan : Nfa → List ℕ → ℕ → KnownSpan → Type 0
TellsKnownSpan m l s (Longest e) = IsLongestFrom m l s e
TellsKnownSpan m l s (Nothing known) = NothingBefore m l s (s + 1)
TellsKnownSpan m l s Unknown = Unit {0}

-- the last place where a span was found to end, or that none was, as is known at a place
abbrev pub known_span_of : Option ℕ → ℕ → KnownSpan
known_span_of None place = Nothing place
known_span_of (Some e) place = Longest e

-- S holds the states at p of the runs that began at s
pub record StandsFrom (m : Nfa) (l : List ℕ) (s p : ℕ) (S : ℕ → Type 0) : Type 0 where
  pub sound : (q : ℕ) → S q → Leads m.states l m.start s q p
  pub complete : (n j : ℕ) → Runs m.states l n m.start s j → p ≤ j → (q : ℕ) × (k : ℕ) × S q × Runs m.states l k q p j
  pub closed : p < length l → (q r : ℕ) → S q → Edge (slice_get m.states q) l p r p → S r

-- no run from s ends where it may behind a place, up to another and before the line's end
abbrev pub NoEnd : Nfa → List ℕ → ℕ → ℕ → ℕ → Type 0
NoEnd m l s behind upto =
    (n j : ℕ) → behind < j → j ≤ upto → j < length l → MayEnd m.bounds l j → Runs m.states l n m.start s j → ⊥

-- the last place behind s, up to p, where a run from s ends and may
abbrev pub IsLastEnd : Nfa → List ℕ → ℕ → ℕ → Option ℕ → Type 0
IsLastEnd m l s p None = NoEnd m l s s p
IsLastEnd m l s p (Some e) =
    (s < e) × (e ≤ p) × MayEnd m.bounds l e × ((n : ℕ) × Runs m.states l n m.start s e) × NoEnd m l s e p

-- in the middle of following the runs from s: the row of the state is the set of the place p
pub record Follows (m : Nfa) (t : Dfa) (l : List ℕ) (s p state : ℕ) (last : Option ℕ) : Type 0 where
  pub onward : s ≤ p
  pub within : p ≤ length l
  pub row : IsAtRow t state
  pub stands : StandsFrom m l s p (In t (state / 256))
  pub found : IsLastEnd m l s p last

-- in the middle of following an anchored run: the row of the state is the set of its place
abbrev pub FollowsRun : Nfa → Dfa → List ℕ → AnchoredRun → ℕ → Type 0
FollowsRun m t l run state = Follows m t l run.start run.place state (Some run.last)

-- the runs from s were followed to p, whose set S is
pub record IsAnchoredRun (m : Nfa) (l : List ℕ) (s p last : ℕ) (S : ℕ → Type 0) : Type 0 where
  pub begins : MayBegin m.bounds l s
  pub onward : s ≤ p
  pub within : p ≤ length l
  pub stands : StandsFrom m l s p S
  pub found : IsLastEnd m l s p (Some last)

-- S is the set of p in a search from a place on whose best span so far is this one, and no better one begins elsewhere
abbrev pub IsLone : Nfa → List ℕ → ℕ → ℕ → (ℕ → Type 0) → Option (ℕ × ℕ) → Type 0
IsLone m l from p S None = ⊥
IsLone m l from p S (Some b) = (from ≤ b.0) × NothingBefore m l from b.0 × IsAnchoredRun m l b.0 p b.1 S

-- where a search begins at the first place of a line of more than one byte, the row is the set behind the first byte of
-- the runs that begin there
pub record IsSecondRow (m : Nfa) (t : Dfa) (l : List ℕ) (from row : ℕ) : Type 0 where
  pub first : from ≡ 0
  pub more : 1 < length l
  pub known : row ≤ t.count
  pub stands : StandsFrom m l 0 1 (In t row)

-- Of n + 1 visits a state so many are left beside those of a search of n bytes from a place on: one for each place up
-- to that one, or, if a line's second set is known, for the line's first two.
abbrev pub spared : ℕ → ℕ
spared zero = 2
spared (suc s) = s + 2
