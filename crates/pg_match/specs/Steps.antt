-- How a byte leads from one set of states to the next, whatever line and place it stands at. A set is what it holds.
use Rattle.std.specs.Prelude.{◌≡◌, ℕ, ◌<◌, ◌≤◌, ◌⊎◌, Bool, true, false, not, IsTrue}
use Rattle.std.specs.Prelude.{List, length, Option, Some, None, slice_get, slice_index}
use Rattle.pg_bytes.specs.ByteSets.{bytes}
use Rattle.pg_match.specs.Automata.{Nfa, Runs}
use Rattle.pg_pattern.specs.Bounds.{is_word_byte}
use Rattle.pg_match.specs.Closures.{Leads}
use Rattle.pg_match.specs.StateSets.{Members, mark, listed, IsGood, Counted}
use Rattle.pg_pattern.specs.declared.bounds.Bounds.{Bounds}
use Rattle.pg_pattern.specs.declared.bounds.Bounds.TheVariants.{Any, Word, Whole}
use Rattle.pg_match.specs.declared.state.State.{State}
use Rattle.pg_match.specs.declared.state.State.TheVariants.{Fail, Accept, Jump, Read, AtBegin, AtEnd, Split}

-- the state is in the set
abbrev pub Has : Members → ℕ → Type 0
Has s q = 0 < mark s q

-- an edge that reads nothing, at a place that is a line's first or not, and its last or not
abbrev pub Still : Bool → Bool → Option State → ℕ → Type 0
Still first last None q = ⊥
Still first last (Some Fail) q = ⊥
Still first last (Some Accept) q = ⊥
Still first last (Some (Jump x)) q = q ≡ x
Still first last (Some (Read s x)) q = ⊥
Still first last (Some (AtBegin x)) q = IsTrue first × (q ≡ x)
Still first last (Some (AtEnd x)) q = IsTrue last × (q ≡ x)
Still first last (Some (Split x y)) q = (q ≡ x) ⊎ (q ≡ y)

-- an edge that reads the byte
abbrev pub Reads : Option State → ℕ → ℕ → Type 0
Reads None b q = ⊥
Reads (Some Fail) b q = ⊥
Reads (Some Accept) b q = ⊥
Reads (Some (Jump x)) b q = ⊥
Reads (Some (Read s x)) b q = (bytes s b ≡ true) × (q ≡ x)
Reads (Some (AtBegin x)) b q = ⊥
Reads (Some (AtEnd x)) b q = ⊥
Reads (Some (Split x y)) b q = ⊥

-- at each such place of each line, a run from q makes one from x
abbrev pub LeadsStill : List State → Bool → Bool → ℕ → ℕ → Type 0
LeadsStill t first last x q =
    (l : List ℕ) (i : ℕ) → (IsTrue first → i ≡ 0) → (IsTrue last → i ≡ length l) → Leads t l x i q i

-- all that q leads to without a byte is in the set
abbrev pub HasStill : List State → Bool → Bool → (ℕ → Type 0) → ℕ → Type 0
HasStill t first last S q = (r : ℕ) → Still first last (slice_get t q) r → S r

-- all that the set leads to without a byte is in it
abbrev pub IsStill : List State → Bool → Bool → (ℕ → Type 0) → Type 0
IsStill t first last S = (q : ℕ) → S q → HasStill t first last S q

-- what q leads to was added
pub record Spread (t : List State) (first last : Bool) (old new : Members) (q : ℕ) : Type 0 where
  pub good : IsGood new
  pub size : length new.marks ≡ length old.marks
  pub kept : (r : ℕ) → Has old r → Has new r
  pub fresh : (r : ℕ) → mark old r ≡ 0 → Has new r → Still first last (slice_get t q) r
      × ((k : ℕ) × (old.len ≤ k) × (k < new.len) × (listed new k ≡ r))
  pub all : (r : ℕ) → Still first last (slice_get t q) r → Has new r
  pub list : (k : ℕ) → k < old.len → listed new k ≡ listed old k
  pub longer : old.len ≤ new.len
  pub counted : Counted old new

-- all that the states lead to was added
pub record Closed (t : List State) (first last : Bool) (old new : Members) : Type 0 where
  pub good : IsGood new
  pub size : length new.marks ≡ length old.marks
  pub kept : (r : ℕ) → Has old r → Has new r
  pub fresh : (r : ℕ) → Has new r → (q : ℕ) × Has old q × LeadsStill t first last q r
  pub still : IsStill t first last (Has new)
  pub longer : old.len ≤ new.len
  pub counted : Counted old new

-- the states that the byte leads to from the first k states, without what these lead to
pub record Moved (t : List State) (b : ℕ) (now next : Members) (k : ℕ) : Type 0 where
  pub good : IsGood next
  pub size : length next.marks ≡ length now.marks
  pub comes : (r : ℕ) → Has next r → (q : ℕ) × Has now q × Reads (slice_get t q) b r
  pub goes : (j r : ℕ) → j < k → j < now.len → Reads (slice_get t (listed now j)) b r → Has next r

-- whether a match may begin right behind the byte
abbrev pub begins_after : Bounds → ℕ → Bool
begins_after Any b = true
begins_after Word b = not (is_word_byte b)
begins_after Whole b = false

-- whether a match may end right before the byte
abbrev pub ends_before : Bounds → ℕ → Bool
ends_before Any b = true
ends_before Word b = not (is_word_byte b)
ends_before Whole b = false

-- the set of a start at a line's first place, or else inside a line, but for what needs the line's end
pub record Starts (m : Nfa) (first : Bool) (S : ℕ → Type 0) : Type 0 where
  pub comes : (r : ℕ) → S r → LeadsStill m.states first false m.start r
  pub seeded : S m.start
  pub still : IsStill m.states first false S

-- from S the byte leads to U, but for what needs the line's end
pub record Goes (m : Nfa) (b : ℕ) (S U : ℕ → Type 0) : Type 0 where
  pub comes : (r : ℕ) → U r
      → ((q : ℕ) × (y : ℕ) × S q × Reads (slice_get m.states q) b y × LeadsStill m.states false false y r)
      ⊎ (IsTrue (begins_after m.bounds b) × LeadsStill m.states false false m.start r)
  pub goes : (q r : ℕ) → S q → Reads (slice_get m.states q) b r → U r
  pub seeded : IsTrue (begins_after m.bounds b) → U m.start
  pub still : IsStill m.states false false U

-- no state of the set reads the byte
abbrev pub ReadsNone : Nfa → ℕ → (ℕ → Type 0) → Type 0
ReadsNone m b S = (q r : ℕ) → S q → Reads (slice_get m.states q) b r → ⊥

-- some of the states reads the byte, and each that does goes to state 0, where a match ends
pub record EndsBehind (t : List State) (states : List ℕ) (b : ℕ) : Type 0 where
  pub some : (k : ℕ) × (k < length states) × Reads (slice_get t (slice_index states k)) b 0
  pub all : (k r : ℕ) → k < length states → Reads (slice_get t (slice_index states k)) b r → r ≡ 0

-- a match ends right before the byte
abbrev pub HitBefore : Nfa → ℕ → (ℕ → Type 0) → Type 0
HitBefore m b S = S 0 × IsTrue (ends_before m.bounds b)

-- a match ends where the line does; the line is empty or not
abbrev pub HitAtEnd : Nfa → Bool → (ℕ → Type 0) → Type 0
HitAtEnd m first S = (q : ℕ) × S q × LeadsStill m.states first true q 0

-- no match ends where the line does; the line is empty or not
abbrev pub NoHitAtEnd : Nfa → Bool → (ℕ → Type 0) → Type 0
NoHitAtEnd m first S =
    (l : List ℕ) (q n : ℕ) → S q → (length l ≡ 0 → IsTrue first) → Runs m.states l n q (length l) (length l) → ⊥

-- the answer that a line's end gives
abbrev pub AnswersEnd : Nfa → Bool → (ℕ → Type 0) → Bool → Type 0
AnswersEnd m first S true = HitAtEnd m first S
AnswersEnd m first S false = NoHitAtEnd m first S

-- the state reads nothing, and no match ends there, also where the line ends
abbrev pub IsQuiet : Option State → Type 0
IsQuiet None = Unit {0}
IsQuiet (Some Fail) = Unit {0}
IsQuiet (Some Accept) = ⊥
IsQuiet (Some (Jump x)) = Unit {0}
IsQuiet (Some (Read s x)) = ⊥
IsQuiet (Some (AtBegin x)) = Unit {0}
IsQuiet (Some (AtEnd x)) = ⊥
IsQuiet (Some (Split x y)) = Unit {0}

-- the states of the set lead to nothing, nor do runs that begin further right
pub record IsSpent (m : Nfa) (S : ℕ → Type 0) : Type 0 where
  pub quiet : (q : ℕ) → S q → IsQuiet (slice_get m.states q)
  pub later : S m.start ⊎ (m.bounds ≡ Whole)
