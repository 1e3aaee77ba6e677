-- Where a byte leads to from the states that a run may be in before it.
use Rattle.std.specs.Prelude.{◌≡◌, ℕ, ◌+◌, ◌<◌, ◌≤◌, ◌⊎◌, ◌↔◌, Bool, true, false, IsTrue, List, length, slice_get}
use Rattle.std.specs.Prelude.{slice_index, Option, Some, None}
use Rattle.pg_bytes.specs.Sets.{Bytes}
use Rattle.pg_match.specs.Automata.{Nfa, Edge}
use Rattle.pg_pattern.specs.Bounds.{MayBegin}
use Rattle.pg_match.specs.Closures.{Leads, IsClosed, IsOrdered}
use Rattle.pg_match.specs.StateSets.{Members, mark, IsGood, Counted}
use Rattle.pg_match.specs.Stands.{Stands, HasRun}
use Rattle.pg_match.specs.Steps.{Reads, LeadsStill, Has, IsStill}
use Rattle.pg_match.specs.declared.state.State.{State}

-- the state where matches end is a seed
abbrev pub HasEnd : List ℕ → Type 0
HasEnd seeds = (k : ℕ) × (k < length seeds) × (slice_index seeds k ≡ 0)

-- the bytes that the first k seeds read are among these
abbrev pub AreAmong : List State → List ℕ → ℕ → Bytes → Type 0
AreAmong t seeds k read =
    (b i r : ℕ) → i < k → Reads (slice_get t (slice_index seeds i)) b r → read b ≡ true

-- the states that the byte leads to from the first k seeds were added at the end
pub record Targeted (t : List State) (seeds : List ℕ) (b : ℕ) (old new : List ℕ) (k : ℕ) : Type 0 where
  pub longer : length old ≤ length new
  pub few : length new ≤ length old + k
  pub kept : (j : ℕ) → j < length old → slice_index new j ≡ slice_index old j
  pub from : (j : ℕ) → length old ≤ j → j < length new
      → (i : ℕ) × (i < k) × Reads (slice_get t (slice_index seeds i)) b (slice_index new j)
  pub all : (i r : ℕ) → i < k → Reads (slice_get t (slice_index seeds i)) b r
      → (j : ℕ) × (length old ≤ j) × (j < length new) × (slice_index new j ≡ r)

-- the states that the bytes below n lead to from the seeds, one byte behind the other, and where those of each begin
-- and end
pub record StartsBelow (t : List State) (seeds targets cuts : List ℕ) (n : ℕ) : Type 0 where
  pub upto : (b : ℕ) → b < n → slice_index cuts (b + 1) ≤ length targets
  pub from : (b j : ℕ) → b < n → slice_index cuts b ≤ j → j < slice_index cuts (b + 1)
      → (k : ℕ) × (k < length seeds) × Reads (slice_get t (slice_index seeds k)) b (slice_index targets j)
  pub all : (b k r : ℕ) → b < n → k < length seeds → Reads (slice_get t (slice_index seeds k)) b r
      → (j : ℕ) × (slice_index cuts b ≤ j) × (j < slice_index cuts (b + 1)) × (slice_index targets j ≡ r)

-- the states that each byte leads to from the seeds, one byte behind the other, where those of each begin and end, and
-- whether the state where matches end is a seed
pub record AreStarts (t : List State) (seeds targets cuts : List ℕ) (ends : Bool) : Type 0 where
  pub size : length cuts ≡ 257
  pub below : StartsBelow t seeds targets cuts 256
  pub accepts : IsTrue ends ↔ HasEnd seeds

-- what the byte at i leads to from the seeds was added to the set behind it, with this mark
pub record SeedsStepped (t : List State) (l : List ℕ) (i : ℕ) (seeds : List ℕ) (old new : Members)
    (start : ℕ) : Type 0 where
  pub good : IsGood new
  pub size : length new.marks ≡ length old.marks
  pub closed : IsClosed t l (i + 1) new
  pub ordered : IsOrdered new
  pub kept : (q : ℕ) → 0 < mark old q → mark new q ≡ mark old q
  pub fresh : (q : ℕ) → mark old q ≡ 0 → 0 < mark new q
      → (mark new q ≡ start) × ((k : ℕ) × (k < length seeds) × Leads t l (slice_index seeds k) i q (i + 1))
  pub here : (k r : ℕ) → k < length seeds → Edge (slice_get t (slice_index seeds k)) l i r (i + 1)
      → (0 < mark new r) × (mark new r ≤ start)
  pub counted : Counted old new

-- the states that the byte leads to from the seeds were added, without what these lead to
pub record SeedsMoved (t : List State) (seeds : List ℕ) (b : ℕ) (old new : Members) : Type 0 where
  pub good : IsGood new
  pub size : length new.marks ≡ length old.marks
  pub kept : (r : ℕ) → Has old r → Has new r
  pub fresh : (r : ℕ) → mark old r ≡ 0 → Has new r
      → (k : ℕ) × (k < length seeds) × Reads (slice_get t (slice_index seeds k)) b r
  pub here : (k r : ℕ) → k < length seeds → Reads (slice_get t (slice_index seeds k)) b r → Has new r
  pub counted : Counted old new

-- the set with the seeds, if a match may begin
abbrev pub WithSeeds : List ℕ → Type 0 → (ℕ → Type 0) → ℕ → Type 0
WithSeeds seeds B S q = S q ⊎ (B × ((k : ℕ) × (k < length seeds) × (slice_index seeds k ≡ q)))

-- From S, and from the seeds if a match may begin before the byte, the byte leads to U, but for starts behind it and
-- for what needs the line's end.
pub record ByteLeads (t : List State) (seeds : List ℕ) (b : ℕ) (B : Type 0) (S U : ℕ → Type 0) : Type 0 where
  pub comes : (r : ℕ) → U r
      → (q : ℕ) × (y : ℕ) × WithSeeds seeds B S q × Reads (slice_get t q) b y × LeadsStill t false false y r
  pub goes : (q r : ℕ) → WithSeeds seeds B S q → Reads (slice_get t q) b r → U r
  pub still : IsStill t false false U

-- S, and the seeds where a match may begin, holds the states at p of the runs that began at a place from `from` to p
abbrev pub StandsUnseeded : Nfa → List ℕ → List ℕ → ℕ → ℕ → (ℕ → Type 0) → Type 0
StandsUnseeded m seeds l from p S = Stands m l from p (WithSeeds seeds (MayBegin m.bounds l p) S)

-- What a search without the cache finds: whether there is a hit from a place on, or the set of the place p that it came
-- to.
abbrev pub Searched : Nfa → List ℕ → List ℕ → ℕ → ℕ → (ℕ → Type 0) → Option Bool → Type 0
Searched m seeds l from p S (Some answer) = IsTrue answer ↔ HasRun m l from
Searched m seeds l from p S None = StandsUnseeded m seeds l from p S
