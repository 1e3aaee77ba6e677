-- How the set of a position is made.
use Rattle.std.specs.Prelude.{◌≡◌, ◌≢◌, ℕ, zero, suc, ◌+◌, ◌<◌, ◌≤◌, List, length, slice_get, slice_index}
use Rattle.pg_match.specs.Automata.{Edge, Runs}
use Rattle.pg_match.specs.StateSets.{Members, mark, listed, IsGood, Counted}
use Rattle.pg_match.specs.declared.state.State.{State}

-- each run from q at k makes one from x at i
abbrev pub Leads : List State → List ℕ → ℕ → ℕ → ℕ → ℕ → Type 0
Leads t l x i q k = (n j : ℕ) → Runs t l n q k j → (m : ℕ) × Runs t l m x i j

-- so many edges lead from x to q without leaving the place i
abbrev pub EdgePath : List State → List ℕ → ℕ → ℕ → ℕ → ℕ → Type 0
EdgePath t l i zero x q = x ≡ q
EdgePath t l i (suc n) x q = (r : ℕ) × EdgePath t l i n x r × Edge (slice_get t r) l i q i

-- each state that q leads to at i is in the set, with no later start
abbrev pub ClosedAt : List State → List ℕ → ℕ → Members → ℕ → Type 0
ClosedAt t l i s q = (r : ℕ) → Edge (slice_get t q) l i r i → (0 < mark s r) × (mark s r ≤ mark s q)

abbrev pub IsClosed : List State → List ℕ → ℕ → Members → Type 0
IsClosed t l i s = (q : ℕ) → 0 < mark s q → ClosedAt t l i s q

-- the states were added in the order of their starts
abbrev pub IsOrdered : Members → Type 0
IsOrdered s = (j k : ℕ) → j ≤ k → k < s.len → mark s (listed s j) ≤ mark s (listed s k)

-- no start is later
abbrev pub AllBelow : Members → ℕ → Type 0
AllBelow s start = (q : ℕ) → mark s q ≤ start

-- the states that q leads to at i were added
pub record Followed (t : List State) (l : List ℕ) (i : ℕ) (old new : Members) (q start : ℕ) : Type 0 where
  pub good : IsGood new
  pub size : length new.marks ≡ length old.marks
  pub kept : (r : ℕ) → 0 < mark old r → mark new r ≡ mark old r
  pub fresh : (r : ℕ) → mark old r ≡ 0 → 0 < mark new r
      → (mark new r ≡ start) × Edge (slice_get t q) l i r i
      × ((k : ℕ) × (old.len ≤ k) × (k < new.len) × (listed new k ≡ r))
  pub recent : (k : ℕ) → old.len ≤ k → k < new.len
      → (mark new (listed new k) ≡ start) × Edge (slice_get t q) l i (listed new k) i
  pub all : (r : ℕ) → Edge (slice_get t q) l i r i → 0 < mark new r
  pub list : (k : ℕ) → k < old.len → listed new k ≡ listed old k
  pub longer : old.len ≤ new.len
  pub counted : Counted old new

-- x was added with this start, and all that it leads to at i
pub record Reached (t : List State) (l : List ℕ) (i : ℕ) (old new : Members) (x start : ℕ) : Type 0 where
  pub good : IsGood new
  pub size : length new.marks ≡ length old.marks
  pub closed : IsClosed t l i new
  pub ordered : IsOrdered new
  pub below : AllBelow new start
  pub kept : (q : ℕ) → 0 < mark old q → mark new q ≡ mark old q
  pub fresh : (q : ℕ) → mark old q ≡ 0 → 0 < mark new q → (mark new q ≡ start) × Leads t l x i q i
  pub here : 0 < mark new x
  pub counted : Counted old new

-- each state that is new is at the end of a path from x
abbrev pub HasPaths : List State → List ℕ → ℕ → Members → Members → ℕ → Type 0
HasPaths t l i old new x = (q : ℕ) → mark old q ≡ 0 → 0 < mark new q → (n : ℕ) × EdgePath t l i n x q

-- the states that the byte at i leads to from those whose mark is at most `limit`
pub record Stepped (t : List State) (l : List ℕ) (i : ℕ) (now next : Members) (limit : ℕ) : Type 0 where
  pub good : IsGood next
  pub size : length next.marks ≡ length now.marks
  pub closed : IsClosed t l (i + 1) next
  pub ordered : IsOrdered next
  pub comes : (r : ℕ) → 0 < mark next r
      → (q : ℕ) × (0 < mark now q) × (mark next r ≡ mark now q) × Leads t l q i r (i + 1)
  pub goes : (q r : ℕ) → 0 < mark now q → mark now q ≤ limit → Edge (slice_get t q) l i r (i + 1)
      → (0 < mark next r) × (mark next r ≤ mark now q)

-- The states that x leads to, without a byte, at any place that is neither the start nor the end of a line. It leads to
-- them there too.
pub record AreSeeds (t : List State) (x : ℕ) (seeds : List ℕ) : Type 0 where
  pub few : length seeds ≤ length t
  pub inside : (k : ℕ) → k < length seeds → slice_index seeds k < length t
  pub first : (k : ℕ) × (k < length seeds) × (slice_index seeds k ≡ x)
  pub closed : (l : List ℕ) (i : ℕ) → i ≢ 0 → i ≢ length l → (k r : ℕ) → k < length seeds
      → Edge (slice_get t (slice_index seeds k)) l i r i
      → (j : ℕ) × (j < length seeds) × (slice_index seeds j ≡ r)
  pub leads : (l : List ℕ) (i k : ℕ) → k < length seeds → Leads t l x i (slice_index seeds k) i
