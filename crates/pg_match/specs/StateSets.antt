-- The set of states of one place of a line.
use Rattle.std.specs.Prelude.{◌≡◌, ℕ, ◌+◌, ◌<◌, ◌≤◌, ◌==◌, not, List, length, count_by, slice_index}

-- the states in the order in which they were added, for each state its mark, how many states there are, and how many
-- were ever added, with those that were taken out
pub record Members : Type 0 where
  pub order : List ℕ
  pub marks : List ℕ
  pub len : ℕ
  pub added : ℕ

-- the mark of a state: the place where its match begins, plus one; 0 where it isn't in the set
abbrev pub mark : Members → ℕ → ℕ
mark s q = slice_index s.marks q

-- the k-th state that was added
abbrev pub listed : Members → ℕ → ℕ
listed s k = slice_index s.order k

-- the states with a mark are those in the order, each once
pub record IsGood (s : Members) : Type 0 where
  pub room : length s.order ≡ length s.marks
  pub count : s.len ≡ count_by (λ m. not (m == 0)) s.marks
  pub is_in : (k : ℕ) → k < s.len → 0 < mark s (listed s k)
  pub found : (q : ℕ) → 0 < mark s q → (k : ℕ) × (k < s.len) × (listed s k ≡ q)

-- no state is in the set
abbrev pub IsEmpty : Members → Type 0
IsEmpty s = (s.len ≡ 0) × ((q : ℕ) → mark s q ≡ 0)

-- the state q was added with this mark, or was there
pub record Inserted (old new : Members) (q m : ℕ) : Type 0 where
  pub good : IsGood new
  pub size : length new.marks ≡ length old.marks
  pub kept : (r : ℕ) → 0 < mark old r → mark new r ≡ mark old r
  pub fresh : (r : ℕ) → mark old r ≡ 0 → 0 < mark new r
      → (r ≡ q) × (mark new r ≡ m) × (listed new old.len ≡ r) × (new.len ≡ old.len + 1)
  pub here : 0 < mark new q
  pub list : (k : ℕ) → k < old.len → listed new k ≡ listed old k
  pub longer : old.len ≤ new.len
  pub last : (k : ℕ) → old.len ≤ k → k < new.len → (mark old q ≡ 0) × (listed new k ≡ q) × (mark new q ≡ m)

-- each state that the set has more was counted as added, and nothing else
abbrev pub Counted : Members → Members → Type 0
Counted old new = new.added + old.len ≡ old.added + new.len

-- the set was made anew, and each of its states was counted as added, and nothing else
abbrev pub CountedAnew : Members → Members → Type 0
CountedAnew old new = new.added ≡ old.added + new.len

-- the sets of two places
pub record Buffers : Type 0 where
  pub current : Members
  pub next : Members

-- the sets of both places have room for so many states
pub record HaveRoom (b : Buffers) (states : ℕ) : Type 0 where
  pub now : IsGood b.current
  pub next : IsGood b.next
  pub now_size : length b.current.marks ≡ states
  pub next_size : length b.next.marks ≡ states
