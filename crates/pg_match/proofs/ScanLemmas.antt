-- What the rows of the DFA cache tell of the hits from a place on.
use Rattle.std.proofs.Common.{◌≡◌, ◌≢◌, ◌∙◌, ℕ, zero, suc, ◌+◌, ◌-◌, ◌/◌, ◌<◌, ◌≤◌, inl, inr, List, length, Bool, true}
use Rattle.std.proofs.Common.{false, Option, Some, None}
use Rattle.std.proofs.Common.{refl, sym, subst, arith, get_or}
use Rattle.std.specs.Prelude.{◌↔◌, slice_index, slice_get, max, IfSome, IsTrue}
use Rattle.std.proofs.lemmas.Bool.{cases_lt}
use Rattle.std.proofs.lemmas.List.{get_or_read}
use Rattle.std.proofs.lemmas.Option.{slice_get-get_or}
use Rattle.pg_match.specs.Automata.{Nfa, Runs, Edge, IsRunnable}
use Rattle.pg_pattern.specs.Bounds.{MayBegin, MayEnd}
use Rattle.pg_match.specs.Closures.{AreSeeds}
use Rattle.pg_match.specs.Searches.{IsBest}
use Rattle.pg_match.specs.Steps.{Goes, Reads, ReadsNone, HitBefore, EndsBehind}
use Rattle.pg_match.specs.Stands.{Stands, HasRun, NoneBefore, RunsEndWithin, latest_start}
use Rattle.pg_match.specs.Dfas.{Dfa, flag_at, In, IsDfaOf, IsAtRow, IsRowAt, HasScanned, Settles, Finishes}
use Rattle.pg_match.specs.declared.state.State.{State}
use Rattle.pg_match.specs.declared.state.State.TheVariants.{Accept}
use Rattle.pg_match.proofs.SearchLemmas.{edge_moves}
use Rattle.pg_match.proofs.StandsLemmas.{reads_edge, edge_reads, stands_first, stands_next}
use Rattle.pg_match.proofs.CacheLemmas.{row_next, at_row, in_table}
use Rattle.pg_match.proofs.BuildLemmas.{ended}

-- where no state reads the byte, no run goes past it
pub no_cross : (m : Nfa) (l : List ℕ) (p b : ℕ) (S : ℕ → Type 0) → slice_get l p ≡ Some b
    → ((q r : ℕ) → S q → Edge (slice_get m.states q) l p r p → S r) → ReadsNone m b S
    → (k q j : ℕ) → S q → Runs m.states l k q p j → p + 1 ≤ j → ⊥
no_cross m l p b S is closed none zero q j h run past = omega (arith, run.1)
no_cross m l p b S is closed none (suc k) q j h run past =
    elim (edge_moves (slice_get m.states q) l p run.0 run.1 run.2) [
      | inl stays ↦
          no_cross m l p b S is closed none k run.0 j
          (closed q run.0 h (subst (λ v. Edge (slice_get m.states q) l p run.0 v) stays run.2))
          (subst (λ v. Runs m.states l k run.0 v j) stays run.3) past
      | inr moves ↦
          none q run.0 h (edge_reads (slice_get m.states q) l p b run.0 is
          (subst (λ v. Edge (slice_get m.states q) l p run.0 v) moves run.2))
    ]

-- where no state reads the byte, nothing that began before it is left
none_left : (m : Nfa) (l : List ℕ) (from p b : ℕ) (S U : ℕ → Type 0) → slice_get l p ≡ Some b → p < length l
    → Stands m l from p S → Stands m l from (p + 1) U → ReadsNone m b S → NoneBefore m l from (p + 1)
none_left m l from p b S U is lt s u none i j ge early le within run = elim (cases_lt j (p + 1)) [
  | inl before ↦ u.none i j ge le before run
  | inr after ↦
      let c = s.complete i run.2.0 j ge (omega arith) run.0 run.2.1 (omega arith) in
      no_cross m l p b S is (s.closed lt) none c.1 c.0 j c.2 c.3 (omega arith)
]

-- nothing has begun
stands_none : (m : Nfa) (l : List ℕ) (from p : ℕ) (S : ℕ → Type 0) → p < from → ((q : ℕ) → S q → ⊥)
    → Stands m l from p S
stands_none m l from p S early empty = record {
  sound = λ q h. absurd (empty q h);
  complete = λ s n j ge le. absurd (omega arith);
  closed = λ lt q r h. absurd (empty q h);
  none = λ i j ge le lt. absurd (omega arith);
}

pub scan_first : (m : Nfa) (table : Dfa) (l : List ℕ) (p : ℕ) → IsDfaOf m table → 1 ≤ table.count → 1 ≤ length l
    → p ≡ 0
    → HasScanned m table l 0 p 256 0
scan_first m table l p is some bytes e = record {
  within = omega arith;
  near = omega arith;
  row = at_row table 256 1 refl some;
  stands = subst (λ i. Stands m l 0 i (In table 1)) (sym e) (stands_first m l (In table 1) (is.first some));
  later = omega arith;
  upto = omega arith;
  none = λ i j ge lt. absurd (omega arith);
}

pub scan_later : (m : Nfa) (table : Dfa) (l : List ℕ) (from p : ℕ) → IsDfaOf m table → from ≢ 0 → from ≤ length l
    → p ≡ from - 1
    → HasScanned m table l from p 0 from
scan_later m table l from p is some within e = record {
  within = omega arith;
  near = omega arith;
  row = at_row table 0 0 refl (omega arith);
  stands = stands_none m l from p (In table 0) (omega arith)
      (λ q h. (let z = is.shape.none in omega (arith, h.1, h.2)));
  later = omega arith;
  upto = within;
  none = λ i j ge lt. absurd (omega arith);
}

module _ (m : Nfa) (table : Dfa) (l : List ℕ) (from p at start v b : ℕ) (is_m : IsRunnable m)
    (is : IsDfaOf m table) (lt : b < 256)
    (byte : slice_get l p ≡ Some b) (more : p + 1 < length l) (read : v ≡ slice_index table.steps (at + b))
    (big : 256 ≤ v)
    (s : HasScanned m table l from p at start) where
  told : IsAtRow table v × (HitBefore m b (In table (at / 256)) → ⊥)
      × Goes m b (In table (at / 256)) (In table (v / 256))
      × (flag_at table (v / 256) ≡ true → ReadsNone m b (In table (at / 256)))
  told = row_next m table at v b is s.row lt read big

  next : IsRowAt m table l from (p + 1) v
  next = stands_next m l from p b (In table (at / 256)) (In table (v / 256)) byte
      (omega arith) s.stands told.2 s.near is_m told.1

  pub scan_on : HasScanned m table l from (p + 1) v start
  scan_on = record {
    within = more;
    near = let n = s.near in omega arith;
    row = told.0;
    stands = next;
    later = s.later;
    upto = s.upto;
    none = s.none;
  }

  pub scan_fresh : flag_at table (v / 256) ≡ true → HasScanned m table l from (p + 1) v (p + 1)
  scan_fresh f = record {
    within = more;
    near = let n = s.near in omega arith;
    row = told.0;
    stands = next;
    later = s.near;
    upto = omega arith;
    none = none_left m l from p b (In table (at / 256)) (In table (v / 256)) byte (omega arith) s.stands next
        (told.3 f);
  }

-- the same, as the table and the line are read
pub scan_read : (m : Nfa) (table : Dfa) (l : List ℕ) (from p u at start v : ℕ) → u ≡ p + 1 → IsRunnable m
    → IsDfaOf m table
    → get_or l p 0 < 256 → u < length l → v ≡ get_or table.steps (at + get_or l p 0) v → 256 ≤ v
    → HasScanned m table l from p at start → HasScanned m table l from u v start
scan_read m table l from p u at start v e is_m is lt more read big s =
    let b = get_or l p 0 in
    let inside = in_table m table at b is s.row lt in
    subst (λ w. HasScanned m table l from w v start) (sym e)
    (scan_on m table l from p at start v b is_m is lt (slice_get-get_or l p 0 s.within) (omega arith)
    (get_or_read table.steps _ v inside read 0) big s)

pub scan_read_fresh : (m : Nfa) (table : Dfa) (l : List ℕ) (from p u at start v : ℕ) (f : Bool) → u ≡ p + 1
    → IsRunnable m → IsDfaOf m table
    → get_or l p 0 < 256 → u < length l → v ≡ get_or table.steps (at + get_or l p 0) v → 256 ≤ v
    → f ≡ get_or table.flags (v / 256) f → f ≡ true
    → HasScanned m table l from p at start → HasScanned m table l from u v u
scan_read_fresh m table l from p u at start v f e is_m is lt more read big fresh is_fresh s =
    let b = get_or l p 0 in
    let inside = in_table m table at b is s.row lt in
    let on = scan_read m table l from p u at start v e is_m is lt more read big s in
    let has_flag : v / 256 < length table.flags = omega (arith, on.row.known, is.shape.few, is.shape.flags_size) in
    subst (λ w. HasScanned m table l from w v w) (sym e)
    (scan_fresh m table l from p at start v b is_m is lt (slice_get-get_or l p 0 s.within) (omega arith)
    (get_or_read table.steps _ v inside read 0) big s
    (sym (get_or_read table.flags (v / 256) f has_flag fresh false) ∙ is_fresh))

pub has_flag : (m : Nfa) (table : Dfa) (v : ℕ) → IsDfaOf m table → IsAtRow table v → v / 256 < length table.flags
has_flag m table v is row = omega (arith, row.known, is.shape.few, is.shape.flags_size)

-- what a row tells of lines in which it stands before a byte, it tells of this one
pub settled_here : (m : Nfa) (b : ℕ) (S : ℕ → Type 0) (l : List ℕ) (p : ℕ) → p < length l → slice_get l p ≡ Some b
    → (found : Option Bool) → IfSome found (Settles m b S)
    → IfSome found (λ answer. (from : ℕ) → from ≤ p + 1 → Stands m l from p S → IsTrue answer ↔ HasRun m l from)
settled_here m b S l p lt byte None settles = tt
settled_here m b S l p lt byte (Some answer) settles = λ from le stands. settles l from p lt stands byte

pub finished_here : (m : Nfa) (b : ℕ) (S : ℕ → Type 0) (l : List ℕ) (p : ℕ) → p + 1 ≡ length l
    → slice_get l p ≡ Some b → (found : Option Bool) → IfSome found (Finishes m b S)
    → IfSome found (λ answer. (from : ℕ) → from ≤ p + 1 → Stands m l from p S → IsTrue answer ↔ HasRun m l from)
finished_here m b S l p end byte None finishes = tt
finished_here m b S l p end byte (Some answer) finishes = λ from le stands. finishes l from p stands byte end le

-- no hit begins more than the reach before a place before which none ends
near_none : (m : Nfa) (l : List ℕ) (from p bytes : ℕ) (S : ℕ → Type 0) → RunsEndWithin m bytes → Stands m l from p S
    → NoneBefore m l from (p - bytes)
near_none m l from p bytes S near s = λ i j ge early le within run.
    let k = near l i j le within run in s.none i k.0 ge k.1 (omega (arith, k.2, early)) k.3

pub scan_reach : (m : Nfa) (table : Dfa) (l : List ℕ) (from p at start : ℕ) (reach : Option ℕ)
    → IfSome reach (RunsEndWithin m) → HasScanned m table l from p at start
    → (from ≤ latest_start reach start p) × (latest_start reach start p ≤ length l)
    × NoneBefore m l from (latest_start reach start p)
scan_reach m table l from p at start None near s = (s.later, s.upto, s.none)
scan_reach m table l from p at start (Some bytes) near s = elim (cases_lt start (p - bytes)) [
  | inl low ↦
      let is : max start (p - bytes) ≡ p - bytes = omega arith in
      subst (λ v. (from ≤ v) × (v ≤ length l) × NoneBefore m l from v) (sym is) (
        omega (arith, s.later, low),
        omega (arith, s.within),
        near_none m l from p bytes (In table (at / 256)) near s.stands,
      )
  | inr high ↦
      let is : max start (p - bytes) ≡ start = omega arith in
      subst (λ v. (from ≤ v) × (v ≤ length l) × NoneBefore m l from v) (sym is) (s.later, s.upto, s.none)
]

-- where each seed that reads the byte ends a match behind it, each run from the start does
one_byte : (t : List State) (l : List ℕ) (x i b : ℕ) (seeds : List ℕ) → AreSeeds t x seeds → slice_get l i ≡ Some b
    → i ≢ 0 → i < length l
    → slice_get t 0 ≡ Some Accept → ((k r : ℕ) → k < length seeds → Reads (slice_get t (slice_index seeds k)) b r
    → r ≡ 0)
    → (n k j : ℕ) → k < length seeds → Runs t l n (slice_index seeds k) i j → i < j → j ≡ i + 1
one_byte t l x i b seeds are is some lt accept all zero k j inside run past = absurd (omega (arith, run.1))
one_byte t l x i b seeds are is some lt accept all (suc n) k j inside run past =
    let q = slice_index seeds k in
    elim (edge_moves (slice_get t q) l i run.0 run.1 run.2) [
      | inl stays ↦
          let s = are.closed l i some (omega arith) k run.0 inside
          (subst (λ v. Edge (slice_get t q) l i run.0 v) stays run.2) in
          one_byte t l x i b seeds are is some lt accept all n s.0 j s.1
          (subst (λ r. Runs t l n r i j) (sym s.2) (subst (λ v. Runs t l n run.0 v j) stays run.3)) past
      | inr moves ↦
          let zero_r = all k run.0 inside
          (edge_reads (slice_get t q) l i b run.0 is (subst (λ v. Edge (slice_get t q) l i run.0 v) moves run.2)) in
          sym (ended t l n (i + 1) j accept
          (subst (λ r. Runs t l n r (i + 1) j) zero_r (subst (λ v. Runs t l n run.0 v j) moves run.3)))
    ]

-- the byte at a place inside the line is the best span from there on
pub best_one : (m : Nfa) (l : List ℕ) (i b : ℕ) (seeds : List ℕ) → AreSeeds m.states m.start seeds → IsRunnable m
    → slice_get l i ≡ Some b → i ≢ 0
    → i < length l → MayBegin m.bounds l i → MayEnd m.bounds l (i + 1) → EndsBehind m.states seeds b
    → IsBest m.states l m.start (MayBegin m.bounds l) (MayEnd m.bounds l) i (length l + 1) (Some (i, i + 1))
best_one m l i b seeds are is_m is some lt begins ends behind =
    let k = behind.some in
    let q = slice_index seeds k.0 in
    let run : Runs m.states l 1 q i (i + 1) =
    (0, i + 1, reads_edge (slice_get m.states q) l i b 0 is k.2, (is_m.accept, refl)) in
    let first = are.first in (
      omega arith,
      omega arith,
      omega arith,
      (begins, ends, are.leads l i k.0 k.1 1 (i + 1) run),
      λ s j ge before within other. (
        ge,
        λ e.
            let from_i = subst (λ v. Runs m.states l other.2.0 m.start v j) e other.2.1 in
            let end = one_byte m.states l m.start i b seeds are is some lt is_m.accept behind.all other.2.0 first.0 j
            first.1
            (subst (λ r. Runs m.states l other.2.0 r i j) (sym first.2) from_i) (omega arith) in
            omega arith,
      ),
    )

-- the best span from a later place on, where none begins before it
pub best_later : (m : Nfa) (l : List ℕ) (from start : ℕ) (best : Option (ℕ × ℕ)) → from ≤ start
    → NoneBefore m l from start
    → IsBest m.states l m.start (MayBegin m.bounds l) (MayEnd m.bounds l) start (length l + 1) best
    → IsBest m.states l m.start (MayBegin m.bounds l) (MayEnd m.bounds l) from (length l + 1) best
best_later m l from start None later none best = λ s j ge lt within run. elim (cases_lt s start) [
  | inl early ↦ none s j ge early (omega arith) (omega arith) run
  | inr there ↦ best s j (omega arith) lt within run
]
best_later m l from start (Some b) later none best = (
  omega (arith, best.0),
  best.1,
  best.2,
  best.3,
  λ s j ge lt within run. elim (cases_lt s start) [
    | inl early ↦ absurd (none s j ge early (omega arith) (omega arith) run)
    | inr there ↦ best.4 s j (omega arith) lt within run
  ],
)

pub best_none : (m : Nfa) (l : List ℕ) (from : ℕ) → (HasRun m l from → ⊥)
    → IsBest m.states l m.start (MayBegin m.bounds l) (MayEnd m.bounds l) from (length l + 1) None
best_none m l from none = λ s j ge lt within run. none (s, j, ge, omega arith, omega arith, run)
