-- What is left of a search once the runs of one start alone are left, and how they are followed.
use Rattle.std.proofs.Common.{◌≡◌, ℕ, ◌+◌, ◌*◌, ◌/◌, ◌^◌, ◌<◌, ◌≤◌, inl, inr, List, length, Option, Some, None}
use Rattle.std.proofs.Common.{refl, sym, subst, arith, IsTrue, Bool, true, false, true≢false, cond}
use Rattle.std.specs.Prelude.{slice_get, is_some}
use Rattle.std.proofs.lemmas.Bool.{cases_lt}
use Rattle.std.proofs.lemmas.Bool.Decides.{not_from_Decides}
use Rattle.pg_pattern.proofs.TestLemmas.{end_decided}
use Rattle.pg_pattern.specs.Bounds.{may_end}
use Rattle.std.proofs.Math.Nat.{add-mul, mul-le-mul_left}
use Rattle.pg_pattern.specs.Bounds.{MayBegin, MayEnd}
use Rattle.pg_match.specs.Anchored.{NothingBefore, StandsFrom, IsLastEnd, Follows, IsAnchoredRun, IsLone}
use Rattle.pg_match.specs.Automata.{Nfa, Runs, IsRunnable}
use Rattle.pg_match.specs.Closures.{Leads}
use Rattle.pg_match.specs.Dfas.{Dfa, In, Same, KeepsRows}
use Rattle.pg_match.specs.Closures.{AllBelow}
use Rattle.pg_match.specs.Searches.{Alive, IsBest, ending, limit_of, start_bound}
use Rattle.pg_match.specs.Starts.{ByteLeads}
use Rattle.pg_match.specs.StateSets.{Members, mark, listed, IsGood}
use Rattle.pg_match.specs.Steps.{Has}
use Rattle.pg_match.proofs.AnchoredLemmas.{gone_alone, stands_behind, not_found, end_found}
use Rattle.pg_match.proofs.CacheLemmas.{at_row, row_of}
use Rattle.pg_match.proofs.SearchLemmas.{start_all, start_few}
use Rattle.pg_match.proofs.StandsLemmas.{begins_first}

module _ (m : Nfa) (l : List ℕ) (from p : ℕ) (now : Members) (b : ℕ × ℕ)
    (a : Alive m.states l m.start (MayBegin m.bounds l) from (start_bound p) p now (Some b))
    (best : IsBest m.states l m.start (MayBegin m.bounds l) (MayEnd m.bounds l) from (p + 1) (Some b))
    (le : p ≤ length l) (only : (q : ℕ) → 0 < mark now q → mark now q ≡ b.0 + 1) where
  early : b.0 < start_bound p
  early = let all = start_all p in omega (arith, all, best.1, best.2)

  stands : StandsFrom m l b.0 p (Has now)
  stands = record {
    sound = λ q h.
        let w = a.sound q h in
        let same : w.0 ≡ b.0 = omega (arith, w.1, only q h) in
        subst (λ s. Leads m.states l m.start s q p) same w.5;
    complete = λ n j run past.
        let c = a.complete b.0 n j best.0 early best.3.0 (omega arith) run past in
        (c.0, c.1, c.2, c.4);
    closed = λ lt q r h edge. (a.closed q h r edge).0;
  }

  found : IsLastEnd m l b.0 p (Some b.1)
  found = (
    best.1,
    omega (arith, best.2),
    best.3.1,
    best.3.2,
    λ n j later upto inside may run.
        let c = best.4 b.0 j best.0 (omega (arith, best.1)) (omega arith) (best.3.0, may, (n, run)) in
        let longest = c.1 refl in
        omega arith,
  )

  none : NothingBefore m l from b.0
  none i j ge before lt inside run = elim (cases_lt p j) [
    | inl past ↦
        let c = a.complete i run.2.0 j ge (omega (arith, early)) run.0 (omega arith) run.2.1 (omega arith) in
        omega (arith, c.3, only c.0 c.2)
    | inr here ↦ let c = best.4 i j ge lt (omega arith) run in omega (arith, c.0)
  ]

  alone : IsLone m l from p (Has now) (Some b)
  alone = (
    best.0,
    none,
    record {
      begins = best.3.0;
      onward = omega (arith, best.1, best.2);
      within = le;
      stands = stands;
      found = found;
    },
  )

pub left_alone : (m : Nfa) (l : List ℕ) (from p : ℕ) (now : Members) (best : Option (ℕ × ℕ))
    → Alive m.states l m.start (MayBegin m.bounds l) from (start_bound p) p now best
    → IsBest m.states l m.start (MayBegin m.bounds l) (MayEnd m.bounds l) from (p + 1) best → p ≤ length l
    → is_some best ≡ true → ((q : ℕ) → 0 < mark now q → mark now q ≡ limit_of best) → IsLone m l from p (Has now) best
left_alone m l from p now None a best le some only = absurd (true≢false (sym some))
left_alone m l from p now (Some b) a best le some only = alone m l from p now b a best le only

pub stands_same : (m : Nfa) (l : List ℕ) (s p : ℕ) (S U : ℕ → Type 0) → Same S U → StandsFrom m l s p S
    → StandsFrom m l s p U
stands_same m l s p S U same at = record {
  sound = λ q h. at.sound q ((same q).1 h);
  complete = λ n j run past. let c = at.complete n j run past in (c.0, c.1, (same c.0).0 c.2, c.3);
  closed = λ lt q r h edge. (same r).0 (at.closed lt q r ((same q).1 h) edge);
}

pub anchored_same : (m : Nfa) (l : List ℕ) (s p last : ℕ) (S U : ℕ → Type 0) → Same S U → IsAnchoredRun m l s p last S
    → IsAnchoredRun m l s p last U
anchored_same m l s p last S U same t = record {
  begins = t.begins;
  onward = t.onward;
  within = t.within;
  stands = stands_same m l s p S U same t.stands;
  found = t.found;
}

-- a DFA of which more rows are known
pub follows_keeps : (m : Nfa) (old new : Dfa) (l : List ℕ) (s p state : ℕ) (last : Option ℕ) → KeepsRows old new
    → Follows m old l s p state last → Follows m new l s p state last
follows_keeps m old new l s p state last k f = record {
  onward = f.onward;
  within = f.within;
  row = record { row = f.row.row; known = omega (arith, f.row.known, k.more) };
  stands = stands_same m l s p (In old (state / 256)) (In new (state / 256)) (k.sets (state / 256) f.row.known)
      f.stands;
  found = f.found;
}

-- the runs stand at a row
pub follows_anchored : (m : Nfa) (t : Dfa) (l : List ℕ) (s p last row : ℕ) → row ≤ t.count
    → IsAnchoredRun m l s p last (In t row) → Follows m t l s p (256 * row) (Some last)
follows_anchored m t l s p last row known run = record {
  onward = run.onward;
  within = run.within;
  row = at_row t (256 * row) row refl known;
  stands = subst (λ k. StandsFrom m l s p (In t k)) (sym (row_of (256 * row) row refl)) run.stands;
  found = run.found;
}

-- the row's set was loaded
pub anchored_loaded : (m : Nfa) (t : Dfa) (l : List ℕ) (s p last state : ℕ) (U : ℕ → Type 0)
    → MayBegin m.bounds l s → Follows m t l s p state (Some last) → Same (In t (state / 256)) U
    → IsAnchoredRun m l s p last U
anchored_loaded m t l s p last state U begins f same = record {
  begins = begins;
  onward = f.onward;
  within = f.within;
  stands = stands_same m l s p (In t (state / 256)) U same f.stands;
  found = f.found;
}

-- behind a byte
module _ (m : Nfa) (l : List ℕ) (s p last b : ℕ) (seeds : List ℕ) (S U : ℕ → Type 0) (is_m : IsRunnable m)
    (t : IsAnchoredRun m l s p last S) (is : slice_get l p ≡ Some b) (lt : p < length l)
    (goes : ByteLeads m.states seeds b (IsTrue false) S U) where
  pub stands_on : StandsFrom m l s (p + 1) U
  stands_on = stands_behind m l s p b S U is lt t.stands (gone_alone m.states seeds b S U goes)

  pub anchored_on : (U 0 → MayEnd m.bounds l (p + 1) → ⊥) → IsAnchoredRun m l s (p + 1) last U
  anchored_on refused = record {
    begins = t.begins;
    onward = omega (arith, t.onward);
    within = omega arith;
    stands = stands_on;
    found = not_found m l s is_m p (Some last) U stands_on refused t.found;
  }

  pub anchored_end : U 0 → MayEnd m.bounds l (p + 1) → IsAnchoredRun m l s (p + 1) (p + 1) U
  anchored_end h may = record {
    begins = t.begins;
    onward = omega (arith, t.onward);
    within = omega arith;
    stands = stands_on;
    found = end_found m l s is_m p U stands_on t.onward h may;
  }

-- behind a byte up to which none of the runs has ended where it may
module _ (m : Nfa) (l : List ℕ) (s p b : ℕ) (seeds : List ℕ) (S U : ℕ → Type 0) (is_m : IsRunnable m)
    (at : StandsFrom m l s p S) (none_yet : IsLastEnd m l s p None) (later : s ≤ p) (is : slice_get l p ≡ Some b)
    (lt : p < length l) (goes : ByteLeads m.states seeds b (IsTrue false) S U) where
  behind : StandsFrom m l s (p + 1) U
  behind = stands_behind m l s p b S U is lt at (gone_alone m.states seeds b S U goes)

  pub none_on : (U 0 → MayEnd m.bounds l (p + 1) → ⊥) → StandsFrom m l s (p + 1) U × IsLastEnd m l s (p + 1) None
  none_on refused = (behind, not_found m l s is_m p None U behind refused none_yet)

  pub first_on : MayBegin m.bounds l s → U 0 → MayEnd m.bounds l (p + 1) → IsAnchoredRun m l s (p + 1) (p + 1) U
  first_on begins h may = record {
    begins = begins;
    onward = omega (arith, later);
    within = omega arith;
    stands = behind;
    found = end_found m l s is_m p U behind later h may;
  }

-- the set behind a line's first byte of the runs that began there is that of a search from there
pub alive_second : (m : Nfa) (l : List ℕ) (now : Members) (S : ℕ → Type 0) → Same S (Has now) → IsGood now
    → length now.marks ≡ length m.states → AllBelow now 1 → 1 < length l → StandsFrom m l 0 1 S
    → Alive m.states l m.start (MayBegin m.bounds l) 0 (start_bound 1) 1 now None
alive_second m l now S same good size below more at =
    let there = stands_same m l 0 1 S (Has now) same at in
    record {
      good = good;
      size = size;
      closed = λ q h r edge. (there.closed more q r h edge, omega (arith, below r, h));
      ordered = λ j k le lt. omega (arith, below (listed now j), good.is_in k lt);
      sound = λ q h.
          (0, omega (arith, below q, h), omega arith, omega arith, begins_first m.bounds l, there.sound q h);
      complete = λ s n j ge lt begins early run past.
          let first : s ≡ 0 = omega arith in
          let c = there.complete n j (subst (λ v. Runs m.states l n m.start v j) first run) past in
          (c.0, c.1, c.2, omega (arith, below c.0), c.3);
    }

-- the marks in the set of a place are not beyond it
pub alive_below : (m : Nfa) (l : List ℕ) (B : ℕ → Type 0) (from p : ℕ) (now : Members) (best : Option (ℕ × ℕ))
    → Alive m.states l m.start B from (start_bound p) p now best → AllBelow now (p + 1)
alive_below m l B from p now best a q = elim (cases_lt 0 (mark now q)) [
  | inl some ↦ let w = a.sound q some in let few = start_few p in omega (arith, w.1, w.3, few)
  | inr none ↦ omega (arith, none)
]

-- what the mark of the match that ends at a place tells
pub ending_some : (m : Nfa) (l : List ℕ) (p v : ℕ) (now : Members) → v ≡ ending m l p now → 0 < v
    → Has now 0 × MayEnd m.bounds l p
ending_some m l p v now is some = go (may_end m.bounds l p) refl is
  where
    go : (w : Bool) → may_end m.bounds l p ≡ w → v ≡ cond w (mark now 0) 0 → Has now 0 × MayEnd m.bounds l p
    go true e is = (omega (arith, is, some), (end_decided m.bounds l p).0 e)
    go false e is = absurd (omega (arith, is, some))

pub ending_none : (m : Nfa) (l : List ℕ) (p v : ℕ) (now : Members) → v ≡ ending m l p now → v ≡ 0 → Has now 0
    → MayEnd m.bounds l p → ⊥
ending_none m l p v now is zero h may = go (may_end m.bounds l p) refl is
  where
    go : (w : Bool) → may_end m.bounds l p ≡ w → v ≡ cond w (mark now 0) 0 → ⊥
    go true e is = omega (arith, is, zero, h)
    go false e is = not_from_Decides (may_end m.bounds l p) (end_decided m.bounds l p) e may

-- what a search visits from a place on
pub visits_small_on : (d n v u : ℕ) → u ≤ v + d * n → d ≤ 2 ^ 30 → n < 2 ^ 64 → v < 2 ^ 98 → u < 2 ^ 99
visits_small_on d n v u le short few small =
    let less : n ≤ 2 ^ 64 = omega arith in
    omega (arith, mul-le-mul_left d less)

pub visits_step : (d n v u w : ℕ) → u ≤ v + d * n → w ≤ u + n → w ≤ v + (d + 1) * n
visits_step d n v u w le more = omega (arith, le, more)

pub visits_less : (d e n v u : ℕ) → u ≤ v + d * n → d ≤ e → u ≤ v + e * n
visits_less d e n v u le less = omega (arith, le, mul-le-mul_left n less)

pub visits_sum : (d e f n v u w : ℕ) → u ≤ v + d * n → w ≤ u + e * n → d + e ≤ f → w ≤ v + f * n
visits_sum d e f n v u w first then less =
    omega (arith, first, then, add-mul d e n, mul-le-mul_left n less)

pub visits_spared : (d e f n u w : ℕ) → u + 4 * n ≤ d * n → w ≤ u + (e + 4) * n → d + e ≤ f → w ≤ (f + 1) * n
visits_spared d e f n u w spare then less =
    omega (arith, spare, then, add-mul e 4 n, add-mul d e n, add-mul f 1 n, mul-le-mul_left n less)
