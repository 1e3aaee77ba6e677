-- Starts, and what the next byte leads to from them.
use Rattle.std.proofs.Common.{◌≡◌, ◌≢◌, ℕ, zero, suc, ◌+◌, ◌<◌, ◌≤◌, ◌↔◌, inl, inr, List, [], ◌∷◌, ◌++◌, length}
use Rattle.std.proofs.Common.{get_or, set, Option, Some, Bool, true, false, true≢false, refl, sym, ap, ◌∙◌, subst}
use Rattle.std.proofs.Common.{arith, IsTrue, length-append, get_or-set_same, get_or-set_other}
use Rattle.std.specs.Prelude.{slice_get, slice_index}
use Rattle.std.proofs.lemmas.Bool.{cases_eq, cases_lt}
use Rattle.std.proofs.lemmas.List.{get_or_append_left}
use Rattle.std.proofs.lemmas.Option.{slice_get-get_or}
use Rattle.std.proofs.Math.Seq.{get_or-append_seam}
use Rattle.pg_bytes.specs.ByteSets.{bytes}
use Rattle.pg_bytes.specs.Sets.{Bytes}
use Rattle.pg_bytes.specs.declared.byte_set.ByteSet.{ByteSet}
use Rattle.pg_match.specs.Automata.{Nfa, Edge, Runs, IsTidy, target_below}
use Rattle.pg_pattern.specs.Bounds.{MayBegin}
use Rattle.pg_match.specs.Closures.{Leads, IsClosed, IsOrdered, AllBelow, AreSeeds, Reached}
use Rattle.pg_match.specs.Dfas.{Same}
use Rattle.pg_match.specs.Searches.{Seeded}
use Rattle.pg_match.specs.Stands.{Stands}
use Rattle.pg_match.specs.Starts.{AreAmong, Targeted, StartsBelow, SeedsStepped, SeedsMoved, WithSeeds, ByteLeads}
use Rattle.pg_match.specs.StateSets.{Members, mark, IsGood, Inserted, Counted}
use Rattle.pg_match.specs.Steps.{Reads, LeadsStill, Has, Closed, Moved, Goes, AnswersEnd}
use Rattle.pg_match.specs.declared.state.State.{State}
use Rattle.pg_match.specs.declared.state.State.TheVariants.{Fail, Accept, Jump, Read, AtBegin, AtEnd, Split}
use Rattle.pg_match.proofs.SearchLemmas.{edge_moves}
use Rattle.pg_match.proofs.StandsLemmas.{edge_reads, begins, begun}
use Rattle.pg_match.proofs.StepLemmas.{reads_none, still_edge}

-- a state that a byte leads to is in the table
pub read_inside : (t : List State) (q b r : ℕ) → IsTidy t → q < length t → Reads (slice_get t q) b r → r < length t
read_inside t q b r tidy within read =
    go (get_or t q Fail) (tidy q Fail within)
    (subst (λ o. Reads o b r) (slice_get-get_or t q Fail within) read)
  where
    go : (st : State) → target_below (length t) st → Reads (Some st) b r → r < length t
    go Fail below h = absurd h
    go Accept below h = absurd h
    go (Jump x) below h = absurd h
    go (Read s x) below h = omega (arith, h.1, below)
    go (AtBegin x) below h = absurd h
    go (AtEnd x) below h = absurd h
    go (Split x y) below h = absurd h

-- what one more seed reads is among more bytes
pub among_next : (t : List State) (seeds : List ℕ) (k : ℕ) (read after : Bytes) → AreAmong t seeds k read
    → ((b : ℕ) → read b ≡ true → after b ≡ true)
    → ((b r : ℕ) → Reads (slice_get t (slice_index seeds k)) b r → after b ≡ true) → AreAmong t seeds (k + 1) after
among_next t seeds k read after among more here b i r less reads = elim (cases_eq i k) [
  | inl same ↦ here b r (subst (λ v. Reads (slice_get t (slice_index seeds v)) b r) same reads)
  | inr other ↦ more b (among b i r (omega arith) reads)
]

-- the state that was pushed stands at the end, and the others stay
module _ (new after : List ℕ) (x : ℕ) (push : after ≡ new ++ x ∷ []) where
  pub pushed_len : length after ≡ length new + 1
  pushed_len = ap length push ∙ length-append new (x ∷ [])

  pub pushed_before : (j : ℕ) → j < length new → slice_index after j ≡ slice_index new j
  pushed_before j lt = ap (λ v. slice_index v j) push ∙ get_or_append_left new (x ∷ []) 0 j lt

  pub pushed_last : slice_index after (length new) ≡ x
  pushed_last = ap (λ v. slice_index v (length new)) push ∙ get_or-append_seam new x [] 0

-- the targets of one byte
module _ (t : List State) (seeds : List ℕ) (b : ℕ) (old : List ℕ) where
  abbrev Seed : ℕ → Option State
  Seed k = slice_get t (slice_index seeds k)

  pub targeted_over : (new : List ℕ) (k : ℕ) → Targeted t seeds b old new k → ((r : ℕ) → Reads (Seed k) b r → ⊥)
      → Targeted t seeds b old new (k + 1)
  targeted_over new k g none = record {
    longer = g.longer;
    few = omega (arith, g.few);
    kept = g.kept;
    from = λ j ge lt. let w = g.from j ge lt in (w.0, omega (arith, w.1), w.2);
    all = λ i r lt h. elim (cases_eq i k) [
      | inl same ↦ absurd (none r (subst (λ v. Reads (Seed v) b r) same h))
      | inr other ↦ g.all i r (omega arith) h
    ];
  }

  pub targeted_next : (new after : List ℕ) (k x : ℕ) (s : ByteSet) → Targeted t seeds b old new k
      → Seed k ≡ Some (Read s x) → bytes s b ≡ true → after ≡ new ++ x ∷ [] → Targeted t seeds b old after (k + 1)
  targeted_next new after k x s g is is_so push =
      let to_x : Reads (Seed k) b x = subst (λ o. Reads o b x) (sym is) (is_so, refl) in
      let len = pushed_len new after x push in
      let last = pushed_last new after x push in
      record {
        longer = omega (arith, g.longer, len);
        few = omega (arith, g.few, len);
        kept = λ j lt. pushed_before new after x push j (omega (arith, g.longer)) ∙ g.kept j lt;
        from = λ j ge lt. elim (cases_eq j (length new)) [
          | inl same ↦
              let e : slice_index after j ≡ x = ap (slice_index after) same ∙ last in
              (k, omega arith, subst (λ v. Reads (Seed k) b v) (sym e) to_x)
          | inr other ↦
              let before : j < length new = omega (arith, len) in
              let w = g.from j ge before in
              let e = pushed_before new after x push j before in
              (w.0, omega (arith, w.1), subst (λ v. Reads (Seed w.0) b v) (sym e) w.2)
        ];
        all = λ i r lt h. elim (cases_eq i k) [
          | inl same ↦
              let e : r ≡ x = (subst (λ o. Reads o b r) is (subst (λ v. Reads (Seed v) b r) same h)).1 in
              (length new, g.longer, omega (arith, len), last ∙ sym e)
          | inr other ↦
              let w = g.all i r (omega arith) h in
              (w.0, w.1, omega (arith, w.2, len), pushed_before new after x push w.0 w.2 ∙ w.3)
        ];
      }

  pub not_reading : (k : ℕ) (st : State) → Seed k ≡ Some st → ((s : ByteSet) (x : ℕ) → st ≡ Read s x → ⊥)
      → (r : ℕ) → Reads (Seed k) b r → ⊥
  not_reading k st is not_so r h = reads_none (Seed k) b r (λ s x e. not_so s x (cc)) h

  pub refusing : (k x : ℕ) (s : ByteSet) → Seed k ≡ Some (Read s x) → bytes s b ≡ false
      → (r : ℕ) → Reads (Seed k) b r → ⊥
  refusing k x s is not_so r h = true≢false (sym (subst (λ o. Reads o b r) is h).0 ∙ not_so)

-- the targets of all bytes
module _ (t : List State) (seeds : List ℕ) where
  pub starts_next : (old new cuts after : List ℕ) (n : ℕ) → StartsBelow t seeds old cuts n
      → slice_index cuts n ≡ length old → Targeted t seeds n old new (length seeds) → n + 1 < length cuts
      → after ≡ set cuts (n + 1) (length new) → StartsBelow t seeds new after (n + 1)
  starts_next old new cuts after n a here g room e =
      let end : slice_index after (n + 1) ≡ length new =
      ap (λ v. slice_index v (n + 1)) e ∙ get_or-set_same cuts (n + 1) (length new) 0 room in
      let same : (b : ℕ) → b ≤ n → slice_index after b ≡ slice_index cuts b =
      λ b le. ap (λ v. slice_index v b) e ∙ get_or-set_other cuts (n + 1) b (length new) 0 (omega arith) in
      let last : (b : ℕ) → b ≡ n → slice_index after (b + 1) ≡ length new =
      λ b is. ap (λ v. slice_index after (v + 1)) is ∙ end in
      let begin : (b : ℕ) → b ≡ n → slice_index after b ≡ length old =
      λ b is. ap (slice_index after) is ∙ same n (omega arith) ∙ here in
      record {
        upto = λ b lt. elim (cases_eq b n) [
          | inl is ↦ omega (arith, last b is)
          | inr other ↦ omega (arith, a.upto b (omega arith), same (b + 1) (omega arith), g.longer)
        ];
        from = λ b j lt ge less. elim (cases_eq b n) [
          | inl is ↦
              let w = g.from j (omega (arith, begin b is)) (omega (arith, last b is)) in
              (w.0, w.1, subst (λ v. Reads (slice_get t (slice_index seeds w.0)) v (slice_index new j)) (sym is) w.2)
          | inr other ↦
              let lt' : b < n = omega arith in
              let low = same b (omega arith) in
              let high = same (b + 1) (omega arith) in
              let up = a.upto b lt' in
              let w = a.from b j lt' (omega (arith, low)) (omega (arith, high)) in
              let e = g.kept j (omega (arith, high, up)) in
              (w.0, w.1, subst (λ v. Reads (slice_get t (slice_index seeds w.0)) b v) (sym e) w.2)
        ];
        all = λ b k r lt inside h. elim (cases_eq b n) [
          | inl is ↦
              let w = g.all k r inside (subst (λ v. Reads (slice_get t (slice_index seeds k)) v r) is h) in
              (w.0, omega (arith, w.1, begin b is), omega (arith, w.2, last b is), w.3)
          | inr other ↦
              let lt' : b < n = omega arith in
              let w = a.all b k r lt' inside h in
              let low = same b (omega arith) in
              let high = same (b + 1) (omega arith) in
              let up = a.upto b lt' in
              (w.0, omega (arith, w.1, low), omega (arith, w.2, high), g.kept w.0 (omega (arith, w.2, up)) ∙ w.3)
        ];
      }

-- the same in the middle of it: the targets from place `first` to before place k were added
pub record SeedsStepping (t : List State) (l : List ℕ) (i : ℕ) (seeds targets : List ℕ) (old new : Members)
    (start first k : ℕ)
    : Type 0 where
  pub good : IsGood new
  pub size : length new.marks ≡ length old.marks
  pub closed : IsClosed t l (i + 1) new
  pub ordered : IsOrdered new
  pub below : AllBelow new start
  pub kept : (q : ℕ) → 0 < mark old q → mark new q ≡ mark old q
  pub fresh : (q : ℕ) → mark old q ≡ 0 → 0 < mark new q
      → (mark new q ≡ start) × ((n : ℕ) × (n < length seeds) × Leads t l (slice_index seeds n) i q (i + 1))
  pub here : (j : ℕ) → first ≤ j → j < k → 0 < mark new (slice_index targets j)
  pub counted : Counted old new

module _ (t : List State) (l : List ℕ) (i : ℕ) (seeds targets : List ℕ) (s : Members) (start first : ℕ) where
  pub seeds_stepping_next : (u v : Members) (k : ℕ) → SeedsStepping t l i seeds targets s u start first k
      → Reached t l (i + 1) u v (slice_index targets k) start
      → (n : ℕ) → n < length seeds → Edge (slice_get t (slice_index seeds n)) l i (slice_index targets k) (i + 1)
      → SeedsStepping t l i seeds targets s v start first (k + 1)
  seeds_stepping_next u v k a r n n_in edge = record {
    good = r.good;
    size = r.size ∙ a.size;
    closed = r.closed;
    ordered = r.ordered;
    below = r.below;
    kept = λ q h. let e = a.kept q h in r.kept q (omega arith) ∙ e;
    fresh = λ q z h. elim (cases_lt 0 (mark u q)) [
      | inl old ↦ let f = a.fresh q z old in (r.kept q old ∙ f.0, f.1)
      | inr none ↦
          let f = r.fresh q (omega arith) h in
          (f.0, (n, n_in, λ m j run. let w = f.1 m j run in (suc w.0, (slice_index targets k, i + 1, edge, w.1))))
    ];
    here = λ j ge lt. elim (cases_eq j k) [
      | inl same ↦ subst (λ w. 0 < mark v (slice_index targets w)) (sym same) r.here
      | inr other ↦ let h = a.here j ge (omega arith) in let e = r.kept (slice_index targets j) h in omega arith
    ];
    counted = omega (arith, a.counted, r.counted);
  }

  pub seeds_stepped : (u : Members) (k b : ℕ) (cuts : List ℕ) → SeedsStepping t l i seeds targets s u start first k
      → StartsBelow t seeds targets cuts 256 → b < 256 → slice_get l i ≡ Some b → first ≡ slice_index cuts b
      → slice_index cuts (b + 1) ≤ k → SeedsStepped t l i seeds s u start
  seeds_stepped u k b cuts a starts byte is low high = record {
    good = a.good;
    size = a.size;
    closed = a.closed;
    ordered = a.ordered;
    kept = a.kept;
    fresh = a.fresh;
    here = λ n r n_in edge.
        let w = starts.all b n r byte n_in (edge_reads (slice_get t (slice_index seeds n)) l i b r is edge) in
        (subst (λ v. 0 < mark u v) w.3 (a.here w.0 (omega (arith, w.1)) (omega (arith, w.2))), a.below r);
    counted = a.counted;
  }

-- what was added behind a place is what starts there lead to
module _ (t : List State) (l : List ℕ) (x p : ℕ) (B : ℕ → Type 0) (seeds : List ℕ) (are : AreSeeds t x seeds) where
  passes : (s u : Members) → p ≢ 0 → p ≢ length l → SeedsStepped t l p seeds s u (p + 1) → (n k j : ℕ)
      → k < length seeds
      → Runs t l n (slice_index seeds k) p j → p + 1 ≤ j
      → (q : ℕ) × (m : ℕ) × (0 < mark u q) × (mark u q ≤ p + 1) × Runs t l m q (p + 1) j
  passes s u a b stepped zero k j inside run past = absurd (omega (arith, run.1))
  passes s u a b stepped (suc n) k j inside run past =
      let q = slice_index seeds k in
      elim (edge_moves (slice_get t q) l p run.0 run.1 run.2) [
        | inl stays ↦
            let w = are.closed l p a b k run.0 inside (subst (λ v. Edge (slice_get t q) l p run.0 v) stays run.2) in
            passes s u a b stepped n w.0 j w.1
            (subst (λ r. Runs t l n r p j) (sym w.2) (subst (λ v. Runs t l n run.0 v j) stays run.3)) past
        | inr moves ↦
            let h = stepped.here k run.0 inside (subst (λ v. Edge (slice_get t q) l p run.0 v) moves run.2) in
            (run.0, n, h.0, h.1, subst (λ v. Runs t l n run.0 v j) moves run.3)
      ]

  pub seeded : (s u : Members) (wanted : Bool) → p ≢ 0 → p ≢ length l → B p → SeedsStepped t l p seeds s u (p + 1)
      → Seeded t l x B p wanted s u
  seeded s u wanted a b may stepped = record {
    good = stepped.good;
    size = stepped.size;
    closed = stepped.closed;
    ordered = stepped.ordered;
    kept = stepped.kept;
    fresh = λ q z h.
        let f = stepped.fresh q z h in
        (f.0, may, λ m j run. let w = f.1.2 m j run in are.leads l p f.1.0 f.1.1 w.0 j w.1);
    here = λ w may' n j run past.
        passes s u a b stepped n are.first.0 j are.first.1 (subst (λ r. Runs t l n r p j) (sym are.first.2) run) past;
  }

-- and nothing is where no start is wanted, or none may be there
pub unseeded : (t : List State) (l : List ℕ) (x p : ℕ) (B : ℕ → Type 0) (s : Members) (wanted : Bool) → IsGood s
    → IsClosed t l (p + 1) s → IsOrdered s → (IsTrue wanted → B p → ⊥) → Seeded t l x B p wanted s s
unseeded t l x p B s wanted good closed ordered none = record {
  good = good;
  size = refl;
  closed = closed;
  ordered = ordered;
  kept = λ q h. refl;
  fresh = λ q z h. absurd (omega arith);
  here = λ w may n j run past. absurd (none w may);
}

-- the same for the search without marks: the targets from place `first` to before place k were added
pub record SeedsMoving (t : List State) (seeds targets : List ℕ) (b : ℕ) (old new : Members)
    (first k : ℕ) : Type 0 where
  pub good : IsGood new
  pub size : length new.marks ≡ length old.marks
  pub kept : (r : ℕ) → Has old r → Has new r
  pub fresh : (r : ℕ) → mark old r ≡ 0 → Has new r
      → (n : ℕ) × (n < length seeds) × Reads (slice_get t (slice_index seeds n)) b r
  pub here : (j : ℕ) → first ≤ j → j < k → Has new (slice_index targets j)
  pub counted : Counted old new

module _ (t : List State) (seeds targets : List ℕ) (b : ℕ) (s : Members) (first : ℕ) where
  pub seeds_moving_next : (u v : Members) (k : ℕ) → SeedsMoving t seeds targets b s u first k
      → Inserted u v (slice_index targets k) 1 → Counted u v
      → (n : ℕ) × (n < length seeds) × Reads (slice_get t (slice_index seeds n)) b (slice_index targets k)
      → SeedsMoving t seeds targets b s v first (k + 1)
  seeds_moving_next u v k a ins counted w = record {
    good = ins.good;
    size = ins.size ∙ a.size;
    kept = λ r h. let y = a.kept r h in let e = ins.kept r y in omega arith;
    fresh = λ r z h. elim (cases_lt 0 (mark u r)) [
      | inl old ↦ a.fresh r z old
      | inr none ↦
          let f = ins.fresh r (omega arith) h in
          (w.0, w.1, subst (λ v. Reads (slice_get t (slice_index seeds w.0)) b v) (sym f.0) w.2)
    ];
    here = λ j ge lt. elim (cases_eq j k) [
      | inl same ↦ subst (λ n. Has v (slice_index targets n)) (sym same) ins.here
      | inr other ↦ let h = a.here j ge (omega arith) in let e = ins.kept (slice_index targets j) h in omega arith
    ];
    counted = omega (arith, a.counted, counted);
  }

  pub seeds_moved : (u : Members) (k : ℕ) (cuts : List ℕ) → SeedsMoving t seeds targets b s u first k
      → StartsBelow t seeds targets cuts 256 → b < 256 → first ≡ slice_index cuts b → slice_index cuts (b + 1) ≤ k
      → SeedsMoved t seeds b s u
  seeds_moved u k cuts a starts byte low high = record {
    good = a.good;
    size = a.size;
    kept = a.kept;
    fresh = a.fresh;
    here = λ n r n_in read.
        let w = starts.all b n r byte n_in read in
        subst (λ v. Has u v) w.3 (a.here w.0 (omega (arith, w.1)) (omega (arith, w.2)));
    counted = a.counted;
  }

-- the step whole, without marks
module _ (t : List State) (seeds : List ℕ) (b : ℕ) (begins : Bool) (now : Members) (good : IsGood now) where
  moved_at : (next : Members) → Moved t b now next now.len → (q r : ℕ) → Has now q → Reads (slice_get t q) b r
      → Has next r
  moved_at next a q r h read =
      let f = good.found q h in
      a.goes f.0 r f.1 f.1 (subst (λ v. Reads (slice_get t v) b r) (sym f.2) read)

  pub gone_on : (next seeded after : Members) → Moved t b now next now.len → SeedsMoved t seeds b next seeded
      → Closed t false false seeded after → IsTrue begins → ByteLeads t seeds b (IsTrue begins) (Has now) (Has after)
  gone_on next seeded after a p c is = record {
    comes = λ r h.
        let w = c.fresh r h in
        elim (cases_lt 0 (mark next w.0)) [
          | inl old ↦ let g = a.comes w.0 old in (g.0, w.0, inl g.1, g.2, w.2)
          | inr none ↦
              let f = p.fresh w.0 (omega arith) w.1 in
              (slice_index seeds f.0, w.0, inr (is, (f.0, f.1, refl)), f.2, w.2)
        ];
    goes = λ q r h read. elim h [
      | inl old ↦ c.kept r (p.kept r (moved_at next a q r old read))
      | inr seed ↦
          let k = seed.1 in
          c.kept r (p.here k.0 r k.1 (subst (λ v. Reads (slice_get t v) b r) (sym k.2) read))
    ];
    still = c.still;
  }

  pub gone_plainly : (next after : Members) → Moved t b now next now.len → Closed t false false next after
      → begins ≡ false → ByteLeads t seeds b (IsTrue begins) (Has now) (Has after)
  gone_plainly next after a c is_not = record {
    comes = λ r h. let w = c.fresh r h in let g = a.comes w.0 w.1 in (g.0, w.0, inl g.1, g.2, w.2);
    goes = λ q r h read. elim h [
      | inl old ↦ c.kept r (moved_at next a q r old read)
      | inr seed ↦ absurd (true≢false (sym seed.0 ∙ is_not))
    ];
    still = c.still;
  }

pub with_so : (seeds : List ℕ) (B C : Type 0) (S : ℕ → Type 0) → B ↔ C
    → Same (WithSeeds seeds B S) (WithSeeds seeds C S)
with_so seeds B C S same q = (
  λ h. elim h [ inl old ↦ inl old | inr seed ↦ inr (same.0 seed.0, seed.1) ],
  λ h. elim h [ inl old ↦ inl old | inr seed ↦ inr (same.1 seed.0, seed.1) ],
)

pub plain_whole : (seeds : List ℕ) (S : ℕ → Type 0) → Same S (WithSeeds seeds (IsTrue false) S)
plain_whole seeds S q = (
  λ h. inl h,
  λ h. elim h [ inl old ↦ old | inr seed ↦ absurd (true≢false (sym seed.0)) ],
)

module _ (m : Nfa) (seeds : List ℕ) (are : AreSeeds m.states m.start seeds) where
  -- the whole sets go on as those without the starts do
  pub goes_whole : (l : List ℕ) (p b : ℕ) (B : Type 0) (S U : ℕ → Type 0) → slice_get l p ≡ Some b
      → ByteLeads m.states seeds b B S U
      → Goes m b (WithSeeds seeds B S) (WithSeeds seeds (MayBegin m.bounds l (p + 1)) U)
  goes_whole l p b B S U is g = record {
    comes = λ r h. elim h [
      | inl old ↦ inl (g.comes r old)
      | inr seed ↦ inr (
        begun m.bounds l p b is seed.0,
        let k = seed.1 in
            subst (λ v. LeadsStill m.states false false m.start v) k.2 (λ l i first last. are.leads l i k.0 k.1),
      )
    ];
    goes = λ q r h read. inl (g.goes q r h read);
    seeded = λ may. inr (begins m.bounds l p b is may, are.first);
    still = λ q h r edge. elim h [
      | inl old ↦ inl (g.still q old r edge)
      | inr seed ↦
          let k = seed.1 in
          let here = still_edge false false (slice_get m.states q) (0 ∷ 0 ∷ []) 1 r
          (λ f. absurd (true≢false (sym f))) (λ f. absurd (true≢false (sym f))) edge in
          inr (
            seed.0,
            are.closed (0 ∷ 0 ∷ []) 1 (λ e. omega arith) (λ e. omega arith) k.0 r k.1
                (subst (λ v. Edge (slice_get m.states v) (0 ∷ 0 ∷ []) 1 r 1) (sym k.2) here),
          )
    ];
  }

  -- a whole set stays one with the seeds
  pub stands_whole : (l : List ℕ) (from p : ℕ) (S : ℕ → Type 0) → 0 < p → from ≤ p → Stands m l from p S
      → Stands m l from p (WithSeeds seeds (MayBegin m.bounds l p) S)
  stands_whole l from p S some ge s = record {
    sound = λ q h. elim h [
      | inl old ↦ s.sound q old
      | inr seed ↦
          let k = seed.1 in
          (p, ge, omega arith, seed.0, subst (λ v. Leads m.states l m.start p v p) k.2 (are.leads l p k.0 k.1))
    ];
    complete = λ v n j first le may run past.
        let c = s.complete v n j first le may run past in (c.0, c.1, inl c.2, c.3);
    closed = λ lt q r h edge. elim h [
      | inl old ↦ inl (s.closed lt q r old edge)
      | inr seed ↦
          let k = seed.1 in
          inr (
            seed.0,
            are.closed l p (λ e. omega arith) (λ e. omega arith) k.0 r k.1
                (subst (λ v. Edge (slice_get m.states v) l p r p) (sym k.2) edge),
          )
    ];
    none = s.none;
  }

  -- what a line's end answers with the start is what it answers with the seeds
  pub answers_whole : (begin answer : Bool) (s u : Members) → Inserted s u m.start 1 → IsTrue begin
      → AnswersEnd m false (Has u) answer → AnswersEnd m false (WithSeeds seeds (IsTrue begin) (Has s)) answer
  answers_whole begin true s u ins is h =
      elim (cases_lt 0 (mark s h.0)) [
        | inl old ↦ (h.0, inl old, h.2)
        | inr none ↦
            let f = ins.fresh h.0 (omega arith) h.1 in
            (h.0, inr (is, (are.first.0, are.first.1, are.first.2 ∙ sym f.0)), h.2)
      ]
  answers_whole begin false s u ins is missed = λ l q n h end run. elim h [
    | inl old ↦ let e = ins.kept q old in missed l q n (omega arith) end run
    | inr seed ↦
        let k = seed.1 in
        let w = are.leads l (length l) k.0 k.1 n (length l)
        (subst (λ v. Runs m.states l n v (length l) (length l)) (sym k.2) run) in
        missed l m.start w.0 ins.here end w.1
  ]

  pub answers_plainly : (begin answer : Bool) (S : ℕ → Type 0) → begin ≡ false → AnswersEnd m false S answer
      → AnswersEnd m false (WithSeeds seeds (IsTrue begin) S) answer
  answers_plainly begin true S is_not h = (h.0, inl h.1, h.2)
  answers_plainly begin false S is_not missed = λ l q n h end run. elim h [
    | inl old ↦ missed l q n old end run
    | inr seed ↦ absurd (true≢false (sym seed.0 ∙ is_not))
  ]
