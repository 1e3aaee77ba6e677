-- What the DFA cache tells of the runs that began at one place.
use Rattle.std.proofs.Common.{◌≡◌, ◌≢◌, ℕ, zero, suc, ◌+◌, ◌*◌, ◌/◌, ◌<◌, ◌≤◌, ◌⊎◌, ◌↔◌, inl, inr, List, length, get_or}
use Rattle.std.proofs.Common.{Bool, true, false, true≢false, not, eqb, ne_eqb, Option, Some, None, refl, sym, ap, ◌∙◌}
use Rattle.std.proofs.Common.{subst, arith, IsTrue, length-set, get_or-set_same, get_or-set_other}
use Rattle.std.specs.Prelude.{IfSome, slice_index, slice_get}
use Rattle.std.proofs.lemmas.List.{get_or_read}
use Rattle.std.proofs.lemmas.Option.{slice_get-get_or}
use Rattle.std.proofs.lemmas.Bool.{cases_eq, cases_lt}
use Rattle.pg_match.specs.Anchored.{GoesAlone, ToldAlone, IsAnchoredDfaOf, start_row}
use Rattle.pg_match.specs.Anchored.{NothingBefore, TellsKnownSpan, known_span_of, StandsFrom, NoEnd, IsLastEnd, Follows}
use Rattle.pg_match.specs.Anchored.{IsLongestFrom}
use Rattle.pg_match.specs.Automata.{Nfa, Runs, IsRunnable}
use Rattle.pg_pattern.specs.Bounds.{MayBegin, MayEnd}
use Rattle.pg_match.specs.Dfas.{Dfa, answer_at_end, flag_at, In, Same, IsShape, IsBlank, KeepsRows}
use Rattle.pg_match.specs.Dfas.{Grown, Marked, MarkedEnd, IsAtRow}
use Rattle.pg_match.specs.Searches.{IsBest}
use Rattle.pg_match.specs.Starts.{ByteLeads}
use Rattle.pg_match.specs.StateSets.{Members, mark, IsGood}
use Rattle.pg_match.specs.Steps.{Has, Starts, ReadsNone, HitAtEnd, NoHitAtEnd, AnswersEnd}
use Rattle.pg_match.specs.Views.{dfa, CachesAnchoredDfaOf}
use Rattle.pg_match.specs.declared.dfa_cache.Cache.{Cache}
use Rattle.pg_match.specs.declared.state.State.{State}
use Rattle.pg_match.proofs.CacheLemmas.{answers_same, nothing_known, row_of, at_row, same_back, same_on, sets_keep}
use Rattle.pg_match.proofs.CacheLemmas.{sets_shape, starts_same}
use Rattle.pg_match.proofs.ScanLemmas.{no_cross}
use Rattle.pg_match.proofs.StandsLemmas.{reads_edge, ends_here, ends_at_last, crossing}
use Rattle.pg_match.proofs.StepLemmas.{edge_still}

-- where no span may begin none does
pub nothing_here : (m : Nfa) (l : List ℕ) (s : ℕ) → (MayBegin m.bounds l s → ⊥) → NothingBefore m l s (s + 1)
nothing_here m l s refused = λ i j ge lt less inside run.
    let same : i ≡ s = omega arith in refused (subst (MayBegin m.bounds l) same run.0)

-- where none begins before a place, and none from there on before another, none begins before that
pub nothing_behind : (m : Nfa) (l : List ℕ) (from mid to : ℕ) → NothingBefore m l from mid → NothingBefore m l mid to
    → NothingBefore m l from to
nothing_behind m l from mid to before behind = λ i j ge lt. elim (cases_lt i mid) [
  | inl early ↦ before i j ge early
  | inr there ↦ behind i j there lt
]

-- the best span from a later place on, where none begins before it
pub best_behind : (m : Nfa) (l : List ℕ) (from start : ℕ) (best : Option (ℕ × ℕ)) → from ≤ start
    → NothingBefore m l from start
    → IsBest m.states l m.start (MayBegin m.bounds l) (MayEnd m.bounds l) start (length l + 1) best
    → IsBest m.states l m.start (MayBegin m.bounds l) (MayEnd m.bounds l) from (length l + 1) best
best_behind m l from start None later none best = λ s j ge lt within run. elim (cases_lt s start) [
  | inl early ↦ none s j ge early lt within run
  | inr there ↦ best s j there lt within run
]
best_behind m l from start (Some b) later none best = (
  omega (arith, best.0),
  best.1,
  best.2,
  best.3,
  λ s j ge lt within run. elim (cases_lt s start) [
    | inl early ↦ absurd (none s j ge early lt within run)
    | inr there ↦ best.4 s j there lt within run
  ],
)

-- where no start is added, a step goes alone
pub gone_alone : (t : List State) (seeds : List ℕ) (b : ℕ) (S U : ℕ → Type 0) → ByteLeads t seeds b (IsTrue false) S U
    → GoesAlone t b S U
gone_alone t seeds b S U g = record {
  comes = λ r h. let w = g.comes r h in elim w.2 [
    | inl old ↦ (w.0, w.1, old, w.3, w.4)
    | inr seed ↦ absurd (true≢false (sym seed.0))
  ];
  goes = λ q r h read. g.goes q r (inl h) read;
  still = g.still;
}

-- where it leads to nothing, no state reads the byte
pub read_by_none : (m : Nfa) (b : ℕ) (S : ℕ → Type 0) (u : Members) → GoesAlone m.states b S (Has u) → IsGood u
    → u.len ≡ 0 → ReadsNone m b S
read_by_none m b S u g good none = λ q r h read.
    let k = good.found r (g.goes q r h read) in absurd (omega (arith, k.1))

pub none_same : (m : Nfa) (b : ℕ) (S U : ℕ → Type 0) → Same S U → ReadsNone m b S → ReadsNone m b U
none_same m b S U s h = λ q r at read. h q r ((s q).1 at) read

pub alone_same : (t : List State) (b : ℕ) (S S' U U' : ℕ → Type 0) → Same S S' → Same U U' → GoesAlone t b S U
    → GoesAlone t b S' U'
alone_same t b S S' U U' s u g = record {
  comes = λ r h. let w = g.comes r ((u r).1 h) in (w.0, w.1, (s w.0).0 w.2, w.3, w.4);
  goes = λ q r h read. (u r).0 (g.goes q r ((s q).1 h) read);
  still = λ q h r edge. (u r).0 (g.still q ((u q).1 h) r edge);
}

pub start_row_few : (s : ℕ) → start_row s ≤ 2
start_row_few zero = omega arith
start_row_few (suc s) = omega arith

-- what stands at a place
module _ (m : Nfa) (l : List ℕ) (s : ℕ) where
  -- where the start is
  pub stands_start : (first : Bool) (S : ℕ → Type 0) → (IsTrue first → s ≡ 0) → (s ≡ 0 → IsTrue first) → s < length l
      → Starts m first S → StandsFrom m l s s S
  stands_start first S at_first is_first inside g = record {
    sound = λ q h. g.comes q h l s at_first (λ f. absurd (true≢false (sym f)));
    complete = λ n j run past. (m.start, n, g.seeded, run);
    closed = λ lt q r h edge.
        g.still q h r (edge_still first false (slice_get m.states q) l s r is_first (λ z. absurd (omega arith)) edge);
  }

  module _ (p b : ℕ) (S U : ℕ → Type 0) (is : slice_get l p ≡ Some b) (lt : p < length l) (at : StandsFrom m l s p S)
      (g : GoesAlone m.states b S U) where
    -- behind the byte
    pub stands_behind : StandsFrom m l s (p + 1) U
    stands_behind = record {
      sound = λ r h.
          let w = g.comes r h in
          λ n j run.
          let to_y = w.4 l (p + 1) (λ f. absurd (true≢false (sym f))) (λ f. absurd (true≢false (sym f))) n j run in
          at.sound w.0 w.2 (suc to_y.0) j (w.1, p + 1, reads_edge (slice_get m.states w.0) l p b w.1 is w.3, to_y.1);
      complete = λ n j run past.
          let c = at.complete n j run (omega arith) in
          crossing m.states l p b S U is (at.closed lt) g.goes c.1 c.0 j c.2 c.3 past;
      closed = λ more q r h edge.
          g.still q h r (edge_still false false (slice_get m.states q) l (p + 1) r (λ z. absurd (omega arith))
          (λ z. absurd (omega arith)) edge);
    }

  -- a run ends at a place inside the line only if state 0 stands there
  ends_at : (p : ℕ) (S : ℕ → Type 0) → IsRunnable m → StandsFrom m l s p S → p < length l → (n : ℕ)
      → Runs m.states l n m.start s p → S 0
  ends_at p S is at lt n run =
      let c = at.complete n p run (omega arith) in ends_here m l p S (at.closed lt) is c.1 c.0 c.2 c.3

  -- and one does if it stands there
  end_run : (p : ℕ) (S : ℕ → Type 0) → IsRunnable m → StandsFrom m l s p S → S 0
      → (n : ℕ) × Runs m.states l n m.start s p
  end_run p S is at h = at.sound 0 h 0 p (is.accept, refl)

-- how far the ends of the spans from s are known
module _ (m : Nfa) (l : List ℕ) (s : ℕ) (is_m : IsRunnable m) where
  -- no end is found behind a place whose set doesn't accept, or where none may be
  no_end : (p behind : ℕ) (S : ℕ → Type 0) → StandsFrom m l s (p + 1) S → (S 0 → MayEnd m.bounds l (p + 1) → ⊥)
      → NoEnd m l s behind p → NoEnd m l s behind (p + 1)
  no_end p behind S at refused none n j later upto inside may run = elim (cases_eq j (p + 1)) [
    | inl same ↦
        refused (ends_at m l s (p + 1) S is_m at (omega arith) n
        (subst (λ v. Runs m.states l n m.start s v) same run)) (subst (MayEnd m.bounds l) same may)
    | inr other ↦ none n j later (omega arith) inside may run
  ]

  pub not_found : (p : ℕ) (last : Option ℕ) (S : ℕ → Type 0) → StandsFrom m l s (p + 1) S
      → (S 0 → MayEnd m.bounds l (p + 1) → ⊥) → IsLastEnd m l s p last → IsLastEnd m l s (p + 1) last
  not_found p None S at refused f = no_end p s S at refused f
  not_found p (Some e) S at refused f =
      (f.0, omega (arith, f.1), f.2, f.3, no_end p e S at refused f.4)

  -- the end that was found is the best one's, where no run ends behind p

  pub best_end : (p : ℕ) (last : Option ℕ) → MayBegin m.bounds l s → IsLastEnd m l s p last → p ≤ length l
      → ((n j : ℕ) → p < j → j ≤ length l → Runs m.states l n m.start s j → ⊥)
      → (p ≡ length l → (n : ℕ) → Runs m.states l n m.start s p → ⊥) → IfSome last (IsLongestFrom m l s)
  best_end p None begins f within none not_last = tt
  best_end p (Some e) begins f within none not_last = (
    omega arith,
    f.0,
    omega (arith, f.1),
    (begins, f.2, f.3),
    λ v j ge less inside run. (
      ge,
      λ same.
          let here = subst (λ w. Runs m.states l run.2.0 m.start w j) same run.2.1 in
          elim (cases_lt e j) [
            | inl behind ↦ elim (cases_lt p j) [
              | inl past ↦ absurd (none run.2.0 j past (omega arith) here)
              | inr upto ↦ elim (cases_lt j (length l)) [
                | inl before ↦ absurd (f.4 run.2.0 j behind (omega arith) before run.1 here)
                | inr end ↦
                    let is_p : j ≡ p = omega arith in
                    absurd (not_last (omega arith) run.2.0
                    (subst (λ w. Runs m.states l run.2.0 m.start s w) is_p here))
              ]
            ]
            | inr upto ↦ upto
          ],
    ),
  )

  -- the same, or none begins at s where no end was found
  pub begun_end : (p : ℕ) (last : Option ℕ) → MayBegin m.bounds l s → IsLastEnd m l s p last → p ≤ length l
      → ((n j : ℕ) → p < j → j ≤ length l → Runs m.states l n m.start s j → ⊥)
      → (p ≡ length l → (n : ℕ) → Runs m.states l n m.start s p → ⊥) → TellsKnownSpan m l s (known_span_of last p)
  begun_end p None begins f within none not_last = λ i j ge lt less inside run.
      let same : i ≡ s = omega arith in
      let here = subst (λ w. Runs m.states l run.2.0 m.start w j) same run.2.1 in
      elim (cases_lt p j) [
        | inl past ↦ none run.2.0 j past (omega arith) here
        | inr upto ↦ elim (cases_lt j (length l)) [
          | inl before ↦ f run.2.0 j (omega arith) upto before run.1 here
          | inr end ↦
              let is_p : j ≡ p = omega arith in
              not_last (omega arith) run.2.0 (subst (λ w. Runs m.states l run.2.0 m.start s w) is_p here)
        ]
      ]
  begun_end p (Some e) begins f within none not_last = best_end p (Some e) begins f within none not_last

  -- an end is found at the next place
  pub end_found : (p : ℕ) (S : ℕ → Type 0) → StandsFrom m l s (p + 1) S → s ≤ p → S 0 → MayEnd m.bounds l (p + 1)
      → IsLastEnd m l s (p + 1) (Some (p + 1))
  end_found p S at onward h may = (
    omega (arith, onward),
    omega arith,
    may,
    end_run m l s (p + 1) S is_m at h,
    λ n j later upto. absurd (omega arith),
  )

  -- no run is left behind p
  pub none_left : (p : ℕ) (last : Option ℕ) (U : ℕ → Type 0) → StandsFrom m l s (p + 1) U → ((q : ℕ) → U q → ⊥)
      → IsLastEnd m l s p last → p < length l → MayBegin m.bounds l s → TellsKnownSpan m l s (known_span_of last p)
  none_left p last U at none f lt begins =
      begun_end p last begins f (omega arith)
      (λ n j past inside run. let c = at.complete n j run (omega arith) in none c.0 c.2) (λ e. absurd (omega arith))

  -- no match ends where the line does
  pub begun_no_more : (p : ℕ) (last : Option ℕ) (S : ℕ → Type 0) → StandsFrom m l s p S → IsLastEnd m l s p last
      → p ≡ length l → MayBegin m.bounds l s → s < length l → NoHitAtEnd m false S
      → TellsKnownSpan m l s (known_span_of last p)
  begun_no_more p last S at f end begins inside missed =
      begun_end p last begins f (omega arith) (λ n j past upto run. absurd (omega arith))
      (λ e n run.
      let here = subst (λ w. StandsFrom m l s w S) end at in
      let last_run = subst (λ w. Runs m.states l n m.start s w) end run in
      let c = here.complete n (length l) last_run (omega arith) in
      missed l c.0 c.1 c.2 (λ z. absurd (omega arith)) c.3)

  -- one does
  pub best_at_end : (p : ℕ) (S : ℕ → Type 0) → StandsFrom m l s p S → p ≡ length l → MayBegin m.bounds l s
      → s < length l → HitAtEnd m false S → IsLongestFrom m l s p
  best_at_end p S at end begins inside h =
      let here = subst (λ w. StandsFrom m l s w S) end at in
      let zero_run = h.2 l (length l) (λ z. absurd (true≢false (sym z))) (λ z. refl) 0 (length l)
      (is_m.accept, refl) in
      let run = here.sound h.0 h.1 zero_run.0 (length l) zero_run.1 in
      subst (IsLongestFrom m l s) (sym end) (
        omega arith,
        inside,
        omega arith,
        (begins, ends_at_last m.bounds l, run),
        λ v j ge less within other. (ge, λ same. omega arith),
      )

module _ (m : Nfa) (t : Dfa) (is : IsAnchoredDfaOf m t) where
  pub in_steps : (state b : ℕ) → IsAtRow t state → b < 256 → state + b < length t.steps
  in_steps state b s lt = omega (arith, is.shape.steps_size, is.shape.few, s.row, s.known)

  pub in_rows : (state : ℕ) → IsAtRow t state → state / 256 < 257
  in_rows state s = omega (arith, is.shape.few, s.known)

  told_at : (state v b : ℕ) → IsAtRow t state → b < 256 → v ≡ slice_index t.steps (state + b)
      → ToldAlone m t (state / 256) b v
  told_at state v b s lt read =
      let cell : state + b ≡ 256 * (state / 256) + b = ap (λ u. u + b) s.row in
      let here : v ≡ slice_index t.steps (256 * (state / 256) + b) = read ∙ ap (slice_index t.steps) cell in
      subst (ToldAlone m t (state / 256) b) (sym here) (is.told (state / 256) b s.known lt)

  -- a step to a row
  pub row_behind : (state v b : ℕ) → IsAtRow t state → b < 256 → v ≡ slice_index t.steps (state + b) → 256 ≤ v
      → IsAtRow t v × (1 ≤ v / 256) × GoesAlone m.states b (In t (state / 256)) (In t (v / 256))
  row_behind state v b s lt read big = elim (told_at state v b s lt read) [
    | inl unknown ↦ absurd (omega (arith, unknown.0))
    | inr rest ↦ elim rest [
      | inl dead ↦ absurd (omega (arith, dead.0))
      | inr go ↦
          let k = row_of v go.0 go.1 in (
            at_row t v go.0 go.1 go.3,
            omega (arith, k, go.2),
            subst (λ u. GoesAlone m.states b (In t (state / 256)) (In t u)) (sym k) go.4,
          )
    ]
  ]

  -- a step to nothing
  dead_behind : (state v b : ℕ) → IsAtRow t state → b < 256 → v ≡ slice_index t.steps (state + b) → v ≡ 2
      → ReadsNone m b (In t (state / 256))
  dead_behind state v b s lt read two = elim (told_at state v b s lt read) [
    | inl unknown ↦ absurd (unknown.2 two)
    | inr rest ↦ elim rest [ inl dead ↦ dead.1 | inr go ↦ absurd (omega (arith, go.1, go.2)) ]
  ]

  -- the row of a start is the set of its place
  start_stands : (l : List ℕ) (s : ℕ) → start_row s ≤ t.count → s < length l → StandsFrom m l s s (In t (start_row s))
  start_stands l zero known inside =
      stands_start m l 0 true (In t 2) (λ f. refl) (λ z. refl) inside (is.first known)
  start_stands l (suc s) known inside =
      stands_start m l (suc s) false (In t 1) (λ f. absurd (true≢false (sym f))) (λ z. absurd (omega arith)) inside
      (is.inside known)

  module _ (l : List ℕ) (s : ℕ) (is_m : IsRunnable m) where
    pub follows_first : (r : ℕ) → r ≡ start_row s → r ≤ t.count → s < length l → Follows m t l s s (256 * r) None
    follows_first r is_row known inside = record {
      onward = omega arith;
      within = omega arith;
      row = at_row t (256 * r) r refl known;
      stands = subst (λ k. StandsFrom m l s s (In t k)) (sym is_row ∙ sym (row_of (256 * r) r refl))
          (start_stands l s (subst (λ k. k ≤ t.count) is_row known) inside);
      found = λ n j behind upto. absurd (omega arith);
    }

    module _ (p at v : ℕ) (last : Option ℕ) (f : Follows m t l s p at last) (byte : get_or l p 0 < 256)
        (lt : p < length l) (read : v ≡ get_or t.steps (at + get_or l p 0) v) (big : 256 ≤ v) where
      cell : v ≡ slice_index t.steps (at + get_or l p 0)
      cell = get_or_read t.steps _ v (in_steps at (get_or l p 0) f.row byte) read 0

      step : IsAtRow t v × (1 ≤ v / 256) × GoesAlone m.states (get_or l p 0) (In t (at / 256)) (In t (v / 256))
      step = row_behind at v (get_or l p 0) f.row byte cell big

      stands : StandsFrom m l s (p + 1) (In t (v / 256))
      stands = stands_behind m l s p (get_or l p 0) (In t (at / 256)) (In t (v / 256)) (slice_get-get_or l p 0 lt) lt
          f.stands step.2

      -- the row that the byte leads to
      pub behind_byte : (v / 256 ≤ t.count) × StandsFrom m l s (p + 1) (In t (v / 256))
      behind_byte = (step.0.known, stands)

      pub in_flags : v / 256 < length t.flags
      in_flags = omega (arith, in_rows v step.0, is.shape.flags_size)

      accepts : (flag : Bool) → flag ≡ get_or t.flags (v / 256) flag → (flag ≡ true) ↔ In t (v / 256) 0
      accepts flag flagged =
          let same = get_or_read t.flags (v / 256) flag in_flags flagged false in
          let so = is.accepts (v / 256) step.1 step.0.known in
          (λ e. so.0 (sym same ∙ e), λ h. same ∙ so.1 h)

      -- on to the next row, where no end is found
      pub follows_on : (flag : Bool) → flag ≡ get_or t.flags (v / 256) flag
          → (flag ≡ true → MayEnd m.bounds l (p + 1) → ⊥) → Follows m t l s (p + 1) v last
      follows_on flag flagged refused = record {
        onward = omega (arith, f.onward);
        within = omega arith;
        row = step.0;
        stands = stands;
        found = not_found m l s is_m p last (In t (v / 256)) stands (λ h. refused ((accepts flag flagged).1 h)) f.found;
      }

      -- and where one is
      pub follows_end : (flag : Bool) → flag ≡ get_or t.flags (v / 256) flag → flag ≡ true
          → MayEnd m.bounds l (p + 1) → Follows m t l s (p + 1) v (Some (p + 1))
      follows_end flag flagged is_so may = record {
        onward = omega (arith, f.onward);
        within = omega arith;
        row = step.0;
        stands = stands;
        found = end_found m l s is_m p (In t (v / 256)) stands f.onward ((accepts flag flagged).0 is_so) may;
      }

    pub begun_dead : (p at v : ℕ) (last : Option ℕ) → Follows m t l s p at last → MayBegin m.bounds l s
        → get_or l p 0 < 256 → p < length l → v ≡ get_or t.steps (at + get_or l p 0) v → v ≡ 2
        → TellsKnownSpan m l s (known_span_of last p)
    begun_dead p at v last f begins byte lt read two =
        let b = get_or l p 0 in
        let cell = get_or_read t.steps _ v (in_steps at b f.row byte) read 0 in
        let none = dead_behind at v b f.row byte cell two in
        begun_end m l s is_m p last begins f.found f.within
        (λ n j past inside run.
        let c = f.stands.complete n j run (omega arith) in
        no_cross m l p b (In t (at / 256)) (slice_get-get_or l p 0 lt) (f.stands.closed lt) none c.1 c.0 j c.2 c.3
        (omega arith))
        (λ e. absurd (omega arith))

  -- what a row's answer at a line's end says
  pub ends_told : (r : ℕ) (read : Option Bool) (told answer : Bool) → read ≡ answer_at_end t r → read ≡ Some told
      → told ≡ answer → AnswersEnd m false (In t r) answer
  ends_told r read told answer here so same =
      subst (AnswersEnd m false (In t r)) same (is.told_end r told (sym here ∙ so)).1

told_moves : (m : Nfa) (old new : Dfa) (r b v : ℕ) → KeepsRows old new → r ≤ old.count → ToldAlone m old r b v
    → ToldAlone m new r b v
told_moves m old new r b v k le (inl unknown) = inl unknown
told_moves m old new r b v k le (inr (inl dead)) =
    inr (inl (dead.0, none_same m b (In old r) (In new r) (k.sets r le) dead.1))
told_moves m old new r b v k le (inr (inr go)) =
    let more = k.more in
    inr (inr (
      go.0,
      go.1,
      go.2,
      omega (arith, go.3),
      alone_same m.states b (In old r) (In new r) (In old go.0) (In new go.0) (k.sets r le) (k.sets go.0 go.3) go.4,
    ))

-- the DFA of a cache that keeps the rows, where each step is blank, or is an old one, or is told
moved : (m : Nfa) (old new : Dfa) → IsAnchoredDfaOf m old → IsShape (length m.states) new → KeepsRows old new
    → ((r b : ℕ) → r ≤ new.count → b < 256 → (slice_index new.steps (256 * r + b) ≡ slice_index old.steps (256 * r + b))
    ⊎ ToldAlone m new r b (slice_index new.steps (256 * r + b)))
    → ((i : ℕ) → 256 * (new.count + 1) ≤ i → slice_index new.steps i ≡ slice_index old.steps i)
    → ((r : ℕ) → old.count < r → r ≤ new.count → (flag_at new r ≡ true) ↔ In new r 0)
    → ((r : ℕ) (answer : Bool) → answer_at_end new r ≡ Some answer → (answer_at_end old r ≡ Some answer)
    ⊎ ((r ≤ new.count) × AnswersEnd m false (In new r) answer))
    → (old.count < 1 → 1 ≤ new.count → Starts m false (In new 1))
    → (old.count < 2 → 2 ≤ new.count → Starts m true (In new 2)) → IsAnchoredDfaOf m new
moved m old new is shape k cells past flags ends inside first =
    let more = k.more in
    record {
      shape = shape;
      told = λ r b le lt. elim (cells r b le lt) [
        | inl same ↦ elim (cases_lt old.count r) [
          | inl new_row ↦ inl (nothing_known _ (same ∙ is.blank (256 * r + b) (omega arith)))
          | inr old_row ↦
              let le' : r ≤ old.count = omega arith in
              subst (ToldAlone m new r b) (sym same) (told_moves m old new r b _ k le' (is.told r b le' lt))
        ]
        | inr told ↦ told
      ];
      blank = λ i le. past i le ∙ is.blank i (omega arith);
      accepts = λ r ge le. elim (cases_lt old.count r) [
        | inl new_row ↦ flags r new_row le
        | inr old_row ↦
            let le' : r ≤ old.count = omega arith in
            let flag = k.flags r le' in
            let so = is.accepts r ge le' in
            let sets = k.sets r le' 0 in
            (λ e. sets.0 (so.0 (sym flag ∙ e)), λ h. flag ∙ so.1 (sets.1 h))
      ];
      told_end = λ r answer e. elim (ends r answer e) [
        | inl same ↦
            let w = is.told_end r answer same in
            (omega (arith, w.0), answers_same m false (In old r) (In new r) answer (k.sets r w.0) w.1)
        | inr told ↦ told
      ];
      inside = λ some. elim (cases_lt old.count 1) [
        | inl none ↦ inside none some
        | inr had ↦ starts_same m false (In old 1) (In new 1) (k.sets 1 had) (is.inside had)
      ];
      first = λ some. elim (cases_lt old.count 2) [
        | inl none ↦ first none some
        | inr had ↦ starts_same m true (In old 2) (In new 2) (k.sets 2 had) (is.first had)
      ];
    }

-- a step that is known leads to a row
pub alone_known : (m : Nfa) (t : Dfa) (r b v : ℕ) → IsAnchoredDfaOf m t → r ≤ t.count → b < 256
    → v ≡ get_or t.steps (256 * r + b) v → 256 ≤ v → v / 256 ≤ t.count
alone_known m t r b v is known lt read big =
    let inside : 256 * r + b < length t.steps = omega (arith, is.shape.steps_size, known, lt) in
    let here : v ≡ slice_index t.steps (256 * r + b) = get_or_read t.steps (256 * r + b) v inside read 0 in
    elim (subst (ToldAlone m t r b) (sym here) (is.told r b known lt)) [
      | inl unknown ↦ absurd (omega (arith, unknown.0, big))
      | inr (inl dead) ↦ absurd (omega (arith, dead.0, big))
      | inr (inr row) ↦ omega (arith, row.1, row.3)
    ]

-- a set was added to the cache, with a flag that says whether state 0 is in it
pub alone_grown : (m : Nfa) (old new : Dfa) (s : Members) (flag : Bool) → IsAnchoredDfaOf m old
    → Grown (length m.states) old new s flag → (flag ≡ true) ↔ Has s 0
    → (old.count < 2 → Starts m (eqb old.count 1) (Has s)) → IsAnchoredDfaOf m new
alone_grown m old new s flag is g so starts =
    let n = g.count in
    moved m old new is g.shape g.keeps (λ r b le lt. inl (g.steps (256 * r + b))) (λ i le. g.steps i)
    (λ r later le.
    let last : r ≡ new.count = omega arith in
    let here = g.here 0 in
    let told = ap (flag_at new) last ∙ g.flag_here in (
      λ e. subst (λ v. In new v 0) (sym last) (here.0 (so.0 (sym told ∙ e))),
      λ h. told ∙ so.1 (here.1 (subst (λ v. In new v 0) last h)),
    ))
    (λ r answer e. inl (sym (ap (λ v. get_or v r None) g.ends) ∙ e))
    (λ none some. started_at 0 (omega arith) (omega arith)) (λ less some. started_at 1 (omega arith) less)
  where
    started_at : (k : ℕ) → old.count ≡ k → old.count < 2 → Starts m (eqb k 1) (In new (k + 1))
    started_at k at less =
        let last : new.count ≡ k + 1 = omega (arith, g.count) in
        starts_same m (eqb k 1) (Has s) (In new (k + 1)) (subst (λ v. Same (Has s) (In new v)) last g.here)
        (subst (λ v. Starts m (eqb v 1) (Has s)) at (starts less))

-- a set was added, if there was room
pub alone_added : (m : Nfa) (old new : Dfa) (s : Members) (flag r : Bool) → IsAnchoredDfaOf m old
    → (IsTrue r → Grown (length m.states) old new s flag) → (r ≡ false → new ≡ old) → (flag ≡ true) ↔ Has s 0
    → (old.count < 2 → Starts m (eqb old.count 1) (Has s)) → IsAnchoredDfaOf m new
alone_added m old new s flag true is grown_so _ so starts = alone_grown m old new s flag is (grown_so refl) so starts
alone_added m old new s flag false is _ same so starts = subst (IsAnchoredDfaOf m) (sym (same refl)) is

-- where a byte leads was written
pub alone_marked : (m : Nfa) (old new : Dfa) (r b v : ℕ) → IsAnchoredDfaOf m old
    → Marked old new (256 * r + b) v → r ≤ old.count → b < 256 → ToldAlone m old r b v → IsAnchoredDfaOf m new
alone_marked m old new r b v is w le lt told =
    let k = sets_keep old new w.sets in
    let n = w.sets.count in
    let few = is.shape.few in
    let size = is.shape.steps_size in
    let here : slice_index new.steps (256 * r + b) ≡ v =
    ap (λ u. slice_index u (256 * r + b)) w.steps ∙ get_or-set_same old.steps (256 * r + b) v 0 (omega arith) in
    let other : (i : ℕ) → i ≢ 256 * r + b → slice_index new.steps i ≡ slice_index old.steps i =
    λ i ne. ap (λ u. slice_index u i) w.steps ∙ get_or-set_other old.steps (256 * r + b) i v 0 ne in
    moved m old new is
    (sets_shape (length m.states) old new is.shape w.sets (ap length w.steps ∙ length-set old.steps (256 * r + b) v)
    (ap length w.ends)) k
    (λ r' b' le' lt'. elim (cases_eq (256 * r' + b') (256 * r + b)) [
      | inl same ↦
          let er : r ≡ r' = omega arith in
          let eb : b ≡ b' = omega arith in
          let moved_told = told_moves m old new r b v k le told in
          inr (subst (λ u. ToldAlone m new r' b' (slice_index new.steps u)) (sym same)
          (subst (ToldAlone m new r' b') (sym here)
          (subst (λ u. ToldAlone m new r' u v) eb (subst (λ u. ToldAlone m new u b v) er moved_told))))
      | inr differs ↦ inl (other (256 * r' + b') differs)
    ]) (λ i past. other i (omega arith)) (λ r' later upto. absurd (omega arith))
    (λ r' answer e. inl (sym (ap (λ u. get_or u r' None) w.ends) ∙ e)) (λ none some. absurd (omega arith))
    (λ less some. absurd (omega arith))

-- the answer at a line's end was written
pub alone_marked_end : (m : Nfa) (old new : Dfa) (r : ℕ) (answer : Bool) → IsAnchoredDfaOf m old
    → MarkedEnd old new r answer → r ≤ old.count → AnswersEnd m false (In old r) answer → IsAnchoredDfaOf m new
alone_marked_end m old new r answer is w le told =
    let k = sets_keep old new w.sets in
    let n = w.sets.count in
    let few = is.shape.few in
    let size = is.shape.ends_size in
    let here : answer_at_end new r ≡ Some answer =
    ap (λ u. get_or u r None) w.ends ∙ get_or-set_same old.ends r (Some answer) None (omega arith) in
    moved m old new is
    (sets_shape (length m.states) old new is.shape w.sets (ap length w.steps)
    (ap length w.ends ∙ length-set old.ends r (Some answer))) k
    (λ r' b' le' lt'. inl (ap (λ u. slice_index u (256 * r' + b')) w.steps))
    (λ i past. ap (λ u. slice_index u i) w.steps) (λ r' later upto. absurd (omega arith))
    (λ r' answer' e. elim (cases_eq r' r) [
      | inl same ↦
          let both : Some answer' ≡ Some answer = sym e ∙ ap (answer_at_end new) same ∙ here in
          let is_so : answer ≡ answer' = sym (same_some answer' answer both) in
          inr (
            omega arith,
            subst (λ u. AnswersEnd m false (In new u) answer') (sym same)
                (subst (AnswersEnd m false (In new r)) is_so
                (answers_same m false (In old r) (In new r) answer (k.sets r le) told)),
          )
      | inr differs ↦ inl (sym (ap (λ u. get_or u r' None) w.ends
          ∙ get_or-set_other old.ends r r' (Some answer) None differs) ∙ e)
    ]) (λ none some. absurd (omega arith)) (λ less some. absurd (omega arith))
  where
    same_some : (a c : Bool) → Some a ≡ Some c → a ≡ c
    same_some a c e = cc

-- where the byte leads from row r of the cache: to row k
pub told_alone : (m : Nfa) (old mid : Dfa) (r b k v : ℕ) (s u : Members) → v ≡ 256 * k → 1 ≤ k → k ≤ mid.count
    → r ≤ old.count → KeepsRows old mid → Same (In old r) (Has s) → GoesAlone m.states b (Has s) (Has u)
    → Same (Has u) (In mid k) → ToldAlone m mid r b v
told_alone m old mid r b k v s u e ge le le_r keeps from goes to =
    let back = same_on (Has s) (In old r) (In mid r) (same_back (In old r) (Has s) from) (keeps.sets r le_r) in
    inr (inr (k, e, ge, le, alone_same m.states b (Has s) (In mid r) (Has u) (In mid k) back to goes))

-- a new cache has nothing
pub blank_alone : (m : Nfa) (t : Dfa) → IsBlank t → IsAnchoredDfaOf m t
blank_alone m t b =
    let none = b.count in
    record {
      shape = b.shape (length m.states);
      told = λ r c le lt. inl (nothing_known _ (b.steps (256 * r + c)));
      blank = λ i le. b.steps i;
      accepts = λ r ge le. absurd (omega arith);
      told_end = λ r answer e. absurd (no_some answer (sym (b.ends r) ∙ e));
      inside = λ some. absurd (omega arith);
      first = λ some. absurd (omega arith);
    }
  where
    no_some : (a : Bool) → None ≡ Some a → ⊥
    no_some a e = cc

pub blank_anchored : {A : Type 0} (table : Option (Cache A)) (m : Nfa)
    → IfSome table (λ t. IsBlank (dfa t)) → CachesAnchoredDfaOf table m
blank_anchored (Some t) m blank = blank_alone m (dfa t) blank
blank_anchored None m blank = tt

-- whether state 0 is in a set, as its mark is read
pub accepts_so : (s : Members) (v : ℕ) → v ≡ mark s 0 → (not (eqb v 0) ≡ true) ↔ Has s 0
accepts_so s zero e = (λ no. absurd (true≢false (sym no)), λ h. absurd (omega arith))
accepts_so s (suc v) e = (λ yes. omega arith, λ h. ap not (ne_eqb (suc v) 0 (omega arith)))
