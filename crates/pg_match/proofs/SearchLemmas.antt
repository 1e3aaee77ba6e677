-- From one position to the next.
use Rattle.std.proofs.Common.{◌≡◌, ℕ, zero, suc, ◌+◌, ◌<◌, ◌≤◌, ◌⊎◌, inl, inr, List, length, Option}
use Rattle.std.proofs.Common.{Some, None, Bool, true, false, true≢false, cond, ◌^◌, refl, sym, ap}
use Rattle.std.proofs.Common.{◌∙◌, subst, arith}
use Rattle.std.specs.Prelude.{slice_get, IsTrue, MatchOption, is_none, is_some, nat_lt, nat_le}
use Rattle.std.proofs.lemmas.Bool.Decides.{not_from_Decides}
use Rattle.std.proofs.lemmas.Bool.{cases_eq, cases_lt, leb-true, leb-false, ltb-true, ltb-false}
use Rattle.pg_match.specs.Automata.{Edge, Runs, Nfa, IsRunnable}
use Rattle.pg_match.specs.StateSets.{Members, mark, IsGood, IsEmpty, Buffers, HaveRoom}
use Rattle.pg_match.specs.Closures.{IsClosed, Stepped, Reached}
use Rattle.pg_pattern.specs.Bounds.{MayBegin, MayEnd, may_end}
use Rattle.pg_pattern.proofs.TestLemmas.{end_decided}
use Rattle.pg_pattern.specs.Hits.{Hit, HasNoNext, IsNext}
use Rattle.pg_pattern.specs.Patterns.{Pattern}
use Rattle.pg_match.specs.Machines.{Agrees}
use Rattle.pg_match.specs.Searches.{Early, RunsFrom, IsBest, Alive, Seeded, Advanced, start_bound, winner}
use Rattle.pg_match.specs.Searches.{judged, limit_of, ending}
use Rattle.pg_match.specs.declared.state.State.{State}
use Rattle.pg_match.specs.declared.state.State.TheVariants.{Fail, Accept, Jump, Read, AtBegin, AtEnd, Split}

-- an edge stays or reads one byte
pub edge_moves : (o : Option State) (l : List ℕ) (i r k : ℕ) → Edge o l i r k → (k ≡ i) ⊎ (k ≡ i + 1)
edge_moves None l i r k e = absurd e
edge_moves (Some Fail) l i r k e = absurd e
edge_moves (Some Accept) l i r k e = absurd e
edge_moves (Some (Jump x)) l i r k e = inl e.1
edge_moves (Some (Read s x)) l i r k e = inr e.4
edge_moves (Some (AtBegin x)) l i r k e = inl e.2
edge_moves (Some (AtEnd x)) l i r k e = inl e.2
edge_moves (Some (Split x y)) l i r k e = inl e.1

pub start_few : (p : ℕ) → start_bound p ≤ p + 1
start_few zero = omega arith
start_few (suc p) = omega arith

pub start_later : (p : ℕ) → 0 < p → start_bound p ≡ p
start_later zero h = absurd (omega arith)
start_later (suc p) h = refl

pub start_next : (p : ℕ) → start_bound (p + 1) ≡ p + 1
start_next p = start_later (p + 1) (omega arith)

pub start_all : (p : ℕ) → p ≤ start_bound p
start_all zero = omega arith
start_all (suc p) = omega arith

module _ (t : List State) (l : List ℕ) where
  pub runs_forward : (n q i j : ℕ) → Runs t l n q i j → i ≤ j
  runs_forward zero q i j run = omega (arith, run.1)
  runs_forward (suc n) q i j run =
      let f = runs_forward n run.0 run.1 j run.3 in
      elim (edge_moves (slice_get t q) l i run.0 run.1 run.2) [ inl stays ↦ omega arith | inr moves ↦ omega arith ]

  -- a run that goes past p goes through the set of the next position
  crosses : (p limit : ℕ) (now next : Members) → IsClosed t l p now → Stepped t l p now next limit → (m q j : ℕ)
      → 0 < mark now q
      → mark now q ≤ limit → Runs t l m q p j → p + 1 ≤ j
      → (r : ℕ) × (n : ℕ) × (0 < mark next r) × (mark next r ≤ mark now q) × Runs t l n r (p + 1) j
  crosses p limit now next closed step zero q j h early run past = absurd (omega (arith, run.1))
  crosses p limit now next closed step (suc m) q j h early run past =
      elim (edge_moves (slice_get t q) l p run.0 run.1 run.2) [
        | inl stays ↦
            let c = closed q h run.0 (subst (λ v. Edge (slice_get t q) l p run.0 v) stays run.2) in
            let again = crosses p limit now next closed step m run.0 j c.0 (omega (arith, c.1))
            (subst (λ v. Runs t l m run.0 v j) stays run.3) past in
            (again.0, again.1, again.2, omega (arith, again.3, c.1), again.4)
        | inr moves ↦
            let g = step.goes q run.0 h early (subst (λ v. Edge (slice_get t q) l p run.0 v) moves run.2) in
            (run.0, m, g.0, g.1, subst (λ v. Runs t l m run.0 v j) moves run.3)
      ]

  -- a run that ends at p ends in the set of p
  ends_here : (p : ℕ) (now : Members) → IsClosed t l p now → ((q : ℕ) → slice_get t q ≡ Some Accept → q ≡ 0)
      → (m q : ℕ) → 0 < mark now q → Runs t l m q p p → (0 < mark now 0) × (mark now 0 ≤ mark now q)
  ends_here p now closed only zero q h run =
      let e = only q run.0 in
      subst (λ v. (0 < mark now v) × (mark now v ≤ mark now q)) e (h, omega arith)
  ends_here p now closed only (suc m) q h run =
      elim (edge_moves (slice_get t q) l p run.0 run.1 run.2) [
        | inl stays ↦
            let c = closed q h run.0 (subst (λ v. Edge (slice_get t q) l p run.0 v) stays run.2) in
            let again = ends_here p now closed only m run.0 c.0 (subst (λ v. Runs t l m run.0 v p) stays run.3) in
            (again.0, omega (arith, again.1, c.1))
        | inr moves ↦ let f = runs_forward m run.0 run.1 p run.3 in absurd (omega arith)
      ]

  module _ (x : ℕ) (B E : ℕ → Type 0) (from : ℕ) where
    pub alive_first : (now : Members) (best : Option (ℕ × ℕ)) → IsGood now → IsEmpty now → length now.marks ≡ length t
        → Alive t l x B from from from now best
    alive_first now best good empty size = record {
      good = good;
      size = size;
      closed = λ q h. let z = empty.1 q in absurd (omega arith);
      ordered = λ j k le lt. let z = empty.0 in absurd (omega arith);
      sound = λ q h. let z = empty.1 q in absurd (omega arith);
      complete = λ s n j ge lt. absurd (omega arith);
    }

    -- the set of a line's first place, with the start there
    pub alive_begun : (none now : Members) (best : Option (ℕ × ℕ)) → from ≡ 0 → B 0 → IsEmpty none
        → length none.marks ≡ length t → Reached t l 0 none now x 1 → Alive t l x B from 1 0 now best
    alive_begun none now best is_zero may empty size r = record {
      good = r.good;
      size = r.size ∙ size;
      closed = r.closed;
      ordered = r.ordered;
      sound = λ q h. let f = r.fresh q (empty.1 q) h in (0, f.0, omega arith, omega arith, may, f.1);
      complete = λ s n j ge lt begins early run past.
          let first : s ≡ 0 = omega arith in
          (x, n, r.here, omega (arith, r.below x), subst (λ v. Runs t l n x v j) first run);
    }

    -- what starts at p lead to by a byte was added behind it
    alive_seeded : (p : ℕ) (now new : Members) (wanted : Bool) (best : Option (ℕ × ℕ))
        → Alive t l x B from p (p + 1) now best
        → Seeded t l x B p wanted now new → from ≤ p → (wanted ≡ false → Early best p → ⊥)
        → Alive t l x B from (p + 1) (p + 1) new best
    alive_seeded p now new wanted best a s p_in late = record {
      good = s.good;
      size = s.size ∙ a.size;
      closed = s.closed;
      ordered = s.ordered;
      sound = λ q h. elim (cases_lt 0 (mark now q)) [
        | inl old ↦ let b = a.sound q old in (b.0, s.kept q old ∙ b.1, b.2, omega (arith, b.3), b.4, b.5)
        | inr none ↦ let f = s.fresh q (omega arith) h in (p, f.0, p_in, omega arith, f.1, f.2)
      ];
      complete = λ v n j ge lt begins early run past. elim (cases_eq v p) [
        | inl same ↦
            let w = seed wanted refl (subst B same begins) (subst (Early best) same early) n j
            (subst (λ i. Runs t l n x i j) same run) past in
            (w.0, w.1, w.2, omega (arith, w.3), w.4)
        | inr other ↦
            let b = a.complete v n j ge (omega arith) begins early run past in
            let k = s.kept b.0 b.2 in
            (b.0, b.1, omega (arith, b.2), omega (arith, b.3), b.4)
      ];
    }
      where
        seed : (w : Bool) → w ≡ wanted → B p → Early best p → (n j : ℕ) → Runs t l n x p j → p + 1 ≤ j
            → (q : ℕ) × (m : ℕ) × (0 < mark new q) × (mark new q ≤ p + 1) × Runs t l m q (p + 1) j
        seed true e begins early = s.here (sym e) begins
        seed false e begins early = absurd (late (sym e) early)

    pub alive_judged : (p upto : ℕ) (now : Members) (best after : Option (ℕ × ℕ)) → Alive t l x B from upto p now best
        → ((s : ℕ) → Early after s → Early best s) → Alive t l x B from upto p now after
    alive_judged p upto now best after a mono = record {
      good = a.good;
      size = a.size;
      closed = a.closed;
      ordered = a.ordered;
      sound = a.sound;
      complete = λ s n j ge lt begins early run past. a.complete s n j ge lt begins (mono s early) run past;
    }

    alive_stepped : (p upto limit : ℕ) (now next : Members) (best : Option (ℕ × ℕ)) → upto ≤ p + 1
        → Alive t l x B from upto p now best
        → Stepped t l p now next limit → ((s : ℕ) → s ≤ p → Early best s → s + 1 ≤ limit)
        → Alive t l x B from upto (p + 1) next best
    alive_stepped p upto limit now next best few a step wide = record {
      good = step.good;
      size = step.size ∙ a.size;
      closed = step.closed;
      ordered = step.ordered;
      sound = λ r h.
          let c = step.comes r h in
          let b = a.sound c.0 c.1 in
          (b.0, c.2 ∙ b.1, b.2, b.3, b.4, λ n j run. let u = c.3 n j run in b.5 u.0 j u.1);
      complete = λ s n j ge lt begins early run past.
          let b = a.complete s n j ge lt begins early run (omega arith) in
          let w = wide s (omega arith) early in
          let c = crosses p limit now next a.closed step b.1 b.0 j b.2 (omega (arith, b.3)) b.4 past in
          (c.0, c.1, c.2, omega (arith, c.3, b.3), c.4);
    }

    pub alive_advanced : (p limit : ℕ) (now next : Members) (wanted : Bool) (best : Option (ℕ × ℕ))
        → Alive t l x B from (start_bound p) p now best → Advanced t l x B p wanted now next limit → from ≤ p
        → (wanted ≡ false → Early best p → ⊥) → ((s : ℕ) → s ≤ p → Early best s → s + 1 ≤ limit)
        → Alive t l x B from (start_bound (p + 1)) (p + 1) next best
    alive_advanced p limit now next wanted best a adv p_in late wide =
        let mid = adv.0 in
        let stepped = alive_stepped p (start_bound p) limit now mid best (start_few p) a adv.1 wide in
        subst (λ u. Alive t l x B from u (p + 1) next best) (sym (start_next p)) (elim adv.2 [
          | inl first ↦
              let u : start_bound p ≡ p + 1 = ap start_bound first.0 ∙ omega (arith, first.0) in
              subst (λ s. Alive t l x B from (p + 1) (p + 1) s best) (sym first.1)
              (subst (λ u. Alive t l x B from u (p + 1) mid best) u stepped)
          | inr later ↦
              alive_seeded p mid next wanted best
              (subst (λ u. Alive t l x B from u (p + 1) mid best) (start_later p later.0) stepped) later.1 p_in late
        ])

    -- the start of the match that ends at p, if there is one: no run to p starts earlier
    pub none_earlier : (p : ℕ) (now : Members) (best : Option (ℕ × ℕ)) → Alive t l x B from (start_bound p) p now best
        → ((q : ℕ) → slice_get t q ≡ Some Accept → q ≡ 0) → (s n : ℕ) → from ≤ s → s < p → B s → Early best s
        → Runs t l n x s p
        → (0 < mark now 0) × (mark now 0 ≤ s + 1)
    none_earlier p now best a only s n ge lt begins early run =
        let b = a.complete s n p ge (omega (arith, start_all p)) begins early run (omega arith) in
        let e = ends_here p now a.closed only b.1 b.0 b.2 b.4 in
        (e.0, omega (arith, e.1, b.3))

    pub run_here : (p : ℕ) (now : Members) (best : Option (ℕ × ℕ)) → Alive t l x B from (start_bound p) p now best
        → slice_get t 0 ≡ Some Accept
        → (s : ℕ) → mark now 0 ≡ s + 1 → (from ≤ s) × B s × ((n : ℕ) × Runs t l n x s p)
    run_here p now best a accept s e =
        let b = a.sound 0 (omega arith) in
        let same : b.0 ≡ s = omega (arith, b.1) in
        (omega (arith, b.2), subst B same b.4, subst (λ v. (n : ℕ) × Runs t l n x v p) same (b.5 0 p (accept, refl)))

    -- what is found at p, as the code tells it: the start, plus one, or 0
    pub record Found (p start : ℕ) (best : Option (ℕ × ℕ)) : Type 0 where
      pub run : (s : ℕ) → start ≡ s + 1 → (from ≤ s) × RunsFrom t l x B E s p
      pub least : (s : ℕ) → from ≤ s → s < p → Early best s → RunsFrom t l x B E s p → (0 < start) × (start ≤ s + 1)

    winner_early : (s p v : ℕ) (best : Option (ℕ × ℕ)) → Early (winner p s best) v → Early best v
    winner_early s p v None h = tt
    winner_early s p v (Some b) h = go (nat_le s b.0) refl h
      where
        go : (w : Bool) → nat_le s b.0 ≡ w → Early (cond w (Some (s, p)) (Some b)) v → v ≤ b.0
        go true e h = let le = leb-true s b.0 e in omega arith
        go false e h = h

    pub judged_early : (p start v : ℕ) (best : Option (ℕ × ℕ)) → Early (judged p start best) v → Early best v
    judged_early p zero v best h = h
    judged_early p (suc s) v best h = go (nat_lt s p) h
      where
        go : (w : Bool) → Early (cond w (winner p s best) best) v → Early best v
        go true h = winner_early s p v best h
        go false h = h

    -- the best stays where nothing that ends at p wins over it
    still_best : (p : ℕ) (best : Option (ℕ × ℕ)) → IsBest t l x B E from p best
        → ((s : ℕ) → from ≤ s → s < p → Early best s → RunsFrom t l x B E s p → ⊥) → IsBest t l x B E from (p + 1) best
    still_best p None b none = λ s j ge lt le run. elim (cases_eq j p) [
      | inl same ↦ none s ge (omega arith) tt (subst (RunsFrom t l x B E s) same run)
      | inr other ↦ b s j ge lt (omega arith) run
    ]
    still_best p (Some c) b none = (
      b.0,
      b.1,
      omega (arith, b.2),
      b.3,
      λ s j ge lt le run. elim (cases_eq j p) [
        | inl same ↦ elim (cases_lt c.0 s) [
          | inl later ↦ (omega arith, λ e. absurd (omega arith))
          | inr early ↦ absurd (none s ge (omega arith) early (subst (RunsFrom t l x B E s) same run))
        ]
        | inr other ↦ b.4 s j ge lt (omega arith) run
      ],
    )

    -- a span that ends at p and starts no later wins
    new_best : (p s : ℕ) (best : Option (ℕ × ℕ)) → IsBest t l x B E from p best → from ≤ s → s < p → Early best s
        → RunsFrom t l x B E s p
        → ((v : ℕ) → from ≤ v → v < p → Early best v → RunsFrom t l x B E v p → s ≤ v)
        → IsBest t l x B E from (p + 1) (Some (s, p))
    new_best p s None b ge lt early run least = (
      ge,
      lt,
      omega arith,
      run,
      λ v j ge' lt' le run'. elim (cases_eq j p) [
        | inl same ↦ (least v ge' (omega arith) tt (subst (RunsFrom t l x B E v) same run'), λ e. omega arith)
        | inr other ↦ absurd (b v j ge' lt' (omega arith) run')
      ],
    )
    new_best p s (Some c) b ge lt early run least = (
      ge,
      lt,
      omega arith,
      run,
      λ v j ge' lt' le run'. elim (cases_eq j p) [
        | inl same ↦ elim (cases_lt c.0 v) [
          | inl later ↦ (omega arith, λ e. omega arith)
          | inr early' ↦ (least v ge' (omega arith) early' (subst (RunsFrom t l x B E v) same run'), λ e. omega arith)
        ]
        | inr other ↦ let old = b.4 v j ge' lt' (omega arith) run' in (omega (arith, old.0), λ e. omega arith)
      ],
    )

    pub best_judged : (p start : ℕ) (best : Option (ℕ × ℕ)) → IsBest t l x B E from p best → Found p start best
        → IsBest t l x B E from (p + 1) (judged p start best)
    best_judged p zero best b f = still_best p best b
        (λ s ge lt early run. let z = f.least s ge (omega arith) early run in omega (arith, z.0))
    best_judged p (suc s) best b f = go (nat_lt s p) refl
      where
        r : (from ≤ s) × RunsFrom t l x B E s p
        r = f.run s (omega arith)

        win : (best : Option (ℕ × ℕ)) → IsBest t l x B E from p best → Found p (suc s) best → s < p
            → IsBest t l x B E from (p + 1) (winner p s best)
        win None b f lt = new_best p s None b (f.run s (omega arith)).0 lt tt (f.run s (omega arith)).1
            (λ v ge le early run. let z = f.least v ge le early run in omega (arith, z.1))
        win (Some c) b f lt = choose (nat_le s c.0) refl
          where
            choose : (w : Bool) → nat_le s c.0 ≡ w → IsBest t l x B E from (p + 1) (cond w (Some (s, p)) (Some c))
            choose true e = new_best p s (Some c) b (f.run s (omega arith)).0 lt (leb-true s c.0 e)
                (f.run s (omega arith)).1
                (λ v ge le early run. let z = f.least v ge le early run in omega (arith, z.1))
            choose false e =
                let later = leb-false s c.0 e in
                still_best p (Some c) b (λ v ge less early run. let z =
                f.least v ge (omega arith) early run in omega (arith, z.1))

        go : (w : Bool) → nat_lt s p ≡ w → IsBest t l x B E from (p + 1) (cond w (winner p s best) best)
        go true e = win best b f (ltb-true s p e)
        go false e =
            let past = ltb-false s p e in
            still_best p best b (λ v ge less early run. let z =
            f.least v ge (omega arith) early run in omega (arith, z.1))

    -- a run ends where it is, once matches end at its state
    stays : (m q i j : ℕ) → slice_get t q ≡ Some Accept → Runs t l m q i j → i ≡ j
    stays zero q i j accept run = run.1
    stays (suc m) q i j accept run = absurd (subst (λ o. Edge o l i run.0 run.1) accept run.2)

    -- no state is left but the one where matches end
    pub over : (p : ℕ) (now : Members) (c : ℕ × ℕ) (end : ℕ) → IsBest t l x B E from (p + 1) (Some c)
        → Alive t l x B from (start_bound p) p now (Some c) → slice_get t 0 ≡ Some Accept
        → ((q : ℕ) → 0 < mark now q → q ≡ 0)
        → p + 1 ≤ end → IsBest t l x B E from end (Some c)
    over p now c end b a accept last le = (
      b.0,
      b.1,
      omega (arith, b.2),
      b.3,
      λ s j ge lt less run. elim (cases_lt j (p + 1)) [
        | inl before ↦ b.4 s j ge lt before run
        | inr after ↦ elim (cases_lt c.0 s) [
          | inl later ↦ (omega arith, λ e. absurd (omega arith))
          | inr early ↦
              let w = a.complete s run.2.0 j ge (omega (arith, b.1, b.2, start_all p)) run.0 early run.2.1
              (omega arith) in
              let ends = subst (λ q. slice_get t q ≡ Some Accept) (sym (last w.0 w.2)) accept in
              absurd (omega (arith, stays w.1 w.0 p j ends w.4))
        ]
      ],
    )

-- what `settle` judges is what is found
pub found_here : (m : Nfa) (l : List ℕ) (from p : ℕ) (now : Members) (best : Option (ℕ × ℕ)) → IsRunnable m
    → Alive m.states l m.start (MayBegin m.bounds l) from (start_bound p) p now best
    → Found m.states l m.start (MayBegin m.bounds l) (MayEnd m.bounds l) from p (ending m l p now) best
found_here m l from p now best is a = go (may_end m.bounds l p) refl
  where
    go : (w : Bool) → may_end m.bounds l p ≡ w
        → Found m.states l m.start (MayBegin m.bounds l) (MayEnd m.bounds l) from p (cond w (mark now 0) 0) best
    go true e = record {
      run = λ s here. let r = run_here m.states l m.start (MayBegin m.bounds l)
          (MayEnd m.bounds l) from p now best a is.accept s here in
          (r.0, (r.1, (end_decided m.bounds l p).0 e, r.2));
      least = λ s ge lt early run. none_earlier m.states l m.start (MayBegin m.bounds l) (MayEnd m.bounds l) from p
          now best
          a is.only s run.2.0 ge lt run.0 early run.2.1;
    }
    go false e = record {
      run = λ s here. absurd (omega arith);
      least = λ s ge le early run. absurd (not_from_Decides (may_end m.bounds l p) (end_decided m.bounds l p) e run.1);
    }

-- what a search keeps: the set of the position, and the best before it
pub record Searching (m : Nfa) (l : List ℕ) (from p : ℕ) (s : Buffers) (best : Option (ℕ × ℕ)) : Type 0 where
  pub alive : Alive m.states l m.start (MayBegin m.bounds l) from (start_bound p) p s.current best
  pub next : IsGood s.next
  pub next_size : length s.next.marks ≡ length m.states
  pub so_far : IsBest m.states l m.start (MayBegin m.bounds l) (MayEnd m.bounds l) from p best

not_late : (t : List State) (l : List ℕ) (x : ℕ) (B E : ℕ → Type 0) (from p : ℕ) (best : Option (ℕ × ℕ))
    → IsBest t l x B E from (p + 1) best → is_none best ≡ false → Early best p → ⊥
not_late t l x B E from p None b none early = true≢false none
not_late t l x B E from p (Some c) b none early = omega (arith, b.1, b.2)

-- what holds once the match that ends at p is judged
module _ (m : Nfa) (l : List ℕ) (from p : ℕ) (s : Buffers) (best : Option (ℕ × ℕ)) (is : IsRunnable m)
    (g : Searching m l from p s best) where
  abbrev Settled : Option (ℕ × ℕ) → Type 0
  Settled after = Alive m.states l m.start (MayBegin m.bounds l) from (start_bound p) p s.current after
      × IsBest m.states l m.start (MayBegin m.bounds l) (MayEnd m.bounds l) from (p + 1) after

  settled_here : Settled (judged p (ending m l p s.current) best)
  settled_here =
      let t = m.states in
      let B = MayBegin m.bounds l in
      let E = MayEnd m.bounds l in
      let start = ending m l p s.current in
      let after = judged p start best in
      let b = best_judged t l m.start B E from p start best g.so_far
      (found_here m l from p s.current best is g.alive) in
      let a = alive_judged t l m.start B E from p (start_bound p) s.current best after g.alive
      (λ v early. judged_early t l m.start B E from p start v best early) in
      (a, b)

  pub settled : (after : Option (ℕ × ℕ)) → after ≡ judged p (ending m l p s.current) best → Settled after
  settled after same = subst Settled (sym same) settled_here

wide : (t : List State) (l : List ℕ) (x : ℕ) (B E : ℕ → Type 0) (from p : ℕ) (best : Option (ℕ × ℕ)) → p < 2 ^ 31
    → (s : ℕ) → s ≤ p → Early best s → s + 1 ≤ limit_of best
wide t l x B E from p None short s le early = omega arith
wide t l x B E from p (Some c) short s le early = omega arith

pub searched : (m : Nfa) (l : List ℕ) (from p : ℕ) (s u : Buffers) (best : Option (ℕ × ℕ)) → p < 2 ^ 31 → from ≤ p
    → Alive m.states l m.start (MayBegin m.bounds l) from (start_bound p) p s.current best
    → IsBest m.states l m.start (MayBegin m.bounds l) (MayEnd m.bounds l) from (p + 1) best
    → Advanced m.states l m.start (MayBegin m.bounds l) p (is_none best) s.current u.current (limit_of best)
    → HaveRoom u (length m.states)
    → Searching m l from (p + 1) u best
searched m l from p s u best short p_in a b advanced fits = record {
  alive = alive_advanced m.states l m.start (MayBegin m.bounds l) (MayEnd m.bounds l) from p
      (limit_of best) s.current u.current (is_none best) best a advanced p_in
      (not_late m.states l m.start (MayBegin m.bounds l) (MayEnd m.bounds l) from p best b)
      (wide m.states l m.start (MayBegin m.bounds l) (MayEnd m.bounds l) from p best short);
  next = fits.next;
  next_size = fits.next_size;
  so_far = b;
}

-- a span was found, and nothing is left that may win over it
pub search_over : (m : Nfa) (l : List ℕ) (from p : ℕ) (now : Members) (best : Option (ℕ × ℕ)) → IsRunnable m
    → Alive m.states l m.start (MayBegin m.bounds l) from (start_bound p) p now best
    → IsBest m.states l m.start (MayBegin m.bounds l) (MayEnd m.bounds l) from (p + 1) best
    → ((q : ℕ) → 0 < mark now q → q ≡ 0) → p ≤ length l → is_some best ≡ true
    → IsBest m.states l m.start (MayBegin m.bounds l) (MayEnd m.bounds l) from (length l + 1) best
search_over m l from p now None is a b last le some = absurd (true≢false (sym some))
search_over m l from p now (Some c) is a b last le some =
    over m.states l m.start (MayBegin m.bounds l) (MayEnd m.bounds l) from p now c (length l + 1) b a is.accept last
    (omega arith)

module _ (m : Nfa) (trees : List Pattern) (l : List ℕ) (a : Agrees m trees) where
  hit_runs : (i j : ℕ) → Hit trees m.bounds l i j
      → RunsFrom m.states l m.start (MayBegin m.bounds l) (MayEnd m.bounds l) i j
  hit_runs i j h = (h.begins, h.ends, (a.complete l i j h.matched).1)

  run_hits : (i j : ℕ) → i ≤ j → j ≤ length l → (i < j) ⊎ IsTrue m.some
      → RunsFrom m.states l m.start (MayBegin m.bounds l) (MayEnd m.bounds l) i j → Hit trees m.bounds l i j
  run_hits i j le within why r = record {
    ordered = le;
    within = within;
    begins = r.0;
    ends = r.1;
    matched = a.sound l r.2.0 i j r.2.1 why;
  }

  pub next_from_best : (from : ℕ) (best : Option (ℕ × ℕ))
      → IsBest m.states l m.start (MayBegin m.bounds l) (MayEnd m.bounds l) from (length l + 1) best
      → MatchOption best (HasNoNext trees m.bounds l from) (λ b. IsNext trees m.bounds l from b.0 b.1)
  next_from_best from None none = λ i j ge lt h. none i j ge lt (let w = h.within in omega arith) (hit_runs i j h)
  next_from_best from (Some b) best = record {
    later = best.0;
    some = best.1;
    hit = let lt = best.1 in let e = best.2 in run_hits b.0 b.1 (omega arith) (omega arith) (inl lt) best.3;
    first = λ i j ge less lt h.
        let w = h.within in
        let c = best.4 i j ge lt (omega arith) (hit_runs i j h) in
        omega (arith, c.0);
    longest = λ j h.
        let w = h.within in
        let ge = best.0 in
        let some = best.1 in
        elim (cases_lt b.0 j) [
          | inl lt ↦ (best.4 b.0 j ge lt (omega arith) (hit_runs b.0 j h)).1 refl
          | inr empty ↦ omega arith
        ];
  }
