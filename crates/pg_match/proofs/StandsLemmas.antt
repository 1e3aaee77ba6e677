-- From one place of a line to the next, by sets of states.
use Rattle.std.proofs.Common.{◌≡◌, ℕ, zero, suc, ◌+◌, ◌-◌, ◌<◌, ◌≤◌, ◌↔◌, inl, inr, List, length, Option, Some, None}
use Rattle.std.proofs.Common.{Bool, true, false, true≢false, not, eqb, ne_eqb, refl, sym, ap, ◌∙◌, subst, arith, IsTrue}
use Rattle.std.specs.Prelude.{slice_get, slice_index}
use Rattle.std.proofs.lemmas.Bool.{cases_eq, cases_lt}
use Rattle.std.proofs.lemmas.Option.{get_or_from_slice_get}
use Rattle.pg_bytes.specs.ByteSets.{bytes}
use Rattle.pg_match.specs.Automata.{Nfa, Edge, Runs, IsRunnable}
use Rattle.pg_pattern.specs.Bounds.{MayBegin, MayEnd, is_word_byte}
use Rattle.pg_match.specs.Closures.{Leads}
use Rattle.pg_pattern.specs.Hits.{HasHit}
use Rattle.pg_match.specs.Machines.{Agrees}
use Rattle.pg_match.specs.Searches.{RunsFrom}
use Rattle.pg_match.specs.StateSets.{Members, mark}
use Rattle.pg_match.specs.Steps.{Reads, Has, Closed, Goes, Starts, HitBefore, HitAtEnd, NoHitAtEnd, AnswersEnd}
use Rattle.pg_match.specs.Steps.{begins_after, ends_before, Still, IsStill, IsQuiet, IsSpent}
use Rattle.pg_match.specs.Dfas.{IsHopeless}
use Rattle.pg_match.specs.Stands.{Stands, HasRun}
use Rattle.pg_match.proofs.SearchLemmas.{edge_moves, runs_forward}
use Rattle.pg_match.proofs.StepLemmas.{edge_still}
use Rattle.pg_pattern.specs.declared.bounds.Bounds.{Bounds}
use Rattle.pg_pattern.specs.declared.bounds.Bounds.TheVariants.{Any, Word, Whole}
use Rattle.pg_match.specs.declared.state.State.{State}
use Rattle.pg_match.specs.declared.state.State.TheVariants.{Fail, Accept, Jump, Read, AtBegin, AtEnd, Split}
use Rattle.pg_pattern.specs.Patterns.{Pattern}

pub reads_edge : (o : Option State) (l : List ℕ) (p b r : ℕ) → slice_get l p ≡ Some b → Reads o b r
    → Edge o l p r (p + 1)
reads_edge None l p b r is h = absurd h
reads_edge (Some Fail) l p b r is h = absurd h
reads_edge (Some Accept) l p b r is h = absurd h
reads_edge (Some (Jump x)) l p b r is h = absurd h
reads_edge (Some (Read s x)) l p b r is h = (b, is, h.0, h.1, refl)
reads_edge (Some (AtBegin x)) l p b r is h = absurd h
reads_edge (Some (AtEnd x)) l p b r is h = absurd h
reads_edge (Some (Split x y)) l p b r is h = absurd h

pub edge_reads : (o : Option State) (l : List ℕ) (p b r : ℕ) → slice_get l p ≡ Some b → Edge o l p r (p + 1)
    → Reads o b r
edge_reads None l p b r is h = absurd h
edge_reads (Some Fail) l p b r is h = absurd h
edge_reads (Some Accept) l p b r is h = absurd h
edge_reads (Some (Jump x)) l p b r is h = absurd (omega (arith, h.1))
edge_reads (Some (Read s x)) l p b r is h = let e : h.0 ≡ b = cc in (subst (λ v. bytes s v ≡ true) e h.2, h.3)
edge_reads (Some (AtBegin x)) l p b r is h = absurd (omega (arith, h.2))
edge_reads (Some (AtEnd x)) l p b r is h = absurd (omega (arith, h.2))
edge_reads (Some (Split x y)) l p b r is h = absurd (omega (arith, h.1))

-- what the byte before a place says of it
byte_at : (l : List ℕ) (p b : ℕ) → slice_get l p ≡ Some b → slice_index l p ≡ b
byte_at l p b is = get_or_from_slice_get l p b 0 is

back : (p : ℕ) → p + 1 - 1 ≡ p
back p = omega arith

pub begins : (o : Bounds) (l : List ℕ) (p b : ℕ) → slice_get l p ≡ Some b → IsTrue (begins_after o b)
    → MayBegin o l (p + 1)
begins Any l p b is h = tt
begins Word l p b is h = inr (ap (λ v. is_word_byte (slice_index l v)) (back p)
    ∙ not_word (is_word_byte (slice_index l p)) (ap (λ v. not (is_word_byte v)) (byte_at l p b is) ∙ h))
  where
    not_word : (w : Bool) → not w ≡ true → w ≡ false
    not_word true e = sym e
    not_word false e = refl
begins Whole l p b is h = absurd (true≢false (sym h))

pub begun : (o : Bounds) (l : List ℕ) (p b : ℕ) → slice_get l p ≡ Some b → MayBegin o l (p + 1)
    → IsTrue (begins_after o b)
begun Any l p b is h = refl
begun Word l p b is (inl h) = absurd (omega arith)
begun Word l p b is (inr h) =
    ap (λ v. not (is_word_byte v)) (sym (byte_at l p b is))
    ∙ ap not (ap (λ v. is_word_byte (slice_index l v)) (sym (back p)) ∙ h)
begun Whole l p b is h = absurd (omega arith)

pub may_end : (o : Bounds) (l : List ℕ) (p b : ℕ) → slice_get l p ≡ Some b → IsTrue (ends_before o b) → MayEnd o l p
may_end Any l p b is h = tt
may_end Word l p b is h = inr (not_word (is_word_byte (slice_index l p))
    (ap (λ v. not (is_word_byte v)) (byte_at l p b is) ∙ h))
  where
    not_word : (w : Bool) → not w ≡ true → w ≡ false
    not_word true e = sym e
    not_word false e = refl
may_end Whole l p b is h = absurd (true≢false (sym h))

ended : (o : Bounds) (l : List ℕ) (p b : ℕ) → slice_get l p ≡ Some b → p < length l → MayEnd o l p
    → IsTrue (ends_before o b)
ended Any l p b is lt h = refl
ended Word l p b is lt (inl h) = absurd (omega arith)
ended Word l p b is lt (inr h) = ap (λ v. not (is_word_byte v)) (sym (byte_at l p b is)) ∙ ap not h
ended Whole l p b is lt h = absurd (omega arith)

pub begins_first : (o : Bounds) (l : List ℕ) → MayBegin o l 0
begins_first Any l = tt
begins_first Word l = inl refl
begins_first Whole l = refl

ends_last : (o : Bounds) (l : List ℕ) (p : ℕ) → p ≡ length l → MayEnd o l p
ends_last Any l p e = tt
ends_last Word l p e = inl e
ends_last Whole l p e = e

pub ends_at_last : (o : Bounds) (l : List ℕ) → MayEnd o l (length l)
ends_at_last o l = ends_last o l (length l) refl

quiet_edge : (o : Option State) (l : List ℕ) (i r k : ℕ) → (i ≡ 0 → ⊥) → IsQuiet o → Edge o l i r k
    → Still false false o r × (k ≡ i)
quiet_edge None l i r k inside quiet e = absurd e
quiet_edge (Some Fail) l i r k inside quiet e = absurd e
quiet_edge (Some Accept) l i r k inside quiet e = absurd quiet
quiet_edge (Some (Jump x)) l i r k inside quiet e = (e.0, e.1)
quiet_edge (Some (Read s x)) l i r k inside quiet e = absurd quiet
quiet_edge (Some (AtBegin x)) l i r k inside quiet e = absurd (inside e.0)
quiet_edge (Some (AtEnd x)) l i r k inside quiet e = absurd quiet
quiet_edge (Some (Split x y)) l i r k inside quiet e = (e.0, e.1)

-- no run leads from a state of a set that is spent
quiet_run : (m : Nfa) (l : List ℕ) (U : ℕ → Type 0) → IsStill m.states false false U
    → ((q : ℕ) → U q → IsQuiet (slice_get m.states q)) → (n q i j : ℕ) → (i ≡ 0 → ⊥) → U q → Runs m.states l n q i j → ⊥
quiet_run m l U still quiet zero q i j inside here run = subst IsQuiet run.0 (quiet q here)
quiet_run m l U still quiet (suc n) q i j inside here run =
    let e = quiet_edge (slice_get m.states q) l i run.0 run.1 inside (quiet q here) run.2 in
    quiet_run m l U still quiet n run.0 i j inside (still q here run.0 e.0)
    (subst (λ k. Runs m.states l n run.0 k j) e.1 run.3)

begins_whole : (o : Bounds) (l : List ℕ) (i : ℕ) → o ≡ Whole → MayBegin o l i → i ≡ 0
begins_whole o l i is h = subst (λ o. MayBegin o l i) is h

-- A run from a state of the set S at a byte goes on behind the byte from one of the set U: S is closed before the byte,
-- and has the byte lead to U.
pub crossing : (t : List State) (l : List ℕ) (p b : ℕ) (S U : ℕ → Type 0) → slice_get l p ≡ Some b
    → ((q r : ℕ) → S q → Edge (slice_get t q) l p r p → S r) → ((q r : ℕ) → S q → Reads (slice_get t q) b r → U r)
    → (k q j : ℕ) → S q → Runs t l k q p j → p + 1 ≤ j → (r : ℕ) × (n : ℕ) × U r × Runs t l n r (p + 1) j
crossing t l p b S U is closed goes zero q j h run past = absurd (omega (arith, run.1))
crossing t l p b S U is closed goes (suc k) q j h run past =
    elim (edge_moves (slice_get t q) l p run.0 run.1 run.2) [
      | inl stays ↦
          crossing t l p b S U is closed goes k run.0 j (closed q run.0 h
          (subst (λ v. Edge (slice_get t q) l p run.0 v) stays run.2))
          (subst (λ v. Runs t l k run.0 v j) stays run.3) past
      | inr moves ↦ (
        run.0,
        k,
        goes q run.0 h (edge_reads (slice_get t q) l p b run.0 is
            (subst (λ v. Edge (slice_get t q) l p run.0 v) moves run.2)),
        subst (λ v. Runs t l k run.0 v j) moves run.3,
      )
    ]

module _ (m : Nfa) (l : List ℕ) where
  pub stands_first : (S : ℕ → Type 0) → Starts m true S → Stands m l 0 0 S
  stands_first S s = record {
    sound = λ q h. (
      0,
      omega arith,
      omega arith,
      begins_first m.bounds l,
      s.comes q h l 0 (λ f. refl) (λ e. absurd (true≢false (sym e))),
    );
    complete = λ v n j ge le b run past.
        let z : v ≡ 0 = omega arith in (m.start, n, s.seeded, subst (λ w. Runs m.states l n m.start w j) z run);
    closed = λ lt q r h edge.
        s.still q h r (edge_still true false (slice_get m.states q) l 0 r (λ z. refl) (λ e. absurd (omega arith)) edge);
    none = λ i j ge le lt. absurd (omega arith);
  }

  -- a match ends at p only if 0 is in a set that is closed there
  pub ends_here : (p : ℕ) (S : ℕ → Type 0) → ((q r : ℕ) → S q → Edge (slice_get m.states q) l p r p → S r)
      → IsRunnable m → (k q : ℕ) → S q → Runs m.states l k q p p → S 0
  ends_here p S closed is zero q h run = subst S (is.only q run.0) h
  ends_here p S closed is (suc k) q h run =
      elim (edge_moves (slice_get m.states q) l p run.0 run.1 run.2) [
        | inl stays ↦
            ends_here p S closed is k run.0
            (closed q run.0 h (subst (λ v. Edge (slice_get m.states q) l p run.0 v) stays run.2))
            (subst (λ v. Runs m.states l k run.0 v p) stays run.3)
        | inr moves ↦ let f = runs_forward m.states l k run.0 run.1 p run.3 in absurd (omega arith)
      ]

  -- a run ends at p
  run_at : (from p : ℕ) (S : ℕ → Type 0) (q : ℕ) → Stands m l from p S → IsRunnable m → S q → Leads m.states l q p 0 p
      → MayEnd m.bounds l p → p ≤ length l → HasRun m l from
  run_at from p S q s is h leads end within =
      let w = s.sound q h in
      let here = leads 0 p (is.accept, refl) in
      let r = w.4 here.0 p here.1 in
      (w.0, p, w.1, w.2, within, (w.3, end, r))

  pub run_before : (from p b : ℕ) (S : ℕ → Type 0) → Stands m l from p S → IsRunnable m → slice_get l p ≡ Some b
      → p < length l
      → HitBefore m b S → HasRun m l from
  run_before from p b S s is byte lt h =
      run_at from p S 0 s is h.0 (λ n j run. (n, run)) (may_end m.bounds l p b byte h.1) (omega arith)

  pub run_at_end : (first : Bool) (from : ℕ) (S : ℕ → Type 0) → Stands m l from (length l) S → IsRunnable m
      → (IsTrue first → length l ≡ 0)
      → HitAtEnd m first S → HasRun m l from
  run_at_end first from S s is empty h =
      run_at from (length l) S h.0 s is h.1 (h.2 l (length l) empty (λ e. refl)) (ends_at_last m.bounds l) (omega arith)

  pub no_run : (first : Bool) (from : ℕ) (S : ℕ → Type 0) → Stands m l from (length l) S → (length l ≡ 0 → IsTrue first)
      → NoHitAtEnd m first S → HasRun m l from → ⊥
  no_run first from S s empty missed h =
      elim (cases_lt h.1 (length l)) [
        | inl before ↦ s.none h.0 h.1 h.2 h.3 before h.5
        | inr here ↦
            let within = h.4 in
            let le = h.3 in
            let same : h.1 ≡ length l = omega arith in
            let run = subst (λ v. Runs m.states l h.5.2.0 m.start h.0 v) same h.5.2.1 in
            let c = s.complete h.0 h.5.2.0 (length l) h.2 (omega arith) h.5.0 run (omega arith) in
            missed l c.0 c.1 c.2 empty c.3
      ]

  module _ (from p b : ℕ) (S U : ℕ → Type 0) (is : slice_get l p ≡ Some b) (lt : p < length l) (s : Stands m l from p S)
      (g : Goes m b S U) where
    crosses : (k q j : ℕ) → S q → Runs m.states l k q p j → p + 1 ≤ j → (r : ℕ) × (n : ℕ) × U r
        × Runs m.states l n r (p + 1) j
    crosses = crossing m.states l p b S U is (s.closed lt) g.goes

    -- where a byte leads to a set that is spent, no match ends before the byte or behind it
    pub no_run_behind : IsRunnable m → (HitBefore m b S → ⊥) → IsSpent m U → HasRun m l from → ⊥
    no_run_behind is_m missed spent (i, j, ge, le, within, run) = elim (cases_lt j p) [
      | inl before ↦ s.none i j ge le before run
      | inr past ↦ elim (cases_lt p i) [
        | inl new ↦
            let inside : (i ≡ 0 → ⊥) = (λ e. absurd (omega (arith, e, new))) in
            elim spent.later [
              | inl here ↦ quiet_run m l U g.still spent.quiet run.2.0 m.start i j inside here run.2.1
              | inr whole ↦ inside (begins_whole m.bounds l i whole run.0)
            ]
        | inr old ↦
            let c = s.complete i run.2.0 j ge old run.0 run.2.1 past in
            elim (cases_lt p j) [
              | inl further ↦
                  let x = crosses c.1 c.0 j c.2 c.3 (omega (arith, further)) in
                  quiet_run m l U g.still spent.quiet x.1 x.0 (p + 1) j (λ e. absurd (omega (arith, e))) x.2 x.3
              | inr near ↦
                  let same : j ≡ p = omega (arith, near, past) in
                  let there = subst (λ v. Runs m.states l c.1 c.0 p v) same c.3 in
                  let end = subst (MayEnd m.bounds l) same run.1 in
                  missed (ends_here p S (s.closed lt) is_m c.1 c.0 c.2 there, ended m.bounds l p b is lt end)
            ]
      ]
    ]

    pub stands_next : from ≤ p + 1 → IsRunnable m → (HitBefore m b S → ⊥) → Stands m l from (p + 1) U
    stands_next begun_here is_m missed = record {
      sound = λ r h. elim (g.comes r h) [
        | inl w ↦
            let a = s.sound w.0 w.2 in (
              a.0,
              a.1,
              omega (arith, a.2),
              a.3,
              λ n j run.
                  let to_y = w.4 l (p + 1) (λ f. absurd (true≢false (sym f)))
                  (λ f. absurd (true≢false (sym f))) n j run in
                  a.4 (suc to_y.0) j (w.1, p + 1, reads_edge (slice_get m.states w.0) l p b w.1 is w.3, to_y.1),
            )
        | inr w ↦ (
          p + 1,
          begun_here,
          omega arith,
          begins m.bounds l p b is w.0,
          w.1 l (p + 1) (λ f. absurd (true≢false (sym f))) (λ f. absurd (true≢false (sym f))),
        )
      ];
      complete = λ v n j ge le o run past. elim (cases_lt p v) [
        | inl new ↦
            let z : v ≡ p + 1 = omega arith in (
              m.start,
              n,
              g.seeded (begun m.bounds l p b is (subst (MayBegin m.bounds l) z o)),
              subst (λ w. Runs m.states l n m.start w j) z run,
            )
        | inr old ↦ let c = s.complete v n j ge (omega arith) o run (omega arith) in crosses c.1 c.0 j c.2 c.3 past
      ];
      closed = λ more q r h edge.
          g.still q h r (edge_still false false (slice_get m.states q) l (p + 1) r (λ z. absurd (omega arith))
          (λ z. absurd (omega arith)) edge);
      none = λ i j ge le less run. elim (cases_eq j p) [
        | inl same ↦
            let here = subst (RunsFrom m.states l m.start (MayBegin m.bounds l) (MayEnd m.bounds l) i) same run in
            let c = s.complete i here.2.0 p ge (omega arith) here.0 here.2.1 (omega arith) in
            missed (ends_here p S (s.closed lt) is_m c.1 c.0 c.2 c.3, ended m.bounds l p b is lt here.1)
        | inr other ↦ s.none i j ge le (omega arith) run
      ];
    }

-- what closing the set at a line's end says
pub answer_yes : (m : Nfa) (first : Bool) (s u : Members) → Closed m.states first true s u → Has u 0
    → HitAtEnd m first (Has s)
answer_yes m first s u c h = c.fresh 0 h

pub answer_no : (m : Nfa) (first : Bool) (s u : Members) → IsRunnable m → Closed m.states first true s u → (Has u 0 → ⊥)
    → NoHitAtEnd m first (Has s)
answer_no m first s u is c none l q n h empty run =
    none (ends_here m l (length l) (Has u)
    (λ p r at edge. c.still p at r (edge_still first true (slice_get m.states p) l (length l) r empty
    (λ e. refl) edge)) is n q (c.kept q h) run)

pub answered_end : (m : Nfa) (first : Bool) (s u : Members) → IsRunnable m → Closed m.states first true s u
    → (mark_0 : ℕ) → mark_0 ≡ mark u 0
    → AnswersEnd m first (Has s) (not (eqb mark_0 0))
answered_end m first s u is c zero e = answer_no m first s u is c (λ h. omega arith)
answered_end m first s u is c (suc k) e =
    subst (λ v. AnswersEnd m first (Has s) (not v)) (sym (ne_eqb (suc k) 0 (omega arith)))
    (answer_yes m first s u c (omega arith))

-- runs are matches
pub exact_so : (m : Nfa) (patterns : List Pattern) (l : List ℕ) (answer : Bool) → Agrees m patterns → IsTrue m.some
    → (IsTrue answer ↔ HasRun m l 0) → (IsTrue answer ↔ HasHit patterns m.bounds l)
exact_so m patterns l answer a some exact = (
  λ t. let h = exact.0 t in (
    h.0,
    h.1,
    record {
      ordered = h.3;
      within = h.4;
      begins = h.5.0;
      ends = h.5.1;
      matched = a.sound l h.5.2.0 h.0 h.1 h.5.2.1 (inr some);
    },
  ),
  λ h. exact.1 (
    h.0,
    h.1,
    omega arith,
    h.2.ordered,
    h.2.within,
    (h.2.begins, h.2.ends, (a.complete l h.0 h.1 h.2.matched).1),
  ),
)

pub none_so : (m : Nfa) (patterns : List Pattern) (l : List ℕ) → Agrees m patterns → m.some ≡ false
    → (IsTrue false ↔ HasHit patterns m.bounds l)
none_so m patterns l a none =
    (λ t. absurd (true≢false (sym t)), λ h. absurd (true≢false (sym (a.complete l h.0 h.1 h.2.matched).0 ∙ none)))

pub hopeless : (m : Nfa) (b : ℕ) (S U : ℕ → Type 0) → IsRunnable m → (HitBefore m b S → ⊥) → Goes m b S U → IsSpent m U
    → IsHopeless m b S
hopeless m b S U is missed goes spent = λ l from p lt s byte run.
    no_run_behind m l from p b S U byte lt s goes is missed spent run
