-- From one set of states to the next, whatever the line.
use Rattle.std.proofs.Common.{◌≡◌, ℕ, suc, ◌+◌, ◌<◌, ◌≤◌, ◌⊎◌, inl, inr, List, length, Option, Some, None, Bool, true}
use Rattle.std.proofs.Common.{false, true≢false, refl, sym, ap, ◌∙◌, subst, arith, IsTrue}
use Rattle.std.specs.Prelude.{slice_get}
use Rattle.std.proofs.lemmas.Bool.{cases_eq, cases_lt}
use Rattle.pg_bytes.specs.ByteSets.{bytes}
use Rattle.pg_bytes.specs.declared.byte_set.ByteSet.{ByteSet}
use Rattle.pg_match.specs.Automata.{Nfa, Edge}
use Rattle.pg_match.specs.StateSets.{Members, mark, listed, IsGood, IsEmpty, Inserted, Counted}
use Rattle.pg_match.specs.Steps.{Still, Reads, LeadsStill, Has, HasStill, Spread, Closed, Moved, Goes, Starts}
use Rattle.pg_match.specs.Steps.{ReadsNone, begins_after}
use Rattle.pg_match.specs.declared.state.State.{State}
use Rattle.pg_match.specs.declared.state.State.TheVariants.{Fail, Accept, Jump, Read, AtBegin, AtEnd, Split}
use Rattle.std.specs.Prelude.{slice_index}

-- the same in the middle of it: the states from place k of the list on are still to be followed
pub record Closing (t : List State) (first last : Bool) (old new : Members) (k : ℕ) : Type 0 where
  pub good : IsGood new
  pub size : length new.marks ≡ length old.marks
  pub kept : (r : ℕ) → Has old r → Has new r
  pub fresh : (r : ℕ) → Has new r → (q : ℕ) × Has old q × LeadsStill t first last q r
  pub upto : k ≤ new.len
  pub done : (q : ℕ) → Has new q
      → HasStill t first last (Has new) q ⊎ ((j : ℕ) × (k ≤ j) × (j < new.len) × (listed new j ≡ q))
  pub longer : old.len ≤ new.len
  pub counted : Counted old new

-- the same of the first k states, of which some reads the byte if that is told
pub record EndsSoFar (t : List State) (states : List ℕ) (b k : ℕ) (some : Bool) : Type 0 where
  pub found : IsTrue some → (j : ℕ) × (j < k) × Reads (slice_get t (slice_index states j)) b 0
  pub all : (j r : ℕ) → j < k → Reads (slice_get t (slice_index states j)) b r → r ≡ 0

-- an edge that reads nothing is one at such a place
pub still_edge : (f e : Bool) (o : Option State) (l : List ℕ) (i r : ℕ) → (IsTrue f → i ≡ 0) → (IsTrue e → i ≡ length l)
    → Still f e o r → Edge o l i r i
still_edge f e None l i r a b h = absurd h
still_edge f e (Some Fail) l i r a b h = absurd h
still_edge f e (Some Accept) l i r a b h = absurd h
still_edge f e (Some (Jump x)) l i r a b h = (h, refl)
still_edge f e (Some (Read s x)) l i r a b h = absurd h
still_edge f e (Some (AtBegin x)) l i r a b h = (a h.0, h.1, refl)
still_edge f e (Some (AtEnd x)) l i r a b h = (b h.0, h.1, refl)
still_edge f e (Some (Split x y)) l i r a b h = (h, refl)

pub edge_still : (f e : Bool) (o : Option State) (l : List ℕ) (i r : ℕ) → (i ≡ 0 → IsTrue f) → (i ≡ length l → IsTrue e)
    → Edge o l i r i → Still f e o r
edge_still f e None l i r a b h = absurd h
edge_still f e (Some Fail) l i r a b h = absurd h
edge_still f e (Some Accept) l i r a b h = absurd h
edge_still f e (Some (Jump x)) l i r a b h = h.0
edge_still f e (Some (Read s x)) l i r a b h = absurd (omega (arith, h.4))
edge_still f e (Some (AtBegin x)) l i r a b h = (a h.0, h.1)
edge_still f e (Some (AtEnd x)) l i r a b h = (b h.0, h.1)
edge_still f e (Some (Split x y)) l i r a b h = h.0

module _ (t : List State) (f e : Bool) where
  leads_self : (x : ℕ) → LeadsStill t f e x x
  leads_self x = λ l i a b n j run. (n, run)

  leads_edge : (x q r : ℕ) → LeadsStill t f e x q → Still f e (slice_get t q) r → LeadsStill t f e x r
  leads_edge x q r lead edge = λ l i a b n j run. lead l i a b (suc n) j
      (r, i, still_edge f e (slice_get t q) l i r a b edge, run)

  pub spread_none : (s : Members) (q : ℕ) → IsGood s → ((r : ℕ) → Still f e (slice_get t q) r → ⊥) → Spread t f e s s q
  spread_none s q good none = record {
    good = good;
    size = refl;
    kept = λ r h. h;
    fresh = λ r z h. absurd (omega arith);
    all = λ r h. absurd (none r h);
    list = λ k h. refl;
    longer = omega arith;
    counted = refl;
  }

  pub spread_one : (s u : Members) (q y : ℕ) → Inserted s u y 1 → Counted s u → Still f e (slice_get t q) y
      → ((r : ℕ) → Still f e (slice_get t q) r → r ≡ y) → Spread t f e s u q
  spread_one s u q y ins counted edge only = record {
    good = ins.good;
    size = ins.size;
    kept = λ r h. let a = ins.kept r h in omega arith;
    fresh = λ r z h. let g = ins.fresh r z h in
        (subst (λ v. Still f e (slice_get t q) v) (sym g.0) edge, (s.len, omega arith, omega (arith, g.3), g.2));
    all = λ r h. subst (λ v. 0 < mark u v) (sym (only r h)) ins.here;
    list = ins.list;
    longer = ins.longer;
    counted = counted;
  }

  pub spread_two : (s u v : Members) (q y z : ℕ) → Inserted s u y 1 → Inserted u v z 1 → Counted s u → Counted u v
      → Still f e (slice_get t q) y
      → Still f e (slice_get t q) z
      → ((r : ℕ) → Still f e (slice_get t q) r → (r ≡ y) ⊎ (r ≡ z)) → Spread t f e s v q
  spread_two s u v q y z one two counted more to_y to_z only = record {
    good = two.good;
    size = two.size ∙ one.size;
    kept = λ r h. let a = one.kept r h in let b = two.kept r (omega arith) in omega arith;
    fresh = λ r none h. elim (cases_lt 0 (mark u r)) [
      | inl some ↦
          let g = one.fresh r none some in
          let n = two.longer in (
            subst (λ w. Still f e (slice_get t q) w) (sym g.0) to_y,
            (s.len, omega arith, omega (arith, g.3), two.list s.len (omega (arith, g.3)) ∙ g.2),
          )
      | inr absent ↦
          let g = two.fresh r (omega arith) h in
          let n = one.longer in
          (subst (λ w. Still f e (slice_get t q) w) (sym g.0) to_z, (u.len, omega arith, omega (arith, g.3), g.2))
    ];
    all = λ r h. elim (only r h) [
      | inl same ↦ let a = two.kept y one.here in let b = one.here in rw same (omega arith)
      | inr same ↦ subst (λ w. 0 < mark v w) (sym same) two.here
    ];
    list = λ k h. let n = one.longer in two.list k (omega arith) ∙ one.list k h;
    longer = let a = one.longer in let b = two.longer in omega arith;
    counted = omega arith;
  }

  abbrev On : Option State → ℕ → Type 0
  On o r = Still f e o r

  pub jump_spread : (s u : Members) (q y : ℕ) → slice_get t q ≡ Some (Jump y) → Inserted s u y 1 → Counted s u
      → Spread t f e s u q
  jump_spread s u q y is ins counted = spread_one s u q y ins counted (subst (λ o. On o y) (sym is) refl)
      (λ r h. subst (λ o. On o r) is h)

  pub begin_spread : (s u : Members) (q y : ℕ) → slice_get t q ≡ Some (AtBegin y) → IsTrue f → Inserted s u y 1
      → Counted s u → Spread t f e s u q
  begin_spread s u q y is first ins counted =
      spread_one s u q y ins counted (subst (λ o. On o y) (sym is) (first, refl))
      (λ r h. (subst (λ o. On o r) is h).1)

  pub end_spread : (s u : Members) (q y : ℕ) → slice_get t q ≡ Some (AtEnd y) → IsTrue e → Inserted s u y 1
      → Counted s u → Spread t f e s u q
  end_spread s u q y is last ins counted = spread_one s u q y ins counted (subst (λ o. On o y) (sym is) (last, refl))
      (λ r h. (subst (λ o. On o r) is h).1)

  pub split_spread : (s u v : Members) (q y z : ℕ) → slice_get t q ≡ Some (Split y z) → Inserted s u y 1
      → Inserted u v z 1 → Counted s u → Counted u v → Spread t f e s v q
  split_spread s u v q y z is one two counted more =
      spread_two s u v q y z one two counted more (subst (λ o. On o y) (sym is) (inl refl))
      (subst (λ o. On o z) (sym is) (inr refl))
      (λ r h. subst (λ o. On o r) is h)

  pub none_spread : (s : Members) (q : ℕ) (st : State) → slice_get t q ≡ Some st → ((r : ℕ) → On (Some st) r → ⊥)
      → IsGood s → Spread t f e s s q
  none_spread s q st is none good = spread_none s q good (λ r h. none r (subst (λ o. On o r) is h))

  pub closing_first : (s : Members) → IsGood s → Closing t f e s s 0
  closing_first s good = record {
    good = good;
    size = refl;
    kept = λ r h. h;
    fresh = λ r h. (r, h, leads_self r);
    upto = omega arith;
    done = λ q h. let g = good.found q h in inr (g.0, omega arith, g.1, g.2);
    longer = omega arith;
    counted = refl;
  }

  pub closing_next : (s u v : Members) (k : ℕ) → Closing t f e s u k → k < u.len → Spread t f e u v (listed u k)
      → Closing t f e s v (k + 1)
  closing_next s u v k c lt g = record {
    good = g.good;
    size = g.size ∙ c.size;
    kept = λ r h. g.kept r (c.kept r h);
    fresh = λ r h. elim (cases_lt 0 (mark u r)) [
      | inl old ↦ c.fresh r old
      | inr none ↦
          let a = g.fresh r (omega arith) h in
          let b = c.fresh (listed u k) (c.good.is_in k lt) in
          (b.0, b.1, leads_edge b.0 (listed u k) r b.2 a.0)
    ];
    upto = let a = g.longer in omega arith;
    done = λ q h. elim (cases_lt 0 (mark u q)) [
      | inl old ↦ elim (c.done q old) [
        | inl all ↦ inl (λ r edge. g.kept r (all r edge))
        | inr later ↦ elim (cases_eq later.0 k) [
          | inl same ↦
              let eq : listed u k ≡ q = ap (listed u) (sym same) ∙ later.3 in
              inl (subst (HasStill t f e (Has v)) eq (λ r edge. g.all r edge))
          | inr other ↦ let a = g.longer in inr
              (later.0, omega (arith, later.1), omega (arith, later.2), g.list later.0 later.2 ∙ later.3)
        ]
      ]
      | inr none ↦ let a = g.fresh q (omega arith) h in let w = a.1 in inr (w.0, let b = w.1 in omega arith, w.2, w.3)
    ];
    longer = let a = c.longer in let b = g.longer in omega arith;
    counted = omega (arith, c.counted, g.counted);
  }

  pub all_closed : (s u : Members) (k : ℕ) → Closing t f e s u k → u.len ≤ k → Closed t f e s u
  all_closed s u k c over = record {
    good = c.good;
    size = c.size;
    kept = c.kept;
    fresh = c.fresh;
    still = λ q h. elim (c.done q h) [ inl all ↦ all | inr later ↦ absurd (omega (arith, later.1, later.2)) ];
    longer = c.longer;
    counted = c.counted;
  }

pub reads_none : (o : Option State) (b r : ℕ) → ((s : ByteSet) (x : ℕ) → o ≡ Some (Read s x) → ⊥) → Reads o b r → ⊥
reads_none None b r not_so h = h
reads_none (Some Fail) b r not_so h = h
reads_none (Some Accept) b r not_so h = h
reads_none (Some (Jump x)) b r not_so h = h
reads_none (Some (Read s x)) b r not_so h = not_so s x refl
reads_none (Some (AtBegin x)) b r not_so h = h
reads_none (Some (AtEnd x)) b r not_so h = h
reads_none (Some (Split x y)) b r not_so h = h

module _ (t : List State) (b : ℕ) (now : Members) where
  pub moved_first : (next : Members) → IsGood next → IsEmpty next → length next.marks ≡ length now.marks
      → Moved t b now next 0
  moved_first next good empty size = record {
    good = good;
    size = size;
    comes = λ r h. let z = empty.1 r in absurd (omega arith);
    goes = λ j r lt. absurd (omega arith);
  }

  pub moved_over : (next : Members) (k : ℕ) → Moved t b now next k
      → ((r : ℕ) → Reads (slice_get t (listed now k)) b r → ⊥) → Moved t b now next (k + 1)
  moved_over next k a none = record {
    good = a.good;
    size = a.size;
    comes = a.comes;
    goes = λ j r lt in_list h. elim (cases_eq j k) [
      | inl same ↦ absurd (none r (subst (λ v. Reads (slice_get t (listed now v)) b r) same h))
      | inr other ↦ a.goes j r (omega arith) in_list h
    ];
  }

  pub moved_next : (next after : Members) (k : ℕ) (s : ByteSet) (x : ℕ) → Moved t b now next k → k < now.len
      → IsGood now
      → slice_get t (listed now k) ≡ Some (Read s x) → bytes s b ≡ true → Inserted next after x 1
      → Moved t b now after (k + 1)
  moved_next next after k s x a lt good is is_so ins =
      let to_x : Reads (slice_get t (listed now k)) b x = subst (λ o. Reads o b x) (sym is) (is_so, refl) in
      record {
        good = ins.good;
        size = ins.size ∙ a.size;
        comes = λ r h. elim (cases_lt 0 (mark next r)) [
          | inl old ↦ a.comes r old
          | inr none ↦
              let g = ins.fresh r (omega arith) h in
              (listed now k, good.is_in k lt, subst (λ v. Reads (slice_get t (listed now k)) b v) (sym g.0) to_x)
        ];
        goes = λ j r less in_list h. elim (cases_eq j k) [
          | inl same ↦
              let e : r ≡ x = (subst (λ o. Reads o b r) is
              (subst (λ v. Reads (slice_get t (listed now v)) b r) same h)).1 in
              subst (λ v. 0 < mark after v) (sym e) ins.here
          | inr other ↦ let w = a.goes j r (omega arith) in_list h in let m = ins.kept r w in omega arith
        ];
      }

  pub moved_none : (k : ℕ) (st : State) → slice_get t (listed now k) ≡ Some st
      → ((s : ByteSet) (x : ℕ) → st ≡ Read s x → ⊥)
      → (r : ℕ) → Reads (slice_get t (listed now k)) b r → ⊥
  moved_none k st is not_so r h = reads_none (slice_get t (listed now k)) b r (λ s x e. not_so s x (cc)) h

  pub moved_refused : (k : ℕ) (s : ByteSet) (x : ℕ) → slice_get t (listed now k) ≡ Some (Read s x) → bytes s b ≡ false
      → (r : ℕ) → Reads (slice_get t (listed now k)) b r → ⊥
  moved_refused k s x is not_so r h = true≢false (sym (subst (λ o. Reads o b r) is h).0 ∙ not_so)

-- the step whole
module _ (m : Nfa) (b : ℕ) (now : Members) (good : IsGood now) where
  gone : (next seeded after : Members) → Moved m.states b now next now.len
      → ((r : ℕ) → Has next r → Has seeded r)
      → ((r : ℕ) → Has seeded r → Has next r ⊎ (IsTrue (begins_after m.bounds b) × (r ≡ m.start)))
      → (IsTrue (begins_after m.bounds b) → Has seeded m.start)
      → Closed m.states false false seeded after → Goes m b (Has now) (Has after)
  gone next seeded after a kept split here c = record {
    comes = λ r h. let w = c.fresh r h in
        elim (split w.0 w.1) [
          | inl moved ↦ let g = a.comes w.0 moved in inl (g.0, w.0, g.1, g.2, w.2)
          | inr start ↦ inr (start.0, subst (λ q. LeadsStill m.states false false q r) start.1 w.2)
        ];
    goes = λ q r h read. let f = good.found q h in
        c.kept r (kept r (a.goes f.0 r f.1 f.1 (subst (λ v. Reads (slice_get m.states v) b r) (sym f.2) read)));
    seeded = λ is_so. c.kept m.start (here is_so);
    still = c.still;
  }

  pub gone_seeded : (next seeded after : Members) → Moved m.states b now next now.len → begins_after m.bounds b ≡ true
      → Inserted next seeded m.start 1 → Closed m.states false false seeded after → Goes m b (Has now) (Has after)
  gone_seeded next seeded after a is_so ins c =
      gone next seeded after a (λ r h. let k = ins.kept r h in omega arith)
      (λ r h. elim (cases_lt 0 (mark next r))
      [ inl old ↦ inl old | inr none ↦ let f = ins.fresh r (omega arith) h in inr (is_so, f.0) ])
      (λ z. ins.here) c

  pub gone_plain : (next after : Members) → Moved m.states b now next now.len → begins_after m.bounds b ≡ false
      → Closed m.states false false next after → Goes m b (Has now) (Has after)
  gone_plain next after a not_so c = gone next next after a (λ r h. h) (λ r h. inl h)
      (λ is_so. absurd (true≢false (sym is_so ∙ not_so))) c

pub moved_at_none : (m : Nfa) (b : ℕ) (now next : Members) → IsGood now → Moved m.states b now next now.len
    → next.len ≡ 0 → ReadsNone m b (Has now)
moved_at_none m b now next good a none q r h read =
    let f = good.found q h in
    let there = a.goes f.0 r f.1 f.1 (subst (λ v. Reads (slice_get m.states v) b r) (sym f.2) read) in
    let k = a.good.found r there in
    absurd (omega (arith, k.1))

-- the set of a start
pub started : (m : Nfa) (first : Bool) (none seeded after : Members) → IsEmpty none → Inserted none seeded m.start 1
    → Closed m.states first false seeded after → Starts m first (Has after)
started m first none seeded after empty ins c = record {
  comes = λ r h.
      let w = c.fresh r h in
      let z = empty.1 w.0 in
      let f = ins.fresh w.0 z w.1 in
      subst (λ q. LeadsStill m.states first false q r) f.0 w.2;
  seeded = c.kept m.start ins.here;
  still = c.still;
}
