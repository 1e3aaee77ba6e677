-- The states of one position.
use Rattle.std.proofs.Common.{◌≡◌, ◌≢◌, ℕ, zero, suc, ◌+◌, ◌<◌, ◌≤◌, ◌⊎◌, inl, inr, List, length, take, get_or}
use Rattle.std.proofs.Common.{Option, Some, None, true, false, true≢false, refl, sym, ap, ◌∙◌, subst, arith}
use Rattle.std.specs.Prelude.{slice_get, slice_index}
use Rattle.std.proofs.lemmas.Bool.{cases_eq, cases_lt}
use Rattle.std.proofs.lemmas.List.{get_or-take, length-take-le}
use Rattle.std.proofs.lemmas.Option.{slice_get-get_or}
use Rattle.pg_match.proofs.StateSetLemmas.{listed_in, list_long, few}
use Rattle.pg_match.specs.Automata.{Edge}
use Rattle.pg_bytes.specs.ByteSets.{bytes}
use Rattle.pg_bytes.specs.declared.byte_set.ByteSet.{ByteSet}
use Rattle.pg_match.specs.StateSets.{Members, mark, listed, IsGood, IsEmpty, Inserted, Counted}
use Rattle.pg_match.specs.Closures.{Leads, ClosedAt, IsClosed, IsOrdered, AllBelow, EdgePath, AreSeeds, Followed}
use Rattle.pg_match.specs.Closures.{Reached, Stepped}
use Rattle.pg_match.specs.declared.state.State.{State}
use Rattle.pg_match.specs.declared.state.State.TheVariants.{Fail, Accept, Jump, Read, AtBegin, AtEnd, Split}
use Rattle.pg_match.specs.Closures.{HasPaths}

-- the same in the middle of it: the states from place k of the list on are still to be followed
pub record Reaching (t : List State) (l : List ℕ) (i : ℕ) (old new : Members) (x start k : ℕ) : Type 0 where
  pub good : IsGood new
  pub size : length new.marks ≡ length old.marks
  pub ordered : IsOrdered new
  pub below : AllBelow new start
  pub kept : (q : ℕ) → 0 < mark old q → mark new q ≡ mark old q
  pub fresh : (q : ℕ) → mark old q ≡ 0 → 0 < mark new q → (mark new q ≡ start) × Leads t l x i q i
  pub here : 0 < mark new x
  pub upto : k ≤ new.len
  pub paths : HasPaths t l i old new x
  pub left : (j : ℕ) → k ≤ j → j < new.len
      → (mark new (listed new j) ≡ start) × Leads t l x i (listed new j) i
      × ((n : ℕ) × EdgePath t l i n x (listed new j))
  pub done : (q : ℕ) → 0 < mark new q → ClosedAt t l i new q ⊎ ((j : ℕ) × (k ≤ j) × (j < new.len) × (listed new j ≡ q))
  pub counted : Counted old new

-- the same in the middle of it: the states before place k of the list are done
pub record Stepping (t : List State) (l : List ℕ) (i : ℕ) (now next : Members) (limit k : ℕ) : Type 0 where
  pub good : IsGood next
  pub size : length next.marks ≡ length now.marks
  pub closed : IsClosed t l (i + 1) next
  pub ordered : IsOrdered next
  pub below : (j : ℕ) → k ≤ j → j < now.len → AllBelow next (mark now (listed now j))
  pub comes : (r : ℕ) → 0 < mark next r
      → (q : ℕ) × (0 < mark now q) × (mark next r ≡ mark now q) × Leads t l q i r (i + 1)
  pub goes : (j r : ℕ) → j < k → j < now.len → mark now (listed now j) ≤ limit
      → Edge (slice_get t (listed now j)) l i r (i + 1)
      → (0 < mark next r) × (mark next r ≤ mark now (listed now j))

module _ (t : List State) (l : List ℕ) (i : ℕ) where
  -- a state that leads nowhere
  pub followed_none : (s : Members) (q start : ℕ) → IsGood s → ((r : ℕ) → Edge (slice_get t q) l i r i → ⊥)
      → Followed t l i s s q start
  followed_none s q start good none = record {
    good = good;
    size = refl;
    kept = λ r h. refl;
    fresh = λ r z h. absurd (omega arith);
    recent = λ k ge lt. absurd (omega arith);
    all = λ r e. absurd (none r e);
    list = λ k h. refl;
    longer = omega arith;
    counted = refl;
  }

  pub followed_one : (s u : Members) (q y start : ℕ) → Inserted s u y start → Counted s u → Edge (slice_get t q) l i y i
      → ((r : ℕ) → Edge (slice_get t q) l i r i → r ≡ y) → Followed t l i s u q start
  followed_one s u q y start ins counted edge only = record {
    good = ins.good;
    size = ins.size;
    kept = ins.kept;
    fresh = λ r z h. let f = ins.fresh r z h in
        (f.1, subst (λ v. Edge (slice_get t q) l i v i) (sym f.0) edge, (s.len, omega arith, omega (arith, f.3), f.2));
    recent = λ k ge lt. let n = ins.last k ge lt in
        (ap (mark u) n.1 ∙ n.2, subst (λ v. Edge (slice_get t q) l i v i) (sym n.1) edge);
    all = λ r e. subst (λ v. 0 < mark u v) (sym (only r e)) ins.here;
    list = ins.list;
    longer = ins.longer;
    counted = counted;
  }

  pub followed_two : (s u v : Members) (q y z start : ℕ) → Inserted s u y start → Inserted u v z start
      → Counted s u → Counted u v → Edge (slice_get t q) l i y i → Edge (slice_get t q) l i z i
      → ((r : ℕ) → Edge (slice_get t q) l i r i → (r ≡ y) ⊎ (r ≡ z)) → Followed t l i s v q start
  followed_two s u v q y z start one two counted more to_y to_z only =
      let fresh : (r : ℕ) → mark s r ≡ 0 → 0 < mark v r
      → (mark v r ≡ start) × Edge (slice_get t q) l i r i × ((k : ℕ) × (s.len ≤ k) × (k < v.len) × (listed v k ≡ r)) =
      λ r none h. elim (cases_lt 0 (mark u r)) [
        | inl some ↦
            let f = one.fresh r none some in
            let n = two.longer in (
              two.kept r some ∙ f.1,
              subst (λ w. Edge (slice_get t q) l i w i) (sym f.0) to_y,
              (s.len, omega arith, omega (arith, f.3), two.list s.len (omega (arith, f.3)) ∙ f.2),
            )
        | inr absent ↦
            let f = two.fresh r (omega arith) h in
            let n = one.longer in (
              f.1,
              subst (λ w. Edge (slice_get t q) l i w i) (sym f.0) to_z,
              (u.len, omega arith, omega (arith, f.3), f.2),
            )
      ] in
      record {
        good = two.good;
        size = two.size ∙ one.size;
        kept = λ r h. let a = one.kept r h in two.kept r (omega arith) ∙ a;
        fresh = fresh;
        recent = λ k ge lt. elim (cases_lt k u.len) [
          | inl first ↦
              let n = one.last k ge first in
              let e : listed v k ≡ y = two.list k first ∙ n.1 in
              (ap (mark v) e ∙ two.kept y one.here ∙ n.2, subst (λ w. Edge (slice_get t q) l i w i) (sym e) to_y)
          | inr second ↦
              let n = two.last k second lt in
              (ap (mark v) n.1 ∙ n.2, subst (λ w. Edge (slice_get t q) l i w i) (sym n.1) to_z)
        ];
        all = λ r e. elim (only r e) [
          | inl same ↦ let a = two.kept y one.here in let b = one.here in rw same (omega arith)
          | inr same ↦ subst (λ w. 0 < mark v w) (sym same) two.here
        ];
        list = λ k h. let n = one.longer in two.list k (omega arith) ∙ one.list k h;
        longer = let a = one.longer in let b = two.longer in omega arith;
        counted = omega arith;
      }

  abbrev On : Option State → ℕ → Type 0
  On o r = Edge o l i r i

  pub jump_followed : (s u : Members) (q y start : ℕ) → slice_get t q ≡ Some (Jump y) → Inserted s u y start
      → Counted s u → Followed t l i s u q start
  jump_followed s u q y start is ins counted =
      followed_one s u q y start ins counted (subst (λ o. On o y) (sym is) (refl, refl))
      (λ r e. (subst (λ o. On o r) is e).0)

  pub begin_followed : (s u : Members) (q y start : ℕ) → slice_get t q ≡ Some (AtBegin y) → i ≡ 0 → Inserted s u y start
      → Counted s u → Followed t l i s u q start
  begin_followed s u q y start is first ins counted =
      followed_one s u q y start ins counted (subst (λ o. On o y) (sym is) (first, refl, refl))
      (λ r e. (subst (λ o. On o r) is e).1)

  pub end_followed : (s u : Members) (q y start : ℕ) → slice_get t q ≡ Some (AtEnd y) → i ≡ length l
      → Inserted s u y start → Counted s u → Followed t l i s u q start
  end_followed s u q y start is last ins counted =
      followed_one s u q y start ins counted (subst (λ o. On o y) (sym is) (last, refl, refl))
      (λ r e. (subst (λ o. On o r) is e).1)

  pub split_followed : (s u v : Members) (q y z start : ℕ) → slice_get t q ≡ Some (Split y z) → Inserted s u y start
      → Inserted u v z start → Counted s u → Counted u v → Followed t l i s v q start
  split_followed s u v q y z start is one two counted more =
      followed_two s u v q y z start one two counted more (subst (λ o. On o y) (sym is) (inl refl, refl))
      (subst (λ o. On o z) (sym is) (inr refl, refl))
      (λ r e. (subst (λ o. On o r) is e).0)

  pub not_begin_followed : (s : Members) (q y start : ℕ) → slice_get t q ≡ Some (AtBegin y) → i ≢ 0 → IsGood s
      → Followed t l i s s q start
  not_begin_followed s q y start is other good =
      followed_none s q start good (λ r e. other (subst (λ o. On o r) is e).0)

  pub not_end_followed : (s : Members) (q y start : ℕ) → slice_get t q ≡ Some (AtEnd y) → i ≢ length l → IsGood s
      → Followed t l i s s q start
  not_end_followed s q y start is other good = followed_none s q start good (λ r e. other (subst (λ o. On o r) is e).0)

  pub read_followed : (s : Members) (q start : ℕ) (st : State) → slice_get t q ≡ Some st
      → ((r : ℕ) → On (Some st) r → ⊥) → IsGood s → Followed t l i s s q start
  read_followed s q start st is none good = followed_none s q start good (λ r e. none r (subst (λ o. On o r) is e))

  -- a run from where an edge leads makes a run from where it starts
  leads_on : (x q r k v : ℕ) → Leads t l x i q k → Edge (slice_get t q) l k r v → Leads t l x i r v
  leads_on x q r k v lead edge n j run = lead (suc n) j (r, v, edge, run)

  below_more : (s u : Members) (start : ℕ) → ((q : ℕ) → 0 < mark s q → mark u q ≡ mark s q)
      → ((q : ℕ) → mark s q ≡ 0 → 0 < mark u q → mark u q ≡ start) → AllBelow s start → AllBelow u start
  below_more s u start kept fresh below q = elim (cases_lt 0 (mark s q)) [
    | inl old ↦ let e = kept q old in let b = below q in omega arith
    | inr none ↦ elim (cases_lt 0 (mark u q)) [
      | inl new ↦ let e = fresh q (omega arith) new in omega arith
      | inr absent ↦ omega arith
    ]
  ]

  ordered_more : (s u : Members) (start : ℕ) → IsGood s → IsOrdered s → AllBelow u start
      → ((k : ℕ) → k < s.len → listed u k ≡ listed s k) → ((q : ℕ) → 0 < mark s q → mark u q ≡ mark s q)
      → ((k : ℕ) → s.len ≤ k → k < u.len → mark u (listed u k) ≡ start) → IsOrdered u
  ordered_more s u start good ordered below list kept recent j k le lt = elim (cases_lt k s.len) [
    | inl old ↦
        let j_in : j < s.len = omega arith in
        let a : mark u (listed u j) ≡ mark s (listed s j) = ap (mark u) (list j j_in)
        ∙ kept (listed s j) (good.is_in j j_in) in
        let b : mark u (listed u k) ≡ mark s (listed s k) = ap (mark u) (list k old)
        ∙ kept (listed s k) (good.is_in k old) in
        let o = ordered j k le old in
        omega arith
    | inr new ↦ let e = recent k new lt in let b = below (listed u j) in omega arith
  ]

  closed_kept : (s u : Members) → ((q : ℕ) → 0 < mark s q → mark u q ≡ mark s q) → (q : ℕ) → 0 < mark s q
      → ClosedAt t l i s q → ClosedAt t l i u q
  closed_kept s u kept q h closed r e =
      let c = closed r e in
      let a = kept r c.0 in
      let b = kept q h in
      (omega (arith, c.0), omega (arith, c.1))

  -- before any state is followed
  pub reaching_first : (s u : Members) (x start : ℕ) → Inserted s u x start → Counted s u → IsGood s → IsClosed t l i s
      → IsOrdered s
      → AllBelow s start
      → Reaching t l i s u x start s.len
  reaching_first s u x start ins counted good closed ordered below =
      let below' = below_more s u start ins.kept (λ q z h. (ins.fresh q z h).1) below in
      let self : (q : ℕ) → q ≡ x → Leads t l x i q i =
      λ q e. subst (λ v. Leads t l x i v i) (sym e) (λ n j run. (n, run)) in
      record {
        good = ins.good;
        size = ins.size;
        ordered = ordered_more s u start good ordered below' ins.list ins.kept
            (λ k ge lt. let n = ins.last k ge lt in ap (mark u) n.1 ∙ n.2);
        below = below';
        kept = ins.kept;
        fresh = λ q z h. let f = ins.fresh q z h in (f.1, self q f.0);
        here = ins.here;
        paths = λ q z h. let f = ins.fresh q z h in (0, sym f.0);
        upto = ins.longer;
        left = λ j ge lt. let n = ins.last j ge lt in (ap (mark u) n.1 ∙ n.2, self (listed u j) n.1, (0, sym n.1));
        done = λ q h. elim (cases_lt 0 (mark s q)) [
          | inl old ↦ inl (closed_kept s u ins.kept q old (closed q old))
          | inr none ↦ let f = ins.fresh q (omega arith) h in inr (s.len, omega arith, omega (arith, f.3), f.2)
        ];
        counted = counted;
      }

  pub reaching_next : (s u v : Members) (x start k : ℕ) → Reaching t l i s u x start k → k < u.len
      → Followed t l i u v (listed u k) start → Reaching t l i s v x start (k + 1)
  reaching_next s u v x start k r lt f =
      let q0 = listed u k in
      let mine = r.left k (omega arith) lt in
      let some : 0 < mark u q0 = r.good.is_in k lt in
      let longer = f.longer in
      let below' = below_more u v start f.kept (λ q z h. (f.fresh q z h).0) r.below in
      record {
        good = f.good;
        size = f.size ∙ r.size;
        ordered = ordered_more u v start r.good r.ordered below' f.list f.kept (λ j ge jt. (f.recent j ge jt).0);
        below = below';
        kept = λ q h. let a = r.kept q h in f.kept q (omega arith) ∙ a;
        fresh = λ q z h. elim (cases_lt 0 (mark u q)) [
          | inl old ↦ let g = r.fresh q z old in (f.kept q old ∙ g.0, g.1)
          | inr none ↦ let g = f.fresh q (omega arith) h in (g.0, leads_on x q0 q i i mine.1 g.1)
        ];
        here = let a = f.kept x r.here in let b = r.here in omega arith;
        paths = λ q z h. elim (cases_lt 0 (mark u q)) [
          | inl old ↦ r.paths q z old
          | inr none ↦ let g = f.fresh q (omega arith) h in (suc mine.2.0, (q0, mine.2.1, g.1))
        ];
        upto = omega arith;
        left = λ j ge jt. elim (cases_lt j u.len) [
          | inl old ↦
              let g = r.left j (omega arith) old in
              let e = f.list j old in (
                ap (mark v) e ∙ f.kept (listed u j) (r.good.is_in j old) ∙ g.0,
                subst (λ w. Leads t l x i w i) (sym e) g.1,
                (g.2.0, subst (EdgePath t l i g.2.0 x) (sym e) g.2.1),
              )
          | inr new ↦ let g = f.recent j new jt
              in (g.0, leads_on x q0 (listed v j) i i mine.1 g.1, (suc mine.2.0, (q0, mine.2.1, g.1)))
        ];
        done = λ q h. elim (cases_lt 0 (mark u q)) [
          | inl old ↦ elim (r.done q old) [
            | inl closed ↦ inl (closed_kept u v f.kept q old closed)
            | inr later ↦ elim (cases_eq later.0 k) [
              | inl same ↦
                  let e : q0 ≡ q = ap (listed u) (sym same) ∙ later.3 in
                  inl (subst (ClosedAt t l i v) e
                  (λ w edge. let a = f.kept q0 some in let b = below' w in (f.all w edge, omega (arith, mine.0))))
              | inr other ↦ inr (
                later.0,
                omega (arith, later.1),
                omega (arith, later.2),
                f.list later.0 later.2
                    ∙ later.3,
              )
            ]
          ]
          | inr none ↦ let g = f.fresh q (omega arith) h in let w = g.2 in inr (w.0, omega (arith, w.1), w.2, w.3)
        ];
        counted = omega (arith, r.counted, f.counted);
      }

  pub reached : (s u : Members) (x start k : ℕ) → Reaching t l i s u x start k → u.len ≤ k → Reached t l i s u x start
  reached s u x start k r over = record {
    good = r.good;
    size = r.size;
    closed = λ q h. elim (r.done q h) [
      | inl closed ↦ closed
      | inr later ↦ absurd (omega (arith, later.1, later.2))
    ];
    ordered = r.ordered;
    below = r.below;
    kept = r.kept;
    fresh = r.fresh;
    here = r.here;
    counted = r.counted;
  }

-- What holds inside one line without a byte holds at each place.
inside_edge : (o : Option State) (l m : List ℕ) (i j q : ℕ) → i ≢ 0 → i ≢ length l → Edge o l i q i → Edge o m j q j
inside_edge None l m i j q a b e = absurd e
inside_edge (Some Fail) l m i j q a b e = absurd e
inside_edge (Some Accept) l m i j q a b e = absurd e
inside_edge (Some (Jump x)) l m i j q a b e = (e.0, refl)
inside_edge (Some (Read s x)) l m i j q a b e = absurd (omega (arith, e.4))
inside_edge (Some (AtBegin x)) l m i j q a b e = absurd (a e.0)
inside_edge (Some (AtEnd x)) l m i j q a b e = absurd (b e.0)
inside_edge (Some (Split x y)) l m i j q a b e = (e.0, refl)

module _ (t : List State) where
  inside_path : (l m : List ℕ) (i j n x q : ℕ) → i ≢ 0 → i ≢ length l → EdgePath t l i n x q → EdgePath t m j n x q
  inside_path l m i j zero x q a b p = p
  inside_path l m i j (suc n) x q a b p =
      (p.0, inside_path l m i j n x p.0 a b p.1, inside_edge (slice_get t p.0) l m i j q a b p.2)

  path_leads : (l : List ℕ) (i n x q : ℕ) → EdgePath t l i n x q → Leads t l x i q i
  path_leads l i zero x q p = subst (λ w. Leads t l x i w i) p (λ k j run. (k, run))
  path_leads l i (suc n) x q p = leads_on t l i x p.0 q i i (path_leads l i n x p.0 p.1) p.2

  -- what a walk inside one line finds holds inside each line
  pub seeds_found : (l : List ℕ) (i : ℕ) (s u : Members) (x start : ℕ) → i ≢ 0 → i ≢ length l → IsEmpty s
      → length u.marks ≡ length t
      → Reached t l i s u x start → ((q : ℕ) → mark s q ≡ 0 → 0 < mark u q → (n : ℕ) × EdgePath t l i n x q)
      → AreSeeds t x (take u.len u.order)
  seeds_found l i s u x start a b empty size r paths =
      let room : u.len ≤ length u.order = list_long u r.good in
      let len : length (take u.len u.order) ≡ u.len = length-take-le u.len u.order room in
      let at : (k : ℕ) → k < u.len → slice_index (take u.len u.order) k ≡ listed u k =
      λ k lt. get_or-take u.len u.order k 0 lt in
      record {
        few = omega (arith, len, few u r.good);
        inside = λ k lt. let in' = listed_in u k r.good (omega arith) in let e = at k (omega arith) in omega arith;
        first = let f = r.good.found x r.here in (f.0, omega (arith, f.1, len), at f.0 f.1 ∙ f.2);
        closed = λ m j c d k q lt e.
            let k_in : k < u.len = omega arith in
            let edge = inside_edge (slice_get t (listed u k)) m l j i q c d
            (subst (λ w. Edge (slice_get t w) m j q j) (at k k_in) e) in
            let here = r.closed (listed u k) (r.good.is_in k k_in) q edge in
            let f = r.good.found q here.0 in
            (f.0, omega (arith, f.1, len), at f.0 f.1 ∙ f.2);
        leads = λ m j k lt.
            let k_in : k < u.len = omega arith in
            let p = paths (listed u k) (empty.1 (listed u k)) (r.good.is_in k k_in) in
            subst (λ w. Leads t m x j w j) (sym (at k k_in))
            (path_leads m j p.0 x (listed u k) (inside_path l m i j p.0 x (listed u k) a b p.1));
      }

-- what the code reads of a state
pub stands : (t : List State) (q : ℕ) (st : State) → q < length t → get_or t q Fail ≡ st → slice_get t q ≡ Some st
stands t q st within e = slice_get-get_or t q Fail within ∙ ap Some e

module _ (t : List State) (l : List ℕ) (i : ℕ) (now : Members) (limit : ℕ) where
  pub stepping_first : (next : Members) → IsGood next → IsEmpty next → length next.marks ≡ length now.marks
      → Stepping t l i now next limit 0
  stepping_first next good empty size = record {
    good = good;
    size = size;
    closed = λ q h. let z = empty.1 q in absurd (omega arith);
    ordered = λ j k le lt. let z = empty.0 in absurd (omega arith);
    below = λ j ge lt q. let z = empty.1 q in omega arith;
    comes = λ r h. let z = empty.1 r in absurd (omega arith);
    goes = λ j r lt. absurd (omega arith);
  }

  -- a state that reads nothing, or is too late, is passed over
  pub stepping_over : (next : Members) (k : ℕ) → Stepping t l i now next limit k
      → ((r : ℕ) → mark now (listed now k) ≤ limit → Edge (slice_get t (listed now k)) l i r (i + 1) → ⊥)
      → Stepping t l i now next limit (k + 1)
  stepping_over next k s none = record {
    good = s.good;
    size = s.size;
    closed = s.closed;
    ordered = s.ordered;
    below = λ j ge lt. s.below j (omega arith) lt;
    comes = s.comes;
    goes = λ j r lt in_list early e. elim (cases_eq j k) [
      | inl same ↦ absurd (none r (rw (← same) early)
          (subst (λ v. Edge (slice_get t (listed now v)) l i r (i + 1)) same e))
      | inr other ↦ s.goes j r (omega arith) in_list early e
    ];
  }

  pub stepping_next : (next after : Members) (k x : ℕ) → Stepping t l i now next limit k → k < now.len → IsGood now
      → IsOrdered now
      → Edge (slice_get t (listed now k)) l i x (i + 1)
      → ((r : ℕ) → Edge (slice_get t (listed now k)) l i r (i + 1) → r ≡ x)
      → Reached t l (i + 1) next after x (mark now (listed now k)) → Stepping t l i now after limit (k + 1)
  stepping_next next after k x s k_in good ordered edge only r =
      let q0 = listed now k in
      let some : 0 < mark now q0 = good.is_in k k_in in
      let lead : Leads t l q0 i x (i + 1) = leads_on t l i q0 q0 x i (i + 1) (λ n j run. (n, run)) edge in
      record {
        good = r.good;
        size = r.size ∙ s.size;
        closed = r.closed;
        ordered = r.ordered;
        below = λ j ge lt q. let a = r.below q in let b = ordered k j (omega arith) lt in omega arith;
        comes = λ q h. elim (cases_lt 0 (mark next q)) [
          | inl old ↦ let c = s.comes q old in (c.0, c.1, r.kept q old ∙ c.2, c.3)
          | inr none ↦
              let f = r.fresh q (omega arith) h in
              (q0, some, f.0, λ n j run. let a = f.1 n j run in lead a.0 j a.1)
        ];
        goes = λ j p lt in_list early e. elim (cases_eq j k) [
          | inl same ↦
              let p_x : p ≡ x = only p (subst (λ v. Edge (slice_get t (listed now v)) l i p (i + 1)) same e) in
              let a = r.here in
              let b = r.below x in
              rw (p_x, same) (a, b)
          | inr other ↦
              let g = s.goes j p (omega arith) in_list early e in
              let a = r.kept p g.0 in
              (omega (arith, g.0), omega (arith, g.1))
        ];
      }

  pub stepped : (next : Members) (k : ℕ) → Stepping t l i now next limit k → now.len ≤ k → IsGood now
      → Stepped t l i now next limit
  stepped next k s over good = record {
    good = s.good;
    size = s.size;
    closed = s.closed;
    ordered = s.ordered;
    comes = s.comes;
    goes = λ q r h early e.
        let f = good.found q h in
        let same : mark now (listed now f.0) ≡ mark now q = ap (mark now) f.2 in
        let g = s.goes f.0 r (omega (arith, f.1)) f.1 (omega arith)
        (subst (λ v. Edge (slice_get t v) l i r (i + 1)) (sym f.2) e) in
        (g.0, omega (arith, g.1));
  }

  abbrev OnByte : Option State → ℕ → Type 0
  OnByte o r = Edge o l i r (i + 1)

  -- only `Read` leads on by a byte
  pub no_byte : (q : ℕ) (st : State) → slice_get t q ≡ Some st → ((set : ByteSet) (y : ℕ) → st ≡ Read set y → ⊥)
      → (r : ℕ) → Edge (slice_get t q) l i r (i + 1) → ⊥
  no_byte q st is other r e = go st other (subst (λ o. OnByte o r) is e)
    where
      go : (st : State) → ((set : ByteSet) (y : ℕ) → st ≡ Read set y → ⊥) → OnByte (Some st) r → ⊥
      go Fail other e = e
      go Accept other e = e
      go (Jump x) other e = omega (arith, e.1)
      go (Read s x) other e = other s x refl
      go (AtBegin x) other e = omega (arith, e.2)
      go (AtEnd x) other e = omega (arith, e.2)
      go (Split x y) other e = omega (arith, e.1)

  pub byte_edge : (q y b : ℕ) (set : ByteSet) → slice_get t q ≡ Some (Read set y) → slice_get l i ≡ Some b
      → bytes set b ≡ true → Edge (slice_get t q) l i y (i + 1)
  byte_edge q y b set is read here = subst (λ o. OnByte o y) (sym is) (b, read, here, refl, refl)

  pub byte_only : (q y r : ℕ) (set : ByteSet) → slice_get t q ≡ Some (Read set y) → Edge (slice_get t q) l i r (i + 1)
      → r ≡ y
  byte_only q y r set is e = (subst (λ o. OnByte o r) is e).3

  pub byte_none : (q y b r : ℕ) (set : ByteSet) → slice_get t q ≡ Some (Read set y) → slice_get l i ≡ Some b
      → bytes set b ≡ false → Edge (slice_get t q) l i r (i + 1) → ⊥
  byte_none q y b r set is read none e =
      let edge = subst (λ o. OnByte o r) is e in
      let same : Some edge.0 ≡ Some b = sym edge.1 ∙ read in
      let byte : edge.0 ≡ b = cc in
      let yes : bytes set b ≡ true = ap (bytes set) (sym byte) ∙ edge.2 in
      true≢false (sym yes ∙ none)
