-- A list of trees.
use Rattle.std.proofs.Common.{[], ◌≡◌, ◌≢◌, ℕ, zero, suc, ◌+◌, ◌-◌, ◌<◌, ◌≤◌, inl, inr, Bool, true≢false, not, eqb}
use Rattle.std.proofs.Common.{ne_eqb, List, length, take, take_all, Some, refl, sym, ap, ◌∙◌, subst, arith, IsTrue}
use Rattle.std.proofs.Common.{sum_by, Contains, All}
use Rattle.std.specs.Prelude.{slice_get, Option, None, IfSome}
use Rattle.std.proofs.lemmas.Bool.{cases_eq, cases_lt}
use Rattle.std.proofs.lemmas.List.Sums.{sum_by_more, sum_by-take-le}
use Rattle.std.proofs.lemmas.Option.{slice_get_within, slice_get-get_or, get_or_from_slice_get}
use Rattle.pg_pattern.specs.Matches.{Match}
use Rattle.pg_pattern.specs.Hits.{Hit}
use Rattle.pg_pattern.specs.Lengths.{HitsEndWithin}
use Rattle.pg_match.specs.Stands.{RunsEndWithin}
use Rattle.pg_pattern.specs.declared.bounds.Bounds.{Bounds}
use Rattle.pg_pattern.specs.Patterns.{IsProper, Pattern}
use Rattle.pg_match.specs.Sizes.{size_of, list_size}
use Rattle.pg_match.specs.Automata.{Runs, target_below, Nfa, IsRunnable}
use Rattle.pg_match.specs.Tables.{Alternatives, HasFirst, KeepsStates, Pushed, Added}
use Rattle.pg_match.specs.Machines.{Agrees, IsMachineOf}
use Rattle.pg_match.specs.declared.state.State.{State}
use Rattle.pg_match.specs.declared.state.State.TheVariants.{Accept, Split}
use Rattle.pg_match.proofs.PathLemmas.{tree_sound, tree_complete, on_state, by_edge, not_over}
use Rattle.pg_match.proofs.TableLemmas.{implements_kept, pushed_length, pushed_keeps, pushed_is, pushed_tidy}
use Rattle.pg_match.proofs.TableLemmas.{pushed_plain}

-- a run from `Accept` is over
pub ended : (t : List State) (l : List ℕ) (n i j : ℕ) → slice_get t 0 ≡ Some Accept → Runs t l n 0 i j → i ≡ j
ended t l zero i j is run = run.1
ended t l (suc n) i j is run = absurd (on_state t l 0 n i j Accept is run).2

module _ (t : List State) (l : List ℕ) (trees : List Pattern) (accept : slice_get t 0 ≡ Some Accept) where
  alternatives_sound : (k e n i j : ℕ) → ((c : ℕ) (r : Pattern) → slice_get trees c ≡ Some r → IsProper r)
      → Alternatives t trees k e 0 → Runs t l n e i j → (c : ℕ) × (r : Pattern) × (slice_get trees c ≡ Some r)
      × Match r l i j
  alternatives_sound zero e n i j proper a run =
      let s = tree_sound t l a.0 (proper 0 a.0 a.1) e 0 n i j a.2 run in
      let over = ended t l s.1 s.0 j accept s.4 in
      (0, a.0, a.1, subst (Match a.0 l i) over s.3)
  alternatives_sound (suc k) e zero i j proper a run = absurd (not_over t l e i j (Split a.2 a.3) (λ w. cc) a.4 run)
  alternatives_sound (suc k) e (suc n) i j proper a run =
      let u = on_state t l e n i j (Split a.2 a.3) a.4 run in
      elim u.2.0 [
        | inl first ↦
            let run1 : Runs t l n a.2 i j =
            subst (λ s. Runs t l n s i j) first (subst (λ v. Runs t l n u.0 v j) u.2.1 u.3) in
            let s = tree_sound t l a.0 (proper (suc k) a.0 a.1) a.2 0 n i j a.5 run1 in
            let over = ended t l s.1 s.0 j accept s.4 in
            (suc k, a.0, a.1, subst (Match a.0 l i) over s.3)
        | inr second ↦
            let run1 : Runs t l n a.3 i j =
            subst (λ s. Runs t l n s i j) second (subst (λ v. Runs t l n u.0 v j) u.2.1 u.3) in
            alternatives_sound k a.3 n i j proper a.6 run1
      ]

  alternatives_complete : (k e c i j : ℕ) (r : Pattern) → c ≤ k → Alternatives t trees k e 0
      → slice_get trees c ≡ Some r → Match r l i j
      → (n : ℕ) × Runs t l n e i j
  alternatives_complete zero e c i j r le a is h =
      let zero_c : c ≡ 0 = omega arith in
      let same : Some r ≡ Some a.0 = sym is ∙ ap (slice_get trees) zero_c ∙ a.1 in
      let tree : r ≡ a.0 = cc in
      tree_complete t l a.0 e 0 i j 0 j a.2 (subst (λ s. Match s l i j) tree h) (accept, refl)
  alternatives_complete (suc k) e c i j r le a is h = elim (cases_eq c (suc k)) [
    | inl last ↦
        let same : Some r ≡ Some a.0 = sym is ∙ ap (slice_get trees) last ∙ a.1 in
        let tree : r ≡ a.0 = cc in
        let run = tree_complete t l a.0 a.2 0 i j 0 j a.5 (subst (λ s. Match s l i j) tree h) (accept, refl) in
        (suc run.0, by_edge t l e run.0 i j a.2 i (Split a.2 a.3) a.4 (inl refl, refl) run.1)
    | inr other ↦
        let run = alternatives_complete k a.3 c i j r (omega arith) a.6 is h in
        (suc run.0, by_edge t l e run.0 i j a.3 i (Split a.2 a.3) a.4 (inr refl, refl) run.1)
  ]

alternatives_kept : (a b : List State) (trees : List Pattern) → KeepsStates a b → (k e : ℕ) → Alternatives a trees k e 0
    → Alternatives b trees k e 0
alternatives_kept a b trees keeps zero e h = (h.0, h.1, implements_kept a b (λ q s other g. keeps q s g) h.0 e 0 h.2)
alternatives_kept a b trees keeps (suc k) e h = (
  h.0,
  h.1,
  h.2,
  h.3,
  keeps e (Split h.2 h.3) h.4,
  implements_kept a b (λ q s other g. keeps q s g) h.0 h.2 0 h.5,
  alternatives_kept a b trees keeps k h.3 h.6,
)

-- the sum of one more size
pub more_size : (trees : List Pattern) (c : ℕ) (r : Pattern) → slice_get trees c ≡ Some r
    → sum_by size_of (take (c + 1) trees) ≡ sum_by size_of (take c trees) + size_of r
more_size trees c r is =
    let within : c < length trees = slice_get_within trees c r is in
    sum_by_more size_of trees c r within
    ∙ ap (λ v. sum_by size_of (take c trees) + size_of v) (get_or_from_slice_get trees c r r is)

pub begun : (t u : List State) (trees : List Pattern) (e : ℕ) → t ≡ [] → Pushed t u Accept e → HasFirst u trees 0 0
begun t u trees e empty p =
    let n : length t ≡ 0 = ap length empty in
    let len = pushed_length t u Accept e p in
    let first : e ≡ 0 = p.place ∙ n in
    record {
      tidy = pushed_tidy t u Accept e p (λ k d lt. absurd (omega arith)) tt;
      start_in = omega arith;
      accept = subst (λ v. slice_get u v ≡ Some Accept) first (pushed_is t u Accept e p);
      only = λ q h. let lt = slice_get_within u q Accept h in omega arith;
      size = omega arith;
      none = λ z. refl;
      some = λ k z. absurd (omega arith);
    }

pub building_one : (t u : List State) (trees : List Pattern) (c start e : ℕ) (r : Pattern) → c ≡ 0
    → HasFirst t trees c start → Added t u r e 0
    → slice_get trees c ≡ Some r → HasFirst u trees (c + 1) e
building_one t u trees c start e r first b a is =
    let more = more_size trees c r is in
    record {
      tidy = a.tidy;
      start_in = a.inside;
      accept = a.keeps 0 Accept b.accept;
      only = λ q h. b.only q (a.plain q h);
      size = omega (arith, a.size, b.size, more);
      none = λ e. absurd (omega arith);
      some = λ k same.
          let z : k ≡ 0 = omega arith in
          let is0 : slice_get trees 0 ≡ Some r = subst (λ v. slice_get trees v ≡ Some r) first is in
          subst (λ v. Alternatives u trees v e 0) (sym z) (r, is0, a.implements);
    }

pub building_more : (t u v : List State) (trees : List Pattern) (c start e s : ℕ) (r : Pattern) → c ≢ 0
    → HasFirst t trees c start → Added t u r e 0
    → Pushed u v (Split e start) s → slice_get trees c ≡ Some r → HasFirst v trees (c + 1) s
building_more t u v trees zero start e s r other b a p is = absurd (other refl)
building_more t u v trees (suc c) start e s r other b a p is =
    let more = more_size trees (suc c) r is in
    let len = pushed_length u v (Split e start) s p in
    let keeps = pushed_keeps u v (Split e start) s p in
    let below : target_below (length v) (Split e start) =
    (omega (arith, len, a.inside), omega (arith, len, b.start_in, a.size)) in
    record {
      tidy = pushed_tidy u v (Split e start) s p a.tidy below;
      start_in = omega (arith, len, p.place);
      accept = keeps 0 Accept (a.keeps 0 Accept b.accept);
      only = λ q h. b.only q (a.plain q (pushed_plain u v (Split e start) s p (λ w. cc) q h));
      size = omega (arith, len, a.size, b.size, more);
      none = λ z. absurd (omega arith);
      some = λ k same.
          let z : k ≡ suc c = omega arith in
          subst (λ w. Alternatives v trees w s 0) (sym z) (
            r,
            is,
            e,
            start,
            pushed_is u v (Split e start) s p,
            implements_kept u v (λ q st no h. keeps q st h) r e 0 a.implements,
            alternatives_kept t v trees (λ q st h. keeps q st (a.keeps q st h)) c start (b.some c refl),
          );
    }

contains_at : (trees : List Pattern) (c : ℕ) (r : Pattern) → slice_get trees c ≡ Some r → Contains trees r
contains_at trees c r is = (c, slice_get_within trees c r is, get_or_from_slice_get trees c r r is)

pub each_proper : (trees : List Pattern) → All IsProper trees → (c : ℕ) (r : Pattern) → slice_get trees c ≡ Some r
    → IsProper r
each_proper trees proper c r is =
    subst IsProper (get_or_from_slice_get trees c r r is) (proper c r (slice_get_within trees c r is))

-- what the first patterns leave of the size
pub room_for : (trees : List Pattern) (c : ℕ) (r : Pattern) → slice_get trees c ≡ Some r
    → sum_by size_of (take c trees) + size_of r + c + 1 ≤ list_size trees
room_for trees c r is =
    let within : c < length trees = slice_get_within trees c r is in
    let more = more_size trees c r is in
    let le = sum_by-take-le size_of trees (c + 1) in
    omega (arith, more, le)

module _ (m : Nfa) (trees : List Pattern) (proper : All IsProper trees) where
  agrees : (n : ℕ) → n ≡ length trees → HasFirst m.states trees n m.start → (IsTrue m.some → 0 < length trees)
      → (0 < length trees → IsTrue m.some) → Agrees m trees
  agrees zero e b any_some some_any = record {
    sound = λ l n i j run why.
        let over = ended m.states l n i j b.accept (subst (λ q. Runs m.states l n q i j) (b.none refl) run) in
        elim why [
          | inl longer ↦ absurd (omega arith)
          | inr any ↦ let some = any_some any in absurd (omega arith)
        ];
    complete = λ l i j h. let within = h.1.1 in absurd (omega (arith, within));
  }
  agrees (suc k) e b any_some some_any = record {
    sound = λ l n i j run why.
        let s = alternatives_sound m.states l trees b.accept k m.start n i j (each_proper trees proper)
        (b.some k refl) run in
        (s.1, contains_at trees s.0 s.1 s.2, s.3);
    complete = λ l i j h.
        let here = slice_get-get_or trees h.1.0 h.0 h.1.1 ∙ ap Some h.1.2 in (
          some_any (omega arith),
          alternatives_complete m.states l trees b.accept k m.start h.1.0 i j h.0 (omega (arith, h.1.1))
              (b.some k refl) here h.2,
        );
  }

  pub built : (bounds : Bounds) → HasFirst m.states trees (length trees) m.start → m.bounds ≡ bounds
      → (IsTrue m.some → 0 < length trees) → (0 < length trees → IsTrue m.some) → IsMachineOf m trees bounds
  built bounds b same any_some some_any = record {
    agrees = agrees (length trees) refl b any_some some_any;
    same_bounds = same;
    size = b.size ∙ ap (λ xs. sum_by size_of xs + (length trees - 1) + 1) (take_all (length trees) trees (omega arith));
  }

-- where a hit of the patterns begins one ends within so many bytes, and so does a run
pub runs_end : (m : Nfa) (trees : List Pattern) (bounds : Bounds) (bytes : ℕ) → IsMachineOf m trees bounds
    → HitsEndWithin trees bounds bytes → RunsEndWithin m bytes
runs_end m trees bounds bytes is near = λ l i j le within run. elim (cases_lt i j) [
  | inr over ↦ (j, le, omega (arith, over), run)
  | inl longer ↦
      let hit : Hit trees m.bounds l i j = record {
        ordered = le;
        within = within;
        begins = run.0;
        ends = run.1;
        matched = is.agrees.sound l run.2.0 i j run.2.1 (inl longer);
      } in
      let k = near l i j (subst (λ b. Hit trees b l i j) is.same_bounds hit) in
      let other = subst (λ b. Hit trees b l i k.0) (sym is.same_bounds) k.2 in
      (k.0, other.ordered, k.1, (other.begins, other.ends, (is.agrees.complete l i k.0 other.matched).1))
]

pub reach_known : (m : Nfa) (trees : List Pattern) (bounds : Bounds) (reach : Option ℕ) → IsMachineOf m trees bounds
    → IfSome reach (HitsEndWithin trees bounds) → IfSome reach (RunsEndWithin m)
reach_known m trees bounds None is near = tt
reach_known m trees bounds (Some bytes) is near = runs_end m trees bounds bytes is near

pub runnable : (m : Nfa) (trees : List Pattern) (c : ℕ) → HasFirst m.states trees c m.start → IsRunnable m
runnable m trees c b = record { tidy = b.tidy; start = b.start_in; accept = b.accept; only = b.only }

pub any_some : (n : ℕ) (empty : Bool) → empty ≡ eqb n 0 → IsTrue (not empty) → 0 < n
any_some zero empty e h = absurd (true≢false (sym h ∙ ap not e))
any_some (suc n) empty e h = omega arith

pub some_any : (n : ℕ) (empty : Bool) → empty ≡ eqb n 0 → 0 < n → IsTrue (not empty)
some_any n empty e h = ap not (e ∙ ne_eqb n 0 (omega arith))
