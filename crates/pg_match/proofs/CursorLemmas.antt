-- How a walk leaves the DFA cache and comes back to it.
use Rattle.std.proofs.Common.{◌≡◌, ◌≢◌, ℕ, ◌-◌, ◌<◌, ◌≤◌, ◌↔◌, inl, inr, List, length, sym, subst, refl, arith}
use Rattle.std.specs.Prelude.{slice_get}
use Rattle.std.proofs.lemmas.Bool.{cases_lt}
use Rattle.pg_match.specs.Automata.{Nfa, Edge, Runs}
use Rattle.pg_pattern.specs.Bounds.{MayBegin}
use Rattle.pg_match.specs.Closures.{Leads, AreSeeds}
use Rattle.pg_match.specs.Dfas.{Dfa, IsDfaOf, IsCursor, Crosses}
use Rattle.pg_match.specs.Stands.{HasRun, NoneBefore}
use Rattle.pg_match.specs.Starts.{StandsUnseeded}
use Rattle.pg_match.specs.declared.dfa_cursor.Crossing.{Crossing}
use Rattle.pg_match.specs.declared.dfa_cursor.Crossing.TheVariants.{Found, At}
use Rattle.pg_match.specs.declared.dfa_cursor.Cursor.{Cursor}
use Rattle.pg_match.proofs.ScanLemmas.{scan_later}

-- a hit from a later place on
run_later : (m : Nfa) (l : List ℕ) (from start : ℕ) → from ≤ start → HasRun m l start → HasRun m l from
run_later m l from start le h = (h.0, h.1, omega (arith, h.2), h.3, h.4, h.5)

-- where none begins before a later place
pub runs_same : (m : Nfa) (l : List ℕ) (from start : ℕ) → from ≤ start → NoneBefore m l from start
    → HasRun m l from ↔ HasRun m l start
runs_same m l from start le none = (
  λ h. elim (cases_lt h.0 start) [
    | inl early ↦ absurd (none h.0 h.1 h.2 early h.3 h.4 h.5)
    | inr there ↦ (h.0, h.1, there, h.3, h.4, h.5)
  ],
  run_later m l from start le,
)

module _ (m : Nfa) (seeds : List ℕ) (are : AreSeeds m.states m.start seeds) (l : List ℕ) where
  -- where no run is left, there is a hit only if one begins there or behind it
  pub runs_ended : (from p : ℕ) (S : ℕ → Type 0) → from ≤ p → ((q : ℕ) → S q → ⊥) → StandsUnseeded m seeds l from p S
      → HasRun m l from ↔ HasRun m l p
  runs_ended from p S le empty s = (
    λ h. elim (cases_lt h.0 p) [
      | inl early ↦ elim (cases_lt h.1 p) [
        | inl before ↦ absurd (s.none h.0 h.1 h.2 h.3 before h.5)
        | inr past ↦
            let c = s.complete h.0 h.5.2.0 h.1 h.2 (omega arith) h.5.0 h.5.2.1 past in
            elim c.2 [
              | inl old ↦ absurd (empty c.0 old)
              | inr seed ↦
                  let k = seed.1 in
                  let run = subst (λ v. Runs m.states l c.1 v p h.1) (sym k.2) c.3 in
                  (p, h.1, omega arith, past, h.4, (seed.0, h.5.1, are.leads l p k.0 k.1 c.1 h.1 run))
            ]
      ]
      | inr there ↦ (h.0, h.1, there, h.3, h.4, h.5)
    ],
    run_later m l from p le,
  )

  -- of the runs that begin at a place the starts there are all that stands there
  pub stands_begun : (p : ℕ) (S : ℕ → Type 0) → 0 < p → ((q : ℕ) → S q → ⊥) → StandsUnseeded m seeds l p p S
  stands_begun p S some empty = record {
    sound = λ q h. elim h [
      | inl old ↦ absurd (empty q old)
      | inr seed ↦
          let k = seed.1 in (
            p,
            omega arith,
            omega arith,
            seed.0,
            subst (λ v. Leads m.states l m.start p v p) k.2 (are.leads l p k.0 k.1),
          )
    ];
    complete = λ v n j ge le may run past.
        let e : v ≡ p = omega arith in (
          m.start,
          n,
          inr (subst (MayBegin m.bounds l) e may, are.first),
          subst (λ w. Runs m.states l n m.start w j) e run,
        );
    closed = λ lt q r h edge. elim h [
      | inl old ↦ absurd (empty q old)
      | inr seed ↦
          let k = seed.1 in
          inr (
            seed.0,
            are.closed l p (λ e. omega arith) (λ e. omega arith) k.0 r k.1
                (subst (λ v. Edge (slice_get m.states v) l p r p) (sym k.2) edge),
          )
    ];
    none = λ i j ge le lt. absurd (omega arith);
  }

-- row 0 stands right before a place, for what begins there or behind it
pub cursor_back : (m : Nfa) (table : Dfa) (l : List ℕ) (p : ℕ) → IsDfaOf m table → p ≢ 0 → p ≤ length l
    → IsCursor m table l (record { from = p; place = p - 1; state = 0 })
cursor_back m table l p is some within =
    let s = scan_later m table l p (p - 1) is some within refl in
    record { within = s.within; near = s.near; row = s.row; stands = s.stands }

-- the same found from an earlier place on, where no hit begins between the two
pub crosses_from : (m : Nfa) (table : Dfa) (l : List ℕ) (c d : Cursor) (r : Crossing) → d.place ≡ c.place
    → HasRun m l c.from ↔ HasRun m l d.from
    → Crosses m table l d r → Crosses m table l c r
crosses_from m table l c d (Found answer) e same h = (λ t. same.1 (h.0 t), λ run. h.1 (same.0 run))
crosses_from m table l c d (At next) e same h =
    (omega (arith, h.0, e), h.1, (λ run. h.2.0 (same.0 run), λ run. same.1 (h.2.1 run)))
