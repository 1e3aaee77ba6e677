-- The first line of some bytes, walked by the DFA cache before its end is known.
use Rattle.std.proofs.Common.{◌≡◌, ◌∙◌, ℕ, ◌+◌, ◌/◌, ◌<◌, ◌≤◌, ◌⊎◌, ◌-◌, inl, inr, List, [], length, length-drop}
use Rattle.std.proofs.Common.{take, drop, Bool, Option, Some, None, IsTrue, ◌↔◌, refl, sym, ap, subst, arith, get_or}
use Rattle.std.specs.Prelude.{slice_get, slice_index, IfSome}
use Rattle.memchr.specs.Find.{IsFirstByte, Nowhere, Passes, is_byte}
use Rattle.std.proofs.lemmas.Bool.{cases_lt, eq-eqb, eqb-true}
use Rattle.std.proofs.lemmas.List.{get_or-drop, get_or-take, get_or_read, length-take-le}
use Rattle.std.proofs.lemmas.Option.{slice_get-get_or}
use Rattle.pg_match.specs.Automata.{Nfa, IsRunnable}
use Rattle.pg_pattern.specs.Hits.{HasHit}
use Rattle.pg_pattern.specs.Patterns.{Pattern}
use Rattle.pg_match.specs.Lines.{IsFirstText, TellsLine, StandsInLine}
use Rattle.pg_match.specs.Machines.{Agrees, IsMachineOf}
use Rattle.pg_pattern.specs.declared.bounds.Bounds.{Bounds}
use Rattle.pg_match.specs.Dfas.{Dfa, In, IsDfaOf, Finishes, Settles}
use Rattle.pg_match.specs.Stands.{HasRun}
use Rattle.pg_match.specs.declared.dfa_line.KnownLine.{KnownLine}
use Rattle.pg_match.proofs.CacheLemmas.{at_row, in_table, row_next}
use Rattle.pg_match.proofs.StandsLemmas.{exact_so, stands_first, stands_next}

-- bytes have one first line
first_is_one : (end : ℕ) (bytes : List ℕ) (n r : ℕ) → IsFirstText end bytes n → IsFirstText end bytes r → n ≡ r
first_is_one end bytes n r f g = elim (cases_lt n r) [
  | inl less ↦ absurd (g.clear n (omega arith) less (f.ended (omega (arith, g.within))))
  | inr upto ↦ elim (cases_lt r n) [
    | inl more ↦ absurd (f.clear r (omega arith) more (g.ended (omega (arith, f.within))))
    | inr same ↦ omega arith
  ]
]

-- it was read to its end
pub line_whole : (P : List ℕ → Type 0) (end : ℕ) (bytes : List ℕ) (answer : Bool) (r : ℕ) → IsFirstText end bytes r
    → IsTrue answer ↔ P (take r bytes) → TellsLine P end bytes (record { has_hit = answer; read = r })
line_whole P end bytes answer r f so = record {
  within = f.within;
  clear = λ i lt same. f.clear i (omega arith) lt same;
  told = λ n g. subst (λ k. IsTrue answer ↔ P (take k bytes)) (first_is_one end bytes r n f g) so;
}

-- an empty line
pub line_empty : (P : List ℕ → Type 0) (end : ℕ) (bytes : List ℕ) (answer : Bool)
    → (length bytes ≡ 0) ⊎ (slice_index bytes 0 ≡ end) → IsTrue answer ↔ P []
    → TellsLine P end bytes (record { has_hit = answer; read = 0 })
line_empty P end bytes answer empty so = line_whole P end bytes answer 0 first so
  where
    first : IsFirstText end bytes 0
    first = record {
      onward = omega arith;
      within = omega arith;
      clear = λ i low lt same. absurd (omega arith);
      ended = λ some. elim empty [ inl none ↦ absurd (omega arith) | inr stops ↦ stops ];
    }

-- what a search for the end behind a place finds
module _ (end : ℕ) (bytes : List ℕ) (p : ℕ) (lt : p < length bytes)
    (clear : (i : ℕ) → i ≤ p → slice_index bytes i ≡ end → ⊥) where
  behind : (i : ℕ) → p < i → slice_index (drop (p + 1) bytes) (i - (p + 1)) ≡ slice_index bytes i
  behind i later =
      let to_i : p + 1 + (i - (p + 1)) ≡ i = omega arith in
      get_or-drop (p + 1) bytes (i - (p + 1)) 0 ∙ ap (slice_index bytes) to_i

  clear_upto : (k : ℕ) → Nowhere (Passes (is_byte end) (drop (p + 1) bytes)) 0 k → (i : ℕ) → i < p + 1 + k
      → slice_index bytes i ≡ end → ⊥
  clear_upto k none i upto same = elim (cases_lt p i) [
    | inl later ↦ none (i - (p + 1)) (omega arith) (omega arith) (eq-eqb _ end (behind i later ∙ same))
    | inr inside ↦ clear i inside same
  ]

  pub first_found : (k : ℕ) → IsFirstByte (is_byte end) (drop (p + 1) bytes) (Some k)
      → IsFirstText end bytes (p + 1 + k)
  first_found k found = record {
    onward = omega arith;
    within = omega (arith, found.0.high, length-drop (p + 1) bytes);
    clear = λ i low lt same. clear_upto k found.0.before i lt same;
    ended = λ some. sym (get_or-drop (p + 1) bytes k 0) ∙ eqb-true _ end found.1;
  }

  pub first_none : IsFirstByte (is_byte end) (drop (p + 1) bytes) None → IsFirstText end bytes (length bytes)
  first_none none = record {
    onward = omega arith;
    within = omega arith;
    clear = λ i low inside same. clear_upto (length (drop (p + 1) bytes)) none i
        (omega (arith, length-drop (p + 1) bytes, inside)) same;
    ended = λ past. absurd (omega arith);
  }

module _ (m : Nfa) (table : Dfa) (end : ℕ) (bytes : List ℕ) (is_m : IsRunnable m) (is : IsDfaOf m table) where
  -- the first place of a line that isn't empty
  pub line_begins : 1 ≤ table.count → 0 < length bytes → (slice_index bytes 0 ≡ end → ⊥)
      → StandsInLine m table end bytes 256 0
  line_begins some more apart = record {
    within = more;
    clear = λ i le same.
        let first : i ≡ 0 = omega arith in
        apart (subst (λ k. slice_index bytes k ≡ end) first same);
    row = at_row table 256 1 refl some;
    stands = λ n lt le. stands_first m (take n bytes) (In table 1) (is.first some);
  }

  module _ (at p : ℕ) (s : StandsInLine m table end bytes at p) where
    size : (n : ℕ) → n ≤ length bytes → length (take n bytes) ≡ n
    size n le = length-take-le n bytes le

    byte_in : (n : ℕ) → p < n → n ≤ length bytes → slice_get (take n bytes) p ≡ Some (slice_index bytes p)
    byte_in n lt le =
        slice_get-get_or (take n bytes) p 0 (omega (arith, size n le, lt)) ∙ ap Some (get_or-take n bytes p 0 lt)

    -- the next place
    pub line_on : (v : ℕ) → slice_index bytes p < 256 → p + 1 < length bytes → (slice_index bytes (p + 1) ≡ end → ⊥)
        → v ≡ get_or table.steps (at + slice_index bytes p) v → 256 ≤ v → StandsInLine m table end bytes v (p + 1)
    line_on v small more apart read big =
        let b = slice_index bytes p in
        let inside = in_table m table at b is s.row small in
        let told = row_next m table at v b is s.row small (get_or_read table.steps _ v inside read 0) big in
        record {
          within = more;
          clear = λ i le same. elim (cases_lt i (p + 1)) [
            | inl before ↦ s.clear i (omega arith) same
            | inr here ↦
                let last : i ≡ p + 1 = omega arith in
                apart (subst (λ k. slice_index bytes k ≡ end) last same)
          ];
          row = told.0;
          stands = λ n lt le.
              stands_next m (take n bytes) 0 p b (In table (at / 256)) (In table (v / 256)) (byte_in n (omega arith) le)
              (omega (arith, size n le)) (s.stands n (omega arith) le) told.2 (omega arith) is_m told.1;
        }

    -- the line goes on behind the place
    beyond : (n : ℕ) → IsFirstText end bytes n → p < n
    beyond n f = elim (cases_lt p n) [
      | inl lt ↦ lt
      | inr over ↦ absurd (s.clear n over (f.ended (omega (arith, s.within))))
    ]

    told : (answer : Bool) → ((n : ℕ) → IsFirstText end bytes n → IsTrue answer ↔ HasRun m (take n bytes) 0)
        → TellsLine (λ l. HasRun m l 0) end bytes (record { has_hit = answer; read = p + 1 })
    told answer so = record {
      within = omega (arith, s.within);
      clear = λ i lt same. s.clear i (omega arith) same;
      told = so;
    }

    -- the line was walked to its last byte
    pub line_finished : (answer : Bool) → (p + 1 ≡ length bytes) ⊎ (slice_index bytes (p + 1) ≡ end)
        → Finishes m (slice_index bytes p) (In table (at / 256)) answer
        → TellsLine (λ l. HasRun m l 0) end bytes (record { has_hit = answer; read = p + 1 })
    line_finished answer last finishes =
        let next : p + 1 ≤ length bytes = omega (arith, s.within) in
        let first : IsFirstText end bytes (p + 1) = record {
          onward = omega arith;
          within = next;
          clear = λ i low lt same. s.clear i (omega arith) same;
          ended = λ more. elim last [ inl all ↦ absurd (omega arith) | inr stops ↦ stops ];
        } in
        line_whole (λ l. HasRun m l 0) end bytes answer (p + 1) first
        (finishes (take (p + 1) bytes) 0 p (s.stands (p + 1) (omega arith) next) (byte_in (p + 1) (omega arith) next)
        (omega (arith, size (p + 1) next)) (omega arith))

    -- what settles the line
    pub line_settled : (answer : Bool) → Settles m (slice_index bytes p) (In table (at / 256)) answer
        → TellsLine (λ l. HasRun m l 0) end bytes (record { has_hit = answer; read = p + 1 })
    line_settled answer so = told answer (λ n f.
        so (take n bytes) 0 p (omega (arith, size n f.within, beyond n f)) (s.stands n (beyond n f) f.within)
        (byte_in n (beyond n f) f.within))

-- what the automaton of a machine tells of a line
pub exact_for : (m n : Nfa) → m ≡ n → (patterns : List Pattern) (bounds : Bounds) (line : List ℕ) (answer : Bool)
    → IsMachineOf n patterns bounds
    → ((ps : List Pattern) → Agrees m ps → IsTrue answer ↔ HasHit ps m.bounds line)
    → IsTrue answer ↔ HasHit patterns bounds line
exact_for m n same patterns bounds line answer is exact =
    let P : Nfa → Type 0 = λ m. Agrees m patterns → (IsTrue answer ↔ HasHit patterns m.bounds line) in
    let Q : Bounds → Type 0 = λ b. IsTrue answer ↔ HasHit patterns b line in
    subst Q is.same_bounds (subst P same (exact patterns) is.agrees)

-- what is told of runs is told of hits
pub tells_hits : (m : Nfa) (patterns : List Pattern) (end : ℕ) (bytes : List ℕ) (known : Option KnownLine)
    → Agrees m patterns → IsTrue m.some → IfSome known (TellsLine (λ l. HasRun m l 0) end bytes)
    → IfSome known (TellsLine (HasHit patterns m.bounds) end bytes)
tells_hits m patterns end bytes None agrees some is = tt
tells_hits m patterns end bytes (Some known) agrees some is = record {
  within = is.within;
  clear = is.clear;
  told = λ n f. exact_so m patterns (take n bytes) known.has_hit agrees some (is.told n f);
}
