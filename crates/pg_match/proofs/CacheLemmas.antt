-- The DFA cache: its rows, steps and flags.
use Rattle.std.proofs.Common.{◌≡◌, ◌≢◌, ℕ, zero, suc, ◌+◌, ◌-◌, ◌*◌, ◌/◌, ◌<◌, ◌≤◌, ◌⊎◌, ◌↔◌, inl, inr, List}
use Rattle.std.proofs.Common.{[], ◌∷◌, ◌++◌, take}
use Rattle.std.proofs.Common.{length, get_or, set, replicate, Bool, true, false, true≢false, Option, Some, None, refl}
use Rattle.std.proofs.Common.{sym, ap, ◌∙◌, subst, arith, IsTrue, length-set, get_or-set_same, get_or-set_other}
use Rattle.std.specs.Prelude.{IfSome, IfOk, if◌then◌else◌, slice_index, slice_get, Result, Ok, Err}
use Rattle.std.specs.Result.{result_ok}
use Rattle.std.proofs.lemmas.List.{get_or_read, take_all}
use Rattle.std.proofs.lemmas.Option.{slice_get-get_or}
use Rattle.std.proofs.lemmas.Bool.{cases_eq, cases_lt}
use Rattle.pg_match.specs.Automata.{Nfa, IsRunnable}
use Rattle.pg_match.specs.Closures.{AllBelow}
use Rattle.pg_match.specs.StateSets.{Members, mark, listed, IsGood, Inserted}
use Rattle.pg_match.specs.Steps.{Has, Goes, Starts, HitBefore, AnswersEnd, ReadsNone}
use Rattle.pg_match.specs.Stands.{Stands, HasRun}
use Rattle.pg_match.specs.Dfas.{Dfa, cut, answer_at_end, flag_at, In, Same, IsShape, Told, IsDfaOf}
use Rattle.pg_match.specs.Dfas.{IsUnknown, IsHopeless, IsBlank, KeepsRows, Grown, SameSets, Marked, MarkedEnd}
use Rattle.pg_match.specs.Dfas.{HasRowRoom, Widened}
use Rattle.pg_match.specs.Dfas.{IsAtRow, IsRowAt, Learned, Finishes, Settles}
use Rattle.pg_match.specs.Views.{dfa, CachesDfaOf}
use Rattle.pg_match.specs.declared.dfa_cache.Cache.{Cache}
use Rattle.pg_match.specs.declared.dfa_search.Next.TheVariants.{Row, Lost}
use Rattle.pg_match.proofs.StateSetLemmas.{listed_in}
use Rattle.pg_match.proofs.StandsLemmas.{stands_next, run_before, run_at_end, no_run}

-- the states of the set before place k are in
pub record Loading (table : Dfa) (r : ℕ) (old s : Members) (k : ℕ) : Type 0 where
  pub good : IsGood s
  pub size : length s.marks ≡ length old.marks
  pub from : (q : ℕ) → Has s q → (j : ℕ) × (cut table r ≤ j) × (j < k) × (slice_index table.pool j ≡ q)
  pub all : (j : ℕ) → cut table r ≤ j → j < k → Has s (slice_index table.pool j)

pub loading_next : (table : Dfa) (r : ℕ) (old s u : Members) (k x : ℕ) → Loading table r old s k → cut table r ≤ k
    → x ≡ slice_index table.pool k
    → Inserted s u x 1 → Loading table r old u (k + 1)
loading_next table r old s u k x a ge is ins = record {
  good = ins.good;
  size = ins.size ∙ a.size;
  from = λ q h. elim (cases_lt 0 (mark s q)) [
    | inl before ↦ let w = a.from q before in (w.0, w.1, omega (arith, w.2), w.3)
    | inr none ↦ let g = ins.fresh q (omega arith) h in (k, ge, omega arith, sym is ∙ sym g.0)
  ];
  all = λ j le lt. elim (cases_eq j k) [
    | inl same ↦ subst (λ v. Has u v) (is ∙ ap (λ v. slice_index table.pool v) (sym same)) ins.here
    | inr other ↦ let h = a.all j le (omega arith) in let e = ins.kept (slice_index table.pool j) h in omega arith
  ];
}

-- a state more, with mark 1
pub ones_more : (old new : Members) (x : ℕ) → Inserted old new x 1 → AllBelow old 1 → AllBelow new 1
ones_more old new x ins below q = elim (cases_lt 0 (mark old q)) [
  | inl before ↦ omega (arith, ins.kept q before, below q)
  | inr none ↦ elim (cases_lt 0 (mark new q)) [
    | inl some ↦ omega (arith, (ins.fresh q (omega arith) some).1)
    | inr absent ↦ omega arith
  ]
]

-- the first k states were copied
pub record Copying (old new : Dfa) (s : Members) (start k : ℕ) : Type 0 where
  pub size : length new.pool ≡ length old.pool
  pub before : (j : ℕ) → j < start → slice_index new.pool j ≡ slice_index old.pool j
  pub copied : (j : ℕ) → j < k → slice_index new.pool (start + j) ≡ listed s j
  pub steps : new.steps ≡ old.steps
  pub ends : new.ends ≡ old.ends
  pub flags : new.flags ≡ old.flags
  pub cuts : new.cuts ≡ old.cuts
  pub count : new.count ≡ old.count

-- what the cache reads
pub same_list : (table : Dfa) (r start : ℕ) (s : Members) → IsGood s → start ≡ cut table r
    → start + s.len ≡ cut table (r + 1)
    → ((j : ℕ) → j < s.len → get_or table.pool (start + j) 0 ≡ get_or s.order j 0) → Same (Has s) (In table r)
same_list table r start s good from to eqs q = (
  λ h. let w = good.found q h in (start + w.0, omega arith, omega (arith, w.1), eqs w.0 w.1 ∙ w.2),
  λ h.
      let j : ℕ = h.0 - start in
      let lt : j < s.len = omega (arith, h.1, h.2) in
      let e : start + j ≡ h.0 = omega (arith, h.1) in
      let is : listed s j ≡ q = sym (eqs j lt) ∙ ap (λ v. get_or table.pool v 0) e ∙ h.3 in
      subst (λ v. Has s v) is (good.is_in j lt),
)

pub grown : (n : ℕ) (old mid new : Dfa) (s : Members) (start : ℕ) (flag : Bool) → IsShape n old → IsGood s
    → n ≡ length s.marks → start ≡ cut old (old.count + 1)
    → HasRowRoom old s.len → Copying old mid s start s.len → new.steps ≡ mid.steps
    → new.ends ≡ mid.ends → new.pool ≡ mid.pool
    → new.cuts ≡ set mid.cuts (mid.count + 2) (start + s.len) → new.count ≡ mid.count + 1
    → new.flags ≡ set mid.flags (mid.count + 1) flag → Grown n old new s flag
grown n old mid new s start flag shape good size from room copy steps ends pool cuts0 count flags0 =
    let cuts : new.cuts ≡ set mid.cuts (old.count + 2) (start + s.len) = cuts0
    ∙ ap (λ v. set mid.cuts (v + 2) (start + s.len)) copy.count in
    let a : new.count ≡ old.count + 1 = count ∙ ap (λ v. v + 1) copy.count in
    let f = shape.few in
    let other = room.few in
    let fit : start + s.len ≤ length old.pool = omega (arith, room.pool, from) in
    let z1 = shape.cuts_size in
    let cut_old : (r : ℕ) → r ≤ old.count + 1 → cut new r ≡ cut old r =
    λ r le. ap (λ v. slice_index v r) cuts ∙ get_or-set_other mid.cuts (old.count + 2) r (start + s.len) 0 (omega arith)
    ∙ ap (λ v. slice_index v r) copy.cuts in
    let flags : new.flags ≡ set mid.flags (old.count + 1) flag = flags0
    ∙ ap (λ v. set mid.flags (v + 1) flag) copy.count in
    let z2 = shape.flags_size in
    let flags_len : length mid.flags ≡ 257 = ap length copy.flags ∙ z2 in
    let midlen : length mid.cuts ≡ 258 = ap length copy.cuts ∙ z1 in
    let cut_new : cut new (old.count + 2) ≡ start + s.len =
    ap (λ v. slice_index v (old.count + 2)) cuts
    ∙ get_or-set_same mid.cuts (old.count + 2) (start + s.len) 0 (omega arith) in
    let pool_eq : (j : ℕ) → slice_index new.pool j ≡ slice_index mid.pool j = λ j. ap (λ v. slice_index v j) pool in
    let two : old.count + 1 + 1 ≡ old.count + 2 = omega arith in
    let top : cut new (new.count + 1) ≡ start + s.len = ap (λ v. cut new (v + 1)) a ∙ ap (cut new) two ∙ cut_new in
    let keep : (r : ℕ) → r ≤ old.count → Same (In old r) (In new r) = λ r le q.
    let c0 = cut_old r (omega arith) in
    let c1 = cut_old (r + 1) (omega arith) in
    let u = shape.upto (r + 1) (omega arith) in (
      λ h. (
        h.0,
        omega (arith, h.1, c0),
        omega (arith, h.2, c1),
        pool_eq h.0 ∙ copy.before h.0 (omega (arith, h.2))
            ∙ h.3,
      ),
      λ h. (
        h.0,
        omega (arith, h.1, c0),
        omega (arith, h.2, c1),
        sym (copy.before h.0 (omega (arith, h.2)))
            ∙ sym (pool_eq h.0) ∙ h.3,
      ),
    ) in
    let here_from : cut new new.count ≡ start = ap (cut new) a ∙ cut_old (old.count + 1) (omega arith) ∙ sym from in
    let here : Same (Has s) (In new new.count) =
    same_list new new.count start s good (sym here_from) (sym top) (λ j lt. pool_eq (start + j) ∙ copy.copied j lt) in
    record {
      shape = record {
        steps_size = let e = ap length (steps ∙ copy.steps) in omega (arith, a, e, room.steps);
        ends_size = ap length (ends ∙ copy.ends) ∙ shape.ends_size;
        pool_size = let e = ap length pool in let e2 = copy.size in let b = shape.pool_size in omega arith;
        flags_size = ap length flags ∙ length-set mid.flags (old.count + 1) flag ∙ flags_len;
        none = cut_old 0 (omega arith) ∙ shape.none ∙ sym (cut_old 1 (omega arith));
        cuts_size = ap length cuts ∙ length-set mid.cuts (old.count + 2) (start + s.len) ∙ midlen;
        few = omega arith;
        upto = λ r le. elim (cases_eq r (old.count + 2)) [
          | inl same ↦ let e : cut new r ≡ start + s.len = ap (cut new) same ∙ cut_new in omega arith
          | inr less ↦ let e = cut_old r (omega arith) in let u = shape.upto r (omega arith) in omega arith
        ];
        order = λ r le. elim (cases_eq r (old.count + 1)) [
          | inl same ↦
              let e : cut new r ≡ start = ap (cut new) same ∙ cut_old (old.count + 1) (omega arith) ∙ sym from in
              let e2 : cut new (r + 1) ≡ start + s.len = ap (λ v. cut new (v + 1)) same ∙ ap (cut new) two ∙ cut_new in
              omega arith
          | inr less ↦ let e = cut_old r (omega arith) in let e2 = cut_old (r + 1) (omega arith) in let u =
              shape.order r (omega arith) in omega arith
        ];
        room = let rm = shape.room in let e = ap length pool in let e2 = copy.size in omega arith;
        within = λ r q le h. elim (cases_eq r new.count) [
          | inl same ↦ let w = (here q).1 (subst (λ v. In new v q) same h) in let g = good.found q w in let i =
              listed_in s g.0 good g.1 in omega (arith, i, g.2, size)
          | inr less ↦ let le' : r ≤ old.count = omega arith in shape.within r q le' ((keep r le' q).1 h)
        ];
      };
      keeps = record {
        sets = keep;
        flags = λ r le.
            ap (λ v. get_or v r false) flags ∙ get_or-set_other mid.flags (old.count + 1) r flag false (omega arith)
            ∙ ap (λ v. get_or v r false) copy.flags;
        more = omega arith;
      };
      flag_here =
          ap (flag_at new) a ∙ ap (λ v. get_or v (old.count + 1) false) flags
          ∙ get_or-set_same mid.flags (old.count + 1) flag false (omega arith);
      steps = λ i. ap (λ v. slice_index v i) (steps ∙ copy.steps);
      ends = ends ∙ copy.ends;
      count = a;
      here = here;
    }

-- how long a list is that was made longer
pub resized : (n k m : ℕ) (is_ok : Bool) → IsTrue is_ok → m ≡ (if is_ok then n else k) → m ≡ n
resized n k m false ok e = absurd (true≢false (sym ok))
resized n k m true ok e = e

pub zeros : (xs : List ℕ) (n : ℕ) → xs ≡ replicate n 0 → (i : ℕ) → slice_index xs i ≡ 0
zeros xs n e i = ap (λ v. slice_index v i) e ∙ at n i
  where
    at : (n i : ℕ) → slice_index (replicate n 0) i ≡ 0
    at zero i = refl
    at (suc n) zero = refl
    at (suc n) (suc i) = at n i

-- numbers are read as before where zeros were put behind them
pub padded : (xs ys : List ℕ) (n k : ℕ) (is_ok : Bool) → IsTrue is_ok → length xs ≤ n
    → ys ≡ (if is_ok then take n xs ++ replicate k 0 else xs) → (i : ℕ) → slice_index ys i ≡ slice_index xs i
padded xs ys n k false ok le e i = absurd (true≢false (sym ok))
padded xs ys n k true ok le e i =
    ap (λ v. slice_index v i) (e ∙ ap (λ v. v ++ replicate k 0) (take_all n xs le)) ∙ behind xs k i
  where
    behind : (xs : List ℕ) (k i : ℕ) → slice_index (xs ++ replicate k 0) i ≡ slice_index xs i
    behind [] k i = zeros _ k refl i
    behind (x ∷ xs) k zero = refl
    behind (x ∷ xs) k (suc i) = behind xs k i

pub same_self : (S : ℕ → Type 0) → Same S S
same_self S q = (λ h. h, λ h. h)

pub same_back : (S U : ℕ → Type 0) → Same S U → Same U S
same_back S U s q = ((s q).1, (s q).0)

pub same_on : (S U V : ℕ → Type 0) → Same S U → Same U V → Same S V
same_on S U V s u q = ((λ h. (u q).0 ((s q).0 h)), (λ h. (s q).1 ((u q).1 h)))

pub goes_same : (m : Nfa) (b : ℕ) (S S' U U' : ℕ → Type 0) → Same S S' → Same U U' → Goes m b S U → Goes m b S' U'
goes_same m b S S' U U' s u g = record {
  comes = λ r h. elim (g.comes r ((u r).1 h)) [
    | inl w ↦ inl (w.0, w.1, (s w.0).0 w.2, w.3, w.4)
    | inr w ↦ inr w
  ];
  goes = λ q r h read. (u r).0 (g.goes q r ((s q).1 h) read);
  seeded = λ w. (u m.start).0 (g.seeded w);
  still = λ q h r edge. (u r).0 (g.still q ((u q).1 h) r edge);
}

pub answers_same : (m : Nfa) (first : Bool) (S U : ℕ → Type 0) (answer : Bool) → Same S U → AnswersEnd m first S answer
    → AnswersEnd m first U answer
answers_same m first S U true s h = (h.0, (s h.0).0 h.1, h.2)
answers_same m first S U false s h = λ l q n at empty run. h l q n ((s q).1 at) empty run

pub starts_same : (m : Nfa) (first : Bool) (S U : ℕ → Type 0) → Same S U → Starts m first S → Starts m first U
starts_same m first S U s g = record {
  comes = λ r h. g.comes r ((s r).1 h);
  seeded = (s m.start).0 g.seeded;
  still = λ q h r edge. (s r).0 (g.still q ((s q).1 h) r edge);
}

pub stands_at : (m : Nfa) (l : List ℕ) (from p : ℕ) (S U : ℕ → Type 0) → Same S U → Stands m l from p S
    → Stands m l from p U
stands_at m l from p S U same s = record {
  sound = λ q h. s.sound q ((same q).1 h);
  complete = λ v n j ge le o run past.
      let c = s.complete v n j ge le o run past in (c.0, c.1, (same c.0).0 c.2, c.3);
  closed = λ lt q r h edge. (same r).0 (s.closed lt q r ((same q).1 h) edge);
  none = s.none;
}

pub nothing_known : (v : ℕ) → v ≡ 0 → IsUnknown v
nothing_known v zero_v = (omega arith, λ one. omega arith, λ two. omega arith)

told_moves : (m : Nfa) (old new : Dfa) (r b v : ℕ) → KeepsRows old new → r ≤ old.count → Told m old r b v
    → Told m new r b v
told_moves m old new r b v k le (inl unknown) = inl unknown
told_moves m old new r b v k le (inr (inl hit)) = inr (inl (hit.0, ((k.sets r le 0).0 hit.1.0, hit.1.1)))
told_moves m old new r b v k le (inr (inr (inl dead))) =
    let back = same_back (In old r) (In new r) (k.sets r le) in
    inr (inr (inl (dead.0, λ l from p lt s. dead.1 l from p lt (stands_at m l from p (In new r) (In old r) back s))))
told_moves m old new r b v k le (inr (inr (inr go))) =
    let from = k.sets r le in
    let to = k.sets go.0 go.3 in
    let more = k.more in
    inr (inr (inr (
      go.0,
      go.1,
      go.2,
      omega (arith, go.3),
      λ h. go.4 ((from 0).1 h.0, h.1),
      goes_same m b (In old r) (In new r) (In old go.0) (In new go.0) from to go.5,
      λ f q y h read. go.6 (sym (k.flags go.0 go.3) ∙ f) q y ((from q).1 h) read,
    )))

-- the DFA of a cache that keeps the rows, where each step is blank, or is an old one, or is told
moved : (m : Nfa) (old new : Dfa) → IsDfaOf m old → IsShape (length m.states) new → KeepsRows old new
    → ((r b : ℕ) → r ≤ new.count → b < 256 → (slice_index new.steps (256 * r + b) ≡ slice_index old.steps (256 * r + b))
    ⊎ Told m new r b (slice_index new.steps (256 * r + b)))
    → ((i : ℕ) → 256 * (new.count + 1) ≤ i → slice_index new.steps i ≡ slice_index old.steps i)
    → ((r : ℕ) (answer : Bool) → answer_at_end new r ≡ Some answer → (answer_at_end old r ≡ Some answer)
    ⊎ ((r ≤ new.count) × AnswersEnd m false (In new r) answer))
    → (old.count ≡ 0 → 1 ≤ new.count → Starts m true (In new 1)) → IsDfaOf m new
moved m old new is shape k cells past ends first =
    let more = k.more in
    record {
      shape = shape;
      told = λ r b le lt. elim (cells r b le lt) [
        | inl same ↦ elim (cases_lt old.count r) [
          | inl new_row ↦ inl (nothing_known _ (same ∙ is.blank (256 * r + b) (omega arith)))
          | inr old_row ↦
              let le' : r ≤ old.count = omega arith in
              subst (Told m new r b) (sym same) (told_moves m old new r b _ k le' (is.told r b le' lt))
        ]
        | inr told ↦ told
      ];
      blank = λ i le. past i le ∙ is.blank i (omega arith);
      told_end = λ r answer e. elim (ends r answer e) [
        | inl same ↦
            let w = is.told_end r answer same in
            (omega (arith, w.0), answers_same m false (In old r) (In new r) answer (k.sets r w.0) w.1)
        | inr told ↦ told
      ];
      first = λ some. elim (cases_eq old.count 0) [
        | inl none ↦ first none some
        | inr had ↦ starts_same m true (In old 1) (In new 1) (k.sets 1 (omega arith)) (is.first (omega arith))
      ];
    }

-- a set was added to the cache
pub dfa_grown : (m : Nfa) (old new : Dfa) (s : Members) (flag : Bool) → IsDfaOf m old
    → Grown (length m.states) old new s flag
    → (old.count ≡ 0 → Starts m true (Has s)) → IsDfaOf m new
dfa_grown m old new s flag is g first =
    let n = g.count in
    moved m old new is g.shape g.keeps (λ r b le lt. inl (g.steps (256 * r + b))) (λ i le. g.steps i)
    (λ r answer e. inl (sym (ap (λ v. get_or v r None) g.ends) ∙ e))
    (λ none some.
    let one : new.count ≡ 1 = omega arith in
    starts_same m true (Has s) (In new 1) (subst (λ v. Same (Has s) (In new v)) one g.here) (first none))

-- a set was added, if there was room
pub dfa_added : (m : Nfa) (old new : Dfa) (s : Members) (flag r : Bool) → IsDfaOf m old
    → (IsTrue r → Grown (length m.states) old new s flag) → (r ≡ false → new ≡ old)
    → (old.count ≡ 0 → Starts m true (Has s)) → IsDfaOf m new
dfa_added m old new s flag true is grown_so _ first = dfa_grown m old new s flag is (grown_so refl) first
dfa_added m old new s flag false is _ same first = subst (IsDfaOf m) (sym (same refl)) is

pub sets_keep : (old new : Dfa) → SameSets old new → KeepsRows old new
sets_keep old new w =
    let c : (r : ℕ) → cut new r ≡ cut old r = λ r. ap (λ u. slice_index u r) w.cuts in
    let p : (j : ℕ) → slice_index new.pool j ≡ slice_index old.pool j = λ j. ap (λ u. slice_index u j) w.pool in
    let n = w.count in
    record {
      sets = λ r le q.
          let a = c r in
          let b = c (r + 1) in (
            λ h. (h.0, omega (arith, h.1), omega (arith, h.2), p h.0 ∙ h.3),
            λ h. (h.0, omega (arith, h.1), omega (arith, h.2), sym (p h.0) ∙ h.3),
          );
      flags = λ r le. ap (λ u. get_or u r false) w.flags;
      more = omega arith;
    }

pub sets_shape : (n : ℕ) (old new : Dfa) → IsShape n old → SameSets old new → length new.steps ≡ length old.steps
    → length new.ends ≡ length old.ends
    → IsShape n new
sets_shape n old new s w steps ends =
    let k = sets_keep old new w in
    let count = w.count in
    let c : (r : ℕ) → cut new r ≡ cut old r = λ r. ap (λ u. slice_index u r) w.cuts in
    let t : cut new (new.count + 1) ≡ cut old (old.count + 1) = ap (λ v. cut new (v + 1)) count ∙ c (old.count + 1) in
    let pool = ap length w.pool in
    record {
      steps_size = let b = s.steps_size in omega arith;
      ends_size = ends ∙ s.ends_size;
      pool_size = let b = s.pool_size in omega arith;
      flags_size = ap length w.flags ∙ s.flags_size;
      cuts_size = ap length w.cuts ∙ s.cuts_size;
      none = c 0 ∙ s.none ∙ sym (c 1);
      few = let f = s.few in omega arith;
      upto = λ r le. let a = c r in let u = s.upto r (omega arith) in omega arith;
      order = λ r le. let a = c r in let b = c (r + 1) in let u = s.order r (omega arith) in omega arith;
      room = let f = s.room in omega arith;
      within = λ r q le h. let le' : r ≤ old.count = omega arith in s.within r q le' ((k.sets r le' q).1 h);
    }

pub mark_keeps : (old new : Dfa) (i v : ℕ) → Marked old new i v → KeepsRows old new
mark_keeps old new i v w = sets_keep old new w.sets

pub keeps_on : (old mid new : Dfa) → KeepsRows old mid → KeepsRows mid new → KeepsRows old new
keeps_on old mid new k n =
    let more = k.more in
    record {
      sets = λ r le. same_on (In old r) (In mid r) (In new r) (k.sets r le) (n.sets r (omega arith));
      flags = λ r le. n.flags r (omega arith) ∙ k.flags r le;
      more = omega (arith, more, n.more);
    }

module _ (old new : Dfa) (w : Widened old new) where
  same_cut : (r : ℕ) → cut new r ≡ cut old r
  same_cut r = ap (λ u. slice_index u r) w.cuts

  widened_sets : (r : ℕ) → Same (In old r) (In new r)
  widened_sets r q =
      let a = same_cut r in
      let b = same_cut (r + 1) in (
        λ h. (h.0, omega (arith, h.1), omega (arith, h.2), w.pool h.0 ∙ h.3),
        λ h. (h.0, omega (arith, h.1), omega (arith, h.2), sym (w.pool h.0) ∙ h.3),
      )

  pub widened_keeps : KeepsRows old new
  widened_keeps =
      let n = w.count in
      record {
        sets = λ r le. widened_sets r;
        flags = λ r le. ap (λ u. get_or u r false) w.flags;
        more = omega arith;
      }

  pub widened_shape : (n : ℕ) → IsShape n old → IsShape n new
  widened_shape n s =
      let n_rows = w.count in
      let top : cut new (new.count + 1) ≡ cut old (old.count + 1) =
      ap (λ v. cut new (v + 1)) n_rows ∙ same_cut (old.count + 1) in
      record {
        steps_size = let b = s.steps_size in let m = w.more_steps in omega arith;
        ends_size = ap length w.ends ∙ s.ends_size;
        pool_size = w.few;
        flags_size = ap length w.flags ∙ s.flags_size;
        cuts_size = ap length w.cuts ∙ s.cuts_size;
        none = same_cut 0 ∙ s.none ∙ sym (same_cut 1);
        few = let f = s.few in omega arith;
        upto = λ r le. let a = same_cut r in let u = s.upto r (omega arith) in omega arith;
        order = λ r le. let a = same_cut r in let b = same_cut (r + 1) in let u = s.order r (omega arith) in
            omega arith;
        room = let f = s.room in let m = w.more_states in omega arith;
        within = λ r q le h. s.within r q (omega arith) ((widened_sets r q).1 h);
      }

-- a row in more memory
pub grown_widened : (n : ℕ) (old wide new : Dfa) (s : Members) (flag : Bool) → Widened old wide
    → Grown n wide new s flag → Grown n old new s flag
grown_widened n old wide new s flag w g = record {
  shape = g.shape;
  keeps = keeps_on old wide new (widened_keeps old wide w) g.keeps;
  steps = λ i. g.steps i ∙ w.steps i;
  ends = g.ends ∙ w.ends;
  count = g.count ∙ ap (λ v. v + 1) w.count;
  here = g.here;
  flag_here = g.flag_here;
}

-- where a byte leads was written
pub dfa_marked : (m : Nfa) (old new : Dfa) (r b v : ℕ) → IsDfaOf m old → Marked old new (256 * r + b) v
    → r ≤ old.count → b < 256
    → Told m old r b v → IsDfaOf m new
dfa_marked m old new r b v is w le lt told =
    let k = sets_keep old new w.sets in
    let n = w.sets.count in
    let few = is.shape.few in
    let size = is.shape.steps_size in
    let here : slice_index new.steps (256 * r + b) ≡ v =
    ap (λ u. slice_index u (256 * r + b)) w.steps ∙ get_or-set_same old.steps (256 * r + b) v 0 (omega arith) in
    let other : (i : ℕ) → i ≢ 256 * r + b → slice_index new.steps i ≡ slice_index old.steps i =
    λ i ne. ap (λ u. slice_index u i) w.steps ∙ get_or-set_other old.steps (256 * r + b) i v 0 ne in
    moved m old new is
    (sets_shape (length m.states) old new is.shape w.sets (ap length w.steps ∙ length-set old.steps (256 * r + b) v)
    (ap length w.ends)) k
    (λ r' b' le' lt'. elim (cases_eq (256 * r' + b') (256 * r + b)) [
      | inl same ↦
          let er : r ≡ r' = omega arith in
          let eb : b ≡ b' = omega arith in
          let moved_told = told_moves m old new r b v k le told in
          inr (subst (λ u. Told m new r' b' (slice_index new.steps u)) (sym same)
          (subst (Told m new r' b') (sym here)
          (subst (λ u. Told m new r' u v) eb (subst (λ u. Told m new u b v) er moved_told))))
      | inr differs ↦ inl (other (256 * r' + b') differs)
    ]) (λ i past. other i (omega arith)) (λ r' answer e. inl (sym (ap (λ u. get_or u r' None) w.ends) ∙ e))
    (λ none some. absurd (omega arith))

-- the answer at a line's end was written
pub dfa_marked_end : (m : Nfa) (old new : Dfa) (r : ℕ) (answer : Bool) → IsDfaOf m old
    → MarkedEnd old new r answer → r ≤ old.count
    → AnswersEnd m false (In old r) answer → IsDfaOf m new
dfa_marked_end m old new r answer is w le told =
    let k = sets_keep old new w.sets in
    let n = w.sets.count in
    let few = is.shape.few in
    let size = is.shape.ends_size in
    let here : answer_at_end new r ≡ Some answer =
    ap (λ u. get_or u r None) w.ends ∙ get_or-set_same old.ends r (Some answer) None (omega arith) in
    moved m old new is
    (sets_shape (length m.states) old new is.shape w.sets (ap length w.steps)
    (ap length w.ends ∙ length-set old.ends r (Some answer))) k
    (λ r' b' le' lt'. inl (ap (λ u. slice_index u (256 * r' + b')) w.steps))
    (λ i past. ap (λ u. slice_index u i) w.steps)
    (λ r' answer' e. elim (cases_eq r' r) [
      | inl same ↦
          let both : Some answer' ≡ Some answer = sym e ∙ ap (answer_at_end new) same ∙ here in
          let is_so : answer ≡ answer' = sym (same_some answer' answer both) in
          inr (
            omega arith,
            subst (λ u. AnswersEnd m false (In new u) answer') (sym same)
                (subst (AnswersEnd m false (In new r)) is_so
                (answers_same m false (In old r) (In new r) answer (k.sets r le) told)),
          )
      | inr differs ↦ inl (sym (ap (λ u. get_or u r' None) w.ends
          ∙ get_or-set_other old.ends r r' (Some answer) None differs) ∙ e)
    ]) (λ none some. absurd (omega arith))
  where
    same_some : (a c : Bool) → Some a ≡ Some c → a ≡ c
    same_some a c e = cc

-- a row's number, and the state of a walk
pub row_of : (state r : ℕ) → state ≡ 256 * r → state / 256 ≡ r
row_of state r e = omega arith

pub at_row : (t : Dfa) (state r : ℕ) → state ≡ 256 * r → r ≤ t.count → IsAtRow t state
at_row t state r e le =
    let d = row_of state r e in
    record { row = omega arith; known = omega arith }

pub in_table : (m : Nfa) (table : Dfa) (state b : ℕ) → IsDfaOf m table → IsAtRow table state → b < 256
    → state + b < length table.steps
in_table m table state b is s lt = omega (arith, is.shape.steps_size, is.shape.few, s.row, s.known)

-- what is told of the cell of a walk's state and a byte
told_at : (m : Nfa) (table : Dfa) (state v b : ℕ) → IsDfaOf m table → IsAtRow table state → b < 256
    → v ≡ slice_index table.steps (state + b) → Told m table (state / 256) b v
told_at m table state v b is s lt read =
    let cell : state + b ≡ 256 * (state / 256) + b = ap (λ u. u + b) s.row in
    let here : v ≡ slice_index table.steps (256 * (state / 256) + b) = read ∙ ap (slice_index table.steps) cell in
    subst (Told m table (state / 256) b) (sym here) (is.told (state / 256) b s.known lt)

-- one step of the walk
pub row_next : (m : Nfa) (table : Dfa) (state v b : ℕ) → IsDfaOf m table → IsAtRow table state → b < 256
    → v ≡ slice_index table.steps (state + b) → 256 ≤ v
    → IsAtRow table v × (HitBefore m b (In table (state / 256)) → ⊥)
    × Goes m b (In table (state / 256)) (In table (v / 256))
    × (flag_at table (v / 256) ≡ true → ReadsNone m b (In table (state / 256)))
row_next m table state v b is s lt read big =
    elim (told_at m table state v b is s lt read) [
      | inl unknown ↦ absurd (omega (arith, unknown.0))
      | inr rest ↦ elim rest [
        | inl hit ↦ absurd (omega (arith, hit.0))
        | inr more ↦ elim more [
          | inl dead ↦ absurd (omega (arith, dead.0))
          | inr go ↦ (
            at_row table v go.0 go.1 go.3,
            go.4,
            subst (λ k. Goes m b (In table (state / 256)) (In table k)) (sym (row_of v go.0 go.1)) go.5,
            λ f. go.6 (subst (λ k. flag_at table k ≡ true) (row_of v go.0 go.1) f),
          )
        ]
      ]
    ]

-- a step in the cache, at a place of a line
pub stands_step : (m : Nfa) (table : Dfa) (l : List ℕ) (from p u state v b : ℕ) → u ≡ p + 1 → IsRunnable m
    → IsDfaOf m table → IsAtRow table state → b < 256
    → slice_get l p ≡ Some b → p < length l → from ≤ p + 1 → v ≡ slice_index table.steps (state + b) → 256 ≤ v
    → IsRowAt m table l from p state → IsRowAt m table l from u v
stands_step m table l from p u state v b e is_m is s lt byte more later read big at =
    let n = row_next m table state v b is s lt read big in
    subst (λ w. IsRowAt m table l from w v) (sym e)
    (stands_next m l from p b (In table (state / 256)) (In table (v / 256)) byte more at n.2 later is_m n.1)

-- in the middle of a walk
pub record Walking (m : Nfa) (table : Dfa) (l : List ℕ) (from state p v : ℕ) : Type 0 where
  pub within : p < length l
  pub onward : from ≤ p
  pub row : IsAtRow table v
  pub stands : (start : ℕ) → start ≤ from + 1 → IsRowAt m table l start from state → IsRowAt m table l start p v

pub walking_next : (m : Nfa) (table : Dfa) (l : List ℕ) (from state p u at v b : ℕ) → u ≡ p + 1 → IsRunnable m
    → IsDfaOf m table → b < 256
    → slice_get l p ≡ Some b → u < length l → v ≡ slice_index table.steps (at + b) → 256 ≤ v
    → Walking m table l from state p at → Walking m table l from state u v
walking_next m table l from state p u at v b e is_m is lt byte more read big w =
    let on = w.onward in
    record {
      within = more;
      onward = omega arith;
      row = (row_next m table at v b is w.row lt read big).0;
      stands = λ start le s.
          stands_step m table l start p u at v b e is_m is w.row lt byte (omega arith) (omega arith) read big
          (w.stands start le s);
    }

-- the same, as the table and the line are read
pub walking_read : (m : Nfa) (table : Dfa) (l : List ℕ) (from state p u at v : ℕ) → u ≡ p + 1 → IsRunnable m
    → IsDfaOf m table → get_or l p 0 < 256 → u < length l → v ≡ get_or table.steps (at + get_or l p 0) v → 256 ≤ v
    → Walking m table l from state p at → Walking m table l from state u v
walking_read m table l from state p u at v e is_m is lt more read big w =
    let b = get_or l p 0 in
    let inside = in_table m table at b is w.row lt in
    walking_next m table l from state p u at v b e is_m is lt (slice_get-get_or l p 0 w.within) more
    (get_or_read table.steps _ v inside read 0) big w

abbrev pub none : Option Bool
none = None

pub nones : (xs : List (Option Bool)) (n : ℕ) → xs ≡ replicate n none → (i : ℕ) → get_or xs i None ≡ None
nones xs n e i = ap (λ v. get_or v i None) e ∙ at n i
  where
    at : (n i : ℕ) → get_or (replicate n none) i None ≡ None
    at zero i = refl
    at (suc n) zero = refl
    at (suc n) (suc i) = at n i

pub blank_table : (table : Dfa) → 256 ≤ length table.steps → length table.ends ≡ 257
    → length table.pool ≤ 1048576
    → length table.cuts ≡ 258 → length table.flags ≡ 257 → table.count ≡ 0 → ((i : ℕ) → slice_index table.steps i ≡ 0)
    → ((r : ℕ) → answer_at_end table r ≡ None) → cut table 0 ≡ cut table 1 → cut table 1 ≤ length table.pool
    → IsBlank table
blank_table table a b c d f none s l same fits =
    let flat : (r : ℕ) → r ≤ 1 → cut table r ≡ cut table 1 = λ r le. elim (cases_eq r 1) [
      | inl one ↦ ap (cut table) one
      | inr other ↦ let z : r ≡ 0 = omega arith in ap (cut table) z ∙ same
    ] in
    let last : cut table (table.count + 1) ≡ cut table 1 = ap (λ v. cut table (v + 1)) none in
    record {
      shape = λ n. record {
        steps_size = omega (arith, none, a);
        ends_size = b;
        pool_size = c;
        flags_size = f;
        cuts_size = d;
        none = same;
        few = omega arith;
        upto = λ r le. let u = flat r (omega arith) in omega arith;
        order = λ r le. let u = flat r (omega arith) in let v = flat (r + 1) (omega arith) in omega arith;
        room = omega arith;
        within = λ r q le h. let u = flat r (omega arith) in let v = flat (r + 1) (omega arith) in
            absurd (omega (arith, h.1, h.2));
      };
      steps = s;
      ends = l;
      count = none;
    }

-- the steps and the answers of a cache were cleared, and its sets taken out
pub blank_again : (n i j : ℕ) (old new : Dfa) → IsShape n old → new.steps ≡ replicate i 0
    → new.ends ≡ replicate j none
    → 256 ≤ length new.steps → length new.ends ≡ 257 → new.flags ≡ old.flags → new.pool ≡ old.pool
    → new.cuts ≡ old.cuts
    → new.count ≡ 0 → IsBlank new
blank_again n i j old new s steps ends a b flags pool cuts count =
    let upto = s.upto 1 (omega arith) in
    let room = s.room in
    let size = ap length pool in
    let zeroth : cut new 0 ≡ cut old 0 = ap (λ v. slice_index v 0) cuts in
    let first : cut new 1 ≡ cut old 1 = ap (λ v. slice_index v 1) cuts in
    blank_table new a b (omega (arith, s.pool_size)) (ap length cuts ∙ s.cuts_size)
    (ap length flags ∙ s.flags_size) count
    (zeros new.steps i steps) (nones new.ends j ends) (zeroth ∙ s.none ∙ sym first) (omega arith)

pub blank_dfa : (m : Nfa) (table : Dfa) → IsBlank table → IsDfaOf m table
blank_dfa m table b =
    let none = b.count in
    record {
      shape = b.shape (length m.states);
      told = λ r c le lt. inl (nothing_known _ (b.steps (256 * r + c)));
      blank = λ i le. b.steps i;
      told_end = λ r answer e. absurd (no_some answer (sym (b.ends r) ∙ e));
      first = λ some. absurd (omega arith);
    }
  where
    no_some : (a : Bool) → None ≡ Some a → ⊥
    no_some a e = cc

hit_same : (m : Nfa) (b : ℕ) (S U : ℕ → Type 0) → Same S U → HitBefore m b S → HitBefore m b U
hit_same m b S U s h = ((s 0).0 h.0, h.1)

pub hit_there : (m : Nfa) (b : ℕ) (S U : ℕ → Type 0) → Same S U → HitBefore m b U → HitBefore m b S
hit_there m b S U s h = ((s 0).1 h.0, h.1)

-- where the byte leads from row r of the cache: to row k
pub told_row : (m : Nfa) (old mid : Dfa) (r b k v : ℕ) (s u : Members) → v ≡ 256 * k → 1 ≤ k → k ≤ mid.count
    → r ≤ old.count
    → KeepsRows old mid → Same (In old r) (Has s) → (HitBefore m b (Has s) → ⊥) → Goes m b (Has s) (Has u)
    → Same (Has u) (In mid k)
    → (flag_at mid k ≡ true → ReadsNone m b (Has s)) → Told m mid r b v
told_row m old mid r b k v s u e ge le le_r keeps from missed goes to fresh =
    let back = same_on (Has s) (In old r) (In mid r) (same_back (In old r) (Has s) from) (keeps.sets r le_r) in
    inr (inr (inr (
      k,
      e,
      ge,
      le,
      λ h. missed (hit_there m b (Has s) (In mid r) back h),
      goes_same m b (Has s) (In mid r) (Has u) (In mid k) back to goes,
      λ f q y h read. fresh f q y ((back q).1 h) read,
    )))

pub learned_row : (m : Nfa) (old mid new : Dfa) (r b k v : ℕ) (s u : Members) → v ≡ 256 * k → k ≤ mid.count
    → KeepsRows mid new → Same (In old r) (Has s) → (HitBefore m b (Has s) → ⊥) → Goes m b (Has s) (Has u)
    → Same (Has u) (In mid k)
    → Learned m old new r b u (Row v)
learned_row m old mid new r b k v s u e le keeps from missed goes to =
    let more = keeps.more in
    let there = same_on (Has u) (In mid k) (In new k) to (keeps.sets k le) in
    let there_too = subst (λ j. Same (Has u) (In new j)) (sym (row_of v k e)) there in (
      at_row new v k e (omega arith),
      λ h. missed (hit_same m b (In old r) (Has s) from h),
      goes_same m b (Has s) (In old r) (Has u) (In new (v / 256)) (same_back (In old r) (Has s) from) there_too goes,
      there_too,
    )

pub learned_lost : (m : Nfa) (old new : Dfa) (r b : ℕ) (s u : Members) → Same (In old r) (Has s)
    → (HitBefore m b (Has s) → ⊥)
    → Goes m b (Has s) (Has u) → Learned m old new r b u Lost
learned_lost m old new r b s u from missed goes = (
  λ h. missed (hit_same m b (In old r) (Has s) from h),
  goes_same m b (Has s) (In old r) (Has u) (Has u) (same_back (In old r) (Has s) from) (same_self (Has u)) goes,
)

-- what a cache says of a row and a byte where a match ends before it
pub told_hit : (m : Nfa) (table : Dfa) (state v b : ℕ) → IsDfaOf m table → IsAtRow table state → b < 256
    → v ≡ slice_index table.steps (state + b) → v ≡ 1 → HitBefore m b (In table (state / 256))
told_hit m table state v b is s lt read one =
    elim (told_at m table state v b is s lt read) [
      | inl unknown ↦ absurd (unknown.1 one)
      | inr rest ↦ elim rest [
        | inl hit ↦ hit.1
        | inr more ↦
            elim more [ inl dead ↦ absurd (omega (arith, dead.0)) | inr go ↦ absurd (omega (arith, go.1, go.2)) ]
      ]
    ]

-- the same where it says that none ends before it or behind it
pub told_dead : (m : Nfa) (table : Dfa) (state v b : ℕ) → IsDfaOf m table → IsAtRow table state → b < 256
    → v ≡ slice_index table.steps (state + b) → v ≡ 2 → IsHopeless m b (In table (state / 256))
told_dead m table state v b is s lt read two =
    elim (told_at m table state v b is s lt read) [
      | inl unknown ↦ absurd (unknown.2 two)
      | inr rest ↦ elim rest [
        | inl hit ↦ absurd (omega (arith, hit.0, two))
        | inr more ↦ elim more [ inl dead ↦ dead.1 | inr go ↦ absurd (omega (arith, go.1, go.2, two)) ]
      ]
    ]

-- the same of the set that was fetched
pub hopeless_there : (m : Nfa) (b : ℕ) (S U : ℕ → Type 0) → Same U S → IsHopeless m b S → IsHopeless m b U
hopeless_there m b S U same h = λ l from p lt s. h l from p lt (stands_at m l from p U S same s)

pub ended_so : (m : Nfa) (l : List ℕ) (from : ℕ) (S : ℕ → Type 0) (answer first : Bool) → IsRunnable m
    → Stands m l from (length l) S
    → (IsTrue first → length l ≡ 0) → (length l ≡ 0 → IsTrue first) → AnswersEnd m first S answer
    → IsTrue answer ↔ HasRun m l from
ended_so m l from S true first is s to_empty empty h = (λ t. run_at_end m l first from S s is to_empty h, λ run. refl)
ended_so m l from S false first is s to_empty empty h =
    (λ t. absurd (true≢false (sym t)), λ run. absurd (no_run m l first from S s empty h run))

pub settles_hit : (m : Nfa) (b : ℕ) (S : ℕ → Type 0) → IsRunnable m → HitBefore m b S → Settles m b S true
settles_hit m b S is h = λ l from p lt s byte. (λ t. run_before m l from p b S s is byte lt h, λ run. refl)

pub settles_dead : (m : Nfa) (b : ℕ) (S : ℕ → Type 0) → IsHopeless m b S → Settles m b S false
settles_dead m b S none = λ l from p lt s byte.
    (λ t. absurd (true≢false (sym t)), λ run. absurd (none l from p lt s byte run))

-- what settles a line from any byte on does so from the last one on
pub settled_finishes : (m : Nfa) (b : ℕ) (S : ℕ → Type 0) (answer : Bool) → Settles m b S answer → Finishes m b S answer
settled_finishes m b S answer so = λ l from p s byte end le. so l from p (omega arith) s byte

pub finishes_hit : (m : Nfa) (b : ℕ) (S : ℕ → Type 0) → IsRunnable m → HitBefore m b S → Finishes m b S true
finishes_hit m b S is h = settled_finishes m b S true (settles_hit m b S is h)

pub finishes_end : (m : Nfa) (b : ℕ) (S U : ℕ → Type 0) (answer : Bool) → IsRunnable m → (HitBefore m b S → ⊥)
    → Goes m b S U
    → AnswersEnd m false U answer → Finishes m b S answer
finishes_end m b S U answer is missed goes at_end = λ l from p s byte end le.
    let next = stands_next m l from p b S U byte (omega arith) s goes (omega arith) is missed in
    let last = subst (λ i. Stands m l from i U) end next in
    ended_so m l from U answer false is last (λ f. absurd (true≢false (sym f))) (λ z. absurd (omega arith)) at_end

-- what a row's answer at a line's end says of the row before it
pub finishes_if : (m : Nfa) (table : Dfa) (b : ℕ) (S : ℕ → Type 0) (k : ℕ) (o : Option Bool) → IsRunnable m
    → IsDfaOf m table
    → (HitBefore m b S → ⊥) → Goes m b S (In table k) × (flag_at table k ≡ true → ReadsNone m b S)
    → o ≡ answer_at_end table k
    → IfSome o (Finishes m b S)
finishes_if m table b S k None is dfa_of missed goes e = tt
finishes_if m table b S k (Some answer) is dfa_of missed goes e =
    finishes_end m b S (In table k) answer is missed goes.0 (dfa_of.told_end k answer (sym e)).1

-- what a new cache has, or none
pub new_caches : {A E : Type 0} (r : Result (Cache A) E) (m : Nfa)
    → IfOk r (λ t. IsBlank (dfa t)) → CachesDfaOf (result_ok r) m
new_caches (Ok t) m blank = blank_dfa m (dfa t) blank
new_caches (Err e) m blank = tt
