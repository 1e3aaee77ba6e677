-- Where files start by progressions, for `FileStarts`.
use Rattle.std.proofs.Common.{◌≡◌, ℕ, zero, suc, ◌+◌, ◌-◌, ◌*◌, ◌<◌, ◌≤◌, ◌^◌, nat_le, Bool, true, false, cond}
use Rattle.std.proofs.Common.{inl, inr, List, [], ◌∷◌, ◌++◌, map, length, get_or, set, take}
use Rattle.std.proofs.Common.{refl, sym, ap, ◌∙◌, subst, arith}
use Rattle.std.specs.List.{All, range_with_len}
use Rattle.std.specs.List.Sorted.{IsPartitionPoint}
use Rattle.std.proofs.lemmas.Bool.{le-leb, lt-leb, cases_lt}
use Rattle.std.proofs.lemmas.List.{same_lists, length_push, get_or_push, get_or_append_left, take_all, take_more}
use Rattle.std.proofs.lemmas.List.{drop_all, set_split, set-get_or, same_from_push}
use Rattle.std.proofs.lemmas.List.Elements.{All-head, All-tail, All-push, All-weaker}
use Rattle.std.proofs.lemmas.List.FromFn.{length-map-range_with_len, get_or-map-range_with_len, map-range_with_len_more}
use Rattle.std.proofs.lemmas.List.Sorted.{IsNonDecreasingBy-push}
use Rattle.pg_seq.specs.Starts.{start_in, start_by, starts_by, IsFromNought, Cover, BecomesIfItCan, TakesIn, Lengthens}
use Rattle.pg_seq.specs.Starts.{alone, AddsFile}
use Rattle.pg_seq.specs.declared.file_starts.Progression.{Progression}

pub length_starts : (ps : List Progression) (files : ℕ) → length (starts_by ps files) ≡ files
length_starts ps files = length-map-range_with_len (start_by 0 ps) 0 files

-- the last progression that begins at a file or before it says where that starts
start_at : (here : ℕ) (ps : List Progression) (file i : ℕ) (d : Progression) → i < length ps
    → ((k : ℕ) → k ≤ i → (get_or ps k d).first ≤ file)
    → ((k : ℕ) → i < k → k < length ps → file < (get_or ps k d).first)
    → start_by here ps file ≡ start_in (get_or ps i d) file
start_at here [] file i d within begun later = absurd (omega arith)
start_at here (p ∷ []) file zero d within begun later = rw (le-leb p.first file (begun 0 (omega arith))) refl
start_at here (p ∷ q ∷ ps) file zero d within begun later =
    rw (le-leb p.first file (begun 0 (omega arith)), lt-leb q.first file (later 1 (omega arith) (omega arith))) refl
start_at here (p ∷ ps) file (suc i) d within begun later =
    rw (le-leb p.first file (begun 0 (omega arith)))
    (start_at (start_in p file) ps file i d (omega arith) (λ k h. begun (suc k) (omega arith))
    (λ k h l. later (suc k) (omega arith) (omega arith)))

-- the first progression begins with the first file
no_first : (ps : List Progression) (files : ℕ) (d : Progression) → IsFromNought ps files → 0 < files
    → (0 < length ps) × ((get_or ps 0 d).first ≡ 0)
no_first [] files d nought some = absurd (omega arith)
no_first (p ∷ ps) files d nought some = (omega arith, nought)

-- what is known by how many progressions begin at a file or before it
module _ (xs ps : List Progression) (files file begun : ℕ) (same : xs ≡ ps) (cover : Cover ps files)
    (within : file < files) (bound : begun ≤ length xs)
    (count : IsPartitionPoint (λ p. p.first ≤ file) (λ p. file < p.first) xs begun) where
  point : IsPartitionPoint (λ p. p.first ≤ file) (λ p. file < p.first) ps begun
  point = subst (λ ps. IsPartitionPoint (λ p. p.first ≤ file) (λ p. file < p.first) ps begun) same count

  pub some_begun : 1 ≤ begun
  some_begun = elim (cases_lt 0 begun) [
    | inl some ↦ omega arith
    | inr none ↦
        let d : Progression = record { start = 0; step = 0; first = 0 } in
        let first = no_first ps files d cover.from_nought (omega arith) in
        let late = point.1 0 d none first.0 in
        absurd (omega arith)
  ]

  pub start_found : (p : Progression) → p ≡ get_or ps (begun - 1) p
      → start_in p file ≡ get_or (starts_by ps files) file 0
  start_found p is =
      let some = some_begun in
      let long = ap length same in
      ap (λ q. start_in q file) is
      ∙ (sym (start_at 0 ps file (begun - 1) p (omega arith) (λ k h. point.0 k p (omega arith) (omega arith))
      (λ k h l. point.1 k p (omega arith) l))
      ∙ sym (get_or-map-range_with_len (start_by 0 ps) 0 files file file 0 within (omega arith)))

-- one more progression counts from its first file on
push_before : (here : ℕ) (ps : List Progression) (q : Progression) (file : ℕ) → file < q.first
    → start_by here (ps ++ q ∷ []) file ≡ start_by here ps file
push_before here [] q file h = rw (lt-leb q.first file h) refl
push_before here (p ∷ ps) q file h =
    ap (λ s. cond (nat_le p.first file) s here) (push_before (start_in p file) ps q file h)

push_from : (here : ℕ) (ps : List Progression) (q : Progression) (file : ℕ) → All (λ p. p.first ≤ file) ps
    → q.first ≤ file → start_by here (ps ++ q ∷ []) file ≡ start_in q file
push_from here [] q file all h = rw (le-leb q.first file h) refl
push_from here (p ∷ ps) q file all h =
    rw (le-leb p.first file (All-head (λ p. p.first ≤ file) p ps all))
    (push_from (start_in p file) ps q file (All-tail (λ p. p.first ≤ file) p ps all) h)

same_starts : (f g : ℕ → ℕ) (n : ℕ) → ((k : ℕ) → k < n → f k ≡ g k)
    → map f (range_with_len 0 n) ≡ map g (range_with_len 0 n)
same_starts f g n same =
    let a = length-map-range_with_len f 0 n in
    let b = length-map-range_with_len g 0 n in
    same_lists _ _ (a ∙ sym b) (λ k d h. get_or-map-range_with_len f 0 n k k d (omega arith) (omega arith)
    ∙ (same k (omega arith) ∙ sym (get_or-map-range_with_len g 0 n k k d (omega arith) (omega arith))))

-- one more file
more_starts : (ps qs : List Progression) (files here : ℕ)
    → ((k : ℕ) → k < files → start_by 0 qs k ≡ start_by 0 ps k) → start_by 0 qs files ≡ here
    → starts_by qs (files + 1) ≡ starts_by ps files ++ here ∷ []
more_starts ps qs files here same is =
    map-range_with_len_more (start_by 0 qs) 0 files files (omega arith)
    ∙ (ap (λ xs. xs ++ start_by 0 qs files ∷ []) (same_starts (start_by 0 qs) (start_by 0 ps) files same)
    ∙ ap (λ s. starts_by ps files ++ s ∷ []) is)

begun_before : (ps : List Progression) (files : ℕ) → All (λ p. p.first < files) ps → All (λ p. p.first ≤ files) ps
begun_before ps files all = λ k d h. let l = all k d h in omega arith

nought_more : (ps : List Progression) (q : Progression) (files : ℕ) → IsFromNought ps files → q.first ≡ files
    → IsFromNought (ps ++ q ∷ []) (files + 1)
nought_more [] q files nought first = first ∙ nought
nought_more (p ∷ ps) q files nought first = nought

pushed : (ps : List Progression) (q : Progression) (files : ℕ) → Cover ps files → q.first ≡ files
    → starts_by (ps ++ q ∷ []) (files + 1) ≡ starts_by ps files ++ q.start ∷ []
pushed ps q files cover first =
    let none : files - q.first ≡ 0 = omega arith in
    let own : start_in q files ≡ q.start = rw none (omega arith) in
    more_starts ps (ps ++ q ∷ []) files q.start (λ k h. push_before 0 ps q k (omega arith))
    (push_from 0 ps q files (begun_before ps files cover.within) (omega arith) ∙ own)

pushed_cover : (ps : List Progression) (q : Progression) (files : ℕ) → Cover ps files → q.first ≡ files
    → q.start < 2 ^ 128 → Cover (ps ++ q ∷ []) (files + 1)
pushed_cover ps q files cover first small =
    let F : ℕ → Type 0 = λ start. start < 2 ^ 128 in
    record {
      from_nought = nought_more ps q files cover.from_nought first;
      within = All-push (λ p. p.first < files + 1) ps q
          (All-weaker (λ p. p.first < files) (λ p. p.first < files + 1) (λ p h. omega arith) ps cover.within)
          (omega arith);
      rise = IsNonDecreasingBy-push (λ p. p.first) ps q cover.rise
          (λ d some. let l = cover.within (length ps - 1) d (omega arith) in omega arith);
      fits = subst (All F) (sym (pushed ps q files cover first))
          (All-push F (starts_by ps files) q.start cover.fits small);
    }

-- the files that a progression had start where they did
kept : (last longer : Progression) (file here k : ℕ) → TakesIn file here last longer → k < file
    → start_in longer k ≡ start_in last k
kept last longer file here k t h = elim t.step [
  | inl second ↦
      let a : k - longer.first ≡ 0 = omega (arith, t.first) in
      let b : k - last.first ≡ 0 = omega arith in
      rw (a, b) (omega (arith, t.start))
  | inr same ↦ ap (λ n. longer.start + (k - longer.first) * n) same
      ∙ (ap (λ n. longer.start + (k - n) * last.step) t.first ∙ ap (λ n. n + (k - last.first) * last.step) t.start)
]

firsts : (earlier : List Progression) (last longer : Progression) → longer.first ≡ last.first
    → (k : ℕ) (d : Progression)
    → (get_or (earlier ++ longer ∷ []) k d).first ≡ (get_or (earlier ++ last ∷ []) k d).first
firsts [] last longer same zero d = same
firsts [] last longer same (suc k) d = refl
firsts (p ∷ earlier) last longer same zero d = refl
firsts (p ∷ earlier) last longer same (suc k) d = firsts earlier last longer same k d

-- of the last progression
module _ (earlier : List Progression) (last longer : Progression) (files here : ℕ)
    (cover : Cover (earlier ++ last ∷ []) files) (takes : TakesIn files here last longer) where
  abbrev old : List Progression
  old = earlier ++ last ∷ []

  abbrev new : List Progression
  new = earlier ++ longer ∷ []

  same_length : length new ≡ length old
  same_length = length_push earlier longer ∙ sym (length_push earlier last)

  same_first : (k : ℕ) (d : Progression) → (get_or new k d).first ≡ (get_or old k d).first
  same_first k d = firsts earlier last longer takes.first k d

  last_first : (d : Progression) → get_or old (length earlier) d ≡ last
  last_first d = get_or_push earlier last d (length earlier) refl

  earlier_first : All (λ p. p.first ≤ last.first) earlier
  earlier_first = λ k d h.
      let long = length_push earlier last in
      let up = cover.rise k (length earlier) d (omega arith) (omega arith) in
      let a = ap (λ (p : Progression). p.first) (get_or_append_left earlier (last ∷ []) d k h) in
      let b = ap (λ (p : Progression). p.first) (last_first d) in
      omega arith

  last_within : last.first < files
  last_within =
      let long = length_push earlier last in
      let w = cover.within (length earlier) last (omega arith) in
      let b = ap (λ (p : Progression). p.first) (last_first last) in
      omega arith

  stay : (k : ℕ) → k < files → start_by 0 new k ≡ start_by 0 old k
  stay k h = elim (cases_lt k last.first) [
    | inl before ↦ push_before 0 earlier longer k (omega (arith, takes.first))
        ∙ sym (push_before 0 earlier last k before)
    | inr from ↦
        let all : All (λ p. p.first ≤ k) earlier =
        All-weaker (λ p. p.first ≤ last.first) (λ p. p.first ≤ k) (λ p l. omega arith) earlier earlier_first in
        push_from 0 earlier longer k all (omega (arith, takes.first))
        ∙ (kept last longer files here k takes h ∙ sym (push_from 0 earlier last k all from))
  ]

  next : start_by 0 new files ≡ here
  next =
      let within = last_within in
      push_from 0 earlier longer files
      (All-weaker (λ p. p.first ≤ last.first) (λ p. p.first ≤ files) (λ p l. omega arith) earlier earlier_first)
      (omega (arith, takes.first)) ∙ takes.is

  longer_starts : starts_by new (files + 1) ≡ starts_by old files ++ here ∷ []
  longer_starts = more_starts old new files here stay next

  nought : (es : List Progression) → IsFromNought (es ++ last ∷ []) files → longer.first ≡ last.first
      → IsFromNought (es ++ longer ∷ []) (files + 1)
  nought [] h same = same ∙ h
  nought (e ∷ es) h same = h

  longer_cover : here < 2 ^ 128 → Cover new (files + 1)
  longer_cover small =
      let F : ℕ → Type 0 = λ start. start < 2 ^ 128 in
      record {
        from_nought = nought earlier cover.from_nought takes.first;
        within = λ k d h.
            let a = same_first k d in
            let b = cover.within k d (omega (arith, same_length)) in
            omega arith;
        rise = λ i j d h l.
            let a = same_first i d in
            let b = same_first j d in
            let up = cover.rise i j d h (omega (arith, same_length)) in
            omega arith;
        fits = subst (All F) (sym longer_starts) (All-push F (starts_by old files) here cover.fits small);
      }

-- what the last progression says of the file
pub lengthens : (goes : Bool) (ps : List Progression) (i file here : ℕ) (last longer : Progression) → i + 1 ≡ length ps
    → last ≡ get_or ps i last
    → BecomesIfItCan (TakesIn file here last) last longer goes
    → BecomesIfItCan (Lengthens file here ps) ps (set ps i longer) goes
lengthens goes ps i file here last longer end is =
    let was : ps ≡ take i ps ++ last ∷ [] =
    sym (take_all (i + 1) ps (omega arith)) ∙ (take_more ps i last (omega arith)
    ∙ ap (λ p. take i ps ++ p ∷ []) (sym is)) in
    elim goes as (λ goes. BecomesIfItCan (TakesIn file here last) last longer goes
    → BecomesIfItCan (Lengthens file here ps) ps (set ps i longer) goes) [
      | true ↦ λ takes. record {
        earlier = take i ps;
        last = last;
        longer = longer;
        was = was;
        is = set_split ps i longer (omega arith)
            ∙ ap (λ xs. take i ps ++ longer ∷ xs) (drop_all (suc i) ps (omega arith));
        takes = takes;
      }
      | false ↦ λ no. (
        ap (set ps i) (no.0 ∙ is) ∙ set-get_or ps i last,
        λ qs l.
            let T : Progression → Type 0 = λ p. TakesIn file here p l.longer in
            no.1 l.longer (subst T (sym (same_from_push _ _ _ _ (sym was ∙ l.was)).1) l.takes),
      )
    ]

-- what one more file changes
pub appended : (ps qs : List Progression) (files here : ℕ) → Cover ps files → here < 2 ^ 128 → AddsFile files here ps qs
    → Cover qs (files + 1) × (starts_by qs (files + 1) ≡ starts_by ps files ++ here ∷ [])
appended ps qs files here cover small how = elim how [
  | inl longer ↦
      let C : List Progression → Type 0 = λ xs. Cover xs files in
      let D : List Progression → Type 0 = λ xs. Cover xs (files + 1) in
      let c = subst C longer.was cover in (
        subst D (sym longer.is) (longer_cover longer.earlier longer.last longer.longer files here c longer.takes small),
        ap (λ xs. starts_by xs (files + 1)) longer.is
            ∙ (longer_starts longer.earlier longer.last longer.longer files here c longer.takes
            ∙ ap (λ xs. starts_by xs files ++ here ∷ []) (sym longer.was)),
      )
  | inr own ↦
      let q = alone files here in
      let D : List Progression → Type 0 = λ xs. Cover xs (files + 1) in (
        subst D (sym own.0) (pushed_cover ps q files cover refl small),
        ap (λ xs. starts_by xs (files + 1)) own.0 ∙ pushed ps q files cover refl,
      )
]
