-- The cut of a file is a cutting, and there is one.
use Rattle.std.proofs.Common.{◌≡◌, ◌≢◌, ℕ, ◌+◌, inl, inr, List, [], ◌∷◌, ◌++◌, length, take, drop, refl, sym, ap, ◌∙◌}
use Rattle.std.proofs.Common.{subst, arith, append_assoc, length-append}
use Rattle.std.specs.List.{AllByRecursion}
use Rattle.std.proofs.lemmas.Bool.{cases_lt}
use Rattle.std.proofs.lemmas.List.{append-nil, take_at, drop_at, take-append-le}
use Rattle.std.proofs.lemmas.List.Concat.{flat_map-append}
use Rattle.pg_blocks.specs.Blocks.{BlockData, joined, EndsWith, AreNumbered, IsCutting, AllButLastEnd, IsFinished}
use Rattle.pg_blocks.specs.Blocks.{IsUnfinished, Cuts, IsCut}

pub ended_some : (end : ℕ) (xs : List ℕ) → EndsWith end xs → xs ≢ []
ended_some end xs h e = let n = ap length (sym h.1 ∙ e) in omega (arith, length-append h.0 (end ∷ []))

each_some : (end size : ℕ) (blocks : List BlockData) → AllByRecursion (λ b. IsFinished end size b.bytes) blocks
    → AllByRecursion (λ b. b.bytes ≢ []) blocks
each_some end size [] h = tt
each_some end size (b ∷ blocks) h = (ended_some end b.bytes h.0.ends, each_some end size blocks h.1)

each_ends : (end size : ℕ) (blocks : List BlockData) → AllByRecursion (λ b. IsFinished end size b.bytes) blocks
    → AllButLastEnd end blocks
each_ends end size [] h = tt
each_ends end size (b ∷ []) h = tt
each_ends end size (b ∷ c ∷ blocks) h = (h.0.ends, each_ends end size (c ∷ blocks) h.1)

some_last : (end size : ℕ) (front : List BlockData) (last : BlockData)
    → AllByRecursion (λ b. IsFinished end size b.bytes) front → last.bytes ≢ []
    → AllByRecursion (λ b. b.bytes ≢ []) (front ++ last ∷ [])
some_last end size [] last h ne = (ne, tt)
some_last end size (b ∷ front) last h ne = (ended_some end b.bytes h.0.ends, some_last end size front last h.1 ne)

ends_last : (end size : ℕ) (front : List BlockData) (last : BlockData)
    → AllByRecursion (λ b. IsFinished end size b.bytes) front → AllButLastEnd end (front ++ last ∷ [])
ends_last end size [] last h = tt
ends_last end size (b ∷ []) last h = (h.0.ends, tt)
ends_last end size (b ∷ c ∷ front) last h = (h.0.ends, ends_last end size (c ∷ front) last h.1)

pub cut_is_cutting : (end size : ℕ) (bytes : List ℕ) (blocks : List BlockData) → IsCut end size bytes blocks
    → IsCutting end bytes blocks
cut_is_cutting end size bytes blocks (inl h) = record {
  whole = sym (h.whole ∙ append-nil (joined blocks));
  some = each_some end size blocks h.finished;
  ends = each_ends end size blocks h.finished;
}
cut_is_cutting end size bytes blocks (inr h) =
    let P : List BlockData → Type 0 = λ bs. IsCutting end bytes bs in
    subst P (sym h.joins) (record {
      whole = flat_map-append (λ (b : BlockData). b.bytes) h.front (h.last ∷ [])
          ∙ (ap (λ xs. joined h.front ++ xs) (append-nil h.last.bytes) ∙ sym h.cuts.whole);
      some = some_last end size h.front h.last h.cuts.finished h.some;
      ends = ends_last end size h.front h.last h.cuts.finished;
    })

-- two finished beginnings of the same bytes are one
same_first : (end size : ℕ) (xs ys us bs : List ℕ) → xs ++ us ≡ ys ++ bs → IsFinished end size xs
    → IsFinished end size ys → xs ≡ ys
same_first end size xs ys us bs e f g = elim (cases_lt (length xs) (length ys)) [
  | inl less ↦
      let P : List ℕ → Type 0 = λ zs. EndsWith end zs in
      let front : take (length xs) ys ≡ xs = sym (take-append-le (length xs) ys bs (omega arith))
      ∙ (ap (take (length xs)) (sym e) ∙ take_at xs us (length xs) refl) in
      absurd (g.shortest (length xs) f.long less (subst P (sym front) f.ends))
  | inr more ↦ elim (cases_lt (length ys) (length xs)) [
    | inl less ↦
        let P : List ℕ → Type 0 = λ zs. EndsWith end zs in
        let front : take (length ys) xs ≡ ys = sym (take-append-le (length ys) xs us (omega arith))
        ∙ (ap (take (length ys)) e ∙ take_at ys bs (length ys) refl) in
        absurd (f.shortest (length ys) g.long less (subst P (sym front) g.ends))
    | inr same ↦
        let n : length ys ≡ length xs = omega arith in
        sym (take_at xs us (length xs) refl) ∙ (ap (take (length xs)) e ∙ take_at ys bs (length xs) n)
  ]
]

same_rest : (xs ys us bs : List ℕ) → xs ++ us ≡ ys ++ bs → xs ≡ ys → us ≡ bs
same_rest xs ys us bs e s = sym (drop_at xs us (length xs) refl)
    ∙ (ap (drop (length xs)) e ∙ drop_at ys bs (length xs) (ap length (sym s)))

-- bytes whose beginning is finished are not unfinished
not_unfinished : (end size : ℕ) (bytes xs us : List ℕ) → bytes ≡ xs ++ us → IsFinished end size xs
    → IsUnfinished end size bytes → ⊥
not_unfinished end size bytes xs us e f u =
    let P : List ℕ → Type 0 = λ zs. EndsWith end zs in
    u (length xs) f.long (omega (arith, ap length e, length-append xs us))
    (subst P (sym (ap (take (length xs)) e ∙ take_at xs us (length xs) refl)) f.ends)

-- the finished blocks and the rest are one
pub record SameCuts (blocks others : List BlockData) (rest other : List ℕ) : Type 0 where
  pub same : others ≡ blocks
  pub left : other ≡ rest

pub same_block : (a b : BlockData) → a.file ≡ b.file → a.number ≡ b.number → a.bytes ≡ b.bytes → a ≡ b
same_block a b f n x =
    let F : ℕ → BlockData = λ v. record a { file = v } in
    let N : ℕ → BlockData = λ v. record b { number = v; bytes = a.bytes } in
    let X : List ℕ → BlockData = λ v. record b { bytes = v } in
    ap F f ∙ (ap N n ∙ ap X x)

same_cuts : (end size file n : ℕ) (bytes : List ℕ) (blocks others : List BlockData) (rest other : List ℕ)
    → Cuts end size bytes blocks rest → AreNumbered file n blocks → Cuts end size bytes others other
    → AreNumbered file n others → SameCuts blocks others rest other
same_cuts end size file n bytes [] [] rest other a i b j = record { same = refl; left = sym b.whole ∙ a.whole }
same_cuts end size file n bytes [] (c ∷ others) rest other a i b j =
    let P : List ℕ → Type 0 = λ xs. IsUnfinished end size xs in
    absurd (not_unfinished end size bytes c.bytes (joined others ++ other)
    (b.whole ∙ append_assoc c.bytes (joined others) other) b.finished.0 (subst P (sym a.whole) a.unfinished))
same_cuts end size file n bytes (c ∷ blocks) [] rest other a i b j =
    let P : List ℕ → Type 0 = λ xs. IsUnfinished end size xs in
    absurd (not_unfinished end size bytes c.bytes (joined blocks ++ rest)
    (a.whole ∙ append_assoc c.bytes (joined blocks) rest) a.finished.0 (subst P (sym b.whole) b.unfinished))
same_cuts end size file n bytes (c ∷ blocks) (d ∷ others) rest other a i b j =
    let e : c.bytes ++ (joined blocks ++ rest) ≡ d.bytes ++ (joined others ++ other) =
    sym (append_assoc c.bytes (joined blocks) rest)
    ∙ (sym a.whole ∙ (b.whole ∙ append_assoc d.bytes (joined others) other)) in
    let first = same_first end size c.bytes d.bytes (joined blocks ++ rest)
    (joined others ++ other) e a.finished.0 b.finished.0 in
    let later = same_rest c.bytes d.bytes (joined blocks ++ rest) (joined others ++ other) e first in
    let r = same_cuts end size file (n + 1) (joined blocks ++ rest) blocks others rest other
    (record { whole = refl; finished = a.finished.1; unfinished = a.unfinished }) i.2
    (record { whole = later; finished = b.finished.1; unfinished = b.unfinished }) j.2 in
    record {
      same = ap (λ x. x ∷ others) (same_block d c (j.0 ∙ sym i.0) (j.1 ∙ sym i.1) (sym first))
          ∙ ap (λ xs. c ∷ xs) r.same;
      left = r.left;
    }

numbered_apart : (file n : ℕ) (front : List BlockData) (last : BlockData) → AreNumbered file n (front ++ last ∷ [])
    → AreNumbered file n front × (last.file ≡ file) × (last.number ≡ n + length front)
numbered_apart file n [] last h = (tt, h.0, h.1 ∙ omega arith)
numbered_apart file n (b ∷ front) last h = let r =
    numbered_apart file (n + 1) front last h.2 in ((h.0, h.1, r.0), r.1, omega (arith, r.2))

pub cuts_are_one : (end size file : ℕ) (bytes : List ℕ) (blocks others : List BlockData) → IsCut end size bytes blocks
    → AreNumbered file 0 blocks → IsCut end size bytes others → AreNumbered file 0 others → others ≡ blocks
cuts_are_one end size file bytes blocks others (inl a) i (inl b) j =
    (same_cuts end size file 0 bytes blocks others [] [] a i b j).same
cuts_are_one end size file bytes blocks others (inl a) i (inr b) j =
    let P : List BlockData → Type 0 = λ bs. AreNumbered file 0 bs in
    let q = numbered_apart file 0 b.front b.last (subst P b.joins j) in
    absurd (b.some ((same_cuts end size file 0 bytes blocks b.front [] b.last.bytes a i b.cuts q.0).left))
cuts_are_one end size file bytes blocks others (inr a) i (inl b) j =
    let P : List BlockData → Type 0 = λ bs. AreNumbered file 0 bs in
    let p = numbered_apart file 0 a.front a.last (subst P a.joins i) in
    absurd (a.some (sym ((same_cuts end size file 0 bytes a.front others a.last.bytes [] a.cuts p.0 b j).left)))
cuts_are_one end size file bytes blocks others (inr a) i (inr b) j =
    let P : List BlockData → Type 0 = λ bs. AreNumbered file 0 bs in
    let p = numbered_apart file 0 a.front a.last (subst P a.joins i) in
    let q = numbered_apart file 0 b.front b.last (subst P b.joins j) in
    let r = same_cuts end size file 0 bytes a.front b.front a.last.bytes b.last.bytes a.cuts p.0 b.cuts q.0 in
    let n = ap length r.same in
    let last : b.last ≡ a.last = same_block b.last a.last (q.1 ∙ sym p.1) (omega (arith, p.2, q.2)) r.left in
    b.joins ∙ (ap (λ bs. bs ++ b.last ∷ []) r.same ∙ (ap (λ x. a.front ++ x ∷ []) last ∙ sym a.joins))
