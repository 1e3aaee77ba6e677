-- A file has a cut.
use Rattle.std.proofs.Common.{◌≡◌, ◌⊎◌, ℕ, zero, suc, ◌+◌, ◌<◌, ◌≤◌, inl, inr, Bool, true, false, eqb, List, [], ◌∷◌}
use Rattle.std.proofs.Common.{◌++◌, length, take, drop, get_or, refl, sym, ap, ◌∙◌, arith, append_assoc, length-drop}
use Rattle.std.proofs.lemmas.Bool.{eqb-true, eq-eqb, cases_lt, false≢true}
use Rattle.std.proofs.lemmas.List.{take-append-drop}
use Rattle.pg_blocks.specs.Blocks.{BlockData, joined, AreNumbered, IsFinished, IsUnfinished, IsCut}
use Rattle.pg_blocks.proofs.CutLemmas.{finished_by, unfinished_by}

-- no terminator stands at or behind the size, up to this offset
abbrev Clear : ℕ → ℕ → List ℕ → ℕ → Type 0
Clear end size xs m = (i : ℕ) → size ≤ i + 1 → i < m → get_or xs i 0 ≡ end → ⊥

-- the first terminator at or behind the size
record First (end size : ℕ) (xs : List ℕ) (m : ℕ) : Type 0 where
  offset : ℕ
  low : size ≤ offset + 1
  high : offset < m
  is_end : get_or xs offset 0 ≡ end
  clear : Clear end size xs offset

seek : (end size : ℕ) (xs : List ℕ) (m : ℕ) → Clear end size xs m ⊎ First end size xs m
seek end size xs zero = inl (λ i l h e. omega arith)
seek end size xs (suc m) = elim (seek end size xs m) [
  | inr f ↦ inr (record {
    offset = f.offset;
    low = f.low;
    high = omega (arith, f.high);
    is_end = f.is_end;
    clear = f.clear;
  })
  | inl none ↦ elim (cases_lt (m + 1) size) [
    | inl below ↦ inl (λ i l h e. none i l (omega arith) e)
    | inr low ↦ tested none low (eqb (get_or xs m 0) end) refl
  ]
]
  where
    tested : Clear end size xs m → size ≤ m + 1 → (b : Bool) → eqb (get_or xs m 0) end ≡ b
        → Clear end size xs (suc m) ⊎ First end size xs (suc m)
    tested none low true e = inr (record {
      offset = m;
      low = low;
      high = omega arith;
      is_end = eqb-true (get_or xs m 0) end e;
      clear = none;
    })
    tested none low false e = inl (λ i l h s. elim (cases_lt i m) [
      | inl less ↦ none i l less s
      | inr more ↦
          let same : i ≡ m = omega arith in
          false≢true (sym e ∙ eq-eqb (get_or xs m 0) end (ap (λ k. get_or xs k 0) (sym same) ∙ s))
    ])

-- a file of finished blocks and what follows them
more : (end size : ℕ) (bytes rest : List ℕ) (b : BlockData) (blocks : List BlockData) → bytes ≡ b.bytes ++ rest
    → IsFinished end size b.bytes → IsCut end size rest blocks → IsCut end size bytes (b ∷ blocks)
more end size bytes rest b blocks e f (inl c) = inl (record {
  whole = e ∙ (ap (λ t. b.bytes ++ t) c.whole ∙ sym (append_assoc b.bytes (joined blocks) []));
  finished = (f, c.finished);
  unfinished = c.unfinished;
})
more end size bytes rest b blocks e f (inr c) = inr (record {
  front = b ∷ c.front;
  last = c.last;
  joins = ap (λ bs. b ∷ bs) c.joins;
  cuts = record {
    whole = e ∙ (ap (λ t. b.bytes ++ t) c.cuts.whole ∙ sym (append_assoc b.bytes (joined c.front) c.last.bytes));
    finished = (f, c.cuts.finished);
    unfinished = c.cuts.unfinished;
  };
  some = c.some;
})

-- the numbered blocks of a file
abbrev HasCut : ℕ → ℕ → ℕ → ℕ → List ℕ → Type 0
HasCut end size file number bytes =
    (blocks : List BlockData) × IsCut end size bytes blocks × AreNumbered file number blocks

last_cut : (end size file number : ℕ) (bytes : List ℕ) → IsUnfinished end size bytes
    → HasCut end size file number bytes
last_cut end size file number [] u = ([], inl (record { whole = refl; finished = tt; unfinished = u }), tt)
last_cut end size file number (b ∷ bytes) u =
    let last : BlockData = record { file = file; number = number; bytes = b ∷ bytes } in (
      last ∷ [],
      inr (record {
        front = [];
        last = last;
        joins = refl;
        cuts = record { whole = refl; finished = tt; unfinished = u };
        some = λ e. cc;
      }),
      (refl, refl, tt),
    )

cut : (end size file : ℕ) → 0 < size → (steps number : ℕ) (bytes : List ℕ) → length bytes ≤ steps
    → HasCut end size file number bytes
cut end size file some zero number bytes h =
    last_cut end size file number bytes (unfinished_by end size bytes some (λ i l k e. omega arith))
cut end size file some (suc steps) number bytes h = elim (seek end size bytes (length bytes)) [
  | inl clear ↦ last_cut end size file number bytes (unfinished_by end size bytes some clear)
  | inr f ↦
      let n = f.offset + 1 in
      let fewer : length (drop n bytes) ≤ steps = omega (arith, length-drop n bytes, f.high) in
      let rest = cut end size file some steps (number + 1) (drop n bytes) fewer in
      let block : BlockData = record { file = file; number = number; bytes = take n bytes } in (
        block ∷ rest.0,
        more end size bytes (drop n bytes) block rest.0 (sym (take-append-drop n bytes))
            (finished_by end size bytes f.offset f.low f.high f.is_end f.clear some) rest.1,
        (refl, refl, rest.2),
      )
]

pub cut_exists : (end size file : ℕ) (bytes : List ℕ) → 0 < size
    → (blocks : List BlockData) × IsCut end size bytes blocks × AreNumbered file 0 blocks
cut_exists end size file bytes some = cut end size file some (length bytes) 0 bytes (omega arith)
