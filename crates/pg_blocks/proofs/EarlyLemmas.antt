-- Blocks that are handed out early, and those behind them.
use Rattle.std.proofs.Common.{◌≡◌, ◌≢◌, ℕ, ◌+◌, ◌-◌, ◌<◌, inl, inr, List, [], ◌∷◌, ◌++◌, length, drop}
use Rattle.std.proofs.Common.{refl, sym, ap, ◌∙◌, subst, arith, append_assoc, length-drop, cond}
use Rattle.std.specs.List.{AllByRecursion, flat_map}
use Rattle.std.proofs.lemmas.Bool.{eq-eqb}
use Rattle.std.proofs.lemmas.List.{append-nil, get_or_default, get_or-drop}
use Rattle.std.proofs.lemmas.List.Concat.{flat_map-append}
use Rattle.pg_blocks.specs.Lines.{lines, IsLine}
use Rattle.pg_blocks.specs.Long.{open_from}
use Rattle.pg_blocks.specs.Blocks.{BlockData, joined, EndsWith, IsFinished, IsUnfinished, Cuts, IsCut, IsCutting}
use Rattle.pg_blocks.specs.Blocks.{AllButLastEnd, CutsBehind}
use Rattle.pg_blocks.specs.Cutter.{CutterPast, CutsFed, AreAllBlocks}
use Rattle.pg_blocks.proofs.CutLaws.{cut_is_cutting, ended_some}
use Rattle.pg_blocks.proofs.CutLemmas.{cuts_more, end_at, clear_behind, unfinished_by}
use Rattle.pg_blocks.proofs.LineLemmas.{lines-append}
use Rattle.pg_blocks.proofs.LongLemmas.{open_append}

abbrev pub AllEnd : ℕ → List BlockData → Type 0
AllEnd end blocks = AllByRecursion (λ b. EndsWith end b.bytes) blocks

pub finished_end : (end size : ℕ) (blocks : List BlockData) → AllByRecursion (λ b. IsFinished end size b.bytes) blocks
    → AllEnd end blocks
finished_end end size [] h = tt
finished_end end size (b ∷ blocks) h = (h.0.ends, finished_end end size blocks h.1)

pub all_end : (end : ℕ) (xs ys : List BlockData) → AllEnd end xs → AllEnd end ys → AllEnd end (xs ++ ys)
all_end end [] ys h k = k
all_end end (x ∷ xs) ys h k = (h.0, all_end end xs ys h.1 k)

-- What a cutter was fed.
module _ (past : CutterPast) (blocks : List BlockData) (rest : List ℕ) (k : CutsFed past blocks rest) where
  -- the blocks and what is left are its bytes
  pub fed_whole : past.bytes ≡ joined blocks ++ rest
  fed_whole =
      k.bytes_are ∙ (ap (λ xs. joined past.early ++ xs) k.cut.whole
      ∙ (sym (append_assoc (joined past.early) (joined k.later) rest)
      ∙ ap (λ xs. xs ++ rest) (sym (flat_map-append (λ (b : BlockData). b.bytes) past.early k.later)
      ∙ ap joined (sym k.blocks_are))))

  -- each block ends with the terminator
  pub fed_end : AllEnd past.end blocks
  fed_end =
      let P : List BlockData → Type 0 = λ bs. AllEnd past.end bs in
      subst P (sym k.blocks_are) (all_end past.end past.early k.later k.lines
      (finished_end past.end past.size k.later k.cut.finished))

  -- more was fed, which finished these blocks
  pub fed_further : (piece left : List ℕ) (more : List BlockData) → Cuts past.end past.size (rest ++ piece) more left
      → CutsFed (record past { bytes = past.bytes ++ piece }) (blocks ++ more) left
  fed_further piece left more c = record {
    later = k.later ++ more;
    rest = k.rest ++ piece;
    blocks_are = ap (λ bs. bs ++ more) k.blocks_are ∙ append_assoc past.early k.later more;
    bytes_are = ap (λ xs. xs ++ piece) k.bytes_are ∙ append_assoc (joined past.early) k.rest piece;
    lines = k.lines;
    cut = cuts_more past.end past.size k.rest piece rest left k.later more k.cut c;
  }

  -- the last block, where something is left
  pub fed_last : (last : BlockData) → last.bytes ≡ rest → rest ≢ []
      → CutsBehind past.early past.end past.bytes (blocks ++ last ∷ []) (IsCut past.end past.size)
  fed_last last is some = record {
    later = k.later ++ last ∷ [];
    rest = k.rest;
    blocks_are = ap (λ bs. bs ++ last ∷ []) k.blocks_are ∙ append_assoc past.early k.later (last ∷ []);
    bytes_are = k.bytes_are;
    lines = k.lines;
    cut =
        let P : List ℕ → Type 0 = λ xs. Cuts past.end past.size k.rest k.later xs in
        inr (record {
          front = k.later;
          last = last;
          joins = refl;
          cuts = subst P (sym is) k.cut;
          some = λ e. some (sym is ∙ e);
        });
  }

  -- none, where nothing is left
  pub fed_no_last : rest ≡ [] → CutsBehind past.early past.end past.bytes blocks (IsCut past.end past.size)
  fed_no_last none = record {
    later = k.later;
    rest = k.rest;
    blocks_are = k.blocks_are;
    bytes_are = k.bytes_are;
    lines = k.lines;
    cut =
        let P : List ℕ → Type 0 = λ xs. Cuts past.end past.size k.rest k.later xs in
        inl (subst P none k.cut);
  }

-- bytes without the terminator finish no block
pub line_unfinished : (end size : ℕ) (bytes : List ℕ) → IsLine end bytes → IsUnfinished end size bytes
line_unfinished end size bytes clear n low high ends =
    let e = end_at end bytes n high ends in
    let less : n - 1 < length bytes = omega (arith, e.0) in
    clear (n - 1, less, get_or_default bytes (n - 1) end 0 less ∙ e.1)

-- nor do the bytes behind some that finish none with them
pub unfinished_behind : (end size len : ℕ) (bytes : List ℕ) → 0 < size → IsUnfinished end size bytes
    → IsUnfinished end size (drop len bytes)
unfinished_behind end size len bytes some h =
    let all = length-drop len bytes in
    unfinished_by end size (drop len bytes) some (λ i low high e.
    clear_behind end size bytes h (len + i) (omega (arith, low)) (omega (arith, all, high))
    (sym (get_or-drop len bytes i 0) ∙ e))

-- no line is open behind blocks that end
ended_open : (end n : ℕ) (bytes : List ℕ) → EndsWith end bytes → open_from end n bytes ≡ 0
ended_open end n bytes h =
    ap (open_from end n) h.1 ∙ (open_append end n h.0 (end ∷ [])
    ∙ ap (λ t. cond t 0 (open_from end n h.0 + 1)) (eq-eqb end end refl))

pub blocks_open : (end : ℕ) (blocks : List BlockData) → AllEnd end blocks → open_from end 0 (joined blocks) ≡ 0
blocks_open end [] h = refl
blocks_open end (b ∷ blocks) h =
    open_append end 0 b.bytes (joined blocks)
    ∙ (ap (λ n. open_from end n (joined blocks)) (ended_open end 0 b.bytes h.0) ∙ blocks_open end blocks h.1)

-- The laws of all blocks.

ends_onto : (end : ℕ) (b : BlockData) (blocks : List BlockData) → EndsWith end b.bytes → AllButLastEnd end blocks
    → AllButLastEnd end (b ∷ blocks)
ends_onto end b [] h k = tt
ends_onto end b (c ∷ blocks) h k = (h, k)

cutting_behind : (end : ℕ) (early : List BlockData) (rest : List ℕ) (later : List BlockData) → AllEnd end early
    → IsCutting end rest later → IsCutting end (joined early ++ rest) (early ++ later)
cutting_behind end [] rest later h c = c
cutting_behind end (b ∷ early) rest later h c =
    let r = cutting_behind end early rest later h.1 c in
    record {
      whole = ap (λ xs. b.bytes ++ xs) r.whole ∙ sym (append_assoc b.bytes (joined early) rest);
      some = (ended_some end b.bytes h.0, r.some);
      ends = ends_onto end b (early ++ later) h.0 r.ends;
    }

pub all_are_cutting : (past : CutterPast) → AreAllBlocks past → IsCutting past.end past.bytes past.taken
all_are_cutting past h =
    let k = h.cut in
    let P : List ℕ → Type 0 = λ xs. IsCutting past.end xs (past.early ++ k.later) in
    let Q : List BlockData → Type 0 = λ bs. IsCutting past.end past.bytes bs in
    subst Q (sym k.blocks_are) (subst P (sym k.bytes_are) (cutting_behind past.end past.early k.rest k.later k.lines
    (cut_is_cutting past.end past.size k.rest k.later k.cut)))

cutting_lines : (end : ℕ) (blocks : List BlockData) → AllButLastEnd end blocks
    → flat_map (λ b. lines end b.bytes) blocks ≡ lines end (joined blocks)
cutting_lines end [] h = refl
cutting_lines end (b ∷ []) h = append-nil (lines end b.bytes) ∙ ap (lines end) (sym (append-nil b.bytes))
cutting_lines end (b ∷ c ∷ blocks) h =
    ap (λ ls. lines end b.bytes ++ ls) (cutting_lines end (c ∷ blocks) h.1)
    ∙ sym (lines-append end b.bytes (joined (c ∷ blocks)) (inr h.0))

pub all_have_lines : (past : CutterPast) → AreAllBlocks past
    → flat_map (λ b. lines past.end b.bytes) past.taken ≡ lines past.end past.bytes
all_have_lines past h =
    let c = all_are_cutting past h in
    cutting_lines past.end past.taken c.ends ∙ ap (lines past.end) c.whole

pub none_early : (past : CutterPast) → past.early ≡ [] → AreAllBlocks past
    → IsCut past.end past.size past.bytes past.taken
none_early past e h =
    let k = h.cut in
    let blocks : past.taken ≡ k.later = k.blocks_are ∙ ap (λ bs. bs ++ k.later) e in
    let bytes : past.bytes ≡ k.rest = k.bytes_are ∙ ap (λ bs. joined bs ++ k.rest) e in
    let P : List ℕ → Type 0 = λ xs. IsCut past.end past.size xs k.later in
    let Q : List BlockData → Type 0 = λ bs. IsCut past.end past.size past.bytes bs in
    subst Q (sym blocks) (subst P (sym bytes) k.cut)
