-- A cutter's past.
use Rattle.std.proofs.Common.{◌-◌, ◌<◌, ◌≤◌}
use Rattle.std.proofs.Common.{◌≡◌, ◌≢◌, ℕ, ◌+◌, inl, inr, false, ◌||◌, Option, Some, None, List, [], ◌∷◌, ◌++◌}
use Rattle.std.proofs.Common.{length, take, drop, refl, sym, ap, ◌∙◌, subst, arith, append_assoc, length-append}
use Rattle.std.proofs.Common.{Decides}
use Rattle.std.specs.Option.{IfSome, option_to_list}
use Rattle.std.proofs.lemmas.Bool.{false≢true, cases_Bool}
use Rattle.std.proofs.lemmas.List.{append-nil, take-append-drop, drop-drop, take-take, length-take-le}
use Rattle.std.proofs.lemmas.List.Concat.{flat_map-append}
use Rattle.pg_blocks.specs.Blocks.{BlockData, joined, EndsWith, IsFinished, IsUnfinished, IsCut, AreNumbered, Cuts}
use Rattle.pg_blocks.specs.Blocks.{CutsBehind}
use Rattle.pg_blocks.specs.Lines.{IsLine}
use Rattle.pg_blocks.specs.Long.{has_long, open_from, CutsOff}
use Rattle.pg_blocks.specs.Cutter.{CutterPast, IsCutterAfter, IsDrained, fed, past_handed, IsNextBlock, AreAllBlocks}
use Rattle.pg_blocks.specs.Cutter.{HasLongLine}
use Rattle.pg_blocks.specs.Cutter.{bytes_held}
use Rattle.pg_blocks.specs.Cutter.{CutsFed, handed_early, HasLinesLeft, HasNoLineLeft}
use Rattle.pg_blocks.specs.declared.cutter.Cutter.{Cutter}
use Rattle.pg_blocks.proofs.CutLemmas.{numbered_front, numbered_more, numbered_append}
use Rattle.pg_blocks.proofs.EarlyLemmas.{AllEnd, fed_whole, fed_end, fed_further, fed_last, fed_no_last}
use Rattle.pg_blocks.proofs.EarlyLemmas.{all_end, line_unfinished, blocks_open}
use Rattle.pg_blocks.proofs.LongLemmas.{long_decides, long_append, open_append}
use Rattle.pg_blocks.proofs.LongLemmas.{open_cut, open_none}

pub next_block : {A : Type 0} (cutter : Cutter A) (past : CutterPast) (b : BlockData) (rest : List BlockData)
    → cutter.ready.items ≡ b ∷ rest → IsCutterAfter cutter past → IsNextBlock past b
next_block cutter past b rest e s =
    let P : List BlockData → Type 0 = λ bs. AreNumbered past.file 0 (past.taken ++ bs) in
    let Q : List BlockData → Type 0 = λ bs. CutsFed past (past.taken ++ bs) (bytes_held cutter) in
    let R : List BlockData → Type 0 = λ bs. AreNumbered past.file 0 bs in
    record {
      numbered =
          numbered_front past.file 0 (past.taken ++ b ∷ []) rest
          (subst R (sym (append_assoc past.taken (b ∷ []) rest)) (subst P e s.numbered));
      cut = (rest, bytes_held cutter, subst Q e s.cut);
    }

drained : {A : Type 0} (cutter : Cutter A) (past : CutterPast) → IsCutterAfter cutter past → IsDrained cutter
    → CutsFed past past.taken (bytes_held cutter) × AreNumbered past.file 0 past.taken
drained cutter past s d =
    let same : past.taken ++ cutter.ready.items ≡ past.taken = ap (λ bs. past.taken ++ bs) d ∙ append-nil past.taken in
    let C : List BlockData → Type 0 = λ bs. CutsFed past bs (bytes_held cutter) in
    let P : List BlockData → Type 0 = λ bs. C bs × AreNumbered past.file 0 bs in
    subst P same (s.cut, s.numbered)

pub finished_some : {A : Type 0} (cutter : Cutter A) (past : CutterPast) → IsCutterAfter cutter past → IsDrained cutter
    → bytes_held cutter ≢ []
    → AreAllBlocks
    (past_handed past (Some (record { file = cutter.file; number = cutter.number; bytes = bytes_held cutter })))
finished_some cutter past s d ne =
    let h = drained cutter past s d in
    let b : BlockData = record { file = cutter.file; number = cutter.number; bytes = bytes_held cutter } in
    let n : cutter.number ≡ 0 + length past.taken =
    omega (arith, s.next, ap length d, length-append past.taken cutter.ready.items) in
    record {
      numbered = numbered_more past.file 0 past.taken b h.1 (sym s.file) n;
      cut = fed_last past past.taken (bytes_held cutter) h.0 b refl ne;
    }

pub finished_none : {A : Type 0} (cutter : Cutter A) (past : CutterPast) → IsCutterAfter cutter past → IsDrained cutter
    → bytes_held cutter ≡ [] → AreAllBlocks (past_handed past None)
finished_none cutter past s d none =
    let h = drained cutter past s d in
    let all = sym (append-nil past.taken) in
    let N : List BlockData → Type 0 = λ bs. AreNumbered past.file 0 bs in
    let I : List BlockData → Type 0 =
    λ bs. CutsBehind past.early past.end past.bytes bs (IsCut past.end past.size) in
    record { numbered = subst N all h.1; cut = subst I all (fed_no_last past past.taken (bytes_held cutter) h.0 none) }

pub next_if_some : {A : Type 0} (cutter : Cutter A) (r : Option BlockData) (rest : List BlockData)
    → cutter.ready.items ≡ option_to_list r ++ rest
    → IfSome r (λ b. (past : CutterPast) → IsCutterAfter cutter past → IsNextBlock past b)
next_if_some cutter None rest e = tt
next_if_some cutter (Some b) rest e = λ past s. next_block cutter past b rest e s

-- the test on a piece that follows
pub piece_decides : {A : Type 0} (cutter : Cutter A) (past : CutterPast) (piece : List ℕ) → IsCutterAfter cutter past
    → Decides (has_long cutter.end cutter.longest cutter.line piece) (HasLongLine (fed past piece))
piece_decides cutter past piece s =
    let d = long_decides past.end past.longest (past.bytes ++ piece) in
    let before = has_long past.end past.longest 0 past.bytes in
    let no : before ≡ false = elim (cases_Bool before) [
      | inl e ↦ absurd (s.short ((long_decides past.end past.longest past.bytes).0 e))
      | inr e ↦ e
    ] in
    let behind = has_long cutter.end cutter.longest cutter.line piece in
    let same : has_long past.end past.longest 0 (past.bytes ++ piece) ≡ behind =
    long_append past.end past.longest 0 past.bytes piece
    ∙ (ap (λ b. b || has_long past.end past.longest (open_from past.end 0 past.bytes) piece) no
    ∙ (ap (λ n. has_long past.end past.longest n piece) (sym s.line)
    ∙ (ap (λ n. has_long past.end n cutter.line piece) s.longest
    ∙ ap (λ n. has_long n cutter.longest cutter.line piece) s.terminator))) in
    (λ e. d.0 (same ∙ e), λ h. sym same ∙ d.1 h)

-- a piece after which no line is too long
pub no_long : {A : Type 0} (cutter : Cutter A) (past : CutterPast) (piece : List ℕ) → IsCutterAfter cutter past
    → has_long cutter.end cutter.longest cutter.line piece ≡ false → HasLongLine (fed past piece) → ⊥
no_long cutter past piece s short h = false≢true (sym short ∙ (piece_decides cutter past piece s).1 h)

-- after a piece, from whose blocks the cutter has the new ones
pub fed_stands : {A : Type 0} (old new : Cutter A) (past : CutterPast) (piece left : List ℕ) (count : ℕ)
    (ready' : List BlockData) → IsCutterAfter old past
    → new.file ≡ old.file → new.size ≡ old.size → new.longest ≡ old.longest → new.end ≡ old.end
    → new.number ≡ old.number + count → new.total ≡ old.total + length piece
    → new.line ≡ open_from old.end old.line piece → new.ready.items ≡ ready' → bytes_held new ≡ left
    → CutsOff old.end old.size old.file old.number (bytes_held old ++ piece) old.ready.items ready' left count
    → (HasLongLine (fed past piece) → ⊥) → IsCutterAfter new (fed past piece)
fed_stands old new past piece left count ready' s file size longest end number total line ready rest off short =
    let blocks = off.blocks in
    let together : (past.taken ++ old.ready.items) ++ blocks ≡ past.taken ++ new.ready.items =
    append_assoc past.taken old.ready.items blocks ∙ ap (λ bs. past.taken ++ bs) (sym (ready ∙ off.added)) in
    let C : List BlockData → Type 0 = λ bs. CutsFed (fed past piece) bs (bytes_held new) in
    let N : List BlockData → Type 0 = λ bs. AreNumbered past.file 0 bs in
    let D : ℕ → Type 0 = λ e. Cuts e past.size (bytes_held old ++ piece) blocks (bytes_held new) in
    let E : ℕ → Type 0 = λ n. Cuts old.end n (bytes_held old ++ piece) blocks (bytes_held new) in
    let G : List ℕ → Type 0 = λ r. Cuts old.end old.size (bytes_held old ++ piece) blocks r in
    let H : ℕ → Type 0 = λ f. AreNumbered f (0 + length (past.taken ++ old.ready.items)) blocks in
    let I : ℕ → Type 0 = λ n. AreNumbered old.file n blocks in
    let next : old.number ≡ 0 + length (past.taken ++ old.ready.items) = omega (arith, s.next) in
    let cut' = subst D (sym s.terminator) (subst E (sym s.size) (subst G (sym rest) off.cuts)) in
    record {
      terminator = s.terminator ∙ sym end;
      file = s.file ∙ sym file;
      size = s.size ∙ sym size;
      longest = s.longest ∙ sym longest;
      cut =
          subst C together
          (fed_further past (past.taken ++ old.ready.items) (bytes_held old) s.cut piece (bytes_held new) blocks cut');
      numbered =
          subst N together
          (numbered_append past.file 0 (past.taken ++ old.ready.items) blocks s.numbered
          (subst H (sym s.file) (subst I next off.numbered)));
      next =
          omega
          (arith, s.next, ap length together, length-append (past.taken ++ old.ready.items) blocks, off.counted);
      total = omega (arith, s.total, length-append past.bytes piece);
      short = short;
      line =
          line ∙ (ap (λ n. open_from old.end n piece) s.line
          ∙ (ap (λ e. open_from e (open_from past.end 0 past.bytes) piece) (sym s.terminator)
          ∙ sym (open_append past.end 0 past.bytes piece)));
    }

-- a piece that finishes no block
pub cuts_none : (end size file number : ℕ) (rest piece : List ℕ) (ready : List BlockData)
    → IsUnfinished end size (rest ++ piece)
    → CutsOff end size file number (rest ++ piece) ready ready (rest ++ piece) 0
cuts_none end size file number rest piece ready h = record {
  blocks = [];
  cuts = record { whole = refl; finished = tt; unfinished = h };
  numbered = tt;
  added = sym (append-nil ready);
  counted = refl;
}

-- a piece that finishes a block by its first `len` bytes, and others behind it
pub cuts_first : (end size file number len at : ℕ) (rest piece first left : List ℕ)
    (blocks ready ready' : List BlockData) → IsFinished end size (rest ++ take len piece)
    → Cuts end size (drop len piece) blocks (drop at (drop len piece)) → AreNumbered file (number + 1) blocks
    → first ≡ rest ++ take len piece → left ≡ drop (len + at) piece
    → ready' ≡ (ready ++ record { file = file; number = number; bytes = first } ∷ []) ++ blocks
    → CutsOff end size file number (rest ++ piece) ready ready' left (length blocks + 1)
cuts_first end size file number len at rest piece first left blocks ready ready' f cuts numbered is left-is ready-is =
    let b : BlockData = record { file = file; number = number; bytes = first } in
    let P : List ℕ → Type 0 = λ xs. IsFinished end size xs in
    let U : List ℕ → Type 0 = λ xs. IsUnfinished end size xs in
    let behind : drop at (drop len piece) ≡ left = drop-drop at len piece ∙ sym left-is in
    record {
      blocks = b ∷ blocks;
      cuts = record {
        whole =
            ap (λ xs. rest ++ xs) (sym (take-append-drop len piece))
            ∙ (sym (append_assoc rest (take len piece) (drop len piece))
            ∙ (ap (λ xs. xs ++ drop len piece) (sym is)
            ∙ (ap (λ xs. first ++ xs) (cuts.whole ∙ ap (λ xs. joined blocks ++ xs) behind)
            ∙ sym (append_assoc first (joined blocks) left))));
        finished = (subst P (sym is) f, cuts.finished);
        unfinished = subst U behind cuts.unfinished;
      };
      numbered = (refl, refl, numbered);
      added = ready-is ∙ append_assoc ready (b ∷ []) blocks;
      counted = omega arith;
    }

-- a cutter that handed out its next block, if there was one, is the same but for its blocks
pub handed_stands : {A : Type 0} (old new : Cutter A) (past : CutterPast) (r : Option BlockData)
    → IsCutterAfter old past → new.file ≡ old.file → new.size ≡ old.size → new.longest ≡ old.longest → new.end ≡ old.end
    → new.number ≡ old.number → new.total ≡ old.total → new.line ≡ old.line → bytes_held new ≡ bytes_held old
    → old.ready.items ≡ option_to_list r ++ new.ready.items → IsCutterAfter new (past_handed past r)
handed_stands old new past r s file size longest end number total line same ready =
    let all : past.taken ++ old.ready.items ≡ (past.taken ++ option_to_list r) ++ new.ready.items =
    ap (λ bs. past.taken ++ bs) ready ∙ sym (append_assoc past.taken (option_to_list r) new.ready.items) in
    let C : List BlockData → Type 0 = λ bs. CutsFed past bs (bytes_held old) in
    let D : List ℕ → Type 0 = λ xs. CutsFed past ((past.taken ++ option_to_list r) ++ new.ready.items) xs in
    record {
      terminator = s.terminator ∙ sym end;
      file = s.file ∙ sym file;
      size = s.size ∙ sym size;
      longest = s.longest ∙ sym longest;
      cut = subst D (sym same) (subst C all s.cut);
      numbered = subst (λ bs. AreNumbered past.file 0 bs) all s.numbered;
      next = number ∙ (s.next ∙ ap length all);
      total = total ∙ s.total;
      short = s.short;
      line = line ∙ s.line;
    }

-- An open block, behind which nothing is ready.
module _ {A : Type 0} (old : Cutter A) (past : CutterPast) (s : IsCutterAfter old past) (d : IsDrained old) where
  abbrev drained_cut : CutsFed past past.taken (bytes_held old)
  drained_cut = (drained old past s d).0

  held_whole : past.bytes ≡ joined past.taken ++ bytes_held old
  held_whole = fed_whole past past.taken (bytes_held old) drained_cut

  taken_end : AllEnd past.end past.taken
  taken_end = fed_end past past.taken (bytes_held old) drained_cut

  -- its open line is that of the file
  held_open : old.line ≡ open_from old.end 0 (bytes_held old)
  held_open =
      s.line ∙ (ap (open_from past.end 0) held_whole
      ∙ (open_append past.end 0 (joined past.taken) (bytes_held old)
      ∙ (ap (λ n. open_from past.end n (bytes_held old)) (blocks_open past.end past.taken taken_end)
      ∙ ap (λ e. open_from e 0 (bytes_held old)) s.terminator)))

  held_length : length (bytes_held old) ≡ old.filled
  held_length = length-take-le old.filled old.rest.items old.within

  -- where that is all, no line ends in it
  pub no_lines : old.filled ≤ old.line → HasNoLineLeft past
  no_lines most =
      let P : ℕ → Type 0 = λ e. IsLine e (bytes_held old) in
      let all : length (bytes_held old) ≤ old.line = omega (arith, held_length, most) in (
        bytes_held old,
        held_whole,
        subst P (sym s.terminator) (open_none old.end (bytes_held old) old.line held_open
            all),
      )

  -- Else its whole lines are handed out.
  module _ (less : old.line < old.filled) (bytes : List ℕ)
      (front : bytes ≡ take (old.filled - old.line) old.rest.items) where
    abbrev count : ℕ
    count = old.filled - old.line

    abbrev early_block : BlockData
    early_block = record { file = old.file; number = old.number; bytes = bytes }

    abbrev left : List ℕ
    left = drop count (bytes_held old)

    abbrev now : List BlockData
    now = past.taken ++ early_block ∷ []

    bytes_are : bytes ≡ take count (bytes_held old)
    bytes_are = front ∙ sym (take-take count old.filled old.rest.items (omega arith))

    early_numbered : AreNumbered past.file 0 now
    early_numbered =
        let n : old.number ≡ 0 + length past.taken =
        omega (arith, s.next, ap length d, length-append past.taken old.ready.items) in
        numbered_more past.file 0 past.taken early_block (drained old past s d).1 (sym s.file) n

    early_whole : past.bytes ≡ joined now ++ left
    early_whole =
        held_whole ∙ (ap (λ xs. joined past.taken ++ xs)
        (sym (ap (λ xs. xs ++ left) bytes_are ∙ take-append-drop count (bytes_held old)))
        ∙ (sym (append_assoc (joined past.taken) bytes left)
        ∙ ap (λ xs. xs ++ left) (ap (λ xs. joined past.taken ++ xs) (sym (append-nil bytes))
        ∙ sym (flat_map-append (λ (b : BlockData). b.bytes) past.taken (early_block ∷ [])))))

    abbrev Parts : ℕ → Type 0
    Parts n = EndsWith old.end (take n (bytes_held old)) × IsLine old.end (drop n (bytes_held old))

    parts : Parts count
    parts =
        let n : length (bytes_held old) - old.line ≡ count = ap (λ n. n - old.line) held_length in
        subst Parts n (open_cut old.end (bytes_held old) old.line held_open (omega (arith, held_length, less)))

    left_line : IsLine past.end left
    left_line = let P : ℕ → Type 0 = λ e. IsLine e left in subst P (sym s.terminator) parts.1

    block_ends : EndsWith past.end bytes
    block_ends =
        let P : ℕ → List ℕ → Type 0 = λ e xs. EndsWith e xs in
        subst (λ e. P e bytes) (sym s.terminator) (subst (P old.end) (sym bytes_are) parts.0)

    -- they are all
    pub early_lines : HasLinesLeft past early_block
    early_lines = record { numbered = early_numbered; ends = block_ends; none = (left, early_whole, left_line) }

    early_cut : CutsFed (handed_early past (Some early_block)) now left
    early_cut = record {
      later = [];
      rest = left;
      blocks_are = sym (append-nil now);
      bytes_are = early_whole;
      lines = all_end past.end past.taken (early_block ∷ []) taken_end (block_ends, tt);
      cut = record {
        whole = refl;
        finished = tt;
        unfinished = line_unfinished past.end past.size left left_line;
      };
    }

    -- the cutter goes on behind them
    pub early_stands : (new : Cutter A) → new.file ≡ old.file → new.size ≡ old.size → new.longest ≡ old.longest
        → new.end ≡ old.end → new.number ≡ old.number + 1 → new.total ≡ old.total → new.line ≡ old.line
        → new.ready.items ≡ [] → bytes_held new ≡ left → IsCutterAfter new (handed_early past (Some early_block))
    early_stands new file size longest end number total line ready same =
        let all : now ≡ now ++ new.ready.items = sym (ap (λ bs. now ++ bs) ready ∙ append-nil now) in
        let C : List BlockData → Type 0 = λ bs. CutsFed (handed_early past (Some early_block)) bs (bytes_held new) in
        let D : List ℕ → Type 0 = λ xs. CutsFed (handed_early past (Some early_block)) now xs in
        let N : List BlockData → Type 0 = λ bs. AreNumbered past.file 0 bs in
        record {
          terminator = s.terminator ∙ sym end;
          file = s.file ∙ sym file;
          size = s.size ∙ sym size;
          longest = s.longest ∙ sym longest;
          cut = subst C all (subst D (sym same) early_cut);
          numbered = subst N all early_numbered;
          next =
              omega (
                arith,
                number,
                s.next,
                ap length all,
                ap length d,
                length-append past.taken old.ready.items,
                length-append past.taken (early_block ∷ []),
              );
          total = total ∙ s.total;
          short = s.short;
          line = line ∙ s.line;
        }
