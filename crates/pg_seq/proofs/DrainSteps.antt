-- What a drain does, step by step.
use Rattle.std.proofs.Common.{◌≡◌, ℕ, ◌+◌, ◌<◌, ◌^◌, Bool, true, false, ◌||◌, cond, is_some}
use Rattle.std.proofs.Common.{Option, Some, IfSome, List, [], ◌∷◌, ◌++◌, length, map, refl, sym, ap, ◌∙◌, subst}
use Rattle.std.proofs.Common.{arith, inl, inr, append_assoc, length-append}
use Rattle.std.specs.List.{AllByRecursion, list_any, list_all}
use Rattle.std.proofs.lemmas.Bool.{false≢true, and_from}
use Rattle.std.proofs.lemmas.List.{length_push}
use Rattle.std.proofs.lemmas.List.Folds.{list_any-append}
use Rattle.pg_selection.specs.Search.{Search, terminator, terminator_of}
use Rattle.pg_blocks.specs.Lines.{lines}
use Rattle.pg_selection.specs.Searched.{SearchedBlock, lines_of}
use Rattle.pg_blocks.specs.Blocks.{BlockData}
use Rattle.pg_blocks.proofs.CountLemmas.{few_lines}
use Rattle.pg_rows.specs.declared.format.Format.{Format}
use Rattle.pg_rows.specs.declared.printer.Printer.{Printer}
use Rattle.pg_rows.specs.Output.{HasRoom, output}
use Rattle.pg_base.specs.Sink.{IsBeginning, TakesPart}
use Rattle.pg_rows.proofs.SizeLemmas.{size_few}
use Rattle.pg_rows.specs.Cursor.{Cursor}
use Rattle.pg_rows.specs.Remembered.{IsAtCursor, opened_as, behind_block, shown_rows, end_rows}
use Rattle.pg_seq.specs.declared.opening.Opening.{Opening}
use Rattle.pg_seq.specs.declared.slot.Slot.{Slot}
use Rattle.pg_seq.specs.declared.assembler.Assembler.{Assembler}
use Rattle.pg_plan.specs.Plan.{Step, Opens, Announces, Ends, IsPlan, IsShaped, is_open, announced, entries_of}
use Rattle.pg_plan.specs.History.{Past, plan, taken_of, is_taken, all_taken, front, front_after, handed, handed_after}
use Rattle.pg_plan.specs.Cursor.{cursor_of}
use Rattle.pg_plan.proofs.CursorLemmas.{step_rows}
use Rattle.pg_seq.specs.Coming.{behind, openings}
use Rattle.pg_seq.proofs.ComingLemmas.{blocks_of}
use Rattle.pg_seq.specs.Slots.{slot_block, has_result, slot_selects, ready, IsResultOf}
use Rattle.pg_seq.specs.Buffer.{SameButRoom, HandsOut, HasResult}
use Rattle.pg_seq.specs.Standing.{IsAfter, HasWrittenAll, wrote, opening_of, is_last_block, is_at_end}
use Rattle.pg_seq.proofs.FrontLemmas.{all_map, front_all, front_shaped}
use Rattle.pg_plan.proofs.ListLemmas.{heads, tails, no_cons}
use Rattle.pg_plan.proofs.BeginLemmas.{begins_trans, shape_of}
use Rattle.pg_plan.proofs.CursorLemmas.{cursor_is, output_step, open_rows, plan_begins}
use Rattle.pg_seq.proofs.ComingLemmas.{of_done, all_push, front_stops, front_has, AreMissed, next_file}
use Rattle.pg_seq.proofs.ComingLemmas.{is_over, NextStep, Nothing, Block, End, next_step}
use Rattle.pg_seq.proofs.StandLemmas.{all, halves, IsAlike, rested}
use Rattle.pg_rows.proofs.WindowLemmas.{all_push as each_push}
use Rattle.std.proofs.Math.Bool.{or-false}

pub last_by : {A : Type 0} (items : List (Opening A)) (more : Bool) (held n : ℕ)
    → is_last_block items more held n ≡ is_over (map opening_of items) more held n
last_by [] more held n = refl
last_by (opening ∷ items) more held n = refl

-- the numbers of a file's lines are small
pub few_numbers : (q : Search) (format : Format) → HasRoom format → (done : List Step) (b : BlockData)
    → IsPlan (terminator q) (Announces b ∷ done)
    → (cursor_of q format done).trail.number + length (lines (terminator q) b.bytes) < 2 ^ 63
few_numbers q format room done b lawful =
    let file = (cursor_is q format room done (shape_of (terminator q) done lawful.1)).file lawful.0.0.running in
    omega (
      arith,
      lawful.0.1.small,
      file.trail.number,
      few_lines (terminator q) file.bytes,
      ap length file.same,
      few_lines (terminator q) b.bytes,
    )

-- and so are the offsets of its bytes
pub few_bytes : (q : Search) (format : Format) → HasRoom format → (done : List Step) (b : BlockData)
    → IsPlan (terminator q) (Announces b ∷ done)
    → (cursor_of q format done).trail.offset + length b.bytes < 2 ^ 63
few_bytes q format room done b lawful =
    let file = (cursor_is q format room done (shape_of (terminator q) done lawful.1)).file lawful.0.0.running in
    omega (
      arith,
      lawful.0.1.small,
      file.trail.offset,
      size_few (terminator q) file.bytes,
      ap length file.same,
    )

module _ {A : Type 0} (s : Assembler A) (past : Past) (h : IsAfter s past) where
  abbrev q : Search
  q = past.query

  abbrev done : List Step
  done = h.writes.done

  abbrev coming : List Step
  coming = h.writes.coming

  -- what is remembered of what was written
  abbrev pub here : Cursor
  here = cursor_of q past.format done

  abbrev keys : List (ℕ × ℕ)
  keys = taken_of q past.events

  shaped : IsShaped (terminator q) (behind done coming)
  shaped =
      let P : List Step → Type 0 = λ p. IsShaped (terminator q) p in
      subst P h.writes.split (shape_of (terminator q) (plan past) h.lawful)

  shaped_done : IsShaped (terminator q) done
  shaped_done = of_done (λ p. IsShaped (terminator q) p) (λ s p h. h.1) done coming shaped

  -- the blocks that were handed out were taken
  pub done_taken : all_taken keys done ≡ true
  done_taken =
      all_map (is_taken keys) (announced done)
      ∙ (ap (list_all (λ b. b)) (halves s past h).taken_before ∙ gone_all h.gone h.given_up.results)
    where
      gone_all : (gone : List (Slot A)) → AllByRecursion (λ slot. has_result slot ≡ true) gone
          → list_all (λ b. b) (map has_result gone) ≡ true
      gone_all [] e = refl
      gone_all (x ∷ gone) e = and_from (has_result x) _ e.0 (gone_all gone e.1)

  -- What may be handed out.

  handed_front : (p : List Step) → front keys (plan past) ≡ p → handed past ≡ output q past.format (entries_of p)
  unfolding handed_after front_after
  handed_front p e = ap (λ f. output q past.format (entries_of f)) e

  -- no more than what was handed out, where the next block wasn't taken
  stops_at_block : (b : BlockData) (later : List Step) → coming ≡ Announces b ∷ later → is_taken keys b ≡ false
      → handed past ≡ output q past.format (entries_of done)
  stops_at_block b later e none =
      handed_front done (ap (front keys) (h.writes.split ∙ ap (behind done) e)
      ∙ front_stops keys done b later done_taken none)

  -- nor where nothing but missed names comes
  stops_at_last : AreMissed q past.format done coming → handed past ≡ output q past.format (entries_of done)
  stops_at_last m =
      let whole : all_taken keys (behind done coming) ≡ true = ap (list_all (is_taken keys)) m.all ∙ done_taken in
      handed_front (behind done coming) (ap (front keys) h.writes.split ∙ front_all keys (behind done coming) whole)
      ∙ m.same

  -- the output of steps whose blocks were taken begins it
  begins_handed : (p later : List Step) → behind done coming ≡ behind p later → all_taken keys p ≡ true
      → IsBeginning (output q past.format (entries_of p)) (handed past)
  begins_handed p later e whole =
      let f = front_has keys p later whole in
      let P : List ℕ → Type 0 = λ w. IsBeginning (output q past.format (entries_of p)) w in
      let S : List Step → Type 0 = λ x. IsShaped (terminator q) x in
      let front_is : front keys (plan past) ≡ f.0 ++ p = ap (front keys) (h.writes.split ∙ e) ∙ f.1 in
      let lawful : IsShaped (terminator q) (f.0 ++ p) =
      subst S front_is (front_shaped (terminator q) keys (plan past) (shape_of (terminator q) (plan past) h.lawful)) in
      subst P (sym (handed_front (f.0 ++ p) front_is)) (plan_begins q past.format h.room p f.0 lawful)

  -- A part of the rows of a step goes on from what was written.
  part_begins : (step : Step) (later : List Step) (part : List ℕ) → s.failed ≡ false → coming ≡ step ∷ later
      → all_taken keys (step ∷ done) ≡ true → IsBeginning part (step_rows q past.format here step)
      → IsBeginning (past.written ++ part) (handed past)
  part_begins step later part f e whole b =
      let rows = step_rows q past.format here step in
      let lawful : IsShaped (terminator q) (step ∷ done) =
      of_done (λ p. IsShaped (terminator q) p) (λ s p h. h.1) (step ∷ done) later
      (let P : List Step → Type 0 = λ c. IsShaped (terminator q) (behind done c) in
      subst P e shaped) in
      let grown : output q past.format (entries_of (step ∷ done)) ≡ past.written ++ rows =
      output_step q past.format h.room done here (cursor_is q past.format h.room done shaped_done) step lawful
      ∙ ap (λ w. w ++ rows) (sym (h.writes.written f)) in
      begins_trans _ _ _ (
        b.0,
        append_assoc past.written part b.0 ∙ (ap (λ w. past.written ++ w) b.1 ∙ sym grown),
      )
      (begins_handed (step ∷ done) later (ap (behind done) e) whole)

  -- the rows of a step were written
  step_written : (step : Step) (later : List Step) → s.failed ≡ false → coming ≡ step ∷ later
      → past.written ++ step_rows q past.format here step ≡ output q past.format (entries_of (step ∷ done))
  step_written step later f e =
      let rows = step_rows q past.format here step in
      let lawful : IsShaped (terminator q) (step ∷ done) =
      of_done (λ p. IsShaped (terminator q) p) (λ s p h. h.1) (step ∷ done) later
      (let P : List Step → Type 0 = λ c. IsShaped (terminator q) (behind done c) in
      subst P e shaped) in
      ap (λ w. w ++ rows) (h.writes.written f)
      ∙ sym (output_step q past.format h.room done here (cursor_is q past.format h.room done shaped_done) step lawful)

  -- What comes next.

  over_is : is_at_end s
      ≡ is_over (openings s.buffer.handed coming) (is_open (behind done coming)) (length (blocks_of coming))
      s.buffer.handed
  over_is =
      last_by s.waiting.items s.running (length s.buffer.slots.items) s.buffer.handed
      ∙ (ap (λ ws. is_over ws s.running (length s.buffer.slots.items) s.buffer.handed) h.writes.waiting
      ∙ (ap (λ m. is_over (openings s.buffer.handed coming) m (length s.buffer.slots.items) s.buffer.handed)
      (sym h.running ∙ ap is_open h.writes.split)
      ∙ ap (λ k. is_over (openings s.buffer.handed coming) (is_open (behind done coming)) k s.buffer.handed)
      (sym (held_count' s.buffer.slots.items (halves s past h).later))))
    where
      held_count' : (slots : List (Slot A)) → blocks_of coming ≡ map slot_block slots
          → length (blocks_of coming) ≡ length slots
      held_count' slots e = ap length e ∙ mapped slots
        where
          mapped : (xs : List (Slot A)) → length (map slot_block xs) ≡ length xs
          mapped [] = refl
          mapped (x ∷ xs) = omega (arith, mapped xs)

  pub next_is : s.printing ≡ true → NextStep coming (is_at_end s)
  next_is printing =
      let P : Bool → Type 0 = λ b. NextStep coming b in
      subst P (sym over_is)
      (next_step (terminator q) s.buffer.handed done coming (h.writes.printing ∙ printing) shaped)

  -- where no file waits, all was written
  pub none_waits : s.printing ≡ false → s.waiting.items ≡ [] → s.failed ≡ false → HasWrittenAll past
  none_waits idle none f =
      elim (next_file q past.format (terminator q) s.buffer.handed done coming (h.writes.printing ∙ idle) shaped) [
        | inl m ↦ h.writes.written f ∙ sym (stops_at_last m)
        | inr o ↦
            absurd (no_cons (s.buffer.handed, o.name) (openings s.buffer.handed o.later)
            (sym (ap (map opening_of) none) ∙ (h.writes.waiting ∙ o.waiting)))
      ]

  -- the next file was opened in the printer
  pub opened_next : (new : Assembler A) (next : Opening A) → s.printing ≡ false
      → s.waiting.items ≡ next ∷ new.waiting.items → IsAlike s new → new.printing ≡ true
      → SameButRoom s.buffer new.buffer → new.failed ≡ s.failed
      → IsAtCursor new.printer q past.format (opened_as here next.prefix) → IsAfter new past
  opened_next new next idle waits a printing k f remembers =
      elim (next_file q past.format (terminator q) s.buffer.handed done coming (h.writes.printing ∙ idle) shaped) [
        | inl m ↦
            absurd (no_cons (opening_of next) (map opening_of new.waiting.items)
            (sym (m.waiting s.buffer.handed) ∙ (sym h.writes.waiting ∙ ap (map opening_of) waits)))
        | inr o ↦
            let both : opening_of next ∷ map opening_of new.waiting.items
            ≡ (s.buffer.handed, o.name) ∷ openings s.buffer.handed o.later =
            sym (ap (map opening_of) waits) ∙ (h.writes.waiting ∙ o.waiting) in
            let name : next.prefix ≡ o.name = ap (λ p. p.1) (heads both) in
            let R : Cursor → Type 0 = λ c. IsAtCursor new.printer q past.format c in
            rested s new past past.written past.failed h a k (h.failed ∙ sym f) (record {
              done = Opens o.name ∷ o.misses;
              coming = o.later;
              split = h.writes.split ∙ o.split;
              count = ap length o.blocks ∙ (h.writes.count ∙ sym k.handed);
              printing = sym printing;
              waiting = tails both ∙ ap (λ n. openings n o.later) (sym k.handed);
              cursor = subst R (ap (λ c. opened_as c next.prefix) (sym o.cursor)
                  ∙ ap (opened_as (cursor_of q past.format o.misses)) name) remembers;
              written = λ e. h.writes.written (sym f ∙ e)
                  ∙ (sym o.same ∙ sym (open_rows q past.format h.room o.name o.misses));
            })
      ]

  -- the file's end comes next
  pub ends_next : s.printing ≡ true → is_at_end s ≡ true
      → (failed : Bool) × (later : List Step) × (coming ≡ Ends failed ∷ later)
  ends_next printing over = go (next_is printing)
    where
      go : NextStep coming (is_at_end s) → (failed : Bool) × (later : List Step) × (coming ≡ Ends failed ∷ later)
      go (Nothing e none) = absurd (false≢true (sym none ∙ over))
      go (Block b later e none) = absurd (false≢true (sym none ∙ over))
      go (End failed later e some) = (failed, later, e)

  -- the row at the file's end was written
  pub ended_next : (new : Assembler A) → s.printing ≡ true → is_at_end s ≡ true → s.failed ≡ false
      → IsAlike s new → new.printing ≡ false → new.waiting.items ≡ s.waiting.items → new.printer ≡ s.printer
      → SameButRoom s.buffer new.buffer → new.failed ≡ s.failed → IsAfter new (wrote past (end_rows past.format here))
  ended_next new printing over f a stopped waiting printer k f' =
      let n = ends_next printing over in
      let step = Ends n.0 in
      let later = n.1 in
      let P : Printer A → Type 0 = λ p. IsAtCursor p q past.format here in
      rested s new past (past.written ++ end_rows past.format here) past.failed h a k (h.failed ∙ sym f') (record {
        done = step ∷ done;
        coming = later;
        split = h.writes.split ∙ ap (behind done) n.2;
        count = h.writes.count ∙ sym k.handed;
        printing = sym stopped;
        waiting = ap (map opening_of) waiting
            ∙ (h.writes.waiting
            ∙ (ap (openings s.buffer.handed) n.2 ∙ ap (λ m. openings m later) (sym k.handed)));
        cursor = subst P (sym printer) h.writes.cursor;
        written = λ e. step_written step later f n.2;
      })

  -- a part of it was written
  pub end_part : s.printing ≡ true → is_at_end s ≡ true → s.failed ≡ false → (before after : List ℕ)
      → (t : TakesPart (end_rows past.format here) before after) → IsBeginning (past.written ++ t.0) (handed past)
  end_part printing over f before after t =
      let n = ends_next printing over in
      part_begins (Ends n.0) n.1 t.0 f n.2 done_taken t.1

  -- A block comes next, and its slot is the first.

  -- its block, and what is known of it
  pub record IsNextBlock (slot : Slot A) : Type 0 where
    pub later : List Step
    pub is : coming ≡ Announces (slot_block slot) ∷ later
    pub taken : is_taken keys (slot_block slot) ≡ has_result slot

  pub block_next : (slot : Slot A) (rest : List (Slot A)) → s.printing ≡ true → is_at_end s ≡ false
      → s.buffer.slots.items ≡ slot ∷ rest → IsNextBlock slot
  block_next slot rest printing over first = go (next_is printing)
    where
      blocks : blocks_of coming ≡ slot_block slot ∷ map slot_block rest
      blocks = (halves s past h).later ∙ ap (map slot_block) first

      go : NextStep coming (is_at_end s) → IsNextBlock slot
      go (Nothing e none) =
          absurd (no_cons (slot_block slot) (map slot_block rest) (sym (ap blocks_of e) ∙ blocks))
      go (End failed later e some) = absurd (false≢true (sym over ∙ some))
      go (Block b later e none) =
          let same : b ≡ slot_block slot = heads (sym (ap blocks_of e) ∙ blocks) in
          record {
            later = later;
            is = e ∙ ap (λ x. Announces x ∷ later) same;
            taken = heads (sym (ap (map (is_taken keys)) blocks)
                ∙ ((halves s past h).taken_later ∙ ap (map has_result) first));
          }

  -- where the next block's result hasn't come, all was written
  pub none_ready : s.printing ≡ true → is_at_end s ≡ false → s.failed ≡ false → ready s.buffer.slots.items ≡ 0
      → HasWrittenAll past
  none_ready printing over f none = h.writes.written f ∙ sym (go (next_is printing))
    where
      unready : (slot : Slot A) (rest : List (Slot A)) → s.buffer.slots.items ≡ slot ∷ rest → has_result slot ≡ false
      unready slot rest e = by (has_result slot) (omega (arith, ap ready e, none))
        where
          by : (b : Bool) → cond b (1 + ready rest) 0 ≡ 0 → b ≡ false
          by true e = absurd (omega (arith, e))
          by false e = refl

      at_first : (b : BlockData) (later : List Step) → coming ≡ Announces b ∷ later → (slots : List (Slot A))
          → s.buffer.slots.items ≡ slots → handed past ≡ output q past.format (entries_of done)
      at_first b later e [] first =
          absurd (no_cons b (blocks_of later)
          (sym (ap (map slot_block) first) ∙ (sym (halves s past h).later ∙ ap blocks_of e)))
      at_first b later e (slot ∷ rest) first =
          let n = block_next slot rest printing over first in
          stops_at_block (slot_block slot) n.later n.is (n.taken ∙ unready slot rest first)

      go : NextStep coming (is_at_end s) → handed past ≡ output q past.format (entries_of done)
      go (Nothing e none) = stops_at_last (record {
        same = ap (λ c. output q past.format (entries_of (behind done c))) e;
        all = ap (λ c. announced (behind done c)) e;
        cursor = ap (λ c. cursor_of q past.format (behind done c)) e;
        closed = ap (λ c. is_open (behind done c)) e;
        waiting = λ n. ap (openings n) e;
      })
      go (End failed later e some) = absurd (false≢true (sym over ∙ some))
      go (Block b later e none) = at_first b later e s.buffer.slots.items refl

  -- The rows of the first block.

  first_is : (slot : Slot A) (rest : List (Slot A)) → s.buffer.slots.items ≡ slot ∷ rest → IsResultOf q slot
  first_is slot rest e =
      let P : List (Slot A) → Type 0 = λ xs. AllByRecursion (IsResultOf q) xs in
      (all_later h.gone slot rest (subst P (ap (λ xs. h.gone ++ xs) e) h.results))
    where
      all_later : (gone : List (Slot A)) (x : Slot A) (xs : List (Slot A))
          → AllByRecursion (IsResultOf q) (gone ++ x ∷ xs) → IsResultOf q x
      all_later [] x xs r = r.0
      all_later (y ∷ gone) x xs r = all_later gone x xs r.1

  -- the result is the query's, and the block's
  pub result_is : (slot : Slot A) (rest : List (Slot A)) (found : SearchedBlock) → s.buffer.slots.items ≡ slot ∷ rest
      → slot.result ≡ Some found → (found.query ≡ q.text) × (found.block ≡ slot_block slot)
  result_is slot rest found e is =
      let P : Option SearchedBlock → Type 0 = λ o. IfSome o (λ r. (r.query ≡ q.text) × (r.block ≡ slot_block slot)) in
      subst P is (first_is slot rest e)

  -- the numbers of lines are small
  pub lines_fit : (slot : Slot A) (rest : List (Slot A)) (found : SearchedBlock) → s.printing ≡ true
      → is_at_end s ≡ false → s.buffer.slots.items ≡ slot ∷ rest → slot.result ≡ Some found
      → here.trail.number + length (lines_of found) < 2 ^ 63
  lines_fit slot rest found printing over e is =
      let n = block_next slot rest printing over e in
      let r = result_is slot rest found e is in
      let P : List Step → Type 0 = λ p. IsPlan (terminator q) p in
      let lawful : IsPlan (terminator q) (Announces (slot_block slot) ∷ done) =
      of_done (λ p. IsPlan (terminator q) p) (λ s p h. h.1) (Announces (slot_block slot) ∷ done) n.later
      (subst P (h.writes.split ∙ ap (behind done) n.is) h.lawful) in
      let few = few_numbers q past.format h.room done (slot_block slot) lawful in
      omega (
        arith,
        few,
        ap (λ t. length (lines (terminator_of t) found.block.bytes)) r.0,
        ap (λ b. length (lines (terminator q) b.bytes)) r.1,
      )

  pub bytes_fit : (slot : Slot A) (rest : List (Slot A)) (found : SearchedBlock) → s.printing ≡ true
      → is_at_end s ≡ false → s.buffer.slots.items ≡ slot ∷ rest → slot.result ≡ Some found
      → here.trail.offset + length found.block.bytes < 2 ^ 63
  bytes_fit slot rest found printing over e is =
      let n = block_next slot rest printing over e in
      let r = result_is slot rest found e is in
      let P : List Step → Type 0 = λ p. IsPlan (terminator q) p in
      let lawful : IsPlan (terminator q) (Announces (slot_block slot) ∷ done) =
      of_done (λ p. IsPlan (terminator q) p) (λ s p h. h.1) (Announces (slot_block slot) ∷ done) n.later
      (subst P (h.writes.split ∙ ap (behind done) n.is) h.lawful) in
      omega (
        arith,
        few_bytes q past.format h.room done (slot_block slot) lawful,
        ap (λ b. length b.bytes) r.1,
      )

  -- the rows were written, and the printer stands behind the block
  pub printed_next : (new : Assembler A) (slot : Slot A) (found : SearchedBlock) → s.printing ≡ true
      → is_at_end s ≡ false
      → s.failed ≡ false → slot.result ≡ Some found → HandsOut slot s.buffer new.buffer → IsAlike s new
      → new.printing ≡ s.printing → new.waiting.items ≡ s.waiting.items → new.failed ≡ s.failed
      → IsAtCursor new.printer q past.format (behind_block q past.format here (slot_block slot).bytes)
      → IsAfter new (wrote past (shown_rows q past.format here found.block.bytes))
  printed_next new slot found printing over f is o a printing' waiting failed' remembers =
      let n = block_next slot new.buffer.slots.items printing over o.slots in
      let step = Announces (slot_block slot) in
      let r = result_is slot new.buffer.slots.items found o.slots is in
      let gone = h.gone ++ slot ∷ [] in
      let same : all s h ≡ gone ++ new.buffer.slots.items = ap (λ xs. h.gone ++ xs) o.slots
      ∙ sym (append_assoc h.gone (slot ∷ []) new.buffer.slots.items) in
      let R : List (Slot A) → Type 0 = λ xs. AllByRecursion (IsResultOf q) xs in
      record {
        gone = gone;
        given_up = record {
          count = length-append h.gone (slot ∷ []) ∙ (ap (λ n. n + 1) h.given_up.count ∙ sym o.handed);
          results = each_push (λ slot. has_result slot ≡ true) h.gone slot h.given_up.results
              (ap (λ o. is_some o) is);
        };
        query = h.query ∙ ap (λ s. s.value) (sym a.selector);
        trees = h.trees;
        format = h.format ∙ sym a.format;
        room = h.room;
        lawful = h.lawful;
        running = h.running ∙ sym a.running;
        bad = h.bad ∙ sym a.bad;
        starts = o.starts ∙ h.starts;
        blocks = h.blocks ∙ ap (map slot_block) same;
        taken = h.taken ∙ ap (map has_result) same;
        results = subst R same h.results;
        failed = h.failed ∙ sym failed';
        selected = o.selected q h.trees (first_is slot new.buffer.slots.items o.slots)
            ∙ (ap (λ b. b || slot_selects q slot) h.selected ∙ selected_more h.gone slot);
        writes = record {
          done = step ∷ done;
          coming = n.later;
          split = h.writes.split ∙ ap (behind done) n.is;
          count = length_push (announced done) (slot_block slot)
              ∙ (ap (λ m. m + 1) h.writes.count ∙ sym o.handed);
          printing = h.writes.printing ∙ sym printing';
          waiting = ap (map opening_of) waiting
              ∙ (h.writes.waiting
              ∙ (ap (openings s.buffer.handed) n.is ∙ ap (λ m. openings m n.later) (sym o.handed)));
          cursor = remembers;
          written = λ e. ap (λ b. past.written ++ shown_rows q past.format here b.bytes) r.1
              ∙ step_written step n.later f n.is;
        };
      }
    where
      selected_more : (gone : List (Slot A)) (x : Slot A)
          → (list_any (slot_selects q) gone || slot_selects q x) ≡ list_any (slot_selects q) (gone ++ x ∷ [])
      selected_more gone x = ap (λ b. list_any (slot_selects q) gone || b) (sym (or-false (slot_selects q x)))
          ∙ sym (list_any-append (slot_selects q) gone (x ∷ []))

  -- a part of the rows was written
  pub block_part : (found : SearchedBlock) → (p : HasResult s.buffer 0 found) → s.printing ≡ true → is_at_end s ≡ false
      → s.failed ≡ false → (before after : List ℕ)
      → (t : TakesPart (shown_rows q past.format here found.block.bytes) before after)
      → IsBeginning (past.written ++ t.0) (handed past)
  block_part found p printing over f before after t =
      let n = block_next p.slot p.later printing over p.slots in
      let r = result_is p.slot p.later found p.slots p.result in
      let some : is_taken keys (slot_block p.slot) ≡ true = n.taken ∙ ap (λ o. is_some o) p.result in
      let whole : all_taken keys (Announces (slot_block p.slot) ∷ done) ≡ true =
      all_push (is_taken keys) (announced done) (slot_block p.slot)
      ∙ and_from (list_all (is_taken keys) (announced done)) _ done_taken some in
      let P : BlockData → Type 0 = λ b. IsBeginning t.0 (shown_rows q past.format here b.bytes) in
      part_begins (Announces (slot_block p.slot)) n.later t.0 f n.is whole (subst P r.1 t.1)
