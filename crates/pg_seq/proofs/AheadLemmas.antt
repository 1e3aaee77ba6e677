-- How far the rows of a plan could be written.
use Rattle.std.proofs.Common.{◌≡◌, ℕ, zero, suc, ◌==◌, ◌+◌, ◌-◌, ◌<◌, ◌^◌, Bool, true, false, not, ◌&&◌, ◌||◌, cond}
use Rattle.std.proofs.Common.{is_some, Option}
use Rattle.std.proofs.Common.{IfSome, List, [], ◌∷◌, ◌++◌, length, drop, map, refl, sym, ap, ◌∙◌, subst, arith, inl}
use Rattle.std.proofs.Common.{inr}
use Rattle.std.specs.List.{AllByRecursion, list_any, list_all}
use Rattle.std.proofs.lemmas.Bool.{false≢true, and_from}
use Rattle.std.proofs.lemmas.List.{length-map, length-drop, map-append, drop-map, drop-drop, length_push}
use Rattle.std.proofs.lemmas.List.Folds.{list_any-append}
use Rattle.pg_selection.specs.Search.{Search, terminator, terminator_of}
use Rattle.pg_blocks.specs.Lines.{lines}
use Rattle.pg_selection.specs.Searched.{SearchedBlock, lines_of}
use Rattle.pg_blocks.specs.Blocks.{BlockData}
use Rattle.pg_selection.specs.Runs.{AreRuns, HasRuns}
use Rattle.pg_selection.specs.declared.run.Run.{Run}
use Rattle.pg_rows.specs.declared.progress.Progress.{Progress}
use Rattle.pg_rows.specs.Modes.{is_quiet}
use Rattle.pg_rows.specs.Output.{has_selected, output}
use Rattle.pg_rows.specs.Enough.{trail_suffices, is_enough}
use Rattle.pg_rows.specs.Cursor.{Cursor}
use Rattle.pg_rows.specs.Progress.{IsOfTrail, TellsNone, TellsBlock}
use Rattle.pg_seq.specs.declared.ahead.Lookahead.{Lookahead}
use Rattle.pg_seq.specs.declared.opening.Opening.{Opening}
use Rattle.pg_seq.specs.declared.slot.Slot.{Slot}
use Rattle.pg_seq.specs.declared.reorder_buffer.ReorderBuffer.{ReorderBuffer}
use Rattle.pg_seq.specs.declared.assembler.Assembler.{Assembler}
use Rattle.pg_plan.specs.Plan.{Step, Opens, Announces, Ends, IsPlan, IsShaped, is_open, announced, entries_of}
use Rattle.pg_plan.specs.History.{Past, plan, taken_of, is_taken, all_taken, front, front_after, front_of}
use Rattle.pg_plan.specs.Cursor.{cursor_of}
use Rattle.pg_seq.specs.Coming.{behind, openings}
use Rattle.pg_seq.proofs.ComingLemmas.{blocks_of}
use Rattle.pg_seq.specs.Slots.{slot_block, has_result, slot_selects, ready, IsResultOf}
use Rattle.pg_seq.specs.Buffer.{HasResult}
use Rattle.pg_seq.specs.Standing.{IsAfter, opening_of}
use Rattle.pg_seq.specs.Ahead.{HasLookedAhead, IsAtFront, is_over, block_selects, is_enough_by}
use Rattle.pg_seq.proofs.EnoughLemmas.{suffices_by_cursor}
use Rattle.pg_seq.proofs.FrontLemmas.{front_all, front_shaped}
use Rattle.pg_plan.proofs.ListLemmas.{heads, tails, no_cons}
use Rattle.pg_plan.proofs.BeginLemmas.{shape_of}
use Rattle.pg_seq.proofs.SelectLemmas.{runs_of, some_runs}
use Rattle.pg_seq.proofs.ComingLemmas.{of_done, all_push, front_stops, announced_behind, rest_same, AreMissed}
use Rattle.pg_seq.proofs.ComingLemmas.{next_file, NextStep, Nothing, Block, End, next_step, is_over as over_by}
use Rattle.pg_seq.proofs.StandLemmas.{selected_entries, slot_selected, halves}
use Rattle.pg_seq.proofs.DrainSteps.{last_by, few_numbers, done_taken, here}
use Rattle.std.proofs.Math.Bool.{or-false}

module _ {A : Type 0} (s : Assembler A) (past : Past) (h : IsAfter s past) where
  -- whether a line is selected in the blocks that were handed out
  gone_selected : (gone : List (Slot A)) → AllByRecursion (λ slot. has_result slot ≡ true) gone
      → AllByRecursion (IsResultOf past.query) gone
      → list_any (block_selects past.query) (map slot_block gone) ≡ list_any (slot_selects past.query) gone
  gone_selected [] some are = refl
  gone_selected (x ∷ gone) some are =
      ap (λ t. t || list_any (block_selects past.query) (map slot_block gone))
      (slot_selected past.query (slot_block x) x.result some.0 are.0)
      ∙ ap (λ t. slot_selects past.query x || t) (gone_selected gone some.1 are.1)

  gone_results : (gone later : List (Slot A)) → AllByRecursion (IsResultOf past.query) (gone ++ later)
      → AllByRecursion (IsResultOf past.query) gone
  gone_results [] later are = tt
  gone_results (x ∷ gone) later are = (are.0, gone_results gone later are.1)

  -- what was handed out is so far
  pub at_first : (a : Lookahead) → a.blocks ≡ 0 → a.files ≡ 0 → a.inside ≡ s.printing → a.progress ≡ s.printer.progress
      → a.selected ≡ s.buffer.selected → HasLookedAhead s past a
  at_first a blocks files inside progress selected =
      let n : s.buffer.handed ≡ s.buffer.handed + a.blocks = omega (arith, blocks) in
      let T : Progress → Type 0 = λ p. IsOfTrail p past.format (here s past h).trail in
      record {
        done = h.writes.done;
        coming = h.writes.coming;
        split = h.writes.split;
        whole = done_taken s past h;
        count = h.writes.count ∙ n;
        inside = h.writes.printing ∙ sym inside;
        waiting = ap (λ k. map opening_of (drop k s.waiting.items)) files
            ∙ (h.writes.waiting ∙ ap (λ m. openings m h.writes.coming) n);
        progress = subst T (sym progress) h.writes.cursor.told;
        selected = ap (list_any (block_selects past.query)) (halves s past h).before
            ∙ (gone_selected h.gone h.given_up.results (gone_results h.gone s.buffer.slots.items h.results)
            ∙ (sym h.selected ∙ sym selected));
      }

module _ {A : Type 0} (s : Assembler A) (past : Past) (h : IsAfter s past) (a : Lookahead) (i : HasLookedAhead s past a)
  where
    abbrev q : Search
    q = past.query

    abbrev done : List Step
    done = i.done

    abbrev coming : List Step
    coming = i.coming

    abbrev keys : List (ℕ × ℕ)
    keys = taken_of q past.events

    abbrev total : ℕ
    total = s.buffer.handed + a.blocks

    shaped : IsShaped (terminator q) (behind done coming)
    shaped =
        let P : List Step → Type 0 = λ p. IsShaped (terminator q) p in
        subst P i.split (shape_of (terminator q) (plan past) h.lawful)

    all_blocks : announced done ++ blocks_of coming ≡ map slot_block h.gone ++ map slot_block s.buffer.slots.items
    all_blocks =
        sym (ap announced i.split ∙ announced_behind done coming)
        ∙ (h.blocks ∙ map-append slot_block h.gone s.buffer.slots.items)

    gone_count : {X : Type 0} (f : Slot A → X) → length (announced done) ≡ length (map f h.gone) + a.blocks
    gone_count f = omega (arith, i.count, h.given_up.count, length-map h.gone f)

    later_blocks : blocks_of coming ≡ map slot_block (drop a.blocks s.buffer.slots.items)
    later_blocks =
        rest_same (announced done) (blocks_of coming) (map slot_block h.gone) (map slot_block s.buffer.slots.items)
        a.blocks all_blocks (gone_count slot_block)
        ∙ drop-map slot_block a.blocks s.buffer.slots.items

    later_marks : map (is_taken keys) (blocks_of coming) ≡ map has_result (drop a.blocks s.buffer.slots.items)
    later_marks =
        let t = is_taken keys in
        rest_same (map t (announced done)) (map t (blocks_of coming)) (map has_result h.gone)
        (map has_result s.buffer.slots.items) a.blocks
        (sym (map-append t (announced done) (blocks_of coming))
        ∙ (ap (map t) (sym (ap announced i.split ∙ announced_behind done coming))
        ∙ (h.taken ∙ map-append has_result h.gone s.buffer.slots.items)))
        (length-map (announced done) t ∙ gone_count has_result)
        ∙ drop-map has_result a.blocks s.buffer.slots.items

    over_is : is_over s a
        ≡ over_by (openings total coming) (is_open (behind done coming)) (length (blocks_of coming)) total
    over_is =
        let held = length s.buffer.slots.items - a.blocks in
        let files = drop a.files s.waiting.items in
        last_by files s.running held total
        ∙ (ap (λ ws. over_by ws s.running held total) i.waiting
        ∙ (ap (λ m. over_by (openings total coming) m held total) (sym h.running ∙ ap is_open i.split)
        ∙ ap (λ k. over_by (openings total coming) (is_open (behind done coming)) k total)
        (sym (ap length later_blocks
        ∙ (length-map (drop a.blocks s.buffer.slots.items) slot_block
        ∙ length-drop a.blocks s.buffer.slots.items)))))

    next_is : a.inside ≡ true → NextStep coming (is_over s a)
    next_is inside =
        let P : Bool → Type 0 = λ b. NextStep coming b in
        subst P (sym over_is) (next_step (terminator q) total done coming (i.inside ∙ inside) shaped)

    -- the front, where it has these steps and perhaps missed names
    front_at : (p : List Step) → front keys (plan past) ≡ p → IsShaped (terminator q) p → announced p ≡ announced done
        → is_open p ≡ is_open done → cursor_of q past.format p ≡ cursor_of q past.format done → IsAtFront past a
    unfolding front_after
    front_at p e lawful blocks open' cursor =
        let T : Cursor → Type 0 = λ c. IsOfTrail a.progress past.format c.trail in
        let same = sym e in record {
          inside = ap is_open e ∙ (open' ∙ i.inside);
          progress = subst T (ap (cursor_of q past.format) same) (subst T (sym cursor) i.progress);
          selected = ap (λ f. list_any (has_selected q) (entries_of f)) e
              ∙ (selected_entries q past.format h.room p lawful
              ∙ (ap (list_any (block_selects q)) blocks ∙ i.selected));
        }

    -- where nothing but missed names comes
    front_missed : AreMissed q past.format done coming → IsAtFront past a
    front_missed m =
        let whole : all_taken keys (behind done coming) ≡ true = ap (list_all (is_taken keys)) m.all ∙ i.whole in
        front_at (behind done coming) (ap (front keys) i.split ∙ front_all keys (behind done coming) whole) shaped m.all
        m.closed m.cursor

    -- no file waits
    pub no_file : a.inside ≡ false → drop a.files s.waiting.items ≡ [] → IsAtFront past a
    no_file outside none =
        elim (next_file q past.format (terminator q) total done coming (i.inside ∙ outside) shaped) [
          | inl m ↦ front_missed m
          | inr o ↦
              absurd (no_cons (total, o.name) (openings total o.later)
              (sym (ap (map opening_of) none) ∙ (i.waiting ∙ o.waiting)))
        ]

    -- the next file is opened
    pub file_next : (next : Opening A) (rest : List (Opening A)) → a.inside ≡ false
        → drop a.files s.waiting.items ≡ next ∷ rest → (b : Lookahead) → b.blocks ≡ a.blocks → b.files ≡ a.files + 1
        → b.inside ≡ true → TellsNone b.progress → b.selected ≡ a.selected → HasLookedAhead s past b
    file_next next rest outside waits b blocks files inside progress selected =
        elim (next_file q past.format (terminator q) total done coming (i.inside ∙ outside) shaped) [
          | inl m ↦
              absurd (no_cons (opening_of next) (map opening_of rest)
              (sym (m.waiting total) ∙ (sym i.waiting ∙ ap (map opening_of) waits)))
          | inr o ↦
              let n : total ≡ s.buffer.handed + b.blocks = omega (arith, blocks) in
              let left : drop b.files s.waiting.items ≡ rest =
              ap (λ k. drop k s.waiting.items) files
              ∙ (sym (drop-drop 1 a.files s.waiting.items) ∙ ap (drop 1) waits) in
              record {
                done = Opens o.name ∷ o.misses;
                coming = o.later;
                split = i.split ∙ o.split;
                whole = ap (list_all (is_taken keys)) o.blocks ∙ i.whole;
                count = ap length o.blocks ∙ (i.count ∙ n);
                inside = sym inside;
                waiting = ap (map opening_of) left
                    ∙ (tails (sym (ap (map opening_of) waits) ∙ (i.waiting ∙ o.waiting))
                    ∙ ap (λ m. openings m o.later) n);
                progress = progress past.format;
                selected = ap (list_any (block_selects q)) o.blocks ∙ (i.selected ∙ sym selected);
              }
        ]

    -- the file's end is passed
    pub end_next : a.inside ≡ true → is_over s a ≡ true → (b : Lookahead) → b.blocks ≡ a.blocks → b.files ≡ a.files
        → b.inside ≡ false → b.progress ≡ a.progress → b.selected ≡ a.selected → HasLookedAhead s past b
    end_next inside over b blocks files outside progress selected = go (next_is inside)
      where
        go : NextStep coming (is_over s a) → HasLookedAhead s past b
        go (Nothing e none) = absurd (false≢true (sym none ∙ over))
        go (Block x later e none) = absurd (false≢true (sym none ∙ over))
        go (End failed later e some) =
            let n : total ≡ s.buffer.handed + b.blocks = omega (arith, blocks) in
            let T : Progress → Type 0 = λ p. IsOfTrail p past.format (cursor_of q past.format done).trail in
            record {
              done = Ends failed ∷ done;
              coming = later;
              split = i.split ∙ ap (behind done) e;
              whole = i.whole;
              count = i.count ∙ n;
              inside = sym outside;
              waiting = ap (λ k. map opening_of (drop k s.waiting.items)) files
                  ∙ (i.waiting ∙ (ap (openings total) e ∙ ap (λ m. openings m later) n));
              progress = subst T (sym progress) i.progress;
              selected = i.selected ∙ sym selected;
            }

    -- the next block's result hasn't come
    pub no_block : a.inside ≡ true → is_over s a ≡ false → ready (drop a.blocks s.buffer.slots.items) ≡ 0
        → IsAtFront past a
    no_block inside over none = go (next_is inside)
      where
        unready : (slot : Slot A) (rest : List (Slot A)) → drop a.blocks s.buffer.slots.items ≡ slot ∷ rest
            → has_result slot ≡ false
        unready slot rest e = by (has_result slot) (omega (arith, ap ready e, none))
          where
            by : (b : Bool) → cond b (1 + ready rest) 0 ≡ 0 → b ≡ false
            by true e = absurd (omega (arith, e))
            by false e = refl

        at_slot : (b : BlockData) (later : List Step) → coming ≡ Announces b ∷ later → (slots : List (Slot A))
            → drop a.blocks s.buffer.slots.items ≡ slots → IsAtFront past a
        at_slot b later e [] first =
            absurd (no_cons b (blocks_of later)
            (sym (ap (map slot_block) first) ∙ (sym later_blocks ∙ ap blocks_of e)))
        at_slot b later e (slot ∷ rest) first =
            let mark : is_taken keys b ≡ has_result slot =
            heads (sym (ap (λ c. map (is_taken keys) (blocks_of c)) e) ∙ (later_marks ∙ ap (map has_result) first)) in
            let lawful : IsShaped (terminator q) done =
            of_done (λ p. IsShaped (terminator q) p) (λ s p h. h.1) done coming shaped in
            front_at done (ap (front keys) (i.split ∙ ap (behind done) e)
            ∙ front_stops keys done b later i.whole (mark ∙ unready slot rest first)) lawful refl refl refl

        go : NextStep coming (is_over s a) → IsAtFront past a
        go (Nothing e none) = front_missed (record {
          same = ap (λ c. output q past.format (entries_of (behind done c))) e;
          all = ap (λ c. announced (behind done c)) e;
          cursor = ap (λ c. cursor_of q past.format (behind done c)) e;
          closed = ap (λ c. is_open (behind done c)) e;
          waiting = λ n. ap (openings n) e;
        })
        go (End failed later e some) = absurd (false≢true (sym over ∙ some))
        go (Block b later e none) = at_slot b later e (drop a.blocks s.buffer.slots.items) refl

    -- the next block, whose result has come
    pub record HasBlock (found : SearchedBlock) : Type 0 where
      pub block : BlockData
      pub later : List Step
      pub is : coming ≡ Announces block ∷ later
      pub taken : is_taken keys block ≡ true
      pub query : found.query ≡ q.text
      pub same : found.block ≡ block

    pub block_of : (found : SearchedBlock) → a.inside ≡ true → is_over s a ≡ false → HasResult s.buffer a.blocks found
        → HasBlock found
    block_of found inside over r = go (next_is inside)
      where
        blocks : blocks_of coming ≡ slot_block r.slot ∷ map slot_block r.later
        blocks = later_blocks ∙ ap (map slot_block) r.slots

        result : IsResultOf q r.slot
        result =
            let P : List (Slot A) → Type 0 = λ xs. AllByRecursion (IsResultOf q) xs in
            (subst P r.slots (all_behind_gone h.gone s.buffer.slots.items a.blocks h.results)).0
          where
            all_rest : (xs ys : List (Slot A)) → AllByRecursion (IsResultOf q) (xs ++ ys)
                → AllByRecursion (IsResultOf q) ys
            all_rest [] ys e = e
            all_rest (x ∷ xs) ys e = all_rest xs ys e.1

            all_dropped : (xs : List (Slot A)) (n : ℕ) → AllByRecursion (IsResultOf q) xs
                → AllByRecursion (IsResultOf q) (drop n xs)
            all_dropped xs zero e = e
            all_dropped [] (suc n) e = tt
            all_dropped (x ∷ xs) (suc n) e = all_dropped xs n e.1

            all_behind_gone : (xs ys : List (Slot A)) (n : ℕ) → AllByRecursion (IsResultOf q) (xs ++ ys)
                → AllByRecursion (IsResultOf q) (drop n ys)
            all_behind_gone xs ys n e = all_dropped ys n (all_rest xs ys e)

        is : (found.query ≡ q.text) × (found.block ≡ slot_block r.slot)
        is =
            let P : Option SearchedBlock → Type 0 =
            λ o. IfSome o (λ x. (x.query ≡ q.text) × (x.block ≡ slot_block r.slot)) in
            subst P r.result result

        go : NextStep coming (is_over s a) → HasBlock found
        go (Nothing e none) =
            absurd (no_cons (slot_block r.slot) (map slot_block r.later) (sym (ap blocks_of e) ∙ blocks))
        go (End failed later e some) = absurd (false≢true (sym over ∙ some))
        go (Block b later e none) = record {
          block = b;
          later = later;
          is = e;
          taken = heads (sym (ap (λ c. map (is_taken keys) (blocks_of c)) e)
              ∙ (later_marks ∙ ap (map has_result) r.slots))
              ∙ ap (λ o. is_some o) r.result;
          query = is.0;
          same = is.1 ∙ sym (heads (sym (ap blocks_of e) ∙ blocks));
        }

    -- the numbers of lines are small
    pub block_fits : (found : SearchedBlock) → HasBlock found → a.progress.number + length (lines_of found) < 2 ^ 63
    block_fits found b =
        let P : List Step → Type 0 = λ p. IsPlan (terminator q) p in
        let lawful : IsPlan (terminator q) (Announces b.block ∷ done) =
        of_done (λ p. IsPlan (terminator q) p) (λ s p h. h.1) (Announces b.block ∷ done) b.later
        (subst P (i.split ∙ ap (behind done) b.is) h.lawful) in
        omega (
          arith,
          few_numbers q past.format h.room done b.block lawful,
          i.progress.number,
          ap (λ t. length (lines (terminator_of t) found.block.bytes)) b.query,
          ap (λ x. length (lines (terminator q) x.bytes)) b.same,
        )

    -- the block is passed
    pub block_next : (found : SearchedBlock) (w : HasBlock found) (runs : List Run) (n : ℕ)
        → HasRuns found.query found.block.bytes runs → n ≡ length (lines_of found) → (b : Lookahead)
        → b.blocks ≡ a.blocks + 1 → b.files ≡ a.files → b.inside ≡ a.inside
        → TellsBlock a.progress past.format runs n b.progress → b.selected ≡ (a.selected || not (length runs == 0))
        → HasLookedAhead s past b
    block_next found w runs n has count b blocks files inside progress selected =
        let R : BlockData → Type 0 = λ x. AreRuns q 0 0 x.bytes runs in
        let are : AreRuns q 0 0 w.block.bytes runs =
        subst R w.same (runs_of q found.query found.block.bytes runs h.trees w.query has) in
        let m : total + 1 ≡ s.buffer.handed + b.blocks = omega (arith, blocks) in
        record {
          done = Announces w.block ∷ done;
          coming = w.later;
          split = i.split ∙ ap (behind done) w.is;
          whole = all_push (is_taken keys) (announced done) w.block
              ∙ and_from (list_all (is_taken keys) (announced done)) _ i.whole w.taken;
          count = length_push (announced done) w.block ∙ (ap (λ k. k + 1) i.count ∙ m);
          inside = i.inside ∙ sym inside;
          waiting = ap (λ k. map opening_of (drop k s.waiting.items)) files
              ∙ (i.waiting ∙ (ap (openings total) w.is ∙ ap (λ k. openings k w.later) m));
          progress = progress q (cursor_of q past.format done).trail w.block.bytes are
              (count ∙ (ap (λ t. length (lines (terminator_of t) found.block.bytes)) w.query
              ∙ ap (λ x. length (lines (terminator q) x.bytes)) w.same)) i.progress;
          selected = list_any-append (block_selects q) (announced done) (w.block ∷ [])
              ∙ (ap (λ t. t || (block_selects q w.block || false)) i.selected
              ∙ (ap (λ t. a.selected || t)
              (or-false (block_selects q w.block) ∙ sym (some_runs q w.block.bytes runs are))
              ∙ sym selected));
        }

-- whether enough was read, by what is told of the front
pub front_enough : {A : Type 0} (s : Assembler A) (past : Past) → IsAfter s past → (a : Lookahead) → IsAtFront past a
    → is_enough_by past.format a (cursor_of past.query past.format (front_of past)).trail
    ≡ is_enough past.query past.format (entries_of (front_of past))
unfolding front_after
front_enough s past h a f =
    let q = past.query in
    let format = past.format in
    let trail = (cursor_of q format (front_of past)).trail in
    let lawful : IsShaped (terminator q) (front_of past) =
    front_shaped (terminator q) (taken_of q past.events) (plan past) (shape_of (terminator q) (plan past) h.lawful) in
    ap (λ t. cond (is_quiet format.mode) t (a.inside && trail_suffices format.mode format trail))
    (sym f.selected)
    ∙ ap (λ t. cond (is_quiet format.mode) (list_any (has_selected q) (entries_of (front_of past))) t)
    (ap (λ b. b && trail_suffices format.mode format trail) (sym f.inside)
    ∙ sym (suffices_by_cursor q format h.room (front_of past) lawful))

-- a block whose result has come is held
pub result_within : {A : Type 0} (buffer : ReorderBuffer A) (count : ℕ) (found : SearchedBlock)
    → HasResult buffer count found → count < length buffer.slots.items
result_within buffer count found h = omega (arith, length-drop count buffer.slots.items, ap length h.slots)
