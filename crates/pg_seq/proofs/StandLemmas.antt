-- What a sequencer stands after.
use Rattle.std.proofs.Common.{◌≡◌, ℕ, ◌+◌, ◌<◌, ◌≤◌, ◌^◌, Bool, true, false, ◌||◌, ◌&&◌, cond, eqb, is_some, Option}
use Rattle.std.proofs.Common.{Some}
use Rattle.std.proofs.Common.{None, IfSome, List, [], ◌∷◌, ◌++◌, length, map, refl, sym, ap, ◌∙◌, subst, arith}
use Rattle.std.proofs.Common.{inl, inr, append_assoc, length-append}
use Rattle.std.specs.List.{find, AllByRecursion, list_any, list_all}
use Rattle.std.proofs.lemmas.Bool.{false≢true, cases_Bool, eqb-true, and_parts, or_right}
use Rattle.std.proofs.lemmas.List.{append-nil, length-map, map-append, map_push}
use Rattle.std.proofs.lemmas.List.Folds.{list_any-append}
use Rattle.pg_selection.specs.Search.{Search, HasItsTrees, terminator}
use Rattle.pg_blocks.specs.Lines.{lines}
use Rattle.pg_selection.specs.Selection.{selects}
use Rattle.pg_selection.specs.Same.{same_text, text_equal}
use Rattle.pg_selection.specs.Searched.{SearchedBlock}
use Rattle.pg_blocks.specs.Blocks.{BlockData, joined}
use Rattle.pg_blocks.proofs.LineLemmas.{lines-append}
use Rattle.pg_plan.specs.declared.answers.Arrival.{Arrival}
use Rattle.pg_plan.specs.declared.answers.Arrival.TheVariants.{Taken, Double, Stranger}
use Rattle.pg_seq.specs.declared.slot.Slot.{Slot}
use Rattle.pg_seq.specs.declared.reorder_buffer.ReorderBuffer.{ReorderBuffer}
use Rattle.pg_seq.specs.declared.opening.Opening.{Opening}
use Rattle.pg_seq.specs.declared.assembler.Assembler.{Assembler}
use Rattle.pg_rows.specs.declared.format.Format.{Format}
use Rattle.pg_rows.specs.declared.printer.Printer.{Printer}
use Rattle.pg_rows.specs.Modes.{is_quiet}
use Rattle.pg_base.specs.Entries.{Entry, Missed, Read, Running, Ended, Failed}
use Rattle.pg_rows.specs.Output.{HasRoom, is_bad, has_selected}
use Rattle.pg_rows.specs.Remembered.{IsAtCursor}
use Rattle.pg_plan.specs.Plan.{Step, Opens, Announces, Ends, Misses, IsShaped, IsNextOfFile, IsSmall, MayFollow}
use Rattle.pg_plan.specs.Plan.{is_open, announced, last_blocks, entries_of, with_bytes, with_end}
use Rattle.std.specs.Arc.{arc_value}
use Rattle.std.specs.Prelude.{Result, Ok, Err, OnOk, OnErr}
use Rattle.pg_plan.specs.History.{Past, past_at_start, plan, planned, arrived, answer, answer_after, arrival_at}
use Rattle.pg_plan.specs.History.{taken_of}
use Rattle.pg_plan.specs.History.{taken_after, is_taken, is_block, all_taken, front_after, IsComplete, status_of}
use Rattle.pg_seq.specs.Coming.{openings}
use Rattle.pg_seq.proofs.ComingLemmas.{blocks_of}
use Rattle.pg_plan.specs.Cursor.{at_start, cursor_of}
use Rattle.pg_seq.specs.Slots.{place_of, at_place, slot_block, has_result, arrival_among, with_result, IsResultOf}
use Rattle.pg_seq.specs.Slots.{slot_selects, result_selects, ready}
use Rattle.pg_seq.specs.Ahead.{block_selects}
use Rattle.pg_seq.specs.Buffer.{IsUnused, SameButRoom, OpensFile, Pushes, Puts, IsArrival}
use Rattle.pg_seq.specs.Standing.{IsAfter, HandedOutSteps, starts_of, opening_of}
use Rattle.pg_seq.proofs.SlotLemmas.{all_behind, cond_pos}
use Rattle.pg_seq.proofs.FrontLemmas.{front_all, front_taken, all_map, ready_all}
use Rattle.pg_seq.proofs.ComingLemmas.{behind_push, openings_push, announced_behind, parts_same}
use Rattle.pg_plan.proofs.BeginLemmas.{shape_of}
use Rattle.pg_plan.proofs.CursorLemmas.{cursor_is, closed_joined}
use Rattle.pg_seq.proofs.PlaceLemmas.{starts_length, find_place}
use Rattle.pg_seq.proofs.KeyLemmas.{AreApart, announced_apart, find_passes, next_not_taken}
use Rattle.pg_seq.proofs.CountLemmas.{few_blocks}
use Rattle.pg_seq.proofs.ArriveLemmas.{at_slot, taken_means, IsTaken, block_at, held_back, taken_one}
use Rattle.pg_seq.proofs.ArriveLemmas.{same_blocks, results_with, stranger_taken}
use Rattle.std.proofs.Math.Bool.{or-false}
use Rattle.pg_blocks.proofs.CutLaws.{same_block}
use Rattle.pg_rows.proofs.WindowLemmas.{all_push}

-- an open file's entry ends the plan's files
bad_ended : (failed : Bool) (es : List Entry) (name bytes : List ℕ) (rest : List Entry)
    → es ≡ Read name bytes Running ∷ rest → list_any is_bad (with_end failed es) ≡ (list_any is_bad es || failed)
bad_ended failed es name bytes rest e = ap (λ xs. list_any is_bad (with_end failed xs)) e
    ∙ (turn failed (list_any is_bad rest) ∙ sym (ap (λ xs. list_any is_bad xs || failed) e))
  where
    turn : (f r : Bool) → list_any is_bad (Read name bytes (cond f Failed Ended) ∷ rest) ≡ (list_any is_bad rest || f)
    turn true r = sym (or_right (list_any is_bad rest) true refl)
    turn false r = sym (or-false (list_any is_bad rest))

bad_more : (bytes : List ℕ) (es : List Entry) → list_any is_bad (with_bytes bytes es) ≡ list_any is_bad es
bad_more bytes [] = refl
bad_more bytes (Missed name ∷ es) = refl
bad_more bytes (Read name old ending ∷ es) = refl

pub selected_entries : (q : Search) (format : Format) → HasRoom format → (p : List Step) → IsShaped (terminator q) p
    → list_any (has_selected q) (entries_of p) ≡ list_any (block_selects q) (announced p)
selected_entries q format room [] lawful = refl
selected_entries q format room (Opens name ∷ p) lawful = selected_entries q format room p lawful.1
selected_entries q format room (Misses name ∷ p) lawful = selected_entries q format room p lawful.1
selected_entries q format room (Ends failed ∷ p) lawful =
    let f = (cursor_is q format room p lawful.1).file lawful.0 in
    ap (λ es. list_any (has_selected q) (with_end failed es)) f.entries
    ∙ (sym (ap (list_any (has_selected q)) f.entries) ∙ selected_entries q format room p lawful.1)
selected_entries q format room (Announces b ∷ p) lawful =
    let f = (cursor_is q format room p lawful.1).file lawful.0.running in
    let rest = list_any (has_selected q) f.rest in
    let seam : lines (terminator q) (f.bytes ++ b.bytes)
    ≡ lines (terminator q) f.bytes ++ lines (terminator q) b.bytes =
    ap (λ xs. lines (terminator q) (xs ++ b.bytes)) f.same
    ∙ (lines-append (terminator q) (joined (last_blocks p)) b.bytes
    (closed_joined (terminator q) (last_blocks p) lawful.0.seam)
    ∙ ap (λ xs. lines (terminator q) xs ++ lines (terminator q) b.bytes) (sym f.same)) in
    ap (λ es. list_any (has_selected q) (with_bytes b.bytes es)) f.entries
    ∙ (ap (λ ls. list_any (selects q) ls || rest) seam
    ∙ (ap (λ t. t || rest) (list_any-append (selects q) (lines (terminator q) f.bytes) (lines (terminator q) b.bytes))
    ∙ (turn (list_any (selects q) (lines (terminator q) f.bytes)) (block_selects q b) rest
    ∙ (ap (λ t. t || (block_selects q b || false)) (sym (ap (list_any (has_selected q)) f.entries)
    ∙ selected_entries q format room p lawful.1)
    ∙ sym (list_any-append (block_selects q) (announced p) (b ∷ []))))))
  where
    turn : (x y r : Bool) → ((x || y) || r) ≡ ((x || r) || (y || false))
    turn true y r = refl
    turn false true true = refl
    turn false true false = refl
    turn false false true = refl
    turn false false false = refl

-- the same by the slots, where all are ready
pub slot_selected : (q : Search) (b : BlockData) (o : Option SearchedBlock) → is_some o ≡ true
    → IfSome o (λ r. (r.query ≡ q.text) × (r.block ≡ b)) → block_selects q b ≡ result_selects q o
slot_selected q b None e h = absurd (false≢true e)
slot_selected q b (Some r) e h = ap (block_selects q) (sym h.1)

pub answer_other : (past : Past) (r : SearchedBlock) → same_text past.query.text r.query ≡ false
    → Stranger ≡ answer past r
unfolding answer_after
answer_other past r e =
    let known = find (is_block r.block.file r.block.number) (announced (plan past)) in
    sym (ap (λ t. cond t (arrival_at known (taken_of past.query past.events) r.block) Stranger) e)

module _ {A : Type 0} where
  -- the slots of all announced blocks
  abbrev pub all : {past : Past} (s : Assembler A) → IsAfter s past → List (Slot A)
  all s h = h.gone ++ s.buffer.slots.items

  -- the selector, the format and what is told of the plan are the same
  pub record IsAlike (s new : Assembler A) : Type 0 where
    pub selector : new.selector ≡ s.selector
    pub format : new.format ≡ s.format
    pub running : new.running ≡ s.running
    pub bad : new.bad ≡ s.bad

  -- no step was done
  pub record IsIdle (s new : Assembler A) : Type 0 where
    pub handed : new.buffer.handed ≡ s.buffer.handed
    pub printing : new.printing ≡ s.printing
    pub printer : new.printer ≡ s.printer

  -- the printer stands where it stood
  still : (s new : Assembler A) (past : Past) (w : HandedOutSteps s past) → new.printer ≡ s.printer
      → IsAtCursor new.printer past.query past.format (cursor_of past.query past.format w.done)
  still s new past w same =
      let P : Printer A → Type 0 = λ p. IsAtCursor p past.query past.format (cursor_of past.query past.format w.done) in
      subst P (sym same) w.cursor

  -- nothing more was written, or a write has failed
  rested_writes : (s new : Assembler A) (past : Past) (written : List ℕ) (failed : Bool) → HandedOutSteps s past
      → IsIdle s new
      → new.waiting.items ≡ s.waiting.items → (new.failed ≡ false → written ≡ past.written × (s.failed ≡ false))
      → HandedOutSteps new (record past { written = written; failed = failed })
  rested_writes s new past written failed w i waiting f = record {
    done = w.done;
    coming = w.coming;
    split = w.split;
    count = w.count ∙ sym i.handed;
    printing = w.printing ∙ sym i.printing;
    waiting = ap (map opening_of) waiting ∙ (w.waiting ∙ ap (λ n. openings n w.coming) (sym i.handed));
    cursor = still s new past w i.printer;
    written = λ e. (f e).0 ∙ w.written (f e).1;
  }

  -- one more step is to come
  planned_writes : (s new : Assembler A) (past : Past) (step : Step) (w : HandedOutSteps s past) → IsIdle s new
      → new.failed ≡ s.failed → (total : ℕ) → total ≡ s.buffer.handed + length (blocks_of w.coming)
      → map opening_of new.waiting.items ≡ map opening_of s.waiting.items ++ openings total (step ∷ [])
      → HandedOutSteps new (planned past step)
  planned_writes s new past step w i failed' total count waiting = record {
    done = w.done;
    coming = w.coming ++ step ∷ [];
    split = ap (λ p. step ∷ p) w.split ∙ sym (behind_push w.done w.coming step);
    count = w.count ∙ sym i.handed;
    printing = w.printing ∙ sym i.printing;
    waiting = waiting
        ∙ (ap (λ xs. xs ++ openings total (step ∷ [])) w.waiting
        ∙ (sym (openings_push s.buffer.handed total w.coming step count)
        ∙ ap (λ n. openings n (w.coming ++ step ∷ [])) (sym i.handed)));
    cursor = still s new past w i.printer;
    written = λ e. w.written (sym failed' ∙ e);
  }

  -- the held slots' results are the query's
  all_later : (P : Slot A → Type 0) (xs ys : List (Slot A)) → AllByRecursion P (xs ++ ys) → AllByRecursion P ys
  all_later P [] ys h = h
  all_later P (x ∷ xs) ys h = all_later P xs ys h.1

  pub held_results : (s : Assembler A) (past : Past) → IsAfter s past
      → AllByRecursion (IsResultOf past.query) s.buffer.slots.items
  held_results s past h = all_later (IsResultOf past.query) h.gone s.buffer.slots.items h.results

  -- The blocks that were handed out, and those that weren't.
  pub record Halves (s : Assembler A) (past : Past) (h : IsAfter s past) : Type 0 where
    pub before : announced h.writes.done ≡ map slot_block h.gone
    pub later : blocks_of h.writes.coming ≡ map slot_block s.buffer.slots.items
    pub taken_before : map (is_taken (taken_of past.query past.events)) (announced h.writes.done)
        ≡ map has_result h.gone
    pub taken_later : map (is_taken (taken_of past.query past.events)) (blocks_of h.writes.coming)
        ≡ map has_result s.buffer.slots.items

  pub halves : (s : Assembler A) (past : Past) (h : IsAfter s past) → Halves s past h
  halves s past h =
      let w = h.writes in
      let t = is_taken (taken_of past.query past.events) in
      let slots = s.buffer.slots.items in
      let joined' : announced w.done ++ blocks_of w.coming ≡ map slot_block h.gone ++ map slot_block slots =
      sym (ap announced w.split ∙ announced_behind w.done w.coming)
      ∙ (h.blocks ∙ map-append slot_block h.gone slots) in
      let marked : map t (announced w.done) ++ map t (blocks_of w.coming)
      ≡ map has_result h.gone ++ map has_result slots =
      sym (map-append t (announced w.done) (blocks_of w.coming))
      ∙ (ap (map t) (sym (ap announced w.split ∙ announced_behind w.done w.coming))
      ∙ (h.taken ∙ map-append has_result h.gone slots)) in
      let count : length (announced w.done) ≡ length h.gone = w.count ∙ sym h.given_up.count in
      let blocks = parts_same (announced w.done) (blocks_of w.coming) (map slot_block h.gone) (map slot_block slots)
      joined' (count ∙ sym (length-map h.gone slot_block)) in
      let marks' = parts_same (map t (announced w.done)) (map t (blocks_of w.coming)) (map has_result h.gone)
      (map has_result slots) marked
      (length-map (announced w.done) t ∙ (count ∙ sym (length-map h.gone has_result))) in
      record {
        before = blocks.0;
        later = blocks.1;
        taken_before = marks'.0;
        taken_later = marks'.1;
      }

  -- how many blocks are to come
  pub held_count : (s : Assembler A) (past : Past) (h : IsAfter s past)
      → length (blocks_of h.writes.coming) ≡ length s.buffer.slots.items
  held_count s past h = ap length (halves s past h).later ∙ length-map s.buffer.slots.items slot_block

  -- the same plan and the same results, whatever was written
  pub rested : (s new : Assembler A) (past : Past) (written : List ℕ) (failed : Bool) → IsAfter s past → IsAlike s new
      → SameButRoom s.buffer new.buffer → failed ≡ new.failed
      → HandedOutSteps new (record past { written = written; failed = failed })
      → IsAfter new (record past { written = written; failed = failed })
  rested s new past written failed h a k f w =
      let same : all s h ≡ h.gone ++ new.buffer.slots.items = ap (λ xs. h.gone ++ xs) (sym k.slots) in
      let R : List (Slot A) → Type 0 = λ xs. AllByRecursion (IsResultOf past.query) xs in
      record {
        gone = h.gone;
        given_up = record { count = h.given_up.count ∙ sym k.handed; results = h.given_up.results };
        query = h.query ∙ ap (λ s. s.value) (sym a.selector);
        trees = h.trees;
        format = h.format ∙ sym a.format;
        room = h.room;
        lawful = h.lawful;
        running = h.running ∙ sym a.running;
        bad = h.bad ∙ sym a.bad;
        starts = k.starts ∙ h.starts;
        blocks = h.blocks ∙ ap (map slot_block) same;
        taken = h.taken ∙ ap (map has_result) same;
        results = subst R same h.results;
        failed = f;
        selected = k.selected ∙ h.selected;
        writes = w;
      }

  pub same_buffer : (buffer : ReorderBuffer A) → SameButRoom buffer buffer
  same_buffer buffer = record { starts = refl; slots = refl; handed = refl; selected = refl }

  -- nothing happened
  pub same_stands : (s new : Assembler A) (past : Past) → IsAfter s past → IsAlike s new → IsIdle s new
      → new.waiting.items ≡ s.waiting.items → SameButRoom s.buffer new.buffer → new.failed ≡ s.failed → IsAfter new past
  same_stands s new past h a i waiting k f =
      rested s new past past.written past.failed h a k (h.failed ∙ sym f)
      (rested_writes s new past past.written past.failed h.writes i waiting (λ e. (refl, sym f ∙ e)))

  -- a write failed
  pub failed_stands : (s new : Assembler A) (past : Past) (text : List ℕ) (failed : Bool) → IsAfter s past
      → IsAlike s new → IsIdle s new → new.waiting.items ≡ s.waiting.items → SameButRoom s.buffer new.buffer
      → new.failed ≡ true → failed ≡ true
      → IsAfter new (record past { written = past.written ++ text; failed = failed })
  failed_stands s new past text failed h a i waiting k f g =
      rested s new past (past.written ++ text) failed h a k (g ∙ sym f)
      (rested_writes s new past (past.written ++ text) failed h.writes i waiting (λ e. absurd (false≢true (sym e ∙ f))))

  -- the file has ended
  pub ended_stands : (s new : Assembler A) (past : Past) (failed : Bool) → is_open (plan past) ≡ true → IsAfter s past
      → new.selector ≡ s.selector → new.format ≡ s.format → new.running ≡ false → new.bad ≡ (s.bad || failed)
      → IsIdle s new → new.waiting.items ≡ s.waiting.items → SameButRoom s.buffer new.buffer → new.failed ≡ s.failed
      → IsAfter new (planned past (Ends failed))
  ended_stands s new past failed open' h selector format running bad idle waiting k failed' =
      let f = (cursor_is past.query past.format h.room (plan past)
      (shape_of (terminator past.query) (plan past) h.lawful)).file open' in
      let same : all s h ≡ h.gone ++ new.buffer.slots.items = ap (λ xs. h.gone ++ xs) (sym k.slots) in
      let R : List (Slot A) → Type 0 = λ xs. AllByRecursion (IsResultOf past.query) xs in
      record {
        gone = h.gone;
        given_up = record { count = h.given_up.count ∙ sym k.handed; results = h.given_up.results };
        query = h.query ∙ ap (λ s. s.value) (sym selector);
        trees = h.trees;
        format = h.format ∙ sym format;
        room = h.room;
        lawful = ((open', tt), h.lawful);
        running = sym running;
        bad = bad_ended failed (entries_of (plan past)) _ f.bytes f.rest f.entries
            ∙ (ap (λ b. b || failed) h.bad ∙ sym bad);
        starts = k.starts ∙ h.starts;
        blocks = h.blocks ∙ ap (map slot_block) same;
        taken = h.taken ∙ ap (map has_result) same;
        results = subst R same h.results;
        failed = h.failed ∙ sym failed';
        selected = k.selected ∙ h.selected;
        writes = planned_writes s new past (Ends failed) h.writes idle failed' _ refl
            (ap (map opening_of) waiting ∙ sym (append-nil (map opening_of s.waiting.items)));
      }

  -- a name was missed
  pub missed_stands : (s new : Assembler A) (past : Past) (name : List ℕ) → is_open (plan past) ≡ false → IsAfter s past
      → new.selector ≡ s.selector → new.format ≡ s.format → new.running ≡ s.running → new.bad ≡ true → IsIdle s new
      → new.waiting.items ≡ s.waiting.items → SameButRoom s.buffer new.buffer → new.failed ≡ s.failed
      → IsAfter new (planned past (Misses name))
  missed_stands s new past name closed h selector format running bad idle waiting k failed' =
      let same : all s h ≡ h.gone ++ new.buffer.slots.items = ap (λ xs. h.gone ++ xs) (sym k.slots) in
      let R : List (Slot A) → Type 0 = λ xs. AllByRecursion (IsResultOf past.query) xs in
      record {
        gone = h.gone;
        given_up = record { count = h.given_up.count ∙ sym k.handed; results = h.given_up.results };
        query = h.query ∙ ap (λ s. s.value) (sym selector);
        trees = h.trees;
        format = h.format ∙ sym format;
        room = h.room;
        lawful = ((closed, tt), h.lawful);
        running = h.running ∙ sym running;
        bad = sym bad;
        starts = k.starts ∙ h.starts;
        blocks = h.blocks ∙ ap (map slot_block) same;
        taken = h.taken ∙ ap (map has_result) same;
        results = subst R same h.results;
        failed = h.failed ∙ sym failed';
        selected = k.selected ∙ h.selected;
        writes = planned_writes s new past (Misses name) h.writes idle failed' _ refl
            (ap (map opening_of) waiting ∙ sym (append-nil (map opening_of s.waiting.items)));
      }

  -- Announcing.

  count_is : (s : Assembler A) (past : Past) → IsAfter s past
      → length (announced (plan past)) ≡ s.buffer.handed + length s.buffer.slots.items
  count_is s past h =
      ap length h.blocks
      ∙ (length-map (all s h) slot_block
      ∙ (length-append h.gone s.buffer.slots.items ∙ ap (λ n. n + length s.buffer.slots.items) h.given_up.count))

  -- there is room for one more block
  pub has_room : (s : Assembler A) (past : Past) → IsAfter s past
      → s.buffer.handed + length s.buffer.slots.items < 2 ^ 94
  has_room s past h = omega (arith, count_is s past h, few_blocks (terminator past.query) (plan past) h.lawful)

  -- a file was opened
  pub may_open : (s : Assembler A) (past other : Past) (name : List ℕ) → IsAfter s past → IsAfter s other
      → MayFollow (terminator other.query) (plan other) (Opens name)
      → MayFollow (terminator past.query) (plan past) (Opens name)
  may_open s past other name h i may = (
    h.running ∙ (sym i.running ∙ may.0),
    omega (
      arith,
      may.1,
      starts_length (plan past),
      starts_length (plan other),
      ap length (sym h.starts ∙ i.starts),
    ),
  )

  pub opened_stands : (s new : Assembler A) (past : Past) (name : List ℕ) → IsAfter s past
      → MayFollow (terminator past.query) (plan past) (Opens name) → new.selector ≡ s.selector → new.format ≡ s.format
      → new.running ≡ true → new.bad ≡ s.bad → IsIdle s new → (opening : Opening A)
      → new.waiting.items ≡ s.waiting.items ++ opening ∷ []
      → opening.start ≡ s.buffer.handed + length s.buffer.slots.items → opening.prefix ≡ name
      → new.failed ≡ s.failed → OpensFile s.buffer new.buffer → IsAfter new (planned past (Opens name))
  opened_stands s new past name h may selector format running bad idle opening waiting start' prefix failed' o =
      let same : all s h ≡ h.gone ++ new.buffer.slots.items = ap (λ xs. h.gone ++ xs) (sym o.slots) in
      let R : List (Slot A) → Type 0 = λ xs. AllByRecursion (IsResultOf past.query) xs in
      record {
        gone = h.gone;
        given_up = record { count = h.given_up.count ∙ sym o.handed; results = h.given_up.results };
        query = h.query ∙ ap (λ s. s.value) (sym selector);
        trees = h.trees;
        format = h.format ∙ sym format;
        room = h.room;
        lawful = (may, h.lawful);
        running = sym running;
        bad = h.bad ∙ sym bad;
        starts = o.starts ∙ (ap (λ xs. xs ++ (s.buffer.handed + length s.buffer.slots.items) ∷ []) h.starts
            ∙ ap (λ n. starts_of (plan past) ++ n ∷ []) (sym (count_is s past h)));
        blocks = h.blocks ∙ ap (map slot_block) same;
        taken = h.taken ∙ ap (map has_result) same;
        results = subst R same h.results;
        failed = h.failed ∙ sym failed';
        selected = o.selected ∙ h.selected;
        writes = planned_writes s new past (Opens name) h.writes idle failed'
            (s.buffer.handed + length s.buffer.slots.items) (omega (arith, held_count s past h))
            (ap (map opening_of) waiting ∙ (map_push opening_of s.waiting.items opening
            ∙ (ap (λ n. map opening_of s.waiting.items ++ (n, opening.prefix) ∷ []) start'
            ∙ ap (λ name. map opening_of s.waiting.items
            ++ (s.buffer.handed + length s.buffer.slots.items, name) ∷ []) prefix)));
      }

  pub announced_stands : (s new : Assembler A) (past : Past) (b : BlockData) → IsAfter s past
      → IsNextOfFile (terminator past.query) (plan past) b × IsSmall (terminator past.query) (plan past) b
      → IsAlike s new
      → IsIdle s new → new.waiting.items ≡ s.waiting.items → new.failed ≡ s.failed → Pushes b s.buffer new.buffer
      → IsAfter new (planned past (Announces b))
  announced_stands s new past b h may a idle waiting failed' p =
      let n = may.0 in
      let old = all s h in
      let keys = taken_of past.query past.events in
      let same : old ++ p.slot ∷ [] ≡ h.gone ++ new.buffer.slots.items =
      append_assoc h.gone s.buffer.slots.items (p.slot ∷ [])
      ∙ ap (λ xs. h.gone ++ xs) (sym p.slots) in
      let new_key : is_taken keys b ≡ false = next_not_taken (terminator past.query) past.query past.events b
      (shape_of (terminator past.query) (plan past) h.lawful) n in
      let no_result : has_result p.slot ≡ false = ap (λ o. is_some o) p.empty in
      let N : List (Slot A) → Type 0 = λ xs. AllByRecursion (IsResultOf past.query) xs in
      let I : Option SearchedBlock → Type 0 =
      λ o. IfSome o (λ r. (r.query ≡ past.query.text) × (r.block ≡ slot_block p.slot)) in
      record {
        gone = h.gone;
        given_up = record { count = h.given_up.count ∙ sym p.handed; results = h.given_up.results };
        query = h.query ∙ ap (λ s. s.value) (sym a.selector);
        trees = h.trees;
        format = h.format ∙ sym a.format;
        room = h.room;
        lawful = (may, h.lawful);
        running = h.running ∙ sym a.running;
        bad = bad_more b.bytes (entries_of (plan past)) ∙ (h.bad ∙ sym a.bad);
        starts = p.starts ∙ h.starts;
        blocks = ap (λ bs. bs ++ b ∷ []) h.blocks
            ∙ (ap (λ x. map slot_block old ++ x ∷ []) (sym p.is)
            ∙ (sym (map_push slot_block old p.slot) ∙ ap (map slot_block) same));
        taken = map_push (is_taken keys) (announced (plan past)) b
            ∙ (ap (λ xs. xs ++ is_taken keys b ∷ []) h.taken
            ∙ (ap (λ t. map has_result old ++ t ∷ []) (new_key ∙ sym no_result)
            ∙ (sym (map_push has_result old p.slot) ∙ ap (map has_result) same)));
        results = subst N same (all_push (IsResultOf past.query) old p.slot h.results (subst I (sym p.empty) tt));
        failed = h.failed ∙ sym failed';
        selected = p.selected ∙ h.selected;
        writes = planned_writes s new past (Announces b) h.writes idle failed' _ refl
            (ap (map opening_of) waiting ∙ sym (append-nil (map opening_of s.waiting.items)));
      }

  -- all blocks were taken where all slots have their results
  pub complete_is : (s : Assembler A) (past : Past) → IsAfter s past → s.running ≡ false
      → (list_all has_result s.buffer.slots.items ≡ true → IsComplete past)
      × (IsComplete past → list_all has_result s.buffer.slots.items ≡ true)
  unfolding front_after
  complete_is s past h stopped =
      let taken = taken_of past.query past.events in
      let same : all_taken taken (plan past) ≡ list_all has_result s.buffer.slots.items =
      all_map (is_taken taken) (announced (plan past))
      ∙ (ap (list_all (λ b. b)) h.taken ∙ all_behind h.gone s.buffer.slots.items h.given_up.results) in (
        λ e. (h.running ∙ stopped, front_all taken (plan past) (same ∙ e)),
        λ c. sym same ∙ (ap (all_taken taken) (sym c.1) ∙ front_taken taken (plan past)),
      )

  -- whether a line of the files is selected, block by block

  selected_slots : (q : Search) (slots : List (Slot A)) → ready slots ≡ length slots
      → AllByRecursion (IsResultOf q) slots
      → list_any (block_selects q) (map slot_block slots) ≡ list_any (slot_selects q) slots
  selected_slots q [] e h = refl
  selected_slots q (x ∷ slots) e h =
      let b : has_result x ≡ true = cond_pos (has_result x) (ready slots) (omega arith) in
      let all : cond (has_result x) (1 + ready slots) 0 ≡ 1 + ready slots = ap (λ t. cond t (1 + ready slots) 0) b in
      ap (λ t. t || list_any (block_selects q) (map slot_block slots)) (slot_selected q (slot_block x) x.result b h.0)
      ∙ ap (λ t. slot_selects q x || t) (selected_slots q slots (omega arith) h.1)

  pub status_is : (s : Assembler A) (past : Past) → IsAfter s past → IsComplete past
      → (let selected = s.buffer.selected || list_any (slot_selects past.query) s.buffer.slots.items in
      status_of past ≡ cond (is_quiet s.format.mode && selected) 0 (cond s.bad 2 (cond selected 0 1)))
  status_is s past h complete =
      let q = past.query in
      let slots = s.buffer.slots.items in
      let results : list_all has_result slots ≡ true = (complete_is s past h (sym h.running ∙ complete.0)).1 complete in
      let whole : ready (all s h) ≡ length (all s h) =
      ready_all (all s h) (all_behind h.gone slots h.given_up.results ∙ results) in
      let selected : list_any (has_selected q) (entries_of (plan past))
      ≡ (s.buffer.selected || list_any (slot_selects past.query) slots) =
      selected_entries q past.format h.room (plan past) (shape_of (terminator past.query) (plan past) h.lawful)
      ∙ (ap (list_any (block_selects q)) h.blocks ∙ (selected_slots q (all s h) whole h.results
      ∙ (list_any-append (slot_selects past.query) h.gone slots
      ∙ ap (λ b. b || list_any (slot_selects past.query) slots) (sym h.selected)))) in
      let any = list_any (has_selected q) (entries_of (plan past)) in
      ap (λ t. cond (is_quiet past.format.mode && any) 0 (cond t 2 (cond any 0 1))) h.bad
      ∙ (ap (λ t. cond (is_quiet past.format.mode && t) 0 (cond s.bad 2 (cond t 0 1))) selected
      ∙ ap (λ f. cond (is_quiet f.mode && (s.buffer.selected || list_any (slot_selects past.query) slots)) 0
      (cond s.bad 2 (cond (s.buffer.selected || list_any (slot_selects past.query) slots) 0 1))) h.format)

  -- the slots have the marks of their blocks
  marks : (s : Assembler A) (past : Past) (h : IsAfter s past)
      → map (is_taken (taken_of past.query past.events)) (map slot_block (all s h)) ≡ map has_result (all s h)
  marks s past h =
      let P : List BlockData → Type 0 = λ bs. map (is_taken (taken_of past.query past.events)) bs
      ≡ map has_result (all s h) in
      subst P h.blocks h.taken

  -- the announced block of a file and number, by the slots
  find_slot : (s : Assembler A) (past : Past) (h : IsAfter s past) (f k : ℕ)
      → find (is_block f k) (announced (plan past))
      ≡ at_place (map slot_block (all s h)) (place_of s.buffer.starts (length (all s h)) f k)
  find_slot s past h f k =
      let bs = announced (plan past) in
      let slots = all s h in
      find_place (terminator past.query) (plan past) (shape_of (terminator past.query) (plan past) h.lawful) f k
      ∙ (ap (λ xs. at_place bs (place_of xs (length bs) f k)) (sym h.starts)
      ∙ (ap (λ xs. at_place xs (place_of s.buffer.starts (length xs) f k)) h.blocks
      ∙ ap (λ n. at_place (map slot_block slots) (place_of s.buffer.starts n f k)) (length-map slots slot_block)))

  -- it has the file and the number
  block_named : (s : Assembler A) (past : Past) (h : IsAfter s past) (f k : ℕ) (x : BlockData)
      → at_place (map slot_block (all s h)) (place_of s.buffer.starts (length (all s h)) f k) ≡ Some x
      → (x.file ≡ f) × (x.number ≡ k)
  block_named s past h f k x e =
      let t = and_parts (eqb x.file f) (eqb x.number k)
      (find_passes (is_block f k) (announced (plan past)) x (find_slot s past h f k ∙ e)) in
      (eqb-true x.file f t.0, eqb-true x.number k t.1)

  -- by the slots an arrival is what it is by the history
  answer_all : (s : Assembler A) (past : Past) (r : SearchedBlock) (h : IsAfter s past)
      → same_text past.query.text r.query ≡ true
      → answer past r ≡ arrival_among s.buffer.starts (all s h) r.block
  unfolding answer_after
  answer_all s past r h same =
      let keys = taken_of past.query past.events in
      let slots = all s h in
      let b = r.block in
      let place = place_of s.buffer.starts (length slots) b.file b.number in
      ap (λ t. cond t (arrival_at (find (is_block b.file b.number) (announced (plan past))) keys b) Stranger) same
      ∙ (ap (λ o. arrival_at o keys b) (find_slot s past h b.file b.number)
      ∙ at_slot keys b slots place (marks s past h) (block_named s past h b.file b.number))

  pub answer_is : (s : Assembler A) (past : Past) (r : SearchedBlock) (a : Arrival) → IsAfter s past
      → same_text past.query.text r.query ≡ true → IsArrival s.buffer r.block a → a ≡ answer past r
  answer_is s past r a h same i = i h.gone h.given_up ∙ sym (answer_all s past r h same)

  -- An arrival that is not taken changes nothing.

  same_keys : (s : Assembler A) (past : Past) (r : SearchedBlock) → IsAfter s past
      → taken_of past.query (arrived past r).events ≡ taken_of past.query past.events → IsAfter s (arrived past r)
  same_keys s past r h e =
      let T : List (ℕ × ℕ) → Type 0 = λ keys. map (is_taken keys) (announced (plan past)) ≡ map has_result (all s h) in
      record {
        gone = h.gone;
        given_up = h.given_up;
        query = h.query;
        trees = h.trees;
        format = h.format;
        room = h.room;
        lawful = h.lawful;
        running = h.running;
        bad = h.bad;
        starts = h.starts;
        blocks = h.blocks;
        taken = subst T (sym e) h.taken;
        results = h.results;
        failed = h.failed;
        selected = h.selected;
        writes = record {
          done = h.writes.done;
          coming = h.writes.coming;
          split = h.writes.split;
          count = h.writes.count;
          printing = h.writes.printing;
          waiting = h.writes.waiting;
          cursor = h.writes.cursor;
          written = h.writes.written;
        };
      }

  pub kept_stands : (s : Assembler A) (past : Past) (r : SearchedBlock) (a : Arrival) → IsAfter s past
      → answer past r ≡ a → (a ≡ Taken → ⊥) → IsAfter s (arrived past r)
  unfolding answer_after
  kept_stands s past r Taken h e ne = absurd (ne refl)
  kept_stands s past r Double h e ne =
      same_keys s past r h (ap (λ a. taken_after a r.block (taken_of past.query past.events)) e)
  kept_stands s past r Stranger h e ne =
      same_keys s past r h (ap (λ a. taken_after a r.block (taken_of past.query past.events)) e)

  pub taken_stands : (s new : Assembler A) (past : Past) (r : SearchedBlock) → IsAfter s past → answer past r ≡ Taken
      → IsAlike s new → IsIdle s new → new.waiting.items ≡ s.waiting.items → new.failed ≡ s.failed
      → Puts r s.buffer new.buffer → IsAfter new (arrived past r)
  unfolding answer_after
  taken_stands s new past r h is alike idle waiting failed' p =
      let old = all s h in
      let b = r.block in
      let keys = taken_of past.query past.events in
      let known_query : same_text past.query.text r.query ≡ true =
      elim (cases_Bool (same_text past.query.text r.query)) [
        | inl e ↦ e
        | inr e ↦
            let found = find (is_block b.file b.number) (announced (plan past)) in
            absurd (stranger_taken (sym (ap (λ t. cond t (arrival_at found keys b) Stranger) e) ∙ is))
      ] in
      let t : IsTaken s.buffer.starts old b =
      taken_means s.buffer.starts old b (sym (answer_all s past r h known_query) ∙ is) in
      let k = t.place in
      let known = slot_block t.slot in
      let here : at_place (map slot_block old) (place_of s.buffer.starts (length old) b.file b.number)
      ≡ Some known =
      ap (at_place (map slot_block old)) t.is ∙ block_at old k t.slot t.at in
      let n = block_named s past h b.file b.number known here in
      let block : b ≡ known = same_block b known (sym n.0) (sym n.1) t.bytes in
      let after : taken_of past.query (arrived past r).events ≡ (known.file, known.number) ∷ keys =
      ap (λ a. taken_after a b keys) is ∙ ap (λ (x : BlockData). (x.file, x.number) ∷ keys) block in
      let behind : s.buffer.handed ≤ k =
      omega (arith, held_back h.gone s.buffer.slots.items k t.slot h.given_up.results t.at t.empty, h.given_up.count) in
      let slots : h.gone ++ new.buffer.slots.items ≡ with_result old k r =
      p.slots h.gone k h.given_up.count behind t.is in
      let apart : AreApart (map slot_block old) = (let P : List BlockData → Type 0 = λ bs. AreApart bs in
      subst P h.blocks (announced_apart (terminator past.query) (plan past)
      (shape_of (terminator past.query) (plan past) h.lawful))) in
      let T : List (ℕ × ℕ) → Type 0 = λ ks. map (is_taken ks) (map slot_block old)
      ≡ map has_result (with_result old k r) in
      let M : List BlockData → Type 0 = λ bs. map (is_taken (taken_of past.query (arrived past r).events)) bs
      ≡ map has_result (with_result old k r) in
      let R : List (Slot A) → Type 0 = λ xs. AllByRecursion (IsResultOf past.query) xs in
      record {
        gone = h.gone;
        given_up = record { count = h.given_up.count ∙ sym p.handed; results = h.given_up.results };
        query = h.query ∙ ap (λ s. s.value) (sym alike.selector);
        trees = h.trees;
        format = h.format ∙ sym alike.format;
        room = h.room;
        lawful = h.lawful;
        running = h.running ∙ sym alike.running;
        bad = h.bad ∙ sym alike.bad;
        starts = p.starts ∙ h.starts;
        blocks = h.blocks ∙ (sym (same_blocks old k r) ∙ ap (map slot_block) (sym slots));
        taken = subst M (sym h.blocks)
            (subst T (sym after) (taken_one keys old k t.slot r (marks s past h) apart t.at))
            ∙ ap (map has_result) (sym slots);
        results = subst R (sym slots) (results_with past.query old k t.slot r t.at
            (sym (text_equal.sound past.query.text r.query known_query)) block h.results);
        failed = h.failed ∙ sym failed';
        selected = p.selected ∙ h.selected;
        writes =
            let w = rested_writes s new past past.written past.failed h.writes idle waiting
            (λ e. (refl, sym failed' ∙ e)) in
            record {
              done = w.done;
              coming = w.coming;
              split = w.split;
              count = w.count;
              printing = w.printing;
              waiting = w.waiting;
              cursor = w.cursor;
              written = w.written;
            };
      }

  -- nothing happened yet
  pub new_stands : (s : Assembler A) (q : Search) (format : Format) → q.text ≡ arc_value s.selector
      → HasItsTrees q → s.format ≡ format → HasRoom format → s.running ≡ false → s.bad ≡ false → IsUnused s.buffer
      → s.waiting.items ≡ [] → s.printing ≡ false → IsAtCursor s.printer q format at_start → s.failed ≡ false
      → IsAfter s (past_at_start q format)
  new_stands s q format text trees format' room running bad unused waiting printing remembers failed =
      record {
        gone = [];
        given_up = record { count = sym unused.handed; results = tt };
        query = text;
        trees = trees;
        format = sym format';
        room = room;
        lawful = tt;
        running = sym running;
        bad = sym bad;
        starts = unused.starts;
        blocks = sym (ap (map slot_block) unused.slots);
        taken = sym (ap (map has_result) unused.slots);
        results =
            let R : List (Slot A) → Type 0 = λ xs. AllByRecursion (IsResultOf q) xs in
            subst R (sym unused.slots) tt;
        failed = sym failed;
        selected = unused.selected;
        writes = record {
          done = [];
          coming = [];
          split = refl;
          count = sym unused.handed;
          printing = sym printing;
          waiting = ap (map opening_of) waiting;
          cursor = remembers;
          written = λ e. refl;
        };
      }

  -- after one past or another, by an answer
  pub some_past : {T E : Type 0} (answer : Result T E) (s : Assembler A) (one other : Past)
      → OnOk answer (IsAfter s one)
      → OnErr answer (IsAfter s other) → (past : Past) × IsAfter s past
  some_past (Ok x) s one other ok err = (one, ok)
  some_past (Err x) s one other ok err = (other, err)
