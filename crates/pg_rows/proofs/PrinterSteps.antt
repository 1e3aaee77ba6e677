-- What the printer does at a run of selected lines, and behind the last one.
use Rattle.std.proofs.Common.{◌≡◌, ℕ, ◌+◌, ◌-◌, ◌^◌, ◌<◌, ◌≤◌, ◌⊎◌, inl, inr, min, Bool, true, false, cond, not, nat_eq}
use Rattle.std.proofs.Common.{List, [], ◌∷◌, ◌++◌}
use Rattle.std.proofs.Common.{length, take, drop, slice_range, get_or, refl, sym, ap, ◌∙◌, subst, arith}
use Rattle.std.proofs.Common.{append_assoc}
use Rattle.std.proofs.Common.{length-append, length-drop}
use Rattle.circular_buffer.specs.Buffer.{keep_last}
use Rattle.std.proofs.lemmas.Bool.{and_parts, cases_lt, cases_eq, cases_Bool, eq-eqb, false≢true, ne_eqb, not-true}
use Rattle.std.proofs.Math.Seq.{take-nil}
use Rattle.std.proofs.lemmas.List.{drop_more, append-nil, drop-drop, drop-take, length-take-le}
use Rattle.pg_selection.specs.Search.{Search, SearchText, terminator, terminator_of, HasItsTrees}
use Rattle.pg_selection.specs.Searched.{SearchedBlock, lines_of}
use Rattle.pg_blocks.specs.Lines.{lines}
use Rattle.pg_selection.specs.Runs.{AreRuns, HasRuns}
use Rattle.pg_selection.specs.BlockParts.{HasParts}
use Rattle.pg_selection.specs.declared.run.Run.{Run}
use Rattle.pg_selection.specs.declared.run.Part.{Part}
use Rattle.pg_rows.proofs.ModeLemmas.{rows_are}
use Rattle.pg_rows.specs.declared.format.Format.{Format}
use Rattle.pg_rows.specs.declared.progress.Progress.{Progress}
use Rattle.pg_rows.specs.declared.printer.Printer.{Printer}
use Rattle.pg_rows.specs.declared.printer.Place.{Place}
use Rattle.pg_rows.specs.declared.window.Window.{Window}
use Rattle.pg_rows.specs.Output.{context, is_below, painted, bytes_in}
use Rattle.pg_rows.specs.Trail.{run_rows, run_pieces}
use Rattle.pg_rows.specs.Stretch.{rows_of_parts, AllSelected}
use Rattle.pg_rows.specs.Pieces.{cut_at, told_of_lines}
use Rattle.pg_rows.proofs.PieceLemmas.{HasFound}
use Rattle.pg_rows.specs.Painting.{count_before}
use Rattle.pg_rows.specs.Cursor.{Cursor}
use Rattle.pg_rows.specs.Window.{lines_held, IsWindow}
use Rattle.pg_rows.specs.Progress.{Passes, KeepsLines, kept_of}
use Rattle.pg_rows.specs.Printing.{leading, rows_of_passed, rows_of_run, IsAt, ComesNext, EndsKept}
use Rattle.pg_rows.specs.Remembered.{IsAtCursor, HasLines, ComesLast, IsRememberedBehind, shows_lines, behind_block}
use Rattle.pg_rows.specs.Modes.{shows_rows}
use Rattle.pg_rows.specs.Remembered.{shown_rows, shows_parts}
use Rattle.pg_rows.specs.Steps.{gap_lines, shown_passed, shown_step, HasLeading, MayPrintRun, StepsOver, TakesParts}
use Rattle.pg_rows.specs.declared.printer.Step.{Step}
use Rattle.pg_base.specs.Sink.{Stream}
use Rattle.pg_rows.proofs.StretchLemmas.{length_keep_last}
use Rattle.pg_rows.proofs.BlockLemmas.{no_run, stretches, full_none, none_full, kept_few}
use Rattle.pg_rows.proofs.PrintLemmas.{at_first, at_last, enough_hidden, passed_step, keep_none}
use Rattle.pg_rows.proofs.LeadLemmas.{last_of_both}
use Rattle.pg_rows.proofs.PieceLemmas.{block_pieces, found_lines_told}
use Rattle.pg_rows.proofs.RunSteps.{IsBefore, comes_next, gap_step, kept_texts, next_texts, run_step}
use Rattle.pg_rows.proofs.SizeLemmas.{run_offset}
use Rattle.pg_rows.proofs.PaintLemmas.{AreLeft, run_own}

-- the printer stands in a block before these runs, and the parts are left of the lines from there on
pub record IsAmong {A : Type 0} (s : Printer A) (q : Search) (format : Format) (c : Cursor)
    (bytes before after : List ℕ) (parts : List Part) (place : Place) (runs : List Run) : Type 0 where
  pub stands : IsAtCursor s q format c
  pub here : IsBefore q format c (lines_held (terminator q) s.window) bytes before after place.progress place.at
      place.seen
      runs
  pub left : s.format.colored ≡ true → AreLeft q bytes parts place.used place.at place.seen

-- the printer has written nothing of a block
pub before_all : {A : Type 0} (s : Printer A) (q : Search) (format : Format) (c : Cursor) (bytes taken : List ℕ)
    (runs : List Run) (parts : List Part) (total : ℕ) → shows_lines s.format ≡ true → IsAtCursor s q format c
    → HasFound q bytes runs parts total
    → IsAmong s q format c bytes taken taken parts (record { progress = s.progress; at = 0; seen = 0; used = 0 }) runs
before_all s q format c bytes taken runs parts total shows r found = record {
  stands = r;
  here = record {
    here = at_first q format c (lines_held (terminator q) s.window) bytes taken s.progress r.told
        (r.window (ap shows_lines (sym r.format_is) ∙ shows)) r.room;
    ahead = inl found.found_lines.each;
  };
  left = λ _. found_lines_told q bytes runs parts total found;
}

-- this run comes next, and so many of its lines are kept, at least one
pub record IsAtRun {A : Type 0} (s : Printer A) (q : Search) (format : Format) (c : Cursor)
    (bytes before after : List ℕ) (parts : List Part) (place : Place) (here : Run) (more : List Run) (count : ℕ) :
    Type 0
  where
    pub stands : IsAtCursor s q format c
    pub at : IsAt q format c (lines_held (terminator q) s.window) bytes before after place.progress place.at place.seen
    pub are : AreRuns q place.at place.seen (drop place.at bytes) (here ∷ more)
    pub is : count ≡ kept_of format.limit place.progress.kept here.count
    pub some : 0 < count
    pub left : s.format.colored ≡ true → AreLeft q bytes parts place.used place.at place.seen

pub at_run : {A : Type 0} {s : Printer A} {q : Search} {format : Format} {c : Cursor} {bytes before after : List ℕ}
    {parts : List Part} {place : Place} (runs : List Run) (index count : ℕ)
    → IsAmong s q format c bytes before after parts place (drop index runs) → index < length runs
    → count ≡ kept_of s.format.limit place.progress.kept (get_or runs index no_run).count → (count ≡ 0 → ⊥)
    → IsAtRun s q format c bytes before after parts place (get_or runs index no_run) (drop (index + 1) runs) count
at_run {s = s} {q = q} {format = format} {c = c} {bytes = bytes} {before = before} {after = after} {place = place} runs
    index count m below is some =
    let here = get_or runs index no_run in
    let P : List Run → Type 0 = λ rs. IsBefore q format c (lines_held (terminator q) s.window) bytes before after
    place.progress place.at place.seen rs in
    let h = subst P (drop_more runs index no_run below) m.here in
    let is' = is ∙ ap (λ f. kept_of f.limit place.progress.kept here.count) m.stands.format_is in
    record {
      stands = m.stands;
      at = h.here;
      are = elim h.ahead [
        | inl are ↦ are
        | inr full ↦ absurd (some (is' ∙ full_none format.limit place.progress.kept here.count full))
      ];
      is = is';
      some = omega (arith, some);
      left = m.left;
    }

-- the printer may go over these lines, where the numbers of the block's lines and bytes stay small
pub may_step : {A : Type 0} {s : Printer A} {q : Search} {format : Format} {c : Cursor} {bytes before after : List ℕ}
    {parts : List Part} {place : Place} {here : Run} {more : List Run} {count : ℕ} (runs : List Run) (total : ℕ)
    → IsAtRun s q format c bytes before after parts place here more count → HasLines q bytes runs total
    → place.progress.number ≡ s.progress.number + place.seen → place.used ≤ length parts
    → s.progress.number + total < 2 ^ 63 → s.offset + length bytes < 2 ^ 63 → MayPrintRun s bytes parts place here count
may_step {s = s} {q = q} {format = format} {bytes = bytes} {place = place} {here = here} {more = more} {count = count}
    runs total n has number used small placed =
    let d = (stretches q place.at place.seen (drop place.at bytes) (here ∷ more) n.are).0 in
    let long = ap (λ xs. length xs) d.joins ∙ length-append d.gap (d.text ++ d.later) in
    let tail = length-append d.text d.later in
    let kept = kept_few format.limit place.progress.kept here.count in
    let few : count ≤ here.count = omega (arith, kept, n.is) in
    let all : here.first + here.count ≤ total = omega (arith, long, tail, d.first, d.count, n.at.count, has.total) in
    let Q : ℕ → Type 0 = λ e. ComesNext e bytes place.at place.seen here in
    let next = subst Q (sym n.stands.end_is) (comes_next q place.at place.seen bytes here more n.are n.at.within) in
    record {
      next = next;
      few = few;
      used = used;
      room = omega (arith, few, all, small);
      small = omega (arith, few, all, small, number, next.gap);
      placed = placed;
    }

-- what stands before the kept lines is known, and has no more bytes than the file before them
pub has_leading : {A : Type 0} {s : Printer A} {q : Search} {format : Format} {c : Cursor}
    {bytes before after : List ℕ} {parts : List Part} {place : Place} {here : Run} {more : List Run} {count : ℕ}
    (passed : Progress) → IsAtRun s q format c bytes before after parts place here more count
    → Passes place.progress (here.first - place.seen) passed
    → HasLeading s passed (drop place.progress.countdown (gap_lines s bytes place here)) (s.offset + here.span.start)
has_leading {s = s} {q = q} {format = format} {c = c} {bytes = bytes} {before = before} {after = after} {place = place}
    {here = here} passed n passes =
    let r = n.stands in
    let d = n.are.0 in
    let texts = next_texts q place.at place.seen bytes here d n.at.within in
    let k = gap_step q format c (lines_held (terminator q) s.window) bytes before after place.progress passed place.at
    place.seen here n.at d texts passes in
    let near : ℕ → List (List ℕ) = λ e.
    drop place.progress.countdown (lines e (slice_range bytes place.at here.span.start)) in
    let shown : Format → ℕ → List (List ℕ) = λ f e. keep_last (leading f passed) (lines_held e s.window ++ near e) in
    let same : bytes_in (shown s.format s.end) ≡ bytes_in k.trail.window =
    ap (λ f. bytes_in (shown f s.end)) r.format_is
    ∙ (ap (λ e. bytes_in (shown format e)) r.end_is ∙ sym (ap bytes_in k.window)) in
    let fits = enough_hidden q format c
    (lines_held (terminator q) s.window ++ near (terminator q)) bytes before _ passed
    here.span.start here.first k in
    let both = length-append (lines_held (terminator q) s.window) (near (terminator q)) in
    let E : Format → ℕ → Type 0 = λ f e. leading f passed ≤ length (lines_held e s.window) + length (near e) in
    let F : ℕ → Type 0 = λ e. E format e in
    let G : Format → Type 0 = λ f. E f s.end in
    let W : ℕ → Type 0 = λ e. IsWindow e s.window in
    record {
      window = subst W (sym r.end_is) r.holds;
      enough = subst G (sym r.format_is) (subst F (sym r.end_is) (omega (arith, fits, both)));
      low = elim k.offset [
        | inl place_is ↦ omega (arith, same, k.room, r.offset, place_is)
        | inr none ↦ absurd (d.text_some (sym texts.text
            ∙ (ap (take (here.span.end - here.span.start)) none ∙ take-nil (here.span.end - here.span.start))))
      ];
    }

-- the lines that are kept of a run stand alone where the bytes are cut behind them
pub cut_bytes : (bytes : List ℕ) (start place : ℕ) → start ≤ place
    → drop start (take place bytes) ≡ slice_range bytes start place
cut_bytes bytes start place low =
    let sum : start + (place - start) ≡ place = omega arith in
    ap (λ n. drop start (take n bytes)) (sym sum) ∙ drop-take start (place - start) bytes

-- what a step takes of the parts, and what it leaves
record PartsLead {A : Type 0} (s : Printer A) (q : Search) (bytes : List ℕ) (parts : List Part) (place : Place)
    (here : Run) (next : Place) : Type 0 where
  takes : TakesParts q s bytes parts place here next
  left : s.format.colored ≡ true → AreLeft q bytes parts next.used next.at next.seen

parts_lead : {A : Type 0} {s : Printer A} {q : Search} {format : Format} {c : Cursor} {bytes before after : List ℕ}
    {parts : List Part} {place : Place} {here : Run} {more : List Run} {count : ℕ} (next : Step)
    → IsAtRun s q format c bytes before after parts place here more count
    → StepsOver s bytes parts place here count next → place.used ≤ length parts
    → PartsLead s q bytes parts place here next.place
parts_lead {s = s} {q = q} {format = format} {bytes = bytes} {parts = parts} {place = place} {here = here}
    {count = count} step n steps fits =
    let next = step.place in
    let few = kept_few format.limit place.progress.kept here.count in
    let E : ℕ → Type 0 = λ e. EndsKept e bytes here count next.at in
    let kept = kept_texts q place.at place.seen bytes here count next.at n.are.0 n.at.within
    (omega (arith, few, n.is)) (subst E n.stands.end_is steps.ends) in
    let own = told_of_lines q here.span.start here.first in
    let cut : lines s.end (drop here.span.start (take next.at bytes))
    ≡ lines (terminator q) (slice_range bytes here.span.start next.at) =
    ap (λ e. lines e (drop here.span.start (take next.at bytes))) n.stands.end_is
    ∙ ap (lines (terminator q)) (cut_bytes bytes here.span.start next.at steps.ends.low) in
    let S : List (List ℕ) → Type 0 = λ ls. AllSelected q true ls in
    let selected = subst S (sym cut) kept.selected in
    let used : Bool → ℕ = λ b.
    cond b (place.used + count_before (here.first + count) (drop place.used parts)) place.used in
    elim (cases_Bool s.format.colored) [
      | inl on ↦
          let a = run_own q bytes parts place.used next.used place.at place.seen count next.at here n.are.0
          n.at.within kept steps.ends.low fits (n.left on) (steps.used ∙ ap used on) in
          record {
            takes = record {
              told = record {
                end_is = n.stands.end_is;
                selected = selected;
                parts_are = λ _. a.own_is ∙ sym (ap own cut);
              };
              ordered = a.ordered;
              within = a.within;
            };
            left = λ _. a.later_is ∙ ap (λ k. told_of_lines q next.at k (lines (terminator q) (drop next.at bytes)))
                (sym steps.seen);
          }
      | inr off ↦
          let same : next.used ≡ place.used = steps.used ∙ ap used off in
          record {
            takes = record {
              told = record {
                end_is = n.stands.end_is;
                selected = selected;
                parts_are = λ on. absurd (false≢true (sym off ∙ on));
              };
              ordered = omega (arith, same);
              within = omega (arith, same);
            };
            left = λ on. absurd (false≢true (sym off ∙ on));
          }
    ]

-- the rows of a step, said of the place in the output
abbrev step_rows : {A : Type 0} → Search → Format → ℕ → List ℕ → Bool → Window A → (offset : ℕ) → List ℕ → Place → Run
    → Step → List ℕ
step_rows q format end name earlier window offset bytes place here next =
    rows_of_run format end name earlier (lines_held end window) place.progress next.passed (offset + place.at)
    (lines end (slice_range bytes place.at here.span.start)) (offset + here.span.start) (painted q format)
    (lines end (slice_range bytes here.span.start next.place.at))

step_same : {A : Type 0} (s : Printer A) (q : Search) (format : Format) (c : Cursor) (bytes : List ℕ) (place : Place)
    (here : Run) (next : Step) → IsAtCursor s q format c →
    shown_step q s bytes place here next
    ≡ step_rows q format (terminator q) c.name c.earlier s.window c.trail.offset bytes place here next
step_same s q format c bytes place here next r =
    ap (λ f. step_rows q f s.end s.prefix s.earlier s.window s.offset bytes place here next) r.format_is
    ∙ (ap (λ e. step_rows q format e s.prefix s.earlier s.window s.offset bytes place here next) r.end_is
    ∙ (ap (λ n. step_rows q format (terminator q) n s.earlier s.window s.offset bytes place here next) r.name_is
    ∙ (ap (λ b. step_rows q format (terminator q) c.name b s.window s.offset bytes place here next) r.earlier_is
    ∙ ap (λ o. step_rows q format (terminator q) c.name c.earlier s.window o bytes place here next) r.offset)))

-- a line was kept before the place
ends_some : (end : ℕ) (bytes : List ℕ) (here : Run) (count at : ℕ) → EndsKept end bytes here count at
    → here.count ≡ length (lines end (slice_range bytes here.span.start here.span.end)) → count ≤ here.count → 0 < count
    → 0 < at
ends_some end bytes here count at ends long few some = elim (cases_lt 0 at) [
  | inl less ↦ less
  | inr none ↦
      let zero_long : at - here.span.start ≡ 0 = omega arith in
      let cut : length (lines end (slice_range bytes here.span.start at)) ≡ 0 =
      ap (λ k. length (lines end (take k (drop here.span.start bytes)))) zero_long in
      let kept = ap (λ xs. length xs) ends.kept
      ∙ length-take-le count (lines end (slice_range bytes here.span.start here.span.end)) (omega arith) in
      absurd (omega arith)
]

-- what a step leads to
pub record LeadsOn {A : Type 0} (s : Printer A) (q : Search) (format : Format) (c : Cursor)
    (bytes before after : List ℕ) (parts : List Part) (place : Place) (here : Run) (more : List Run) (next : Step) :
    Type 0
  where
    pub some : 0 < next.place.at
    pub takes : TakesParts q s bytes parts place here next.place
    pub among : IsAmong s q format c bytes before (after ++ shown_step q s bytes place here next) parts next.place more

pub leads_on : {A : Type 0} {s : Printer A} {q : Search} {format : Format} {c : Cursor} {bytes before after : List ℕ}
    {parts : List Part} {place : Place} {here : Run} {more : List Run} {count : ℕ} (next : Step)
    → IsAtRun s q format c bytes before after parts place here more count
    → StepsOver s bytes parts place here count next → place.used ≤ length parts
    → LeadsOn s q format c bytes before after parts place here more next
leads_on {s = s} {q = q} {format = format} {c = c} {bytes = bytes} {before = before} {after = after} {place = place}
    {here = here} {more = more} {count = count} next n steps fits =
    let r = n.stands in
    let to = next.place in
    let hidden = lines_held (terminator q) s.window in
    let K : Format → Type 0 = λ f. KeepsLines next.passed f count to.progress in
    let E : ℕ → Type 0 = λ e. EndsKept e bytes here count to.at in
    let rows = step_rows q format (terminator q) c.name c.earlier s.window c.trail.offset bytes place here next in
    let k = run_step q format c hidden bytes before after place.progress next.passed to.progress place.at place.seen
    count to.at here more n.at n.are steps.passes (subst K r.format_is steps.keeps) n.is n.some
    (subst E r.end_is steps.ends) in
    let first = rows_of_passed format (terminator q) c.name place.progress (c.trail.offset + place.at)
    (lines (terminator q) (slice_range bytes place.at here.span.start)) in
    let same = ap (λ xs. after ++ xs) (sym (step_same s q format c bytes place here next r)) in
    let Q : ℕ → Type 0 = λ m. IsBefore q format c hidden bytes before (after ++ rows) to.progress to.at m more in
    let R : List ℕ → Type 0 = λ t. IsBefore q format c hidden bytes before t to.progress to.at to.seen more in
    let S : List ℕ → Type 0 = λ t. IsBefore q format c hidden bytes before t to.progress to.at (here.first + count) more
    in
    let p = parts_lead next n steps fits in
    let kept = kept_few format.limit place.progress.kept here.count in
    record {
      some = ends_some (terminator q) bytes here count to.at (subst E r.end_is steps.ends)
          (comes_next q place.at place.seen bytes here more n.are n.at.within).count (omega (arith, kept, n.is)) n.some;
      takes = p.takes;
      among = record {
        stands = r;
        here = subst R same (subst Q (sym steps.seen) (subst S (append_assoc after first _) k));
        left = p.left;
      };
    }

-- Behind the last line that is kept.

-- no line of the next run is kept
pub stops : {A : Type 0} {s : Printer A} {q : Search} {format : Format} {c : Cursor} {bytes before after : List ℕ}
    {parts : List Part} {place : Place} (runs : List Run) (index count : ℕ)
    → IsAmong s q format c bytes before after parts place (drop index runs) → index < length runs
    → count ≡ kept_of s.format.limit place.progress.kept (get_or runs index no_run).count → count ≡ 0
    → is_below place.progress.kept format.limit ≡ false
stops {s = s} {q = q} {format = format} {c = c} {bytes = bytes} {before = before} {after = after} {place = place} runs
    index count m below is none =
    let here = get_or runs index no_run in
    let more = drop (index + 1) runs in
    let P : List Run → Type 0 = λ rs. IsBefore q format c (lines_held (terminator q) s.window) bytes before after
    place.progress place.at place.seen rs in
    let h = subst P (drop_more runs index no_run below) m.here in
    let is' = is ∙ ap (λ f. kept_of f.limit place.progress.kept here.count) m.stands.format_is in
    elim h.ahead [
      | inr full ↦ full
      | inl are ↦
          let n = (stretches q place.at place.seen (drop place.at bytes) (here ∷ more) are).0 in
          none_full format.limit place.progress.kept here.count (sym is' ∙ none) (omega (arith, n.count, n.text_some))
    ]

-- no run is left, or none of its lines is kept
pub comes_last : {A : Type 0} {s : Printer A} {q : Search} {format : Format} {c : Cursor} {bytes : List ℕ}
    {parts : List Part} {place : Place} {runs : List Run} (t : Printer A) (block : List ℕ) (before after : Stream)
    → s ≡ t → bytes ≡ block → IsAmong s q format c bytes before.taken after.taken parts place runs
    → (runs ≡ []) ⊎ (is_below place.progress.kept format.limit ≡ false) → after.failures ≡ before.failures
    → place.progress.number ≡ s.progress.number + place.seen → (place.at ≡ 0 → place.progress ≡ s.progress)
    → (0 < place.at → place.progress.behind ≡ 0)
    → ComesLast q format c (lines_held (terminator q) t.window) block before after t.progress place
comes_last {s = s} {q = q} {format = format} {c = c} {bytes = bytes} {place = place} t block before after same
    same_bytes m none no_failure number fresh kept =
    let P : Printer _ → Type 0 =
    λ p. ComesLast q format c (lines_held (terminator q) p.window) bytes before after p.progress
    place in
    let Q : List ℕ → Type 0 =
    λ bs. ComesLast q format c (lines_held (terminator q) t.window) bs before after t.progress place
    in
    subst Q same_bytes (subst P same (record {
      here = m.here.here;
      no_failure = no_failure;
      number = number;
      rest = elim none [
        | inr full ↦ inr full
        | inl last ↦ elim m.here.ahead [
          | inl are ↦ let R : List Run → Type 0 = λ rs. AreRuns q place.at place.seen (drop place.at bytes) rs in
              inl (subst R last are)
          | inr full ↦ inr full
        ]
      ];
      fresh = fresh;
      kept = kept;
    }))

-- the lines behind the last one that is kept were passed
pub behind_last : {A : Type 0} (s : Printer A) (q : Search) (format : Format) (c : Cursor) (bytes : List ℕ)
    (before after : Stream) (place : Place) (last : Progress) (count : ℕ) → IsAtCursor s q format c
    → ComesLast q format c (lines_held (terminator q) s.window) bytes before after s.progress place
    → Passes place.progress count last → count ≡ length (lines s.end (drop place.at bytes)) →
    IsAt q format c
    (lines_held (terminator q) s.window ++ drop place.progress.countdown (lines (terminator q) (drop place.at bytes)))
    bytes
    before.taken (after.taken ++ shown_passed s place.progress (s.offset + place.at)
    (lines s.end (drop place.at bytes))) last (length bytes)
    (place.seen + length (lines (terminator q) (drop place.at bytes)))
behind_last s q format c bytes before after place last count r h passes is =
    let end = terminator q in
    let front = drop place.at bytes in
    let ls = lines end front in
    let P : ℕ → Type 0 = λ k. Passes place.progress k last in
    let hidden = lines_held end s.window in
    let k = passed_step q format c hidden bytes before.taken after.taken place.progress last place.at place.seen h.here
    front []
    (sym (append-nil front)) (inr refl) h.rest
    (subst P (is ∙ ap (λ e. length (lines e front)) r.end_is) passes) in
    let long = length-drop place.at bytes in
    let whole : place.at + length front ≡ length bytes = let w = h.here.within in omega arith in
    let rows = λ (f : Format) (e : ℕ) (name : List ℕ) (o : ℕ).
    rows_of_passed f e name place.progress (o + place.at) (lines e front) in
    let same : rows format end c.name c.trail.offset ≡ rows s.format s.end s.prefix s.offset =
    sym (ap (λ f. rows f s.end s.prefix s.offset) r.format_is ∙ (ap (λ e. rows format e s.prefix s.offset) r.end_is
    ∙ (ap (λ n. rows format end n s.offset) r.name_is ∙ ap (rows format end c.name) r.offset))) in
    let Q : ℕ → Type 0 = λ n. IsAt q format c (hidden ++ drop place.progress.countdown ls) bytes before.taken
    (after.taken ++ rows format end c.name c.trail.offset) last n (place.seen + length ls) in
    let R : List ℕ → Type 0 = λ t. IsAt q format c (hidden ++ drop place.progress.countdown ls) bytes before.taken
    (after.taken ++ t) last (length bytes) (place.seen + length ls) in
    subst R same (subst Q whole k)

-- which lines may still be shown, where no line was kept and where one was
fresh_window : (ctx behind behind' : ℕ) (hidden others : List (List ℕ)) → behind' ≡ behind + length others
    → min ctx (length hidden) ≡ min ctx behind
    → keep_last (min ctx behind') (hidden ++ others) ≡ keep_last ctx (hidden ++ others)
fresh_window ctx behind behind' hidden others sum same =
    let whole = length-append hidden others in
    let skip : length (hidden ++ others) - min ctx behind' ≡ length (hidden ++ others) - ctx = omega arith in
    ap (λ n. drop n (hidden ++ others)) skip

kept_window : (ctx behind : ℕ) (hidden others : List (List ℕ)) → behind ≡ length others
    → keep_last (min ctx behind) (hidden ++ others) ≡ keep_last ctx others
kept_window ctx behind hidden others is =
    let n : ℕ = min ctx behind in
    let none : n - min n (length others) ≡ 0 = omega arith in
    let skip : length others - min n (length others) ≡ length others - ctx = omega arith in
    last_of_both n hidden others (omega arith)
    ∙ (ap (λ k. keep_last k hidden ++ keep_last (min n (length others)) others) none
    ∙ (ap (λ xs. xs ++ keep_last (min n (length others)) others) (keep_none hidden)
    ∙ ap (λ k. drop k others) skip))

-- where a block ends
pub offset_follows : {A : Type 0} (s : Printer A) (q : Search) (format : Format) (c : Cursor) (bytes : List ℕ)
    → IsAtCursor s q format c
    → s.offset + bytes_in (lines s.end bytes) ≡ (behind_block q format c bytes).trail.offset
offset_follows s q format c bytes r =
    ap (λ e. s.offset + bytes_in (lines e bytes)) r.end_is
    ∙ (ap (λ o. o + bytes_in (lines (terminator q) bytes)) r.offset
    ∙ sym (run_offset q format c.trail (lines (terminator q) bytes)))

pub follows : {A : Type 0} (s : Printer A) (q : Search) (format : Format) (c : Cursor) (bytes : List ℕ)
    (before after : Stream) (place : Place) (last : Progress) (count stop left offset : ℕ) → IsAtCursor s q format c
    → shows_lines format ≡ true
    → ComesLast q format c (lines_held (terminator q) s.window) bytes before after s.progress place
    → Passes place.progress count last → count ≡ length (lines s.end (drop place.at bytes))
    → lines s.end (drop stop (drop place.at bytes)) ≡ drop place.progress.countdown (lines s.end (drop place.at bytes))
    → stop ≤ length (drop place.at bytes) → left ≡ count - place.progress.countdown
    → offset ≡ s.offset + bytes_in (lines s.end bytes) →
    IsRememberedBehind s q format (behind_block q format c bytes) bytes
    (record {
      progress = last;
      offset = offset;
      fresh = nat_eq place.at 0;
      start = place.at + stop;
      lines = left;
    })
follows s q format c bytes before after place last count stop left offset r shows h passes is rest within left_is
    behind_is =
    let end = terminator q in
    let hidden = lines_held end s.window in
    let ls = lines end (drop place.at bytes) in
    let others = drop place.progress.countdown ls in
    let ctx = context format.before in
    let k = behind_last s q format c bytes before after place last count r h passes is in
    let done = at_last q format c (hidden ++ others) bytes before.taken
    (after.taken ++ shown_passed s place.progress (s.offset + place.at) (lines s.end (drop place.at bytes))) last
    (length bytes) (place.seen + length ls) k refl in
    let P : ℕ → Type 0 = λ e. lines e (drop stop (drop place.at bytes))
    ≡ drop place.progress.countdown (lines e (drop place.at bytes)) in
    let tail : lines end (drop (place.at + stop) bytes) ≡ others =
    ap (lines end) (sym (drop-drop stop place.at bytes)) ∙ subst P r.end_is rest in
    let total : count ≡ length ls = is ∙ ap (λ e. length (lines e (drop place.at bytes))) r.end_is in
    let long = length-drop place.progress.countdown ls in
    let behind : last.behind ≡ place.progress.behind + length others = let b = passes.behind in omega arith in
    let window : keep_last (leading format last) (hidden ++ others)
    ≡ keep_last ctx (cond (nat_eq place.at 0) hidden [] ++ others) = elim (cases_eq place.at 0) [
      | inl first ↦
          let start = ap (λ p. p.behind) (h.fresh first) in
          let a = ap (λ xs. length xs) (r.window shows) in
          let b = length_keep_last ctx hidden in
          let e = r.told.window in
          let same : min ctx (length hidden) ≡ min ctx place.progress.behind = omega arith in
          fresh_window ctx place.progress.behind last.behind hidden others behind same
          ∙ ap (λ t. keep_last ctx (cond t hidden [] ++ others)) (sym (eq-eqb place.at 0 first))
      | inr some ↦
          let none = h.kept (omega (arith, some)) in
          let sum : last.behind ≡ length others = omega arith in
          kept_window ctx last.behind hidden others sum
          ∙ ap (λ t. keep_last ctx (cond t hidden [] ++ others)) (sym (ne_eqb place.at 0 some))
    ] in
    record {
      told = done.1;
      offset = behind_is ∙ offset_follows s q format c bytes r;
      within = let a = length-drop place.at bytes in let b = h.here.within in omega arith;
      count = left_is ∙ (ap (λ n. n - place.progress.countdown) total
          ∙ (sym long ∙ ap (λ xs. length xs) (sym tail)));
      window = λ shown. done.2 ∙ (window
          ∙ ap (λ xs. keep_last ctx (cond (nat_eq place.at 0) hidden [] ++ xs)) (sym tail));
    }

-- What is known of a result.

pub has_lines : (q : Search) (found : SearchedBlock) (runs : List Run) → HasItsTrees q → found.query ≡ q.text
    → HasRuns found.query found.block.bytes runs → HasLines q found.block.bytes runs (length (lines_of found))
has_lines q found runs trees query has =
    let P : SearchText → Type 0 = λ t. HasRuns t found.block.bytes runs in
    record {
      each = subst P query has q.trees trees;
      total = ap (λ t. length (lines (terminator_of t) found.block.bytes)) query;
    }

pub has_found : (q : Search) (found : SearchedBlock) (bytes : List ℕ) (runs : List Run) (parts : List Part)
    → HasItsTrees q → found.query ≡ q.text → bytes ≡ found.block.bytes → HasRuns found.query found.block.bytes runs
    → HasParts found.query found.block.bytes parts → HasFound q bytes runs parts (length (lines_of found))
has_found q found bytes runs parts trees query same has_runs has_parts =
    let P : List ℕ → Type 0 = λ bs. HasFound q bs runs parts (length (lines_of found)) in
    let Q : SearchText → Type 0 = λ t. HasParts t found.block.bytes parts in
    subst P (sym same) (record {
      found_lines = has_lines q found runs trees query has_runs;
      found_parts = subst Q query has_parts q.trees trees;
    })

-- the numbers of a block's lines and bytes stay small
pub lines_small : {A : Type 0} {s : Printer A} {q : Search} {format : Format} {c : Cursor} (total : ℕ)
    → IsAtCursor s q format c → c.trail.number + total < 2 ^ 63 → s.progress.number + total < 2 ^ 63
lines_small total r small = omega (arith, r.told.number, small)

pub bytes_small : {A : Type 0} {s : Printer A} {q : Search} {format : Format} {c : Cursor} (bytes block : List ℕ)
    → IsAtCursor s q format c → bytes ≡ block → c.trail.offset + length block < 2 ^ 63
    → s.offset + length bytes < 2 ^ 63
bytes_small bytes block r same small = omega (arith, r.offset, ap (λ bs. length bs) same, small)

-- What a block adds, by the kind of rows.

pub shown_pieces : (q : Search) (format : Format) (c : Cursor) (bytes : List ℕ) → shows_parts format ≡ true
    → shown_rows q format c bytes ≡ run_pieces q format c.name c.trail (lines (terminator q) bytes)
shown_pieces q format c bytes shows =
    let ls = lines (terminator q) bytes in
    let parts = run_pieces q format c.name c.trail ls in
    let whole = run_rows q format c.name c.earlier c.trail ls in
    let both = and_parts (shows_rows format.mode) format.parts shows in
    rows_are format.mode (cond format.parts parts whole) [] [] both.0 ∙ ap (λ b. cond b parts whole) both.1

pub shown_lines : (q : Search) (format : Format) (c : Cursor) (bytes : List ℕ) → shows_lines format ≡ true
    → shown_rows q format c bytes ≡ run_rows q format c.name c.earlier c.trail (lines (terminator q) bytes)
shown_lines q format c bytes shows =
    let ls = lines (terminator q) bytes in
    let parts = run_pieces q format c.name c.trail ls in
    let whole = run_rows q format c.name c.earlier c.trail ls in
    let both = and_parts (shows_rows format.mode) (not format.parts) shows in
    rows_are format.mode (cond format.parts parts whole) [] [] both.0
    ∙ ap (λ b. cond b parts whole) (not-true format.parts both.1)

-- the rows of the parts, as the printer writes them
pub pieces_same : {A : Type 0} (s : Printer A) (q : Search) (format : Format) (c : Cursor) (bytes : List ℕ)
    (runs : List Run) (parts : List Part) (total cut : ℕ) → IsAtCursor s q format c
    → HasFound q bytes runs parts total
    → cut ≡ cut_at q s.format.limit s.progress.kept (lines (terminator q) bytes) →
    rows_of_parts s.format s.end s.prefix (s.progress.number + 1) s.offset cut bytes parts
    ≡ run_pieces q format c.name c.trail (lines (terminator q) bytes)
pieces_same s q format c bytes runs parts total cut r found is =
    let end = terminator q in
    let ls = lines end bytes in
    let found_all = found_lines_told q bytes runs parts total found in
    let cut_is : cut ≡ cut_at q format.limit c.trail.kept ls =
    is ∙ (ap (λ f. cut_at q f.limit s.progress.kept ls) r.format_is ∙ ap (λ k. cut_at q format.limit k ls) r.told.kept)
    in
    let number : ℕ = s.progress.number + 1 in
    ap (λ f. rows_of_parts f s.end s.prefix number s.offset cut bytes parts) r.format_is
    ∙ (ap (λ e. rows_of_parts format e s.prefix number s.offset cut bytes parts) r.end_is
    ∙ (ap (λ n. rows_of_parts format end n number s.offset cut bytes parts) r.name_is
    ∙ (ap (λ k. rows_of_parts format end c.name (k + 1) s.offset cut bytes parts) r.told.number
    ∙ (ap (λ o. rows_of_parts format end c.name (c.trail.number + 1) o cut bytes parts) r.offset
    ∙ (ap (λ k. rows_of_parts format end c.name (c.trail.number + 1) c.trail.offset k bytes parts) cut_is
    ∙ (ap (rows_of_parts format end c.name (c.trail.number + 1) c.trail.offset (cut_at q format.limit c.trail.kept ls)
    bytes) found_all
    ∙ sym (block_pieces q format c.name c.trail bytes)))))))
