use Rattle.std.proofs.Common.{◌≡◌, ℕ, ◌+◌, ◌-◌, ◌≤◌, ◌<◌, ◌^◌, List, ◌++◌, length, take, drop, refl, sym, ap}
use Rattle.std.proofs.Common.{◌∙◌, subst, arith, length-drop}
use Rattle.std.proofs.lemmas.List.{take_rest}
use Rattle.std.proofs.lemmas.Result.{IfOk-from_err}
use Rattle.pg_selection.specs.Search.{Search, terminator, terminator_of}
use Rattle.pg_selection.specs.Searched.{SearchedBlock, lines_of}
use Rattle.pg_blocks.specs.Lines.{lines}
use Rattle.pg_rows.specs.declared.format.Format.{Format}
use Rattle.pg_rows.specs.declared.printer.Printer.{Printer}
use Rattle.pg_rows.specs.declared.printer.Place.{Place}
use Rattle.pg_rows.specs.Cursor.{Cursor}
use Rattle.pg_rows.specs.Output.{bytes_in}
use Rattle.pg_base.specs.Sink.{Stream, TakesPart}
use Rattle.pg_rows.specs.Trail.{run_rows}
use Rattle.pg_rows.specs.Places.{FirstLines}
use Rattle.pg_rows.specs.Remembered.{shown_rows, shows_lines, IsAtCursor, ComesLast}
use Rattle.pg_rows.specs.Steps.{shown_passed, ComesBehind}
use Rattle.pg_rows.specs.Window.{lines_held}
use Rattle.pg_rows.proofs.PrintLemmas.{at_last}
use Rattle.pg_rows.proofs.RunSteps.{failed_before}
use Rattle.pg_rows.proofs.PrinterSteps.{behind_last, bytes_small, follows, lines_small, shown_lines}
use Rattle.pg_base.proofs.WriteLemmas.{writes_as, writes_part, rises}
use Rattle.pg_rows.proofs.printer.Printer.print_lines.Goals as goal

-- what the runs leave of the block
record IsLeft (end : ℕ) (bytes cut : List ℕ) (place : Place) (total : ℕ) : Type 0 where
  cut_is : cut ≡ drop place.at bytes
  count : total - place.seen ≡ length (lines end (drop place.at bytes))
  within : place.seen ≤ total

is_left : {A : Type 0} {s : Printer A} {q : Search} {format : Format} {c : Cursor} {before after : Stream}
    {place : Place} (found : SearchedBlock) (bytes : List ℕ) (total : ℕ) → IsAtCursor s q format c
    → found.query ≡ q.text
    → bytes ≡ found.block.bytes → total ≡ length (lines_of found)
    → ComesLast q format c (lines_held (terminator q) s.window) found.block.bytes before after s.progress place
    → IsLeft s.end found.block.bytes (take (length bytes - place.at) (drop place.at bytes)) place total
is_left {place = place} found bytes total r query same counted h =
    let all = h.here.count in
    let sum = counted ∙ ap (λ t. length (lines (terminator_of t) found.block.bytes)) query in
    let mine = ap (λ e. length (lines e (drop place.at found.block.bytes))) r.end_is in
    record {
      cut_is = take_rest bytes place.at ∙ ap (drop place.at) same;
      count = omega (arith, all, sum, mine);
      within = omega (arith, all, sum);
    }

-- the lines behind the runs are few enough
left_small : {A : Type 0} {s : Printer A} {q : Search} {format : Format} {c : Cursor} {bytes : List ℕ}
    {before after : Stream} {place : Place} (lines_all total : ℕ) → IsAtCursor s q format c
    → c.trail.number + lines_all < 2 ^ 63 → total ≡ lines_all → place.seen ≤ total
    → ComesLast q format c (lines_held (terminator q) s.window) bytes before after s.progress place
    → place.progress.number + (total - place.seen) < 2 ^ 63
left_small lines_all total r small counted within h =
    omega (arith, lines_small lines_all r small, counted, within, h.number)

pub overflow_sub-left : goal.overflow_sub-left
overflow_sub-left g c =
    let a = c.args in
    let s = a.self.now in
    let w = c.requires.may in
    let place = c.in_ok-place.place in
    let h = c.in_ok-place.ensures.comes w.0 w.1 w.2 w.3 w.4 w.5 in
    let left = is_left a.found.now c.bytes_of-bytes.result.now c.lines.result w.3 w.5 c.bytes_of-bytes.ensures
    c.lines.ensures h in
    left.within

pub pass-last-requires : goal.pass-last-requires
pass-last-requires g c =
    let a = c.args in
    let s = a.self.now in
    let w = c.requires.may in
    let place = c.in_ok-place.place in
    let h = c.in_ok-place.ensures.comes w.0 w.1 w.2 w.3 w.4 w.5 in
    let left = is_left a.found.now c.bytes_of-bytes.result.now c.lines.result w.3 w.5 c.bytes_of-bytes.ensures
    c.lines.ensures h in
    left_small (length (lines_of a.found.now)) c.lines.result w.3 w.6 c.lines.ensures left.within h

pub behind-next-requires : goal.behind-next-requires
behind-next-requires g c =
    let w = c.requires.may in
    let bytes = c.bytes_of-bytes.result.now in
    let P : Printer g.row.A.Denot → Type 0 = λ p. p.offset + length bytes < 2 ^ 63 in
    subst P (sym c.in_ok-place.ensures.same)
    (bytes_small bytes c.args.found.now.block.bytes w.3 c.bytes_of-bytes.ensures w.7)

pub overflow_add-offset : goal.overflow_add-offset
overflow_add-offset g c =
    let a = c.args in
    let s = a.self.now in
    let w = c.requires.may in
    let place = c.in_ok-place.place in
    let h = c.in_ok-place.ensures.comes w.0 w.1 w.2 w.3 w.4 w.5 in
    let left = is_left a.found.now c.bytes_of-bytes.result.now c.lines.result w.3 w.5 c.bytes_of-bytes.ensures
    c.lines.ensures h in
    let placed = bytes_small a.found.now.block.bytes a.found.now.block.bytes w.3 refl w.7 in
    omega (arith, placed, h.here.within, ap (λ p. p.offset) c.in_ok-place.ensures.same)

pub print_passed-requires : goal.print_passed-requires
print_passed-requires g c =
    let a = c.args in
    let s = a.self.now in
    let w = c.requires.may in
    let place = c.in_ok-place.place in
    let h = c.in_ok-place.ensures.comes w.0 w.1 w.2 w.3 w.4 w.5 in
    let left = is_left a.found.now c.bytes_of-bytes.result.now c.lines.result w.3 w.5 c.bytes_of-bytes.ensures
    c.lines.ensures h in
    let bytes = a.found.now.block.bytes in
    let cut = take (length c.bytes_of-bytes.result.now - place.at) (drop place.at c.bytes_of-bytes.result.now) in
    let placed = bytes_small bytes bytes w.3 refl w.7 in
    let long = ap (λ t. length t) left.cut_is ∙ length-drop place.at bytes in
    let P : Printer g.row.A.Denot → Type 0 = λ p.
    ComesBehind p.end place.progress (p.offset + place.at) cut (c.lines.result - place.seen) in
    subst P (sym c.in_ok-place.ensures.same) (record {
      counted = left.count ∙ ap (λ t. length (lines s.end t)) (sym left.cut_is);
      small = left_small (length (lines_of a.found.now)) c.lines.result w.3 w.6 c.lines.ensures left.within h;
      placed = omega (arith, placed, long, h.here.within);
    })

pub returns-in_err-place-clause-writes : goal.returns-in_err-place-clause-writes
returns-in_err-place-clause-writes g c q format cur r trees query =
    writes_part (shown_rows q format cur c.args.found.now.block.bytes) _ _ c.from_residual.result
    c.from_residual.ensures.0 (c.in_err-place.ensures.stops q format cur r trees query)

pub returns-in_err-stop-clause-writes : goal.returns-in_err-stop-clause-writes
returns-in_err-stop-clause-writes g c q format cur r trees query =
    let a = c.args in
    let s = a.self.now in
    let bytes = a.found.now.block.bytes in
    let place = c.in_ok-place.place in
    let h = c.in_ok-place.ensures.comes q format cur r trees query in
    let left = is_left a.found.now c.bytes_of-bytes.result.now c.lines.result r query c.bytes_of-bytes.ensures
    c.lines.ensures h in
    let start = g.W.Sink.stream a.out.now in
    let middle = g.W.Sink.stream c.print_runs.new.out in
    let ls = lines (terminator q) (drop place.at bytes) in
    let hidden = lines_held (terminator q) s.window in
    let rows = λ (p : Printer g.row.A.Denot) (t : List ℕ).
    shown_passed p place.progress (p.offset + place.at) (lines p.end t) in
    let cut = take (length c.bytes_of-bytes.result.now - place.at) (drop place.at c.bytes_of-bytes.result.now) in
    let same : rows c.print_runs.new.self cut ≡ rows s (drop place.at bytes) =
    ap (λ p. rows p cut) c.in_ok-place.ensures.same ∙ ap (rows s) left.cut_is in
    let k = behind_last s q format cur bytes start middle place c.pass-last.result (c.lines.result - place.seen) r h
    c.pass-last.ensures.fields left.count in
    let whole = run_rows q format cur.name cur.earlier cur.trail (lines (terminator q) bytes) in
    let shown = sym (shown_lines q format cur bytes (ap shows_lines (sym r.format_is) ∙ c.requires.shows)) in
    let after = g.W.Sink.stream c.print_passed.new.out in
    let failed = c.in_err-stop.ensures.writes.err in
    let P : List ℕ → Type 0 = λ t. TakesPart t middle.taken after.taken in
    writes_as whole (shown_rows q format cur bytes) _ _ _ shown
    (writes_part whole _ _ c.from_residual-in_err-stop.result c.from_residual-in_err-stop.ensures.0 (record {
      part = failed_before q format cur hidden (hidden ++ drop place.progress.countdown ls) bytes start.taken
          middle.taken (rows s (drop place.at bytes)) after.taken place.progress c.pass-last.result place.at place.seen
          (length bytes) (place.seen + length ls) h.here k (subst P same failed.part);
      failure = rises _ _ _ h.no_failure failed.failure;
    }))

pub returns-clause-writes : goal.returns-clause-writes
returns-clause-writes g c q format cur r trees query =
    let a = c.args in
    let s = a.self.now in
    let bytes = a.found.now.block.bytes in
    let place = c.in_ok-place.place in
    let h = c.in_ok-place.ensures.comes q format cur r trees query in
    let left = is_left a.found.now c.bytes_of-bytes.result.now c.lines.result r query c.bytes_of-bytes.ensures
    c.lines.ensures h in
    let start = g.W.Sink.stream a.out.now in
    let middle = g.W.Sink.stream c.print_runs.new.out in
    let ls = lines (terminator q) (drop place.at bytes) in
    let hidden = lines_held (terminator q) s.window in
    let rows = λ (p : Printer g.row.A.Denot) (t : List ℕ).
    shown_passed p place.progress (p.offset + place.at) (lines p.end t) in
    let cut = take (length c.bytes_of-bytes.result.now - place.at) (drop place.at c.bytes_of-bytes.result.now) in
    let same : rows c.print_runs.new.self cut ≡ rows s (drop place.at bytes) =
    ap (λ p. rows p cut) c.in_ok-place.ensures.same ∙ ap (rows s) left.cut_is in
    let k = behind_last s q format cur bytes start middle place c.pass-last.result (c.lines.result - place.seen) r h
    c.pass-last.ensures.fields left.count in
    let whole = run_rows q format cur.name cur.earlier cur.trail (lines (terminator q) bytes) in
    let shown = sym (shown_lines q format cur bytes (ap shows_lines (sym r.format_is) ∙ c.requires.shows)) in
    let wrote = c.in_ok-stop.ensures.writes.ok in
    writes_as whole (shown_rows q format cur bytes) _ _ _ shown
    (record {
      ok = record {
        taken = wrote.taken ∙ (ap (λ t. middle.taken ++ t) same
            ∙ (at_last q format cur (hidden ++ drop place.progress.countdown ls) bytes start.taken
            (middle.taken ++ rows s (drop place.at bytes)) c.pass-last.result (length bytes) (place.seen + length ls) k
            refl).0);
        no_failure = wrote.no_failure ∙ h.no_failure;
      };
      err = tt;
    })

pub returns-in_err-stop-clause-follows : goal.returns-in_err-stop-clause-follows
returns-in_err-stop-clause-follows g c q format cur r trees query =
    IfOk-from_err c.from_residual-in_err-stop.result _ c.from_residual-in_err-stop.ensures.0

pub returns-clause-follows : goal.returns-clause-follows
returns-clause-follows g c q format cur r trees query =
    let a = c.args in
    let s = a.self.now in
    let bytes = a.found.now.block.bytes in
    let place = c.in_ok-place.place in
    let h = c.in_ok-place.ensures.comes q format cur r trees query in
    let left = is_left a.found.now c.bytes_of-bytes.result.now c.lines.result r query c.bytes_of-bytes.ensures
    c.lines.ensures h in
    let start = g.W.Sink.stream a.out.now in
    let middle = g.W.Sink.stream c.print_runs.new.out in
    let stop = c.in_ok-stop.stop in
    let P : Printer g.row.A.Denot → Type 0 = λ p.
    FirstLines p.end (take (length c.bytes_of-bytes.result.now - place.at) (drop place.at c.bytes_of-bytes.result.now))
    stop place.progress.countdown in
    let Q : List ℕ → Type 0 = λ t. FirstLines s.end t stop place.progress.countdown in
    let stops = subst Q left.cut_is (subst P c.in_ok-place.ensures.same c.in_ok-stop.ensures.stops) in
    let behind = c.behind-next.ensures
    ∙ (ap (λ p. p.offset + bytes_in (lines p.end c.bytes_of-bytes.result.now)) c.in_ok-place.ensures.same
    ∙ ap (λ bs. s.offset + bytes_in (lines s.end bs)) c.bytes_of-bytes.ensures) in
    follows s q format cur bytes start middle place c.pass-last.result (c.lines.result - place.seen) stop
    c.saturating_sub.result c.behind-next.result r (ap shows_lines (sym r.format_is) ∙ c.requires.shows) h
    c.pass-last.ensures.fields left.count stops.rest stops.within c.saturating_sub.ensures behind
