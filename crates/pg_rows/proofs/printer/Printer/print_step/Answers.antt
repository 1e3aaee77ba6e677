use Rattle.std.proofs.Common.{◌≡◌, ℕ, ◌+◌, ◌-◌, ◌≤◌, ◌++◌, List, length, take, drop, slice_range, subst, sym}
use Rattle.std.proofs.Common.{ap, ◌∙◌, append_assoc, arith, length-drop}
use Rattle.std.proofs.lemmas.List.{length-take-le}
use Rattle.pg_blocks.specs.Lines.{lines}
use Rattle.pg_selection.specs.declared.run.Run.{Run}
use Rattle.pg_rows.specs.declared.printer.Printer.{Printer}
use Rattle.pg_rows.specs.declared.printer.Place.{Place}
use Rattle.pg_base.specs.Sink.{WritesAll, WritesPart}
use Rattle.pg_rows.specs.Printing.{gap_of, ComesNext}
use Rattle.pg_rows.specs.Steps.{gap_lines, shown_before, shown_kept, shown_leading, shown_passed}
use Rattle.pg_rows.specs.Steps.{AreKeptParts, CanNumberRun, HasLeading}
use Rattle.pg_rows.proofs.PrinterSteps.{cut_bytes}
use Rattle.pg_base.proofs.WriteLemmas.{part_of_first, writes_part, writes_then, writes_as}
use Rattle.pg_rows.proofs.printer.Printer.print_step.Goals as goal

-- where a run begins behind a gap
kept_offset : (end offset : ℕ) (bytes : List ℕ) (place : Place) (run : Run)
    → ComesNext end bytes place.at place.seen run
    → (offset + place.at) + length (slice_range bytes place.at run.span.start) ≡ offset + run.span.start
kept_offset end offset bytes place run next =
    let left = length-drop place.at bytes in
    let in_bytes : run.span.start ≤ length bytes = omega (arith, next.order, next.within) in
    let size = length-take-le (run.span.start - place.at) (drop place.at bytes) (omega arith) in
    omega (arith, size, next.start)

pub returns-in_err-print_unkept-clause-writes : goal.returns-in_err-print_unkept-clause-writes
returns-in_err-print_unkept-clause-writes g c q takes =
    let a = c.args in
    let s = a.self.now in
    let gap = gap_lines s a.bytes.now a.place a.kept.run in
    let near = drop a.place.progress.countdown gap in
    let kept_at : ℕ = s.offset + a.kept.run.span.start in
    let passed = shown_passed s a.place.progress (s.offset + a.place.at) gap in
    let hyphens = gap_of s.format s.end s.earlier a.next.passed in
    let lead = shown_leading s near a.next.passed kept_at in
    let own = shown_kept q s (record { number = a.next.passed.number + 1; offset = kept_at })
    (lines s.end (slice_range a.bytes.now a.kept.run.span.start a.next.place.at)) in
    let joins : (passed ++ (hyphens ++ lead)) ++ own ≡ passed ++ (hyphens ++ (lead ++ own)) = simp append_assoc in
    let shown : ℕ → List ℕ = λ o. passed ++ shown_before s near a.next.passed o in
    let P : List ℕ → Type 0 = λ xs. WritesPart xs (g.W.Sink.stream a.out.now)
    (g.W.Sink.stream c.print_unkept.new.out) in
    writes_as ((passed ++ (hyphens ++ lead)) ++ own) (passed ++ (hyphens ++ (lead ++ own))) _ _ _ joins
    (writes_part ((passed ++ (hyphens ++ lead)) ++ own) _ _ c.from_residual.result c.from_residual.ensures.0
    (part_of_first (passed ++ (hyphens ++ lead)) own _ _ (subst P
    (ap shown (kept_offset s.end s.offset a.bytes.now a.place a.kept.run c.requires.may.next))
    c.in_err-print_unkept.ensures.writes.err)))

pub returns-clause-writes : goal.returns-clause-writes
returns-clause-writes g c q takes =
    let a = c.args in
    let s = a.self.now in
    let t = c.print_unkept.new.self in
    let gap = gap_lines s a.bytes.now a.place a.kept.run in
    let near = drop a.place.progress.countdown gap in
    let kept_at : ℕ = s.offset + a.kept.run.span.start in
    let passed = shown_passed s a.place.progress (s.offset + a.place.at) gap in
    let hyphens = gap_of s.format s.end s.earlier a.next.passed in
    let lead = shown_leading s near a.next.passed kept_at in
    let own = shown_kept q s (record { number = a.next.passed.number + 1; offset = kept_at })
    (lines s.end (slice_range a.bytes.now a.kept.run.span.start a.next.place.at)) in
    let joins : (passed ++ (hyphens ++ lead)) ++ own ≡ passed ++ (hyphens ++ (lead ++ own)) = simp append_assoc in
    let same = c.in_ok-print_unkept.ensures.same in
    let kept = drop a.kept.run.span.start (take a.next.place.at a.bytes.now) in
    let rows : Printer g.row.A.Denot → List ℕ → List ℕ = λ p text. shown_kept q p
    (record { number = a.next.passed.number + 1; offset = p.offset + a.kept.run.span.start }) (lines p.end text) in
    let P : Printer g.row.A.Denot → Type 0 = λ p. AreKeptParts q p (take a.next.place.at a.bytes.now)
    a.kept.run.span.start a.kept.run.first (slice_range a.parts.now a.place.used a.next.place.used) in
    let shown : ℕ → List ℕ = λ o. passed ++ shown_before s near a.next.passed o in
    let Q : List ℕ → Type 0 = λ xs. WritesAll xs (g.W.Sink.stream a.out.now)
    (g.W.Sink.stream c.print_unkept.new.out) in
    writes_as ((passed ++ (hyphens ++ lead)) ++ own) (passed ++ (hyphens ++ (lead ++ own))) _ _ _ joins
    (writes_then (passed ++ (hyphens ++ lead)) own _ _ _ _ (subst Q
    (ap shown (kept_offset s.end s.offset a.bytes.now a.place a.kept.run c.requires.may.next))
    c.in_ok-print_unkept.ensures.writes.ok)
    (writes_as (rows t kept) own _ _ _ (ap (λ p. rows p kept) same
    ∙ ap (rows s) (cut_bytes a.bytes.now a.kept.run.span.start a.next.place.at c.requires.steps.ends.low))
    (c.print_kept.ensures.writes q (subst P (sym same) takes.told))))

pub print_kept-requires-clause-fits : goal.print_kept-requires-clause-fits
print_kept-requires-clause-fits g c =
    let a = c.args in
    let s = a.self.now in
    let all = slice_range a.bytes.now a.kept.run.span.start a.kept.run.span.end in
    let cut = cut_bytes a.bytes.now a.kept.run.span.start a.next.place.at c.requires.steps.ends.low in
    let long = ap (λ xs. length (lines s.end xs)) cut ∙ (ap (λ xs. length xs) c.requires.steps.ends.kept
    ∙ length-take-le a.kept.count (lines s.end all) (omega (arith, c.requires.may.few, c.requires.may.next.count))) in
    let P : Printer g.row.A.Denot → Type 0 = λ p. CanNumberRun
    (record { number = a.next.passed.number + 1; offset = p.offset + a.kept.run.span.start }) a.kept.run.first
    (length (lines p.end (drop a.kept.run.span.start (take a.next.place.at a.bytes.now))))
    (length (take a.next.place.at a.bytes.now)) in
    let size = length-take-le a.next.place.at a.bytes.now
    (omega (arith, c.requires.steps.ends.high, c.requires.may.next.within)) in
    subst P (sym c.in_ok-print_unkept.ensures.same) (record {
      small = omega (arith, long, c.requires.may.small, c.requires.steps.passes.number);
      placed = omega (arith, size, c.requires.may.placed, c.requires.steps.ends.high, c.requires.may.next.within);
      few = omega (arith, long, c.requires.may.room);
    })

pub print_unkept-requires-clause-leading : goal.print_unkept-requires-clause-leading
print_unkept-requires-clause-leading g c =
    let a = c.args in
    let s = a.self.now in
    let P : ℕ → Type 0 = λ o. HasLeading s a.next.passed
    (drop a.place.progress.countdown (gap_lines s a.bytes.now a.place a.kept.run)) o in
    subst P (sym (kept_offset s.end s.offset a.bytes.now a.place a.kept.run c.requires.may.next)) c.requires.leading

pub print_unkept-requires-clause-comes : goal.print_unkept-requires-clause-comes
print_unkept-requires-clause-comes g c =
    let a = c.args in
    let may = c.requires.may in
    let place = kept_offset a.self.now.end a.self.now.offset a.bytes.now a.place a.kept.run may.next in
    record {
      counted = omega (arith, may.next.gap);
      small = omega (arith, may.small);
      placed = omega (arith, place, may.placed, may.next.order, may.next.within);
    }
