use Rattle.std.proofs.Common.{◌≡◌, ℕ, ◌+◌, true, List, length, not, sym, ap, ◌∙◌, arith}
use Rattle.std.proofs.lemmas.Bool.{and_parts, and_right, not_from_true}
use Rattle.pg_selection.specs.Search.{Search, terminator, HasItsTrees}
use Rattle.pg_selection.specs.Searched.{SearchedBlock, lines_of}
use Rattle.pg_selection.specs.Runs.{HasRuns}
use Rattle.pg_selection.specs.BlockParts.{HasParts}
use Rattle.pg_selection.specs.declared.run.Run.{Run}
use Rattle.pg_selection.specs.declared.run.Part.{Part}
use Rattle.pg_blocks.specs.Lines.{lines}
use Rattle.pg_rows.specs.declared.format.Format.{Format}
use Rattle.pg_rows.specs.declared.printer.Printer.{Printer}
use Rattle.pg_rows.specs.Cursor.{Cursor}
use Rattle.pg_rows.specs.Modes.{shows_rows}
use Rattle.pg_rows.specs.Pieces.{cut_at}
use Rattle.pg_rows.specs.Remembered.{IsAtCursor, HasLines, shown_rows, shows_parts}
use Rattle.pg_rows.specs.Stretch.{rows_of_parts}
use Rattle.pg_rows.proofs.PieceLemmas.{found_lines_told, parts_fit}
use Rattle.pg_rows.proofs.PrinterSteps.{bytes_small, has_found, has_lines, pieces_same, shown_pieces}
use Rattle.pg_base.proofs.WriteLemmas.{writes_part, writes_as}
use Rattle.pg_rows.proofs.printer.Printer.print_parts.Goals as goal

pub cut-cut-requires : goal.cut-cut-requires
cut-cut-requires g c =
    let w = c.requires.may in
    let has = has_lines w.0 c.args.found.now c.runs.result.now w.4 w.5 c.runs.ensures in
    (w.0, c.args.found.now.block.bytes, record { each = has.each; total = c.lines.ensures ∙ has.total })

pub passed-printed-requires-clause-hides : goal.passed-printed-requires-clause-hides
passed-printed-requires-clause-hides g c =
    let f = c.args.self.now.format in
    let both = and_parts (shows_rows f.mode) f.parts c.requires.shows in
    and_right (shows_rows f.mode) (not f.parts) (not_from_true f.parts both.1)

pub write_parts-requires-clause-within : goal.write_parts-requires-clause-within
write_parts-requires-clause-within g c =
    let w = c.requires.may in
    let found = c.args.found.now in
    let bytes = c.bytes_of.result.now in
    let parts = c.parts.result.now in
    parts_fit w.0 bytes parts (found_lines_told w.0 bytes c.runs.result.now parts (length (lines_of found))
    (has_found w.0 found bytes c.runs.result.now parts w.4 w.5 c.bytes_of.ensures c.runs.ensures c.parts.ensures))

pub write_parts-requires-clause-fits : goal.write_parts-requires-clause-fits
write_parts-requires-clause-fits g c =
    let w = c.requires.may in
    let placed = bytes_small c.bytes_of.result.now c.args.found.now.block.bytes w.3 c.bytes_of.ensures w.7 in
    record {
      small = omega (arith, w.3.told.number, w.6, c.lines.ensures, c.cut-cut.ensures.short);
      placed = omega (arith, placed);
    }

-- the rows of the parts are those that the block adds
rows_same : {A : Type 0} (s : Printer A) (q : Search) (format : Format) (c : Cursor) (found : SearchedBlock)
    (bytes : List ℕ) (runs : List Run) (parts : List Part) (total cut : ℕ) → IsAtCursor s q format c → HasItsTrees q
    → found.query ≡ q.text → shows_parts s.format ≡ true → bytes ≡ found.block.bytes
    → HasRuns found.query found.block.bytes runs → HasParts found.query found.block.bytes parts
    → total ≡ length (lines_of found)
    → (HasLines q bytes runs total → cut ≡ cut_at q s.format.limit s.progress.kept (lines (terminator q) bytes))
    → rows_of_parts s.format s.end s.prefix (s.progress.number + 1) s.offset cut bytes parts
    ≡ shown_rows q format c found.block.bytes
rows_same s q format c found bytes runs parts total cut r trees query shows same has_runs has_parts counted is =
    let has = has_found q found bytes runs parts trees query same has_runs has_parts in
    let mine : HasLines q bytes runs total =
    record { each = has.found_lines.each; total = counted ∙ has.found_lines.total } in
    pieces_same s q format c bytes runs parts (length (lines_of found)) cut r has (is mine)
    ∙ (sym (shown_pieces q format c bytes (ap shows_parts (sym r.format_is) ∙ shows))
    ∙ ap (shown_rows q format c) same)

pub returns-in_err-write_parts-clause-writes : goal.returns-in_err-write_parts-clause-writes
returns-in_err-write_parts-clause-writes g c q format cur r trees query =
    let a = c.args in
    let same = rows_same a.self.now q format cur a.found.now c.bytes_of.result.now c.runs.result.now
    c.parts.result.now c.lines.result c.cut-cut.result r trees query c.requires.shows c.bytes_of.ensures c.runs.ensures
    c.parts.ensures c.lines.ensures (c.cut-cut.ensures.value q c.bytes_of.result.now) in
    writes_as _ (shown_rows q format cur a.found.now.block.bytes) _ _ _ same
    (writes_part _ _ _ c.from_residual.result c.from_residual.ensures.0 c.in_err-write_parts.ensures.writes.err)

pub returns-clause-writes : goal.returns-clause-writes
returns-clause-writes g c q format cur r trees query =
    let a = c.args in
    let same = rows_same a.self.now q format cur a.found.now c.bytes_of.result.now c.runs.result.now
    c.parts.result.now c.lines.result c.cut-cut.result r trees query c.requires.shows c.bytes_of.ensures c.runs.ensures
    c.parts.ensures c.lines.ensures (c.cut-cut.ensures.value q c.bytes_of.result.now) in
    writes_as _ (shown_rows q format cur a.found.now.block.bytes) _ _ _ same
    (record { ok = c.in_ok-write_parts.ensures.writes.ok; err = tt })
