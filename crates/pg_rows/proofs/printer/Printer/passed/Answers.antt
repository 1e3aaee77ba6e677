use Rattle.std.proofs.Common.{◌+◌, length, sym, ap, ◌∙◌, subst, arith}
use Rattle.std.proofs.lemmas.Bool.{false≢true}
use Rattle.std.proofs.lemmas.List.{drop_all}
use Rattle.pg_selection.specs.Search.{terminator}
use Rattle.pg_blocks.specs.Lines.{lines}
use Rattle.pg_rows.specs.declared.format.Format.{Format}
use Rattle.pg_rows.specs.Output.{bytes_in}
use Rattle.pg_rows.specs.Progress.{TellsBlock}
use Rattle.pg_rows.specs.Remembered.{shows_lines}
use Rattle.pg_rows.proofs.PrinterSteps.{offset_follows, has_lines, bytes_small}
use Rattle.pg_rows.proofs.printer.Printer.passed.Goals as goal

pub after-requires : goal.after-requires
after-requires g c =
    let w = c.requires.may in
    omega (arith, w.3.told.number, w.6, c.lines-total.ensures)

pub behind-requires : goal.behind-requires
behind-requires g c =
    let w = c.requires.may in
    bytes_small c.bytes_of-bytes.result.now c.args.found.now.block.bytes w.3 c.bytes_of-bytes.ensures w.7

pub returns : goal.returns
returns g c q format cur r trees query =
    let s = c.args.self.now in
    let found = c.args.found.now in
    let bytes = found.block.bytes in
    let same = c.bytes_of-bytes.ensures in
    let runs = c.runs.result.now in
    let has = has_lines q found runs trees query c.runs.ensures in
    let long = ap (λ bs. length bs) same in
    let P : Format → Type 0 = λ f. TellsBlock s.progress f runs c.lines-total.result c.after.result in
    record {
      told = subst P r.format_is c.after.ensures.tells q cur.trail bytes has.each (c.lines-total.ensures ∙ has.total)
          r.told;
      offset = c.behind.ensures ∙ (ap (λ bs. s.offset + bytes_in (lines s.end bs)) same
          ∙ offset_follows s q format cur bytes r);
      within = omega (arith, long);
      count = sym (ap (λ xs. length (lines (terminator q) xs)) (drop_all _ bytes (omega (arith, long))));
      window = λ shows. absurd (false≢true (sym c.requires.hides ∙ (ap shows_lines r.format_is ∙ shows)));
    }
