use Rattle.std.proofs.Common.{◌≡◌, ◌-◌, ◌+◌, drop, sym, subst, arith, length-drop}
use Rattle.std.proofs.lemmas.List.{take_rest}
use Rattle.pg_literal.specs.RowOutcomes.{FindsRow}
use Rattle.pg_literal.specs.declared.row_outcome.RowOutcome.TheVariants.{Found}
use Rattle.pg_selection.specs.Search.{terminator_of}
use Rattle.pg_prefilter.specs.Literals.{finder_row}
use Rattle.pg_prefilter.specs.Candidates.{AreWithoutRow, IsLineAround}
use Rattle.pg_prefilter.proofs.NeedleRowLemmas.{first_row, nowhere_row}
use Rattle.pg_prefilter.proofs.needle_row.NeedleRow.next_line.Goals as goal

pub returns-clause-next : goal.returns-clause-next
returns-clause-next g c =
    let text = c.args.text.now in
    let bytes = c.args.bytes.now in
    let at = c.args.at in
    let finder = c.args.self.now.finder.now in
    let k = c.in-Found.found in
    let found = c.around-found.result in
    let same : at + k - at ≡ k = omega arith in
    let first = subst (λ xs. FindsRow xs (finder_row finder) (Found k)) (take_rest bytes at) c.in-Found.ensures in
    let line = subst (λ n. IsLineAround (terminator_of text) at (drop at bytes) n found.line) same
    (subst (λ e. IsLineAround e at (drop at bytes) (at + k - at) found.line) c.terminator.ensures
    c.around-found.ensures.line) in
    let row = first_row text finder c.requires.row at (drop at bytes) k found first.0.before first.0.high first.1
    (sym c.around-found.ensures.flag) line in
    (omega (arith, line.starts), row.1, omega (arith, row.2, length-drop at bytes, c.requires.at), row.0)

pub returns-in-NotFound-clause-next : goal.returns-in-NotFound-clause-next
returns-in-NotFound-clause-next g c =
    let text = c.args.text.now in
    let finder = c.args.self.now.finder.now in
    subst (AreWithoutRow (terminator_of text) (finder_row finder)) (take_rest c.args.bytes.now c.args.at)
    (nowhere_row text finder c.requires.row (terminator_of text) _ c.in-NotFound.ensures)
