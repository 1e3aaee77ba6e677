use Rattle.std.proofs.Common.{◌+◌, List, length, slice_range, ap, sym, ◌∙◌, subst, arith, refl}
use Rattle.pg_blocks.specs.Lines.{lines}
use Rattle.pg_lines.specs.Gathered.{IsGathered}
use Rattle.pg_selection.specs.declared.run.Run.{Run}
use Rattle.pg_lines.proofs.GatherLemmas.{gathered_gap, gathered_next}
use Rattle.pg_lines.proofs.runs.with_line.Goals as goal

pub returns-in_ok-push_run-clause-gathered : goal.returns-in_ok-push_run-clause-gathered
returns-in_ok-push_run-clause-gathered g c = λ q same gathered next.
    let bytes = c.args.bytes.now in
    let run = c.args.run in
    let line = c.args.line in
    let new = c.run_behind.result in
    let P : List Run → Type 0 = λ runs. IsGathered q bytes runs new in
    let gap = slice_range bytes run.span.end line.start in
    let first = c.run_behind.ensures.first ∙ ap (λ t. run.first + run.count + length (lines t gap)) same in
    subst P (sym c.in_ok-push_run.ensures) (gathered_gap q bytes c.args.runs.now.items run gathered line next new
    c.run_behind.ensures.span first c.run_behind.ensures.count)

pub returns-else-run-line-clause-gathered : goal.returns-else-run-line-clause-gathered
returns-else-run-line-clause-gathered g c = λ q same gathered next.
    gathered_next q c.args.bytes.now c.args.runs.now.items c.args.run gathered c.args.line next (omega arith) _
    refl refl refl refl
