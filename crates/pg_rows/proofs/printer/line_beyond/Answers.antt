use Rattle.std.proofs.Common.{◌≡◌, ◌+◌, ◌-◌, List, [], drop, get_or, ◌∙◌, subst, arith}
use Rattle.std.proofs.lemmas.List.{drop_more, drop_all}
use Rattle.pg_selection.specs.Search.{terminator}
use Rattle.pg_blocks.specs.Lines.{lines}
use Rattle.pg_selection.specs.declared.run.Run.{Run}
use Rattle.pg_rows.proofs.BlockLemmas.{no_run}
use Rattle.pg_rows.proofs.PieceLemmas.{IsCutBehind, cut_start, cut_more, cut_here, cut_last}
use Rattle.pg_rows.proofs.printer.line_beyond.Goals as goal

pub loop-run-init : goal.loop-run-init
loop-run-init c q bytes limit kept has room = cut_start q limit kept bytes c.args.room c.args.runs.now has.each room

pub returns-clause-value : goal.returns-clause-value
returns-clause-value c q bytes limit kept has room =
    let runs = c.args.runs.now in
    let ls = lines (terminator q) bytes in
    let P : List Run → Type 0 = λ rs. IsCutBehind q limit kept ls c.loop-run.left rs in
    let none : drop c.loop-run.run-index runs ≡ [] = drop_all c.loop-run.run-index runs c.loop-run-test.false in
    has.total ∙ cut_last q limit kept ls c.loop-run.left (subst P none
    (c.loop-run.invariant q bytes limit kept has room))

pub loop-run-preserved : goal.loop-run-preserved
loop-run-preserved c q bytes limit kept has room =
    let runs = c.args.runs.now in
    let l = c.loop-run in
    let here = get_or runs l.run-index no_run in
    let ls = lines (terminator q) bytes in
    let P : List Run → Type 0 = λ rs. IsCutBehind q limit kept ls l.left rs in
    cut_more q limit kept ls l.left here (drop (l.run-index + 1) runs)
    (subst P (drop_more runs l.run-index no_run c.loop-run-test.true) (l.invariant q bytes limit kept has room))
    (omega arith)

pub overflow_add-result : goal.overflow_add-result
overflow_add-result c =
    let w = c.requires in
    let l = c.loop-run in
    let runs = c.args.runs.now in
    let here = get_or runs l.run-index no_run in
    let ls = lines (terminator w.0) w.1 in
    let P : List Run → Type 0 = λ rs. IsCutBehind w.0 c.args.room 0 ls l.left rs in
    let whole : c.args.room ≡ c.args.room - 0 = omega arith in
    let is = cut_here w.0 c.args.room 0 ls l.left here (drop (l.run-index + 1) runs)
    (subst P (drop_more runs l.run-index no_run c.loop-run-test.true) (l.invariant w.0 w.1 c.args.room 0 w.2 whole))
    c.if-left-run.true in
    let within = is.1 in
    let total = w.2.total in
    let fits = c.ranges.total.fits in
    omega arith

pub returns-then-left-run-clause-short : goal.returns-then-left-run-clause-short
returns-then-left-run-clause-short c =
    let w = c.requires in
    let l = c.loop-run in
    let runs = c.args.runs.now in
    let here = get_or runs l.run-index no_run in
    let ls = lines (terminator w.0) w.1 in
    let P : List Run → Type 0 = λ rs. IsCutBehind w.0 c.args.room 0 ls l.left rs in
    let whole : c.args.room ≡ c.args.room - 0 = omega arith in
    let is = cut_here w.0 c.args.room 0 ls l.left here (drop (l.run-index + 1) runs)
    (subst P (drop_more runs l.run-index no_run c.loop-run-test.true) (l.invariant w.0 w.1 c.args.room 0 w.2 whole))
    c.if-left-run.true in
    let within = is.1 in
    let total = w.2.total in
    omega arith

pub returns-then-left-run-clause-value : goal.returns-then-left-run-clause-value
returns-then-left-run-clause-value c q bytes limit kept has room =
    let l = c.loop-run in
    let runs = c.args.runs.now in
    let here = get_or runs l.run-index no_run in
    let ls = lines (terminator q) bytes in
    let P : List Run → Type 0 = λ rs. IsCutBehind q limit kept ls l.left rs in
    (cut_here q limit kept ls l.left here (drop (l.run-index + 1) runs)
    (subst P (drop_more runs l.run-index no_run c.loop-run-test.true) (l.invariant q bytes limit kept has room))
    c.if-left-run.true).0
