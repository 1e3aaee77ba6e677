use Rattle.std.proofs.Common.{◌≡◌, ◌+◌, ◌-◌, ◌<◌, min, List, [], drop, get_or, refl, sym, ap, ◌∙◌, subst, arith}
use Rattle.std.proofs.lemmas.List.{drop_more, drop_all}
use Rattle.pg_blocks.specs.Lines.{lines}
use Rattle.pg_selection.specs.Search.{terminator}
use Rattle.pg_selection.specs.declared.run.Run.{Run}
use Rattle.pg_rows.proofs.BlockLemmas.{no_run, IsReached, IsRoom, reached_none, reached_all, reached_full, reached_more}
use Rattle.pg_rows.proofs.progress.Progress.after.Goals as goal

pub loop-run-init : goal.loop-run-init
loop-run-init c = record {
  within = omega arith;
  number = refl;
  reached = λ q t bytes are count told.
      reached_none q c.args.format.now t bytes c.args.lines c.args.runs.now c.args.self are count told;
}

pub returns-then-count-eq0-clause-tells : goal.returns-then-count-eq0-clause-tells
returns-then-count-eq0-clause-tells c q t bytes are count told =
    let runs = c.args.runs.now in
    let here = get_or runs c.loop-run.run-index no_run in
    let left = c.loop-run.left in
    let p = c.loop-run.progress in
    let gap = c.min-gap.result in
    let format = c.args.format.now in
    let ls = lines (terminator q) bytes in
    let P : List Run → Type 0 = λ rs. IsReached q format t ls left rs p in
    let reached = subst P (drop_more runs c.loop-run.run-index no_run c.loop-run-test.true)
    (c.loop-run.invariant.reached q t bytes are count told) in
    let room : IsRoom format c.args.lines left here p gap 0 = record {
      before = c.min-gap.ensures ∙ ap (λ k. min k left) c.saturating_sub.ensures;
      kept = sym c.if-count-eq0.true ∙ (c.min-count.ensures ∙ ap (λ k. min k (left - gap)) c.keeps.ensures);
    } in
    reached_full q format t ls c.args.lines left gap here
    (drop (c.loop-run.run-index + 1) runs) p c.pass.result reached count room c.pass.ensures.fields

pub loop-run-preserved : goal.loop-run-preserved
loop-run-preserved c =
    let left = c.loop-run.left in
    let gap = c.min-gap.result in
    let kept = c.min-count.result in
    let passes = c.pass-in-loop-run.ensures.fields in
    let keeps = c.keep-progress.ensures.fields in
    let first = passes.number in
    let second = keeps.number in
    let before = c.loop-run.invariant.number in
    let within = c.loop-run.invariant.within in
    let gap_is = c.min-gap.ensures in
    let kept_is = c.min-count.ensures in
    record {
      within = omega arith;
      number = omega arith;
      reached = λ q t bytes are count told.
          let runs = c.args.runs.now in
          let here = get_or runs c.loop-run.run-index no_run in
          let p = c.loop-run.progress in
          let format = c.args.format.now in
          let ls = lines (terminator q) bytes in
          let P : List Run → Type 0 = λ rs. IsReached q format t ls left rs p in
          let reached = subst P (drop_more runs c.loop-run.run-index no_run c.loop-run-test.true)
          (c.loop-run.invariant.reached q t bytes are count told) in
          let room : IsRoom format c.args.lines left here p gap kept = record {
            before = gap_is ∙ ap (λ k. min k left) c.saturating_sub.ensures;
            kept = kept_is ∙ ap (λ k. min k (left - gap)) c.keeps.ensures;
          } in
          let some : 0 < kept = let ne = c.if-count-eq0.false in omega arith in
          reached_more q format t ls c.args.lines left gap kept here
          (drop (c.loop-run.run-index + 1) runs) p c.pass-in-loop-run.result c.keep-progress.result reached count
          room some passes keeps;
    }

pub returns-clause-tells : goal.returns-clause-tells
returns-clause-tells c q t bytes are count told =
    let runs = c.args.runs.now in
    let left = c.loop-run.left in
    let p = c.loop-run.progress in
    let format = c.args.format.now in
    let ls = lines (terminator q) bytes in
    let P : List Run → Type 0 = λ rs. IsReached q format t ls left rs p in
    let none : drop c.loop-run.run-index runs ≡ [] = drop_all c.loop-run.run-index runs c.loop-run-test.false in
    reached_all q format t ls left p c.pass-2.result
    (subst P none (c.loop-run.invariant.reached q t bytes are count told)) c.pass-2.ensures.fields
