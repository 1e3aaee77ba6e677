use Rattle.std.proofs.Common.{ℕ, ◌+◌, inl, inr, List, length, drop, get_or, refl, sym, ap, ◌∙◌, subst}
use Rattle.std.proofs.Common.{arith}
use Rattle.std.proofs.lemmas.List.{drop_all}
use Rattle.pg_selection.specs.Search.{terminator}
use Rattle.pg_selection.specs.Searched.{lines_of}
use Rattle.pg_rows.specs.declared.printer.Printer.{Printer}
use Rattle.pg_base.specs.Sink.{WritesPart}
use Rattle.pg_rows.specs.Window.{lines_held}
use Rattle.pg_rows.specs.Remembered.{shown_rows, shows_lines}
use Rattle.pg_rows.specs.Steps.{shown_step}
use Rattle.pg_base.proofs.SinkLemmas.{on_err}
use Rattle.pg_rows.proofs.BlockLemmas.{no_run}
use Rattle.pg_rows.proofs.RunSteps.{failed_before}
use Rattle.pg_rows.proofs.PrinterSteps.{IsAmong, before_all, at_run, may_step, has_leading, leads_on, stops, comes_last}
use Rattle.pg_rows.proofs.PrinterSteps.{has_found, lines_small, bytes_small, shown_lines}
use Rattle.pg_base.proofs.WriteLemmas.{rises}
use Rattle.pg_rows.proofs.printer.Printer.print_runs.Goals as goal

pub loop-run-init : goal.loop-run-init
loop-run-init g c = record {
  same = refl;
  no_failure = refl;
  number = omega arith;
  fresh = λ e. refl;
  kept = λ some. absurd (omega (arith, some));
  used = omega arith;
  comes = λ q format cur r found.
      before_all c.args.self.now q format cur c.bytes_of-bytes.result.now (g.W.Sink.stream c.args.out.now).taken
      c.runs-runs.result.now c.parts-parts.result.now (length (lines_of c.args.found.now)) c.requires.shows r found;
}

pub step-next-requires : goal.step-next-requires
step-next-requires g c =
    let a = c.args in
    let w = c.requires.may in
    let l = c.loop-run in
    let runs = c.runs-runs.result.now in
    let found = has_found w.0 a.found.now c.bytes_of-bytes.result.now runs c.parts-parts.result.now w.4 w.5
    c.bytes_of-bytes.ensures c.runs-runs.ensures c.parts-parts.ensures in
    let m = l.invariant.comes w.0 w.1 w.2 w.3 found in
    let n = at_run runs l.run-index c.keeps-count.result m c.loop-run-test.true c.keeps-count.ensures
    c.if-count-eq0.false in
    let total = length (lines_of a.found.now) in
    may_step runs total n found.found_lines l.invariant.number l.invariant.used (lines_small total m.stands w.6)
    (bytes_small c.bytes_of-bytes.result.now a.found.now.block.bytes m.stands c.bytes_of-bytes.ensures w.7)

pub print_step-requires-clause-may : goal.print_step-requires-clause-may
print_step-requires-clause-may g c =
    let a = c.args in
    let w = c.requires.may in
    let l = c.loop-run in
    let runs = c.runs-runs.result.now in
    let found = has_found w.0 a.found.now c.bytes_of-bytes.result.now runs c.parts-parts.result.now w.4 w.5
    c.bytes_of-bytes.ensures c.runs-runs.ensures c.parts-parts.ensures in
    let m = l.invariant.comes w.0 w.1 w.2 w.3 found in
    let n = at_run runs l.run-index c.keeps-count.result m c.loop-run-test.true c.keeps-count.ensures
    c.if-count-eq0.false in
    let total = length (lines_of a.found.now) in
    may_step runs total n found.found_lines l.invariant.number l.invariant.used (lines_small total m.stands w.6)
    (bytes_small c.bytes_of-bytes.result.now a.found.now.block.bytes m.stands c.bytes_of-bytes.ensures w.7)

pub print_step-requires-clause-leading : goal.print_step-requires-clause-leading
print_step-requires-clause-leading g c =
    let a = c.args in
    let w = c.requires.may in
    let l = c.loop-run in
    let runs = c.runs-runs.result.now in
    let found = has_found w.0 a.found.now c.bytes_of-bytes.result.now runs c.parts-parts.result.now w.4 w.5
    c.bytes_of-bytes.ensures c.runs-runs.ensures c.parts-parts.ensures in
    let m = l.invariant.comes w.0 w.1 w.2 w.3 found in
    let n = at_run runs l.run-index c.keeps-count.result m c.loop-run-test.true c.keeps-count.ensures
    c.if-count-eq0.false in
    has_leading c.step-next.result.passed n c.step-next.ensures.passes

pub print_step-requires-clause-takes : goal.print_step-requires-clause-takes
print_step-requires-clause-takes g c =
    let a = c.args in
    let w = c.requires.may in
    let l = c.loop-run in
    let runs = c.runs-runs.result.now in
    let found = has_found w.0 a.found.now c.bytes_of-bytes.result.now runs c.parts-parts.result.now w.4 w.5
    c.bytes_of-bytes.ensures c.runs-runs.ensures c.parts-parts.ensures in
    let m = l.invariant.comes w.0 w.1 w.2 w.3 found in
    let n = at_run runs l.run-index c.keeps-count.result m c.loop-run-test.true c.keeps-count.ensures
    c.if-count-eq0.false in
    (w.0, (leads_on c.step-next.result n c.step-next.ensures l.invariant.used).takes)

pub returns-then-count-eq0-clause-comes : goal.returns-then-count-eq0-clause-comes
returns-then-count-eq0-clause-comes g c q format cur r trees query =
    let a = c.args in
    let l = c.loop-run in
    let bytes = c.bytes_of-bytes.result.now in
    let runs = c.runs-runs.result.now in
    let found = has_found q a.found.now bytes runs c.parts-parts.result.now trees query c.bytes_of-bytes.ensures
    c.runs-runs.ensures c.parts-parts.ensures in
    let m = l.invariant.comes q format cur r found in
    let full = stops runs l.run-index c.keeps-count.result m c.loop-run-test.true c.keeps-count.ensures
    c.if-count-eq0.true in
    comes_last a.self.now a.found.now.block.bytes (g.W.Sink.stream a.out.now) (g.W.Sink.stream l.out) l.invariant.same
    c.bytes_of-bytes.ensures m (inr full) l.invariant.no_failure l.invariant.number l.invariant.fresh l.invariant.kept

pub returns-clause-comes : goal.returns-clause-comes
returns-clause-comes g c q format cur r trees query =
    let a = c.args in
    let l = c.loop-run in
    let bytes = c.bytes_of-bytes.result.now in
    let runs = c.runs-runs.result.now in
    let found = has_found q a.found.now bytes runs c.parts-parts.result.now trees query c.bytes_of-bytes.ensures
    c.runs-runs.ensures c.parts-parts.ensures in
    let m = l.invariant.comes q format cur r found in
    comes_last a.self.now a.found.now.block.bytes (g.W.Sink.stream a.out.now) (g.W.Sink.stream l.out) l.invariant.same
    c.bytes_of-bytes.ensures m (inl (drop_all l.run-index runs c.loop-run-test.false)) l.invariant.no_failure
    l.invariant.number l.invariant.fresh l.invariant.kept

pub returns-in_err-print_step-clause-stops : goal.returns-in_err-print_step-clause-stops
returns-in_err-print_step-clause-stops g c q format cur r trees query =
    let a = c.args in
    let l = c.loop-run in
    let bytes = c.bytes_of-bytes.result.now in
    let runs = c.runs-runs.result.now in
    let found = has_found q a.found.now bytes runs c.parts-parts.result.now trees query c.bytes_of-bytes.ensures
    c.runs-runs.ensures c.parts-parts.ensures in
    let m = l.invariant.comes q format cur r found in
    let n = at_run runs l.run-index c.keeps-count.result m c.loop-run-test.true c.keeps-count.ensures
    c.if-count-eq0.false in
    let next = c.step-next.result in
    let on = leads_on next n c.step-next.ensures l.invariant.used in
    let failed = (c.in_err-print_step.ensures.writes q on.takes).err in
    let hidden = lines_held (terminator q) l.self.window in
    let rows = sym (shown_lines q format cur bytes (ap shows_lines (sym r.format_is) ∙ c.requires.shows))
    ∙ ap (shown_rows q format cur) c.bytes_of-bytes.ensures in
    let before = g.W.Sink.stream a.out.now in
    let after = g.W.Sink.stream c.print_step.new.out in
    let P : List ℕ → Type 0 = λ t. WritesPart t before after in
    on_err (WritesPart (shown_rows q format cur a.found.now.block.bytes) before after) c.from_residual.result
    (subst P rows (record {
      part = failed_before q format cur hidden hidden bytes before.taken (g.W.Sink.stream l.out).taken
          (shown_step q l.self bytes l.place (get_or runs l.run-index no_run) next) after.taken l.place.progress
          next.place.progress l.place.at l.place.seen next.place.at next.place.seen n.at on.among.here.here
          failed.part;
      failure = rises _ _ _ l.invariant.no_failure failed.failure;
    }))

pub loop-run-preserved : goal.loop-run-preserved
loop-run-preserved g c =
    let a = c.args in
    let w = c.requires.may in
    let l = c.loop-run in
    let runs = c.runs-runs.result.now in
    let found = has_found w.0 a.found.now c.bytes_of-bytes.result.now runs c.parts-parts.result.now w.4 w.5
    c.bytes_of-bytes.ensures c.runs-runs.ensures c.parts-parts.ensures in
    let m = l.invariant.comes w.0 w.1 w.2 w.3 found in
    let n = at_run runs l.run-index c.keeps-count.result m c.loop-run-test.true c.keeps-count.ensures
    c.if-count-eq0.false in
    let steps = c.step-next.ensures in
    let next = c.step-next.result in
    let on = leads_on next n steps l.invariant.used in
    let total = length (lines_of a.found.now) in
    let may = may_step runs total n found.found_lines l.invariant.number l.invariant.used
    (lines_small total m.stands w.6)
    (bytes_small c.bytes_of-bytes.result.now a.found.now.block.bytes m.stands c.bytes_of-bytes.ensures w.7) in
    let same = c.in_ok-print_step.ensures.same in
    let before = ap (λ p. p.progress.number) same in
    record {
      same = same ∙ l.invariant.same;
      no_failure = (c.in_ok-print_step.ensures.writes w.0 on.takes).ok.no_failure ∙ l.invariant.no_failure;
      number = omega (
        arith,
        before,
        l.invariant.number,
        steps.keeps.number,
        steps.passes.number,
        steps.seen,
        may.next.gap,
      );
      fresh = λ none. absurd (omega (arith, none, on.some));
      kept = λ more. steps.keeps.behind;
      used = on.takes.within;
      comes = λ q format cur r has.
          let start = (g.W.Sink.stream a.out.now).taken in
          let bytes = c.bytes_of-bytes.result.now in
          let parts = c.parts-parts.result.now in
          let more = drop (l.run-index + 1) runs in
          let own = leads_on next (at_run runs l.run-index c.keeps-count.result (l.invariant.comes q format cur r has)
          c.loop-run-test.true c.keeps-count.ensures c.if-count-eq0.false) steps l.invariant.used in
          let P : List ℕ → Type 0 = λ t. IsAmong l.self q format cur bytes start t parts next.place more in
          let Q : Printer g.row.A.Denot → Type 0 = λ p. IsAmong p q format cur bytes start
          (g.W.Sink.stream c.print_step.new.out).taken parts next.place more in
          subst Q (sym same) (subst P (sym (c.in_ok-print_step.ensures.writes q own.takes).ok.taken) own.among);
    }
