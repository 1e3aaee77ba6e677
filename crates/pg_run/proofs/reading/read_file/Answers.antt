use Rattle.std.proofs.Common.{◌∙◌, false, true, ap, sym}
use Rattle.pg_base.specs.Entries.{is_failed}
use Rattle.pg_reader.specs.Reads.{ending_after}
use Rattle.pg_run.proofs.HoldLemmas.{fails_by}
use Rattle.pg_reader.proofs.ReadLemmas.{then_reads}
use Rattle.pg_run.proofs.ReadingLemmas.{may_leave, told_more, refused_last}
use Rattle.pg_run.proofs.reading.read_file.Goals as goal

pub end_file-requires-clause-may_end : goal.end_file-requires-clause-may_end
end_file-requires-clause-may_end g c κs within =
    let r = c.requires.in_file in
    let h = c.in_ok-settle.ensures.outcome _ r.0 (c.loop.invariant.reads r.0 r.1) in (
      r.0,
      (g.F.Files.past c.loop.files).given,
      may_leave h (c.in_ok-settle.ensures.came ∙ c.loop.invariant.awaits.0)
          (sym (c.enough.ensures r.0 h.steps _ h.holds) ∙ c.if-enough.true),
    )

pub returns-then-enough-clause-told : goal.returns-then-enough-clause-told
returns-then-enough-clause-told g c =
    let r = c.requires.in_file in
    let h = c.in_ok-settle.ensures.outcome _ r.0 (c.loop.invariant.reads r.0 r.1) in
    told_more r.1.cuts h.cuts false c.requires.awaits.0
    (ap (λ x. is_failed (ending_after x)) (c.in_ok-settle.ensures.came ∙ c.loop.invariant.awaits.0))
    c.loop.invariant.reads_on.before c.end_file.result c.end_file.ensures.failed

pub returns-then-enough-clause-outcome : goal.returns-then-enough-clause-outcome
returns-then-enough-clause-outcome g c = λ aim start.
    let h = c.in_ok-settle.ensures.outcome _ aim (c.loop.invariant.reads aim start) in
    c.end_file.ensures.outcome aim _
    (may_leave h (c.in_ok-settle.ensures.came ∙ c.loop.invariant.awaits.0)
    (sym (c.enough.ensures aim h.steps _ h.holds) ∙ c.if-enough.true))

pub read_once-requires-clause-more : goal.read_once-requires-clause-more
read_once-requires-clause-more g c κs within = c.in_ok-settle.ensures.came ∙ c.loop.invariant.awaits.0

pub read_once-requires-clause-in_file : goal.read_once-requires-clause-in_file
read_once-requires-clause-in_file g c κs within =
    let r = c.requires.in_file in
    (r.0, c.in_ok-settle.ensures.outcome _ r.0 (c.loop.invariant.reads r.0 r.1))

pub returns-in_err-read_once-clause-reads_on : goal.returns-in_err-read_once-clause-reads_on
returns-in_err-read_once-clause-reads_on g c = then_reads c.loop.invariant.reads_on c.in_err-read_once.ensures.reads_on

pub returns-in_err-read_once-clause-outcome : goal.returns-in_err-read_once-clause-outcome
returns-in_err-read_once-clause-outcome g c = λ aim start.
    fails_by c.from_residual-in_err-read_once.result _ _ c.from_residual-in_err-read_once.ensures.1
    (c.in_err-read_once.ensures.outcome aim (c.in_ok-settle.ensures.outcome _ aim (c.loop.invariant.reads aim start)))

pub loop-preserved : goal.loop-preserved
loop-preserved g c =
    let i = c.loop.invariant in
    let ok = c.in_ok-read_once.ensures in
    record {
      can_next = tt;
      is_finite = tt;
      awaits = (sym c.came.ensures ∙ c.in-More.is, ok.taken.0);
      reads_on = then_reads i.reads_on ok.reads_on;
      reads = λ aim start. ok.outcome aim (c.in_ok-settle.ensures.outcome _ aim (c.loop.invariant.reads aim start));
    }

pub finish_file-requires-clause-last : goal.finish_file-requires-clause-last
finish_file-requires-clause-last g c κs within =
    let ok = c.in_ok-read_once.ensures in
    let r = c.requires.in_file in
    let h = ok.outcome r.0 (c.in_ok-settle.ensures.outcome _ r.0 (c.loop.invariant.reads r.0 r.1)) in
    let came = sym c.came.ensures ∙ c.in-End.is in
    record { ended = ap ending_after came; room = ok.taken.1; in_file = (r.0, _, ok.taken.0, h) }

pub returns-in-End-clause-reads_on : goal.returns-in-End-clause-reads_on
returns-in-End-clause-reads_on g c = then_reads c.loop.invariant.reads_on c.in_ok-read_once.ensures.reads_on

pub returns-in-End-clause-told : goal.returns-in-End-clause-told
returns-in-End-clause-told g c =
    let ok = c.in_ok-read_once.ensures in
    let r = c.requires.in_file in
    let h = ok.outcome r.0 (c.in_ok-settle.ensures.outcome _ r.0 (c.loop.invariant.reads r.0 r.1)) in
    let came = sym c.came.ensures ∙ c.in-End.is in
    told_more r.1.cuts h.cuts false c.requires.awaits.0 (ap (λ x. is_failed (ending_after x)) came)
    (then_reads c.loop.invariant.reads_on ok.reads_on).before c.finish_file.result c.finish_file.ensures.failed

pub returns-in-End-clause-outcome : goal.returns-in-End-clause-outcome
returns-in-End-clause-outcome g c = λ aim start.
    c.finish_file.ensures.outcome aim (g.F.Files.past c.read_once.new.files).given
    (c.in_ok-read_once.ensures.outcome aim (c.in_ok-settle.ensures.outcome _ aim (c.loop.invariant.reads aim start)))

pub finish_file-requires-in-Failure-clause-last : goal.finish_file-requires-in-Failure-clause-last
finish_file-requires-in-Failure-clause-last g c κs within =
    let ok = c.in_ok-read_once.ensures in
    let r = c.requires.in_file in
    let h = ok.outcome r.0 (c.in_ok-settle.ensures.outcome _ r.0 (c.loop.invariant.reads r.0 r.1)) in
    let came = sym c.came.ensures ∙ c.in-Failure.is in
    record { ended = ap ending_after came; room = ok.taken.1; in_file = (r.0, _, ok.taken.0, h) }

pub returns-in-Failure-clause-reads_on : goal.returns-in-Failure-clause-reads_on
returns-in-Failure-clause-reads_on g c = then_reads c.loop.invariant.reads_on c.in_ok-read_once.ensures.reads_on

pub returns-in-Failure-clause-told : goal.returns-in-Failure-clause-told
returns-in-Failure-clause-told g c =
    let ok = c.in_ok-read_once.ensures in
    let r = c.requires.in_file in
    let h = ok.outcome r.0 (c.in_ok-settle.ensures.outcome _ r.0 (c.loop.invariant.reads r.0 r.1)) in
    let ends = c.finish_file-in-Failure in
    let came = sym c.came.ensures ∙ c.in-Failure.is in
    told_more r.1.cuts h.cuts true c.requires.awaits.0 (ap (λ x. is_failed (ending_after x)) came)
    (then_reads c.loop.invariant.reads_on ok.reads_on).before ends.result ends.ensures.failed

pub returns-in-Failure-clause-outcome : goal.returns-in-Failure-clause-outcome
returns-in-Failure-clause-outcome g c = λ aim start.
    c.finish_file-in-Failure.ensures.outcome aim (g.F.Files.past c.read_once.new.files).given
    (c.in_ok-read_once.ensures.outcome aim (c.in_ok-settle.ensures.outcome _ aim (c.loop.invariant.reads aim start)))

pub break_off-requires-clause-holds : goal.break_off-requires-clause-holds
break_off-requires-clause-holds g c κs within =
    let r = c.requires.in_file in
    let h = c.in_ok-read_once.ensures.outcome r.0
    (c.in_ok-settle.ensures.outcome _ r.0 (c.loop.invariant.reads r.0 r.1)) in
    (r.0, h.steps, h.holds)

pub returns-in-Refused-clause-reads_on : goal.returns-in-Refused-clause-reads_on
returns-in-Refused-clause-reads_on g c = then_reads c.loop.invariant.reads_on c.in_ok-read_once.ensures.reads_on

pub returns-in-Refused-clause-told : goal.returns-in-Refused-clause-told
returns-in-Refused-clause-told g c = tt

pub returns-in-Refused-clause-outcome : goal.returns-in-Refused-clause-outcome
returns-in-Refused-clause-outcome g c = λ aim start.
    let h = c.in_ok-read_once.ensures.outcome aim
    (c.in_ok-settle.ensures.outcome _ aim (c.loop.invariant.reads aim start)) in
    let out' = g.W.Sink.stream c.break_off.new.out in
    refused_last h out' c.in-Refused.fault c.from-fault.result c.break_off.result
    (sym c.came.ensures ∙ c.in-Refused.is) c.from-fault.ensures
    (c.break_off.ensures aim h.steps h.holds)

pub settle-requires-clause-in_file : goal.settle-requires-clause-in_file
settle-requires-clause-in_file g c κs within =
    let r = c.requires.in_file in
    (r.0, _, c.loop.invariant.awaits.1, c.loop.invariant.reads r.0 r.1)

pub returns-in_err-settle-clause-outcome : goal.returns-in_err-settle-clause-outcome
returns-in_err-settle-clause-outcome g c = λ aim start.
    fails_by c.from_residual.result _ _ c.from_residual.ensures.1
    (c.in_err-settle.ensures.outcome _ aim (c.loop.invariant.reads aim start))
