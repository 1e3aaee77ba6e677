use Rattle.std.proofs.Common.{◌≡◌, ◌≢◌, ℕ, ◌+◌, ◌-◌, ◌<◌, ◌≤◌, List, [], ◌++◌, length, take, drop, ap, ◌∙◌, arith}
use Rattle.std.proofs.Common.{length-append, length-drop}
use Rattle.std.proofs.lemmas.List.{length-take, length-take-le, take_all}
use Rattle.pg_base.specs.Sink.{Stream, WritesAll, WritesPart}
use Rattle.pg_base.proofs.SinkLemmas.{on_err, takes_part, takes_more}
use Rattle.pg_base.proofs.WriteLemmas.{wrote_none, writes_part, rises}
use Rattle.pg_base.proofs.sink.write_all.Goals as goal

-- what isn't taken yet of a text

rest_some : (text : List ℕ) (at : ℕ) → at < length text → take (length text - at) (drop at text) ≢ []
rest_some text at below e = let n = ap length e in omega (
  arith,
  length-take (length text - at) (drop at text),
  length-drop at text,
  n,
)

not_whole : (text start after : List ℕ) (at : ℕ) → after ≡ start ++ take at text → at < length text
    → length after < length start + length text
not_whole text start after at a below =
    let n = ap length a in
    let within : at ≤ length text = omega arith in
    omega (arith, length-append start (take at text), length-take-le at text within, n)

within_more : (text : List ℕ) (at count : ℕ) → at ≤ length text
    → count ≤ length (take (length text - at) (drop at text)) → at + count ≤ length text
within_more text at count within more =
    omega (arith, length-take (length text - at) (drop at text), length-drop at text)

still_below : (at count n : ℕ) → count ≡ 0 → at < n → at + count < n
still_below at count n none below = omega arith

less_left : (at count n : ℕ) → count ≢ 0 → at < n → n - (at + count) < n - at
less_left at count n some below = omega arith

-- the first bytes of the text were taken when a write failed
stopped_at : (text : List ℕ) (start middle after : Stream) (at n : ℕ) → WritesAll (take at text) start middle
    → after.taken ≡ start.taken ++ take n text → middle.failures < after.failures → WritesPart text start after
stopped_at text start middle after at n w t f = record {
  part = takes_part text start.taken after.taken n t;
  failure = rises start.failures middle.failures after.failures w.no_failure f;
}

pub returns-in_err-count-clause-writes : goal.returns-in_err-count-clause-writes
returns-in_err-count-clause-writes g c =
    let text = c.args.text.now in
    let start = g.W.Sink.stream c.args.out.now in
    let after = g.W.Sink.stream c.write.new.self in
    let at = c.loop-at.at in
    let wrote = c.loop-at.invariant.wrote in
    let failed = c.in_err-count.ensures.outcome in
    writes_part text start after c.from_residual.result c.from_residual.ensures.0
    (stopped_at text start (g.W.Sink.stream c.loop-at.out) after at at wrote (failed.taken ∙ wrote.taken)
    failed.failure)

pub returns-in_err-count-clause-not_all : goal.returns-in_err-count-clause-not_all
returns-in_err-count-clause-not_all g c =
    let start = (g.W.Sink.stream c.args.out.now).taken in
    let after = (g.W.Sink.stream c.write.new.self).taken in
    on_err (length after < length start + length c.args.text.now) c.from_residual.result
    (not_whole c.args.text.now start after c.loop-at.at
    (c.in_err-count.ensures.outcome.taken ∙ c.loop-at.invariant.wrote.taken) c.loop-at-test.true)

pub returns-then-count-eq0-clause-writes : goal.returns-then-count-eq0-clause-writes
returns-then-count-eq0-clause-writes g c =
    let text = c.args.text.now in
    let start = g.W.Sink.stream c.args.out.now in
    let at = c.loop-at.at in
    let count = c.in_ok-count.count in
    let took = c.in_ok-count.ensures.outcome in
    record {
      ok = tt;
      err = stopped_at text start (g.W.Sink.stream c.loop-at.out) (g.W.Sink.stream c.write.new.self) at (at + count)
          c.loop-at.invariant.wrote
          (takes_more text start.taken _ _ at count c.loop-at.invariant.wrote.taken took.taken)
          (took.failure (c.if-count-eq0.true, rest_some text at c.loop-at-test.true));
    }

pub returns-then-count-eq0-clause-not_all : goal.returns-then-count-eq0-clause-not_all
returns-then-count-eq0-clause-not_all g c =
    let text = c.args.text.now in
    let at = c.loop-at.at in
    let count = c.in_ok-count.count in
    not_whole text (g.W.Sink.stream c.args.out.now).taken (g.W.Sink.stream c.write.new.self).taken (at + count)
    (takes_more text _ _ _ at count c.loop-at.invariant.wrote.taken c.in_ok-count.ensures.outcome.taken)
    (still_below at count (length text) c.if-count-eq0.true c.loop-at-test.true)

pub returns-clause-writes : goal.returns-clause-writes
returns-clause-writes g c =
    let text = c.args.text.now in
    let start = (g.W.Sink.stream c.args.out.now).taken in
    let wrote = c.loop-at.invariant.wrote in
    record {
      ok = record {
        taken = wrote.taken ∙ ap (λ xs. start ++ xs) (take_all c.loop-at.at text c.loop-at-test.false);
        no_failure = wrote.no_failure;
      };
      err = tt;
    }

pub loop-at-init : goal.loop-at-init
loop-at-init g c = record { within = omega arith; wrote = wrote_none (g.W.Sink.stream c.args.out.now) }

pub loop-at-smaller : goal.loop-at-smaller
loop-at-smaller g c =
    less_left c.loop-at.at c.in_ok-count.count (length c.args.text.now) c.if-count-eq0.false c.loop-at-test.true

pub loop-at-preserved : goal.loop-at-preserved
loop-at-preserved g c =
    let text = c.args.text.now in
    let at = c.loop-at.at in
    let count = c.in_ok-count.count in
    let took = c.in_ok-count.ensures.outcome in
    let wrote = c.loop-at.invariant.wrote in
    record {
      within = within_more text at count c.loop-at.invariant.within took.within;
      wrote = record {
        taken = takes_more text _ _ _ at count wrote.taken took.taken;
        no_failure = took.no_failure (λ stalls. c.if-count-eq0.false stalls.0) ∙ wrote.no_failure;
      };
    }
