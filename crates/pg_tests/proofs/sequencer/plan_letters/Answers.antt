use Rattle.std.proofs.Common.{◌+◌, arith}
use Rattle.pg_tests.proofs.ReadingLemmas.{reading_as}
use Rattle.pg_tests.proofs.sequencer.plan_letters.Goals.{then-letter-eq124+in_ok-again}
use Rattle.pg_tests.proofs.sequencer.plan_letters.Goals.{else-letter-eq124+in_ok-again-2}
use Rattle.pg_tests.proofs.sequencer.plan_letters.Goals as goal

pub loop-letter-preserved : goal.loop-letter-preserved
loop-letter-preserved g c =
    let i = c.loop-letter.invariant in
    let l = c.loop-letter in
    let j = c.if-letter-eq124 in
    elim c.if-letter-eq124.branch [
      | then-letter-eq124+in_ok-again w ↦ record {
        reading = reading_as j.sequencer _ j.file (l.file + 1) j.number 0 w.sequencer-is w.file-is w.number-is
            w.in_ok-again.ensures;
        files = omega (arith, w.file-is, i.files);
        blocks = omega (arith, w.number-is);
      }
      | else-letter-eq124+in_ok-again-2 w ↦ record {
        reading = reading_as j.sequencer _ j.file l.file j.number (l.number + 1) w.sequencer-is w.file-is w.number-is
            w.in_ok-again-2.ensures;
        files = omega (arith, w.file-is, i.files);
        blocks = omega (arith, w.number-is, i.blocks);
      }
    ]
