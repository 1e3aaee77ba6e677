use Rattle.std.proofs.Common.{◌≤◌}
use Rattle.pg_tests.specs.Reading.{IsReading}
use Rattle.pg_tests.proofs.sequencer.plan_letters.Given as goal

abbrev pub invariant-loop-letter : goal.invariant-loop-letter
invariant-loop-letter g l = record {
  reading : IsReading l.sequencer l.file l.number;
  files : l.file ≤ l.letter-index;
  blocks : l.number ≤ l.letter-index;
}
