use Rattle.pg_tests.specs.Reading.{IsReading}
use Rattle.pg_tests.proofs.formats.plan_file.Given as goal

abbrev pub invariant-loop-block : goal.invariant-loop-block
invariant-loop-block g l = record { reading : IsReading l.sequencer l.file l.number }
