use Rattle.pg_tests.specs.Reading.{IsReading}
use Rattle.pg_tests.proofs.formats.assert_steps.Given as goal

abbrev pub invariant-loop-step : goal.invariant-loop-step
invariant-loop-step g l = record { reading : IsReading l.sequencer l.file l.number }
