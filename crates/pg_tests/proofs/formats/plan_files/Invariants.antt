use Rattle.pg_tests.specs.Reading.{IsBetween}
use Rattle.pg_tests.proofs.formats.plan_files.Given as goal

abbrev pub invariant-loop-text : goal.invariant-loop-text
invariant-loop-text g l = record { between : IsBetween l.sequencer l.file }
