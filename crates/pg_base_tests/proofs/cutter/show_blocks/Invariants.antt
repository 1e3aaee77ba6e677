use Rattle.pg_blocks.specs.Cutter.{IsDrained}
use Rattle.pg_base_tests.proofs.cutter.show_blocks.Given as goal

abbrev pub invariant-loop-piece : goal.invariant-loop-piece
invariant-loop-piece l = IsDrained l.cutter
