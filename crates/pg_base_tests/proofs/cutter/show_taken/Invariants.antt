use Rattle.pg_blocks.specs.Cutter.{blocks_ready}
use Rattle.pg_base_tests.proofs.cutter.show_taken.Given as goal

abbrev pub decreases-loop-block : goal.decreases-loop-block
decreases-loop-block l = blocks_ready l.cutter
