use Rattle.pg_blocks.specs.Cutter.{blocks_ready}
use Rattle.pg_tests.proofs.formats.cut_file.Given as goal

abbrev pub decreases-loop-block : goal.decreases-loop-block
decreases-loop-block g l = blocks_ready l.cutter
