use Rattle.std.proofs.Common.{◌∷◌, [], refl, lit≤}
use Rattle.pg_tests.proofs.sequencer.announce_line.Goals as goal

pub announce_block-requires-clause-block : goal.announce_block-requires-clause-block
announce_block-requires-clause-block g c = record { short = lit≤ tt; ends = (120 ∷ c.args.letter ∷ [], refl) }
