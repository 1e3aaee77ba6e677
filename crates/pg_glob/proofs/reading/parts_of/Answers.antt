use Rattle.std.proofs.Common.{◌∙◌}
use Rattle.pg_glob.specs.Views.{piece_of}
use Rattle.pg_glob.proofs.ReadingLemmas.{next-part}
use Rattle.pg_glob.proofs.reading.parts_of.Goals as goal

pub loop-byte-preserved : goal.loop-byte-preserved
loop-byte-preserved g c =
    next-part piece_of c.loop-byte.parts.items _ c.part_at-next.result.part _ _ c.in-Some.byte.now _
    c.in_ok-push.ensures.items c.in-Some.ensures.cases.0 c.part_at-next.ensures.reads
    ∙ c.loop-byte.invariant
