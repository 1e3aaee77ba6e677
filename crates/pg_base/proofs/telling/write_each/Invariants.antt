use Rattle.std.proofs.Common.{drop}
use Rattle.std.specs.List.{flat_map}
use Rattle.pg_base.proofs.WriteLemmas.{WritesAllBut}
use Rattle.pg_base.proofs.telling.write_each.Given as goal

-- the parts from the index on are left to write
abbrev pub invariant-loop-part : goal.invariant-loop-part
invariant-loop-part g l =
    WritesAllBut (flat_map (λ part. part.now) l.parts) (flat_map (λ part. part.now) (drop l.part-index l.parts))
    (g.W.Sink.stream l.fn.err) (g.W.Sink.stream l.err)
