use Rattle.std.proofs.Common.{drop}
use Rattle.pg_rows.specs.Painting.{painted_bytes, AreAscending}
use Rattle.pg_base.proofs.WriteLemmas.{WritesAllBut}
use Rattle.pg_rows.proofs.colors.write_painted.Given as goal

-- the bytes from the place on, with the parts from the index on, are left to write
abbrev pub invariant-loop-part : goal.invariant-loop-part
invariant-loop-part g l = record {
  ascend : AreAscending l.at l.to (drop l.part-index l.parts);
  left : WritesAllBut (painted_bytes l.bytes l.fn.from l.to l.parts)
      (painted_bytes l.bytes l.at l.to (drop l.part-index l.parts)) (g.W.Sink.stream l.fn.out) (g.W.Sink.stream l.out);
}
