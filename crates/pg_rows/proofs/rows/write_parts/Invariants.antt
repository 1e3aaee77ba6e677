use Rattle.std.proofs.Common.{◌≡◌, drop}
use Rattle.pg_rows.specs.Stretch.{rows_of_parts}
use Rattle.pg_base.proofs.WriteLemmas.{WritesAllBut}
use Rattle.pg_rows.proofs.rows.write_parts.Given as goal

-- the rows of the parts from the index on are left to write
abbrev pub invariant-loop-part : goal.invariant-loop-part
invariant-loop-part g l = record {
  prefix : l.prefix ≡ l.fn.prefix;
  left : WritesAllBut (rows_of_parts l.format l.end l.fn.prefix l.lines.first.number l.lines.first.offset l.lines.count
      l.bytes l.parts)
      (rows_of_parts l.format l.end l.fn.prefix l.lines.first.number l.lines.first.offset l.lines.count l.bytes
      (drop l.part-index l.parts)) (g.W.Sink.stream l.fn.out) (g.W.Sink.stream l.out);
}
