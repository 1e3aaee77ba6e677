use Rattle.std.proofs.Common.{◌≡◌, ◌+◌, ◌-◌, ◌<◌, ◌≤◌, ◌^◌, length, drop}
use Rattle.pg_blocks.specs.Lines.{lines}
use Rattle.pg_rows.specs.Stretch.{marked_rows, plain}
use Rattle.pg_base.proofs.WriteLemmas.{WritesAllBut}
use Rattle.pg_rows.proofs.rows.write_line_by_line.Given as goal

-- the rows of the lines from `start` on are left to write
abbrev pub invariant-loop-start : goal.invariant-loop-start
invariant-loop-start g l = record {
  within : l.start ≤ length l.text;
  small : l.at.number + length (lines l.end (drop l.start l.text)) < 2 ^ 64;
  place : l.at.offset ≡ l.fn.first.offset + l.start;
  prefix : l.prefix ≡ l.fn.prefix;
  left : WritesAllBut (marked_rows l.format l.end l.fn.prefix l.mark plain l.fn.first.number l.fn.first.offset
      (lines l.end l.text))
      (marked_rows l.format l.end l.fn.prefix l.mark plain l.at.number l.at.offset (lines l.end (drop l.start l.text)))
      (g.W.Sink.stream l.fn.out) (g.W.Sink.stream l.out);
}

abbrev pub decreases-loop-start : goal.decreases-loop-start
decreases-loop-start g l = length l.text - l.start
