use Rattle.std.proofs.Common.{◌≡◌, ◌≤◌, drop}
use Rattle.pg_blocks.specs.Long.{has_long, open_from}
use Rattle.pg_blocks.proofs.cutter.line_by_byte.Given as goal

abbrev pub invariant-loop-byte : goal.invariant-loop-byte
invariant-loop-byte l = record {
  fits : l.line ≤ l.longest;
  long : has_long l.end l.longest l.line (drop l.byte-index l.piece) ≡ has_long l.end l.longest l.fn.line l.piece;
  open_now : open_from l.end l.line (drop l.byte-index l.piece) ≡ open_from l.end l.fn.line l.piece;
}
