use Rattle.std.proofs.Common.{ℕ, ◌≤◌, ◌<◌, length, get_or}
use Rattle.std.proofs.Common.{Vec}
use Rattle.pg_strings.proofs.build.width_of.Given as goal

abbrev pub invariant-loop-string : goal.invariant-loop-string
invariant-loop-string g l = record {
  some : 1 ≤ l.width;
  most : l.width ≤ 8;
  long : (k : ℕ) (d : Vec ℕ g.row.A.Denot) → k < l.string-index → 3 ≤ length (get_or l.strings k d).items
      → l.width ≤ length (get_or l.strings k d).items;
}
