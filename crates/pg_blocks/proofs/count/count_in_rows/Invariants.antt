use Rattle.std.proofs.Common.{◌≡◌, ◌==◌, ◌*◌, ◌≤◌, take}
use Rattle.std.specs.List.{count_by}
use Rattle.std.specs.Simd.Lanes.{Each1, sum_l}
use Rattle.pg_blocks.proofs.count.count_in_rows.Given as goal

abbrev pub invariant-loop-row : goal.invariant-loop-row
invariant-loop-row l = record {
  few : Each1 (λ n. n ≤ l.row) l.columns;
  counted : sum_l l.columns ≡ count_by (λ b. b == l.byte) (take (l.row * 64) l.bytes);
}
