use Rattle.std.proofs.Common.{◌≡◌, ◌==◌, ◌+◌, ◌-◌, ◌≤◌, length, drop}
use Rattle.std.specs.List.{count_by}
use Rattle.pg_blocks.proofs.count.count_from.Given as goal

abbrev pub invariant-loop-at : goal.invariant-loop-at
invariant-loop-at l = record {
  within : l.at ≤ length l.bytes;
  behind : l.from ≤ l.at;
  few : l.count ≤ l.at;
  counted : l.count + count_by (λ b. b == l.byte) (drop l.at l.bytes)
      ≡ count_by (λ b. b == l.byte) (drop l.from l.bytes);
}

abbrev pub decreases-loop-at : goal.decreases-loop-at
decreases-loop-at l = length l.bytes - l.at
