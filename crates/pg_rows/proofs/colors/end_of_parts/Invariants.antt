use Rattle.std.proofs.Common.{◌≡◌, ◌+◌, ◌-◌, ◌≤◌, length, drop}
use Rattle.pg_rows.specs.Painting.{count_before}
use Rattle.pg_rows.proofs.colors.end_of_parts.Given as goal

-- the parts from the first one up to the place stand in the first lines
abbrev pub invariant-loop-at : goal.invariant-loop-at
invariant-loop-at l = record {
  within : l.at ≤ length l.parts;
  same : l.at + count_before l.limit (drop l.at l.parts) ≡ l.fn.from + count_before l.limit (drop l.fn.from l.parts);
}

abbrev pub decreases-loop-at : goal.decreases-loop-at
decreases-loop-at l = length l.parts - l.at
