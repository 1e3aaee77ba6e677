use Rattle.std.proofs.Common.{◌≡◌, ◌+◌, ◌-◌, ◌≤◌, ◌++◌, length, drop}
use Rattle.std.specs.List.{AllByRecursion}
use Rattle.pg_blocks.specs.Blocks.{joined, IsFinished, AreNumbered}
use Rattle.pg_blocks.proofs.cutter.cut_all.Given as goal

abbrev pub invariant-loop-len : goal.invariant-loop-len
invariant-loop-len g l = record {
  within : l.at ≤ length l.bytes;
  few : length l.blocks.items ≤ l.at;
  number : l.number ≡ l.first + length l.blocks.items;
  whole : l.bytes ≡ joined l.blocks.items ++ drop l.at l.bytes;
  finished : AllByRecursion (λ b. IsFinished l.cutting.end l.cutting.size b.bytes) l.blocks.items;
  numbered : AreNumbered l.cutting.file l.first l.blocks.items;
}

abbrev pub decreases-loop-len : goal.decreases-loop-len
decreases-loop-len g l = length l.bytes - l.at
