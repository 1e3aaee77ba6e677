use Rattle.std.proofs.Common.{◌-◌, ◌≤◌, length, take}
use Rattle.pg_base.specs.Sink.{WritesAll}
use Rattle.pg_base.proofs.sink.write_all.Given as goal

abbrev pub invariant-loop-at : goal.invariant-loop-at
invariant-loop-at g l = record {
  within : l.at ≤ length l.text;
  wrote : WritesAll (take l.at l.text) (g.W.Sink.stream l.fn.out) (g.W.Sink.stream l.out);
}

abbrev pub decreases-loop-at : goal.decreases-loop-at
decreases-loop-at g l = length l.text - l.at
