use Rattle.std.proofs.Common.{◌≡◌, ◌≤◌, ◌-◌, length, take, drop}
use Rattle.pg_syntax.specs.BracketReading.{until}
use Rattle.pg_syntax.proofs.BracketContents.{with_front}
use Rattle.pg_syntax.proofs.element.content_end.Given as goal

abbrev pub invariant-loop-at : goal.invariant-loop-at
invariant-loop-at l = record {
  above : l.fn.from ≤ l.at;
  within : l.at ≤ length l.text;
  reads : until l.mark (drop l.fn.from l.text) ≡ with_front (take (l.at - l.fn.from) (drop l.fn.from l.text))
      (until l.mark (drop l.at l.text));
}

abbrev pub decreases-loop-at : goal.decreases-loop-at
decreases-loop-at l = length l.text - l.at
