use Rattle.std.proofs.Common.{◌≤◌, ◌+◌, ◌*◌, length, ◌-◌, map}
use Rattle.memchr.specs.Find.{Nowhere}
use Rattle.pg_pattern.specs.Strings.{items_of}
use Rattle.pg_strings.specs.Sets.{SomeHit, work}
use Rattle.pg_strings.proofs.set.StringSet.find_hit.Given as goal

abbrev pub invariant-loop-place : goal.invariant-loop-place
invariant-loop-place g l = record {
  low : l.from ≤ l.place;
  high : l.place ≤ length l.bytes;
  none : Nowhere (SomeHit (map items_of l.self.strings.items) l.bounds l.bytes) l.from l.place;
  most : l.budget.left ≤ l.fn.budget.left + 8 * (l.place - l.from);
  least : l.fn.budget.left ≤ l.budget.left + (l.place - l.from) * work (map items_of l.self.strings.items);
}

abbrev pub decreases-loop-place : goal.decreases-loop-place
decreases-loop-place g l = length l.bytes - l.place
