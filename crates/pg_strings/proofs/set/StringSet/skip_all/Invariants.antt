use Rattle.std.proofs.Common.{◌≤◌, length, ◌-◌, map}
use Rattle.memchr.specs.Find.{Nowhere}
use Rattle.pg_pattern.specs.Strings.{items_of}
use Rattle.pg_strings.specs.Sets.{SomeStands}
use Rattle.pg_strings.proofs.set.StringSet.skip_all.Given as goal

abbrev pub invariant-loop-place : goal.invariant-loop-place
invariant-loop-place g l = record {
  low : l.from ≤ l.place;
  high : l.place ≤ length l.bytes;
  none : Nowhere (SomeStands (map items_of l.self.strings.items) l.bytes) l.from l.place;
}

abbrev pub decreases-loop-place : goal.decreases-loop-place
decreases-loop-place g l = length l.bytes - l.place

abbrev pub invariant-loop-place-2 : goal.invariant-loop-place-2
invariant-loop-place-2 g l = record {
  low : l.from ≤ l.place;
  high : l.place ≤ length l.bytes;
  none : Nowhere (SomeStands (map items_of l.self.strings.items) l.bytes) l.from l.place;
}

abbrev pub decreases-loop-place-2 : goal.decreases-loop-place-2
decreases-loop-place-2 g l = length l.bytes - l.place
