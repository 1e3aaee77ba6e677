use Rattle.std.proofs.Common.{◌≡◌, length, map, take}
use Rattle.pg_strings.specs.Keys.{AreChains, AreFlagged, home}
use Rattle.pg_pattern.specs.Strings.{items_of}
use Rattle.pg_strings.proofs.set.StringSet.new.Given as goal

abbrev pub invariant-loop-place : goal.invariant-loop-place
invariant-loop-place g l = record {
  flags : length l.flags.items ≡ 131072;
  flagged : AreFlagged l.factor l.flags.items (take l.place (map items_of l.strings.items));
  linked : AreChains l.chains.first.items l.chains.next.items
      (map (home l.factor) (take l.place (map items_of l.strings.items)));
}
