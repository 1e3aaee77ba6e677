use Rattle.std.proofs.Common.{◌≤◌, ◌/◌, length, map}
use Rattle.pg_strings.specs.Keys.{home}
use Rattle.pg_pattern.specs.Strings.{items_of}
use Rattle.pg_strings.specs.Sets.{StandsAs}
use Rattle.pg_strings.specs.Short.{IsLongestShort}
use Rattle.pg_strings.proofs.WalkLemmas.{IsWalked}
use Rattle.pg_strings.proofs.set.StringSet.longest_at.Given as goal

abbrev pub invariant-loop-link : goal.invariant-loop-link
invariant-loop-link g l = record {
  within : l.link ≤ length l.self.strings.items;
  walked : IsWalked (λ string. StandsAs l.bounds l.bytes l.place string → length string ≤ l.longest)
      (home l.self.factor) (map items_of l.self.strings.items) l.link (l.key / 16);
  short : IsLongestShort (map items_of l.self.strings.items) l.bounds l.bytes l.place l.longest;
}

abbrev pub decreases-loop-link : goal.decreases-loop-link
decreases-loop-link g l = l.link
