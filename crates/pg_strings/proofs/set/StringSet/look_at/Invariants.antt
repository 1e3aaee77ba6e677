use Rattle.std.proofs.Common.{◌≤◌, ◌+◌, ◌/◌, length, map, drop}
use Rattle.std.specs.List.{sum_by}
use Rattle.pg_strings.specs.Sets.{StandsAs}
use Rattle.pg_strings.specs.Keys.{home}
use Rattle.pg_pattern.specs.Strings.{items_of}
use Rattle.pg_strings.proofs.WalkLemmas.{IsWalked}
use Rattle.pg_strings.proofs.set.StringSet.look_at.Given as goal

abbrev pub invariant-loop-link : goal.invariant-loop-link
invariant-loop-link g l = record {
  within : l.link ≤ length l.self.strings.items;
  walked : IsWalked (λ string. StandsAs l.bounds l.bytes l.place string → ⊥) (home l.self.factor)
      (map items_of l.self.strings.items) l.link (l.key / 16);
  less : l.budget.left ≤ l.fn.budget.left;
  cost : l.fn.budget.left ≤ l.budget.left
      + sum_by (λ string. 1 + length string) (drop l.link (map items_of l.self.strings.items));
}

abbrev pub decreases-loop-link : goal.decreases-loop-link
decreases-loop-link g l = l.link
