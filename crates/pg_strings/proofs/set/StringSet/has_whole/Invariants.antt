use Rattle.std.proofs.Common.{◌≡◌, ◌≤◌, length, map}
use Rattle.pg_pattern.specs.Strings.{items_of}
use Rattle.pg_strings.specs.Whole.{whole_home}
use Rattle.pg_strings.proofs.WalkLemmas.{IsWalked}
use Rattle.pg_strings.proofs.set.StringSet.has_whole.Given as goal

abbrev pub invariant-loop-link : goal.invariant-loop-link
invariant-loop-link g l = record {
  within : l.link ≤ length l.self.strings.items;
  walked : IsWalked (λ string. string ≡ l.text → ⊥) whole_home (map items_of l.self.strings.items) l.link
      (whole_home l.text);
}

abbrev pub decreases-loop-link : goal.decreases-loop-link
decreases-loop-link g l = l.link
