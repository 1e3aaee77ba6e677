use Rattle.std.proofs.Common.{◌-◌, ◌≡◌, ◌%◌, ◌<◌, ◌≤◌, ℕ, true}
use Rattle.pg_bytes.specs.ByteSets.{bytes}
use Rattle.pg_literal.proofs.ranges.range_between.Given as goal

-- no byte before `first` is in the set
abbrev pub invariant-loop-first : goal.invariant-loop-first
invariant-loop-first l = record {
  onward : l.start ≤ l.first;
  within : l.first ≤ l.stop;
  before : (b : ℕ) → l.start ≤ b → b < l.first → bytes l.set (b % 256) ≡ true → ⊥;
}

abbrev pub decreases-loop-first : goal.decreases-loop-first
decreases-loop-first l = l.stop - l.first

-- nor is one from `last` on
abbrev pub invariant-loop-last : goal.invariant-loop-last
invariant-loop-last l = record {
  onward : l.start ≤ l.first;
  ordered : l.first ≤ l.last;
  within : l.last ≤ l.stop;
  before : (b : ℕ) → l.start ≤ b → b < l.first → bytes l.set (b % 256) ≡ true → ⊥;
  behind : (b : ℕ) → l.last ≤ b → b < l.stop → bytes l.set (b % 256) ≡ true → ⊥;
}

abbrev pub decreases-loop-last : goal.decreases-loop-last
decreases-loop-last l = l.last - l.first
