use Rattle.std.proofs.Common.{ℕ, ◌≡◌, ◌-◌, ◌≤◌, min, length, drop}
use Rattle.pg_syntax.specs.IntervalReading.{number_from}
use Rattle.pg_syntax.proofs.source.Source.number.Given as goal

abbrev pub invariant-loop-end : goal.invariant-loop-end
invariant-loop-end l = (l.fn.at ≤ l.end) × (l.end ≤ length l.self.text.now) × (l.value ≤ 256)
    × ((n : ℕ) × (l.value ≡ min n 256) × (number_from 0 (drop l.fn.at l.self.text.now) ≡ number_from n
    (drop l.end l.self.text.now)))

abbrev pub decreases-loop-end : goal.decreases-loop-end
decreases-loop-end l = length l.initial.self.text.now - l.end
