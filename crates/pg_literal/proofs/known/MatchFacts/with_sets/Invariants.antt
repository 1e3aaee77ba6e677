use Rattle.std.proofs.Common.{Bool}
use Rattle.pg_bytes.specs.ByteSets.{bytes}
use Rattle.pg_pattern.specs.Patterns.{Set}
use Rattle.pg_literal.specs.Known.{Repeats}
use Rattle.pg_literal.proofs.known.MatchFacts.with_sets.Given as goal

-- the rounds so far stand in front
abbrev pub invariant-loop-round : goal.invariant-loop-round
invariant-loop-round g l = (fold : Bool) → Repeats fold (Set (bytes l.set)) l._round l.fn.self l.known
