use Rattle.pg_plan.specs.History.{Past}
use Rattle.pg_seq.specs.Standing.{IsAfter}
use Rattle.pg_seq.specs.Ahead.{HasLookedAhead, left_ahead}
use Rattle.pg_seq.proofs.assembler.Assembler.enough.Given as goal

abbrev pub invariant-loop-next : goal.invariant-loop-next
invariant-loop-next g l = (past : Past) → IsAfter l.fn.self past → HasLookedAhead l.fn.self past l.ahead

abbrev pub decreases-loop-next : goal.decreases-loop-next
decreases-loop-next g l = left_ahead l.fn.self l.ahead
