use Rattle.std.proofs.Common.{◌≡◌, ℕ, List, false}
use Rattle.pg_base.specs.Sink.{WritesAll}
use Rattle.pg_plan.specs.History.{Past}
use Rattle.pg_seq.specs.Standing.{IsAfter, wrote, steps_left}
use Rattle.pg_seq.proofs.assembler.Assembler.drain.Given as goal

abbrev pub invariant-loop-self : goal.invariant-loop-self
invariant-loop-self g l = record {
  drains : (past : Past) → IsAfter l.fn.self past → (text : List ℕ)
      × WritesAll text (g.W.Sink.stream l.fn.out) (g.W.Sink.stream l.out) × IsAfter l.self (wrote past text);
  unfailed : l.self.failed ≡ false;
}

abbrev pub decreases-loop-self : goal.decreases-loop-self
decreases-loop-self g l = steps_left l.self
