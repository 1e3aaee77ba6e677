use Rattle.pg_literal.proofs.FrontLemmas.{AreUnited}
use Rattle.pg_literal.proofs.alternatives.united.Given as goal

abbrev pub invariant-loop-k : goal.invariant-loop-k
invariant-loop-k g l = AreUnited l.one l.other l.k l.row.items
