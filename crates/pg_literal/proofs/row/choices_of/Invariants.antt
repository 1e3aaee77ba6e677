use Rattle.pg_bytes.specs.ByteSets.{bytes}
use Rattle.pg_literal.proofs.RowLemmas.{FoundBelow}
use Rattle.pg_literal.proofs.row.choices_of.Given as goal

abbrev pub invariant-loop-byte : goal.invariant-loop-byte
invariant-loop-byte g l = FoundBelow l.fold (bytes l.set) l.choices.items l.byte
