use Rattle.std.specs.List.{All}
use Rattle.pg_prefilter.specs.Enough.{IsOneEnough}
use Rattle.pg_prefilter.proofs.literal_set.copies_of_enough.Given as goal

abbrev pub invariant-loop-literal : goal.invariant-loop-literal
invariant-loop-literal g l = All (λ copy. IsOneEnough l.literals copy.items) l.texts.items
