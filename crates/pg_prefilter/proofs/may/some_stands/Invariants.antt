use Rattle.std.proofs.Common.{ℕ}
use Rattle.std.specs.List.{AllWithin}
use Rattle.memchr.specs.Find.{OccursAt}
use Rattle.pg_prefilter.proofs.may.some_stands.Given as goal

abbrev pub invariant-loop-literal : goal.invariant-loop-literal
invariant-loop-literal g l =
    AllWithin (λ literal. (place : ℕ) → OccursAt l.searched literal.text.items place → ⊥) l.literals 0 l.literal-index
