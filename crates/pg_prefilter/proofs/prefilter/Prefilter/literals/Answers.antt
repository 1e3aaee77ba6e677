use Rattle.std.proofs.Common.{List, sym, subst}
use Rattle.pg_literal.specs.declared.literal.Literal.{Literal}
use Rattle.pg_prefilter.specs.Literals.{TellHeads}
use Rattle.pg_prefilter.proofs.prefilter.Prefilter.literals.Goals as goal

pub returns-clause-heads : goal.returns-clause-heads
returns-clause-heads g c = λ text is.
    let Heads : List (Literal g.row.A.Denot) → Type 0 = λ ls. TellHeads text ls in
    subst Heads (sym c.deref.ensures.value) is.heads
