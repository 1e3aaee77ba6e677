use Rattle.std.proofs.Common.{sym, subst}
use Rattle.pg_selection.specs.Search.{SearchText}
use Rattle.pg_lines.specs.Queries.{AreSearchersOf, IsCompiled}
use Rattle.pg_lines.proofs.query.Query.compile.Goals as goal

pub invariant_of-result : goal.invariant_of-result
invariant_of-result g c =
    let Fits : SearchText → Type 0 = λ t. AreSearchersOf t c.in_ok-machine.machine c.in_ok-machine.prefilter in
    subst Fits (sym c.in_ok-selector.ensures) c.in_ok-machine.ensures.made

pub returns-clause-compiled : goal.returns-clause-compiled
returns-clause-compiled g c =
    let P : SearchText → Type 0 = λ t. IsCompiled (record { text = t; machine = c.in_ok-machine.machine }) in
    subst P (sym c.in_ok-selector.ensures) c.in_ok-machine.ensures.made.0
