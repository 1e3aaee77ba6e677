use Rattle.std.proofs.Common.{◌∙◌, ap, ap₂}
use Rattle.pg_bytes.specs.Sets.{complement, union}
use Rattle.pg_literal.proofs.FinderLemmas.{made_without}
use Rattle.pg_literal.proofs.row_finder.within_line.Goals as goal

pub returns : goal.returns
returns c =
    c.complement-2.ensures
    ∙ (ap complement (c.union.ensures ∙ ap₂ union c.complement.ensures c.one.ensures)
    ∙ made_without c.args.set.now c.args.end)
