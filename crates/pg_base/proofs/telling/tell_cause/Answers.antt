use Rattle.std.proofs.Common.{◌∙◌, ◌++◌, ap}
use Rattle.std.specs.Prelude.{codes}
use Rattle.pg_base.specs.Causes.{fault_line}
use Rattle.pg_base.proofs.WriteLemmas.{writes_as}
use Rattle.pg_base.proofs.telling.tell_cause.Goals as goal

pub returns : goal.returns
returns g c =
    writes_as _ (fault_line c.args.name.now c.args.cause) _ _ _
    (c.line_parts.ensures
    ∙ ap (λ text. codes "pargrep: " ++ c.args.name.now ++ codes ": " ++ text ++ codes "\n") c.text.ensures)
    c.tell.ensures
