use Rattle.std.proofs.Common.{ap, sym, ◌∙◌}
use Rattle.pg_grammar.specs.Grammar.{◌∈◌}
use Rattle.pg_syntax.specs.Plain.{special_of}
use Rattle.pg_syntax.proofs.plain.is_special.Goals as goal

pub returns-in-Basic : goal.returns-in-Basic
returns-in-Basic c = c.is_among.ensures ∙ ap (λ kind. c.args.byte ∈ special_of kind) (sym c.in-Basic.is)

pub returns-in-Extended : goal.returns-in-Extended
returns-in-Extended c =
    c.is_among-in-Extended.ensures ∙ ap (λ kind. c.args.byte ∈ special_of kind) (sym c.in-Extended.is)
