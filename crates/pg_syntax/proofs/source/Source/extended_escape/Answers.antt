use Rattle.std.proofs.Common.{arith, drop, ◌+◌, ◌∙◌, ap, ◌∷◌, inr, sym}
use Rattle.std.proofs.lemmas.Grind.{common_steps}
use Rattle.pg_syntax.specs.Machine.{extended_escape}
use Rattle.pg_syntax.proofs.Escapes.{unescaped_extended}
use Rattle.pg_grammar.specs.declared.syntax.Syntax.TheVariants.{Extended}
use Rattle.pg_syntax.proofs.source.Source.extended_escape.Goals as goal

pub returns : goal.returns
unfolding extended_escape
returns c = (
  grind (arith, common_steps),
  inr (c.escape_fault.ensures Extended c.args.self.now.text.now (drop (c.args.at + 1 + 1) c.args.self.now.text.now)
      (unescaped_extended c.in-Some.byte (sym c.is_escaped.ensures ∙ c.if-is_escaped.false))
      (c.requires.backslash ∙ ap (λ t. 92 ∷ t) c.in-Some.ensures.0)),
)
