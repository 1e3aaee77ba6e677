use Rattle.std.proofs.Common.{arith, drop, ◌+◌, ◌∙◌, ap, ◌∷◌, inr, sym}
use Rattle.std.proofs.lemmas.Grind.{common_steps}
use Rattle.pg_syntax.specs.Machine.{basic_escape}
use Rattle.pg_syntax.proofs.Braces.{opens-basic}
use Rattle.pg_syntax.proofs.Escapes.{unescaped_basic}
use Rattle.pg_grammar.specs.declared.syntax.Syntax.TheVariants.{Basic}
use Rattle.pg_syntax.proofs.source.Source.basic_escape.Goals as goal

pub interval-requires-clause-opens : goal.interval-requires-clause-opens
interval-requires-clause-opens g c = opens-basic c.args.self.now.syntax c.args.self.now.text.now c.args.at _ _ _
    c.requires.syntax c.requires.backslash c.in-Some.ensures.0 c.if-byte-eq123.true

pub returns : goal.returns
unfolding basic_escape
returns g c = (
  grind (arith, common_steps),
  inr (c.escape_fault.ensures Basic c.args.self.now.text.now (drop (c.args.at + 1 + 1) c.args.self.now.text.now)
      (unescaped_basic c.in-Some.byte c.if-byte-eq40.false c.if-byte-eq41.false c.if-byte-eq123.false
      (sym c.is_escaped.ensures ∙ c.if-is_escaped.false))
      (c.requires.backslash ∙ ap (λ t. 92 ∷ t) c.in-Some.ensures.0)),
)
