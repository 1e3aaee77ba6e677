use Rattle.std.proofs.Common.{ap, inr, refl}
use Rattle.pg_syntax.specs.Machine.{repeat_token}
use Rattle.pg_syntax.proofs.Braces.{no_interval}
use Rattle.pg_syntax.proofs.source.Source.interval.Goals as goal

pub returns-in-None : goal.returns-in-None
returns-in-None c = (
  ap repeat_token c.in-None.ensures,
  inr (
    refl,
    no_interval c.args.self.now.syntax c.args.self.now.text.now c.args.at c.args.start c.requires.opens
        c.in-None.ensures,
  ),
)
