use Rattle.std.proofs.Common.{if◌then◌else◌, ap, sym}
use Rattle.pg_words.specs.declared.options.Naming.TheVariants.{Always, Never, BySeveral}
use Rattle.pg_words.proofs.options.Options.naming.Goals as goal

pub returns-then-self : goal.returns-then-self
returns-then-self c =
    ap (λ b. if b then Never else (if c.args.self.now.names then Always else BySeveral)) (sym c.if-self.true)
