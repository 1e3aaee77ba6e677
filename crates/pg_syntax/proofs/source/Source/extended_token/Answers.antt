use Rattle.pg_syntax.proofs.Braces.{opens-extended}
use Rattle.pg_syntax.proofs.source.Source.extended_token.Goals as goal

pub interval-requires-clause-opens : goal.interval-requires-clause-opens
interval-requires-clause-opens g c = opens-extended c.args.self.now.syntax c.args.self.now.text.now c.args.at
    c.args.byte _ c.requires.syntax c.requires.byte c.if-byte-eq123.true
