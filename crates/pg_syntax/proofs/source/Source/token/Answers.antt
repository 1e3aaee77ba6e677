use Rattle.std.proofs.lemmas.List.{drop_more}
use Rattle.pg_syntax.proofs.source.Source.token.Goals as goal

pub basic_token-requires-clause-byte : goal.basic_token-requires-clause-byte
basic_token-requires-clause-byte g c = drop_more c.args.self.now.text.now c.args.at 0 c.requires

pub extended_token-requires-clause-byte : goal.extended_token-requires-clause-byte
extended_token-requires-clause-byte g c = drop_more c.args.self.now.text.now c.args.at 0 c.requires
