use Rattle.std.proofs.Common.{map}
use Rattle.pg_pattern.specs.Strings.{items_of}
use Rattle.pg_strings.proofs.ShortLemmas.{all_long}
use Rattle.pg_strings.proofs.set.StringSet.skip.Goals as goal

pub returns-in-None-clause-none : goal.returns-in-None-clause-none
returns-in-None-clause-none g c =
    all_long (map items_of c.args.self.now.strings.items) c.args.bytes.now c.args.from c.skip_long.result
    (c.args.self.now.knows_short.0 c.in-None.is) c.skip_long.ensures.none
