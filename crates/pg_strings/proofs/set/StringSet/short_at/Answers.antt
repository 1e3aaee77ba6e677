use Rattle.std.proofs.Common.{map}
use Rattle.pg_pattern.specs.Strings.{items_of}
use Rattle.pg_strings.proofs.ShortLemmas.{longest_none}
use Rattle.pg_strings.proofs.set.StringSet.short_at.Goals as goal

pub returns-in-Some : goal.returns-in-Some
returns-in-Some g c =
    c.longest_at.ensures (map items_of c.args.self.now.strings.items) (c.args.self.now.knows_short.1 _ c.in-Some.is)

pub longest_at-requires-clause-singles : goal.longest_at-requires-clause-singles
longest_at-requires-clause-singles g c = (c.args.self.now.knows_short.1 _ c.in-Some.is).all_singles

pub returns-in-None : goal.returns-in-None
returns-in-None g c =
    longest_none (map items_of c.args.self.now.strings.items) c.args.bounds c.args.bytes.now c.args.place
    (c.args.self.now.knows_short.0 c.in-None.is)
