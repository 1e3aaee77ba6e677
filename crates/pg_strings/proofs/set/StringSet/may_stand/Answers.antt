use Rattle.std.proofs.Common.{map}
use Rattle.pg_pattern.specs.Strings.{items_of}
use Rattle.pg_strings.proofs.ShortLemmas.{any_stands}
use Rattle.std.proofs.lemmas.Bool.{or_parts}
use Rattle.pg_strings.proofs.set.StringSet.may_stand.Goals as goal

pub returns : goal.returns
returns g c = λ none.
    let strings = map items_of c.args.self.now.strings.items in
    let clear = or_parts c.is_flagged.result c.stands_at.result none in
    any_stands c.args.self.now.width strings c.args.bytes.now c.args.place c.args.self.now.long
    (c.stands_at.ensures strings c.requires.tables clear.1) (c.is_flagged.ensures clear.0)
