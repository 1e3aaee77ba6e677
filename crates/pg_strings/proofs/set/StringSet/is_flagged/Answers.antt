use Rattle.std.proofs.Common.{arith, sym, ◌∙◌, map, true}
use Rattle.std.proofs.lemmas.List.{get_or_default}
use Rattle.pg_pattern.specs.Strings.{items_of}
use Rattle.pg_strings.proofs.PlaceLemmas.{unflagged}
use Rattle.pg_strings.proofs.set.StringSet.is_flagged.Goals as goal

pub returns : goal.returns
returns g c = λ none some.
    unflagged c.args.self.now.factor c.args.self.now.width c.args.self.now.flags.items
    (map items_of c.args.self.now.strings.items) c.args.bytes.now c.args.place c.key_at.result c.args.self.now.weighs
    c.args.self.now.long
    c.args.self.now.flagged c.key_at.ensures.value
    (get_or_default c.args.self.now.flags.items c.key_at.result true c.index.result.now
    (omega (arith, c.key_at.ensures.few, c.args.self.now.keys)) ∙ (sym c.index.ensures ∙ none)) some
