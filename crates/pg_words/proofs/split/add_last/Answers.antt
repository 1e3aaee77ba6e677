use Rattle.std.proofs.Common.{append-nil, refl}
use Rattle.pg_words.proofs.Cuts.{last_other, last_value}
use Rattle.pg_words.proofs.split.add_last.Goals as goal

pub returns-in-Value : goal.returns-in-Value
returns-in-Value c = rw (c.in-Value.is, last_value c.in-Value.option.now) c.add_copy.ensures

pub returns-in_default : goal.returns-in_default
returns-in_default c = rw (last_other c.args.place c.in_default.not-Value, append-nil) refl
