use Rattle.std.proofs.Common.{refl}
use Rattle.pg_words.proofs.matches.modes_of.Goals as goal

pub returns : goal.returns
returns c = λ us is. c.modes_among.ensures us is refl
