use Rattle.std.proofs.Common.{arith}
use Rattle.std.specs.Str.Parse.{ExplainsUnsignedError, HasUnsignedDigitsIfOk, ParsesUnsigned}
use Rattle.clap.specs.Matches.{found_of}
use Rattle.pg_words.proofs.Numbers.{number_found}
use Rattle.pg_words.proofs.matches.small_number.Goals as goal

pub returns : goal.returns
returns c = λ us is behind.
    number_found (λ u x. ParsesUnsigned 16 10 u x × ExplainsUnsignedError 10 u x × HasUnsignedDigitsIfOk u x)
    16 (λ u x h. h.0) us (found_of c.args.found.now) c.args.name.now 65535 c.get_one.result is behind
    (omega arith) c.get_one.ensures.none c.get_one.ensures.value
