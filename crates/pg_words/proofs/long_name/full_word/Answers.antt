use Rattle.std.proofs.Common.{Some, None}
use Rattle.std.specs.String.{string_bytes}
use Rattle.std.proofs.lemmas.Result.{IfOk-weaker}
use Rattle.pg_words.proofs.LongNames.{word_in_full}
use Rattle.pg_words.proofs.long_name.full_word.Goals as goal

pub returns-in-Some : goal.returns-in-Some
returns-in-Some c =
    IfOk-weaker c.full_long.result _ _
    (λ text is. word_in_full c.args.word.now (Some c.in-Some.text) (string_bytes text) c.in-Some.ensures is)
    c.full_long.ensures

pub returns-in-None : goal.returns-in-None
returns-in-None c =
    IfOk-weaker c.from_str.result _ _
    (λ text is. word_in_full c.args.word.now None (string_bytes text) c.in-None.ensures is) c.from_str.ensures.ok
