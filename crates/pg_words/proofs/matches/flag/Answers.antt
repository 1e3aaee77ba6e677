use Rattle.pg_words.proofs.Answered.{flag_is}
use Rattle.pg_words.proofs.matches.flag.Goals as goal

pub returns : goal.returns
returns c = λ us is behind.
    flag_is _ c.get_flag.result _ c.get_flag.ensures.none c.get_flag.ensures.value c.get_flag.ensures.other
    (is.flag c.args.name.now behind)
