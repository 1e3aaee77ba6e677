use Rattle.std.proofs.Common.{Some, None, false, refl}
use Rattle.pg_words.proofs.Cuts.{waiting_cut}
use Rattle.pg_words.proofs.split.waits.Goals as goal

pub returns-in-Some : goal.returns-in-Some
returns-in-Some c =
    waiting_cut c.args.word.now (Some (c.in-Some.field-0-0.now, c.in-Some.inner.now)) c.is_empty.result
    c.in-Some.ensures c.is_empty.ensures

pub returns-in-None : goal.returns-in-None
returns-in-None c = waiting_cut c.args.word.now None false c.in-None.ensures refl
