use Rattle.pg_rows.proofs.SeparatorLemmas.{made_of}
use Rattle.pg_rows.proofs.separator.Separator.new.Goals as goal

pub returns-clause-exact : goal.returns-clause-exact
returns-clause-exact c =
    made_of c.args.text.now c.copy_from_slice.new.self c.copy_from_slice.ensures.after
    c.if-text-gt-MAX_SEPARATOR.false
