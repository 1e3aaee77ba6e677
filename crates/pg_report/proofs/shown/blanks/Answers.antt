use Rattle.std.proofs.lemmas.List.{take-replicate}
use Rattle.pg_report.proofs.shown.blanks.Goals as goal

pub returns : goal.returns
returns c = take-replicate c.args.count 200 32 c.requires
