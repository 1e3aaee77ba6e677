use Rattle.std.proofs.Common.{rules}
use Rattle.pg_rows.proofs.ProgressLemmas.{keeps_tells}
use Rattle.pg_rows.proofs.progress.Progress.keep.Goals as goal

pub returns-clause-tells : goal.returns-clause-tells
returns-clause-tells c = keeps_tells c.args.self c.args.format.now c.args.count _ (search rules)
