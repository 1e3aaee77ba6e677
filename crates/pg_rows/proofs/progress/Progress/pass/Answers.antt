use Rattle.std.proofs.Common.{rules}
use Rattle.pg_rows.proofs.ProgressLemmas.{passes_tells}
use Rattle.pg_rows.proofs.progress.Progress.pass.Goals as goal

pub returns-clause-tells : goal.returns-clause-tells
returns-clause-tells c = passes_tells c.args.self c.args.count _ (search rules)
