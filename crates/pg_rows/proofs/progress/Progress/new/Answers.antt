use Rattle.std.proofs.Common.{refl, rules}
use Rattle.pg_rows.proofs.progress.Progress.new.Goals as goal

pub returns : goal.returns
returns c = λ format. record {
  number = refl;
  kept = refl;
  countdown = refl;
  some = refl;
  skipped = search rules;
  window = search rules;
}
