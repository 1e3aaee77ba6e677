use Rattle.pg_rows.proofs.ColorLaws.{colors_add}
use Rattle.pg_rows.proofs.laws.colors_add_escapes.Goals as goal

pub returns : goal.returns
returns c = colors_add
