use Rattle.pg_rows.proofs.CursorLaws.{trail_tells}
use Rattle.pg_rows.proofs.laws.trails_tell_enough.Goals as goal

pub returns : goal.returns
returns c = trail_tells
