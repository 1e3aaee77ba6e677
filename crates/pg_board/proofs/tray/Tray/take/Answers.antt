use Rattle.pg_board.proofs.TrayLemmas.{takes_one}
use Rattle.pg_board.proofs.tray.Tray.take.Goals as goal

pub pop_as-requires-clause-rule : goal.pop_as-requires-clause-rule
pop_as-requires-clause-rule g c = (takes_one _ _ c.pass.invariant.2, λ items views h at. tt)
