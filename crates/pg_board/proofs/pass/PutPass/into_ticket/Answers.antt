use Rattle.std.proofs.Common.{[], ◌∷◌, ap, ◌∙◌}
use Rattle.pg_board.specs.Tray.{PutView}
use Rattle.pg_board.specs.TrayRule.{puts}
use Rattle.pg_board.proofs.pass.PutPass.into_ticket.Goals as goal

pub returns-clause-puts : goal.returns-clause-puts
returns-clause-puts g c =
    let T : Type 0 = g.row.T.Denot in let A : Type 0 = g.row.A.Denot in let number = c.self.inside.number in
    (number, c.self.invariant.3 ∙ ap (λ (v : PutView T A). puts number v.put ∷ []) c.self.view_is)
