use Rattle.std.proofs.Common.{rules}
use Rattle.pg_board.proofs.TrayLemmas.{puts_one}
use Rattle.pg_board.proofs.tray.Tray.put.Goals as goal

pub push_as-requires-clause-rule : goal.push_as-requires-clause-rule
push_as-requires-clause-rule g c = λ n. puts_one n _ _ c.pass.inside.number _ c.args.value c.pass.invariant.3
    c.pass.invariant.2

pub returns-clause-ok : goal.returns-clause-ok
returns-clause-ok g c = search rules
