use Rattle.std.proofs.Common.{rules}
use Rattle.pg_board.proofs.TrayLemmas.{hands_out, learns}
use Rattle.pg_board.proofs.delivered.TrayRest.next.Goals as goal

pub pop_as-requires-clause-rule : goal.pop_as-requires-clause-rule
pop_as-requires-clause-rule g c = let i = c.self.invariant in (hands_out _ _ i.4 i.5, learns _ _ i.4 i.5)

pub returns-in_err-value-clause-none : goal.returns-in_err-value-clause-none
returns-in_err-value-clause-none g c = search rules
