use Rattle.pg_board.proofs.BoardLemmas.{new_seats}
use Rattle.pg_board.proofs.LawLemmas.{past_limit}
use Rattle.pg_board.proofs.laws.draws_are_complete.Goals as goal

pub returns-clause-new : goal.returns-clause-new
returns-clause-new c = new_seats

pub returns-clause-spent : goal.returns-clause-spent
returns-clause-spent c = past_limit
