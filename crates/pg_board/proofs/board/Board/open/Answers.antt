use Rattle.std.proofs.Common.{refl}
use Rattle.pg_board.proofs.BoardLemmas.{begins}
use Rattle.pg_board.proofs.board.Board.open.Goals as goal

pub of_words-requires : goal.of_words-requires
of_words-requires g c = begins record { limit = c.args.limit; seats = c.args.seats } c.ranges.limit.fits
    c.ranges.seats.fits

pub returns-clause-board : goal.returns-clause-board
returns-clause-board g c = (refl, refl)
