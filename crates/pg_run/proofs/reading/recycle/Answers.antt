use Rattle.pg_run.proofs.ReadingLemmas.{recycled}
use Rattle.pg_run.proofs.reading.recycle.Goals as goal

pub returns-clause-in_file : goal.returns-clause-in_file
returns-clause-in_file g c = λ aim given out start.
    recycled start c.give_back.new.self c.choose.new.self c.give_back.ensures.cutter c.give_back.ensures.came
    (c.choose.ensures.holds aim start.steps out (c.take_spare.ensures.holds aim start.steps out start.holds))
