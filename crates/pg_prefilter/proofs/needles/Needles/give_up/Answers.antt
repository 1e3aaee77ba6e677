use Rattle.pg_prefilter.proofs.needles.Needles.give_up.Goals as goal

pub returns-in_default-clause-needles : goal.returns-in_default-clause-needles
returns-in_default-clause-needles g c = λ text bytes at are row. c.fall_back.ensures.needles text bytes at are
