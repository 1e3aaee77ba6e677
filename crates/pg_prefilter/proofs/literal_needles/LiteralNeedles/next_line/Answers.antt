use Rattle.pg_prefilter.proofs.literal_needles.LiteralNeedles.next_line.Goals as goal

pub returns-in-Some-clause-next : goal.returns-in-Some-clause-next
returns-in-Some-clause-next g c =
    let within = c.in-Some.ensures.within in (within.0, within.1, within.2, c.in-Some.ensures.some)
