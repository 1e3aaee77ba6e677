use Rattle.pg_lines.proofs.search.with_one_in_vain.Goals as goal

pub returns-then-give_up-clause-needles : goal.returns-then-give_up-clause-needles
returns-then-give_up-clause-needles g c = λ bytes at are.
    let text = c.args.query.now.text in
    c.give_up.ensures.needles text bytes at are (c.later_row.ensures text c.prefilter.ensures)

pub returns-else-give_up-clause-needles : goal.returns-else-give_up-clause-needles
returns-else-give_up-clause-needles g c = λ bytes at are.
    let text = c.args.query.now.text in
    c.give_up.ensures.needles text bytes at are (c.later_row.ensures text c.prefilter.ensures)
