use Rattle.pg_prefilter.proofs.SoughtLemmas.{needles_behind}
use Rattle.pg_lines.proofs.search.next_hit.Goals as goal

pub returns-then-is_empty-clause-needles : goal.returns-then-is_empty-clause-needles
returns-then-is_empty-clause-needles g c =
    needles_behind c.args.query.now.text c.args.bytes.now c.args.at c.args.needles.now c.next_matched.result
    c.requires.needles c.next_matched.ensures.found

pub returns-then-are_too_slow-clause-needles : goal.returns-then-are_too_slow-clause-needles
returns-then-are_too_slow-clause-needles g c =
    needles_behind c.args.query.now.text c.args.bytes.now c.args.at c.args.needles.now c.next_by_automaton.result
    c.requires.needles c.next_by_automaton.ensures.found
