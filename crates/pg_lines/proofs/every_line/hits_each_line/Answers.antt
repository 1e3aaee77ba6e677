use Rattle.std.proofs.Common.{rules, tests}
use Rattle.std.proofs.lemmas.Iterator.{YieldsList-from_slice, cases_from_any}
use Rattle.pg_lines.proofs.EachLineLemmas.{IsEmptyEnough, each_by_cases}
use Rattle.pg_lines.proofs.every_line.hits_each_line.Goals as goal

pub returns : goal.returns
returns g c =
    each_by_cases c.args.query.now.text c.args.literals.now c.requires (λ l. Unit {0}) c.any.result
    (cases_from_any _ _ _ IsEmptyEnough (λ l. Unit {0}) c.any.ensures.ran
    (YieldsList-from_slice c.args.literals.now c.iter.ensures.rest) (λ x u is. search (rules, tests))
    (λ x u is. (search (rules, tests), tt)))
