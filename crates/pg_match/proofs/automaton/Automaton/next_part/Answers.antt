use Rattle.pg_match.specs.Views.{nfa}
use Rattle.pg_match.proofs.SearchLemmas.{next_from_best}
use Rattle.pg_match.proofs.automaton.Automaton.next_part.Goals as goal

pub returns-in-Some-clause-next : goal.returns-in-Some-clause-next
returns-in-Some-clause-next g c = λ patterns a.
    next_from_best (nfa c.args.self.now) patterns c.args.line.now a c.args.from c.find_by.result c.find_by.ensures.best

pub returns-in_default-clause-next : goal.returns-in_default-clause-next
returns-in_default-clause-next g c = λ patterns a.
    next_from_best (nfa c.args.self.now) patterns c.args.line.now a c.args.from c.find.result c.find.ensures.best
