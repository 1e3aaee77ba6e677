use Rattle.std.proofs.Common.{◌+◌, Some}
use Rattle.pg_match.specs.Views.{nfa}
use Rattle.pg_match.proofs.ScanLemmas.{best_none, best_later}
use Rattle.pg_match.proofs.automaton.Automaton.find_by.Goals as goal

pub returns-in-NoHit-clause-best : goal.returns-in-NoHit-clause-best
returns-in-NoHit-clause-best g c = best_none (nfa c.args.self.now) c.args.line.now c.args.from c.in-NoHit.ensures

pub returns-in-Known-clause-best : goal.returns-in-Known-clause-best
returns-in-Known-clause-best g c =
    let s = c.in-Known.ensures in
    best_later (nfa c.args.self.now) c.args.line.now c.args.from _
    (Some (c.in-Known.start, c.in-Known.start + 1)) s.0 s.2 (c.is_one_byte.ensures c.if-is_one_byte.true)

pub returns-in-Known-2-clause-best : goal.returns-in-Known-2-clause-best
returns-in-Known-2-clause-best g c =
    let s = c.in-Known.ensures in
    best_later (nfa c.args.self.now) c.args.line.now c.args.from _ c.find_behind.result s.0 s.2
    c.find_behind.ensures.best

pub returns-in-Unknown-clause-best : goal.returns-in-Unknown-clause-best
returns-in-Unknown-clause-best g c =
    let s = c.in-Unknown.ensures in
    best_later (nfa c.args.self.now) c.args.line.now c.args.from _ c.find_behind-best.result s.0 s.2
    c.find_behind-best.ensures.best
