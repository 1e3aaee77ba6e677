use Rattle.std.proofs.Common.{◌∙◌, subst, sym}
use Rattle.std.specs.Prelude.{None}
use Rattle.std.specs.Option.{IfSome}
use Rattle.pg_pattern.specs.Bounds.{MayBegin}
use Rattle.pg_match.specs.Anchored.{IsSecondRow}
use Rattle.pg_match.specs.Dfas.{In}
use Rattle.pg_match.specs.Searches.{Alive, start_bound}
use Rattle.pg_match.specs.Views.{nfa, members, dfa}
use Rattle.pg_match.proofs.SingleStartLemmas.{alive_second}
use Rattle.pg_match.proofs.automaton.Automaton.enter_known.Goals as goal

pub returns-in-Some-clause-alive : goal.returns-in-Some-clause-alive
returns-in-Some-clause-alive g c =
    let m = nfa c.args.self.now in
    let t = dfa c.args.cache.now in
    let l = c.args.line.now in
    let second = subst (λ o. IfSome o (IsSecondRow m t l c.args.from)) c.in-Some.is c.requires.second in
    let now = members c.load.new.set in
    subst (λ from. Alive m.states l m.start (MayBegin m.bounds l) from (start_bound 1) 1 now None) (sym second.first)
    (alive_second m l now (In t c.in-Some.row) c.load.ensures.same c.load.ensures.good
    (c.load.ensures.size ∙ c.requires.room.now_size) c.load.ensures.ones second.more second.stands)
