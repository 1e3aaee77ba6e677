use Rattle.pg_match.specs.Dfas.{In}
use Rattle.pg_match.specs.Steps.{Has}
use Rattle.pg_match.specs.Views.{nfa, members, dfa}
use Rattle.pg_match.proofs.SingleStartLemmas.{anchored_same}
use Rattle.pg_match.proofs.automaton.Automaton.finish_anchored.Goals as goal

pub finish_by_cache-requires-clause-run : goal.finish_by_cache-requires-clause-run
finish_by_cache-requires-clause-run g c =
    let a = c.args in
    anchored_same (nfa a.self.now) a.line.now a.run.start a.run.place a.run.last
    (Has (members a.sets.now.current)) (In (dfa c.row_alone.new.cache) c.in-Some.row) c.in-Some.ensures.row
    c.requires.run
