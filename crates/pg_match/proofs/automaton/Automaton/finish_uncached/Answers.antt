use Rattle.std.proofs.Common.{Some, arith}
use Rattle.pg_match.specs.Steps.{Has}
use Rattle.pg_match.specs.Views.{nfa, members, dfa}
use Rattle.pg_match.proofs.AnchoredLemmas.{begun_dead}
use Rattle.pg_match.proofs.SingleStartLemmas.{anchored_loaded}
use Rattle.pg_match.proofs.automaton.Automaton.finish_uncached.Goals as goal

pub returns-then-next-eq-DEAD-clause-longest : goal.returns-then-next-eq-DEAD-clause-longest
returns-then-next-eq-DEAD-clause-longest g c =
    let a = c.args in
    begun_dead (nfa a.self.now) (dfa a.cache.now) c.requires.cache a.line.now a.run.start
    c.requires.built.runs a.run.place a.state c.index-next.result.now (Some a.run.last) c.requires.follows
    c.requires.begins (omega (arith, c.type_inv.line a.run.place)) c.if-run-line.true c.index-next.ensures
    c.if-next-eq-DEAD.true

pub finish_by_states-requires-clause-run : goal.finish_by_states-requires-clause-run
finish_by_states-requires-clause-run g c =
    let a = c.args in
    anchored_loaded (nfa a.self.now) (dfa a.cache.now) a.line.now a.run.start a.run.place a.run.last a.state
    (Has (members c.load.new.set)) c.requires.begins c.requires.follows c.load.ensures.same
