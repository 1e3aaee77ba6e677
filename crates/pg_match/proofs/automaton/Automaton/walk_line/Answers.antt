use Rattle.std.proofs.Common.{arith}
use Rattle.pg_match.specs.Views.{nfa, dfa}
use Rattle.pg_match.proofs.LineLemmas.{line_on}
use Rattle.pg_match.proofs.automaton.Automaton.walk_line.Goals as goal

pub loop-place-preserved : goal.loop-place-preserved
loop-place-preserved g c =
    let a = c.args in
    let p = c.loop-place.place in
    line_on (nfa a.self.now) (dfa a.cache.now) a.end a.bytes.now c.requires.built.runs c.requires.cache
    c.loop-place.state p c.loop-place.invariant c.index-next.result.now (omega (arith, c.type_inv.bytes p))
    (omega (arith, c.loop-place-test.true)) c.if-bytes-place.false c.index-next.ensures
    (omega (arith, c.if-next-lt-STRIDE.false))
