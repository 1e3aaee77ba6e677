use Rattle.std.proofs.Common.{arith, get_or}
use Rattle.std.proofs.lemmas.List.{get_or_read}
use Rattle.pg_match.specs.Views.{nfa, dfa}
use Rattle.pg_match.proofs.AnchoredLemmas.{in_steps, row_behind}
use Rattle.pg_match.proofs.automaton.Automaton.walk_alone.Goals as goal

pub loop-here-preserved : goal.loop-here-preserved
loop-here-preserved g c =
    let m = nfa c.args.self.now in
    let t = dfa c.args.cache.now in
    let i = c.loop-here.invariant in
    let b = get_or c.args.line.now c.loop-here.here 0 in
    let byte = c.type_inv.line c.loop-here.here in
    let next = c.index-next.result.now in
    let read = get_or_read t.steps _ next (in_steps m t c.requires.cache c.loop-here.at b i.row (omega (arith, byte)))
    c.index-next.ensures 0 in
    record {
      row = (row_behind m t c.requires.cache c.loop-here.at next b i.row (omega (arith, byte)) read
          c.if-next-lt-STRIDE.false).0;
      onward = omega (arith, i.onward);
    }
