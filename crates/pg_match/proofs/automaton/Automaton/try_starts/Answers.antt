use Rattle.std.proofs.Common.{◌<◌, ◌+◌, arith, length}
use Rattle.pg_match.specs.Views.{nfa}
use Rattle.pg_match.proofs.AnchoredLemmas.{nothing_behind}
use Rattle.pg_match.proofs.automaton.Automaton.try_starts.Goals as goal

pub loop-place-preserved : goal.loop-place-preserved
loop-place-preserved g c =
    let place = c.loop-place.place in
    let was = c.loop-place.invariant in
    let inside : place < length c.args.line.now = omega (arith, c.loop-place-test.true) in (
      omega (arith, was.0),
      omega (arith, inside),
      nothing_behind (nfa c.args.self.now) c.args.line.now c.args.start place (place + 1) was.2 c.in-Nothing.ensures,
    )
