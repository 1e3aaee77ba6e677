use Rattle.pg_match.specs.Views.{members}
use Rattle.pg_match.proofs.StartLemmas.{gone_on, gone_plainly}
use Rattle.pg_match.proofs.automaton.Automaton.go_on.Goals as goal
use Rattle.pg_match.proofs.automaton.Automaton.go_on.Goals.{then-begins, else-begins}

pub returns-clause-goes : goal.returns-clause-goes
returns-clause-goes g c =
    let m = c.args.self.now in
    let now = members c.args.sets.now.current in
    let moved = rw c.deref.ensures.value at c.move_by.ensures.moved in
    elim c.if-begins.branch [
      | then-begins w ↦
          let all = rw (c.deref-2.ensures.value, c.swap.ensures.x_after, w.sets-is) at c.close.ensures in
          gone_on m.states.items m.seeds.items c.args.byte c.args.begins now c.requires.room.now _ _ _ moved
          w.move_seeds.ensures all w.if-begins.true
      | else-begins w ↦
          let all = rw (c.deref-2.ensures.value, c.swap.ensures.x_after, w.sets-is) at c.close.ensures in
          gone_plainly m.states.items m.seeds.items c.args.byte c.args.begins now c.requires.room.now _ _ moved all
          w.if-begins.false
    ]
