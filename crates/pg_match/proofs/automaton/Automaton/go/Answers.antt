use Rattle.std.proofs.Common.{◌∙◌, sym, arith, refl, length, ap}
use Rattle.std.proofs.lemmas.Bool.{eqb-true}
use Rattle.pg_match.specs.Views.{nfa, members}
use Rattle.pg_match.proofs.StepLemmas.{gone_seeded, gone_plain, moved_at_none}
use Rattle.pg_match.proofs.automaton.Automaton.go.Goals as goal
use Rattle.pg_match.proofs.automaton.Automaton.go.Goals.{then-begins_after, else-begins_after}

pub returns-clause-goes : goal.returns-clause-goes
returns-clause-goes g c =
    let m = nfa c.args.self.now in
    let now = members c.args.sets.now.current in
    let moved = rw c.deref.ensures.value at c.move_by.ensures.moved in
    elim c.if-begins_after.branch [
      | then-begins_after w ↦
          let all = rw (c.deref-2.ensures.value, w.sets-is) at c.close.ensures in
          let ins = rw c.swap.ensures.x_after at w.insert.ensures.inserted in
          gone_seeded m c.args.byte now c.requires.room.now _ _ _ moved
          (sym c.begins_after.ensures ∙ w.if-begins_after.true) ins all
      | else-begins_after w ↦
          let all = rw (c.deref-2.ensures.value, w.sets-is, c.swap.ensures.x_after) at c.close.ensures in
          gone_plain m c.args.byte now c.requires.room.now _ _ moved
          (sym c.begins_after.ensures ∙ w.if-begins_after.false) all
    ]

pub returns-clause-fresh : goal.returns-clause-fresh
returns-clause-fresh g c = λ t.
    let moved = rw c.deref.ensures.value at c.move_by.ensures.moved in
    moved_at_none (nfa c.args.self.now) c.args.byte (members c.args.sets.now.current)
    (members c.move_by.new.next) c.requires.room.now moved (eqb-true _ 0 t)

pub move_by-requires-clause-size : goal.move_by-requires-clause-size
move_by-requires-clause-size g c = omega arith

pub move_by-requires-clause-next_size : goal.move_by-requires-clause-next_size
move_by-requires-clause-next_size g c = omega arith

pub insert-requires-clause-some : goal.insert-requires-clause-some
insert-requires-clause-some g c = omega arith

pub move_by-requires-clause-tidy : goal.move_by-requires-clause-tidy
move_by-requires-clause-tidy g c = rw c.deref.ensures.value c.requires.built.runs.tidy

pub insert-requires-clause-good : goal.insert-requires-clause-good
insert-requires-clause-good g c = rw c.swap.ensures.x_after c.move_by.ensures.moved.good

pub insert-requires-clause-within : goal.insert-requires-clause-within
insert-requires-clause-within g c =
    rw c.swap.ensures.x_after (omega (arith, c.requires.built.runs.start, c.move_by.ensures.moved.size))

pub close-requires-clause-tidy : goal.close-requires-clause-tidy
close-requires-clause-tidy g c = rw c.deref-2.ensures.value c.requires.built.runs.tidy

pub close-requires-clause-good : goal.close-requires-clause-good
close-requires-clause-good g c =
    elim c.if-begins_after.branch [
      | then-begins_after w ↦ rw w.sets-is w.insert.ensures.inserted.good
      | else-begins_after w ↦ rw (w.sets-is, c.swap.ensures.x_after) c.move_by.ensures.moved.good
    ]

pub close-requires-clause-size : goal.close-requires-clause-size
close-requires-clause-size g c =
    elim c.if-begins_after.branch [
      | then-begins_after w ↦ rw (w.sets-is, c.deref-2.ensures.value) (omega (
        arith,
        w.insert.ensures.inserted.size,
        ap (λ s. length (members s).marks) c.swap.ensures.x_after,
        c.move_by.ensures.moved.size,
      ))
      | else-begins_after w ↦ rw (w.sets-is, c.deref-2.ensures.value, c.swap.ensures.x_after) (omega (
        arith,
        c.move_by.ensures.moved.size,
      ))
    ]

pub returns-clause-visits : goal.returns-clause-visits
returns-clause-visits g c =
    elim c.if-begins_after.branch [
      | then-begins_after w ↦ rw w.sets-is refl
      | else-begins_after w ↦ rw w.sets-is refl
    ]

pub returns-clause-room : goal.returns-clause-room
returns-clause-room g c =
    let close = c.close.ensures in
    let size = c.deref-2.ensures.value in
    elim c.if-begins_after.branch [
      | then-begins_after w ↦ record {
        now = close.good;
        next = rw (
          w.sets-is,
          c.swap.ensures.y_after,
        ) c.requires.room.now;
        now_size = rw (w.sets-is) at close.size ∙
            w.insert.ensures.inserted.size ∙ ap (λ s. length (members s).marks) c.swap.ensures.x_after ∙
            c.move_by.ensures.moved.size ∙
            c.requires.room.now_size;
        next_size = rw (w.sets-is, c.swap.ensures.y_after) c.requires.room.now_size;
      }
      | else-begins_after w ↦ record {
        now = close.good;
        next = rw (
          w.sets-is,
          c.swap.ensures.y_after,
        ) c.requires.room.now;
        now_size = rw (w.sets-is) at close.size ∙ ap (λ s. length
            (members s).marks) c.swap.ensures.x_after ∙ c.move_by.ensures.moved.size ∙ c.requires.room.now_size;
        next_size = rw (w.sets-is, c.swap.ensures.y_after) c.requires.room.now_size;
      }
    ]

pub returns-clause-told : goal.returns-clause-told
returns-clause-told g c =
    let x = ap (λ s. (members s).added) c.swap.ensures.x_after in
    let y = ap (λ s. (members s).added) c.swap.ensures.y_after in
    let len = ap (λ s. (members s).len) c.swap.ensures.x_after in
    elim c.if-begins_after.branch [
      | then-begins_after w ↦ rw w.sets-is (omega (
        arith,
        x,
        y,
        len,
        rw w.sets-is at c.close.ensures.counted,
        w.insert.ensures.counted,
        c.move_by.ensures.counted,
      ))
      | else-begins_after w ↦ rw w.sets-is (omega (
        arith,
        x,
        y,
        len,
        rw w.sets-is at c.close.ensures.counted,
        c.move_by.ensures.counted,
      ))
    ]
