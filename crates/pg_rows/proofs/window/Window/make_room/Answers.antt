use Rattle.std.proofs.Common.{◌+◌, ◌-◌, ◌≤◌, length, drop, subst, sym, ap, ◌∙◌, arith}
use Rattle.circular_buffer.specs.Buffer.{Buffer}
use Rattle.pg_rows.specs.declared.window.Tail.{Tail}
use Rattle.pg_rows.specs.Window.{tail_lines, lines_in, lines_held, AreHeld, GivesUp}
use Rattle.pg_rows.proofs.WindowLemmas.{first_tail, held_pop, gives_first}
use Rattle.pg_rows.proofs.window.Window.make_room.Goals as goal

pub overflow_add-others : goal.overflow_add-others
overflow_add-others g c =
    let w = c.loop-first.self in
    let first = first_tail c.args.end w.tails.items w.lines w.tails.capacity c.in-Some.first.now
    c.loop-first.invariant.window c.in-Some.ensures in
    omega (
      arith,
      first.counted,
      c.loop-first.invariant.window.short,
      c.loop-first.invariant.size,
      c.capacity-size.ensures.capacity,
      c.capacity-size.ensures.within.1,
      c.requires.small,
    )

pub loop-first-preserved-else-others-lines : goal.loop-first-preserved-else-others-lines
loop-first-preserved-else-others-lines g c =
    let w = c.loop-first.self in
    let tails = w.tails.items in
    let first = first_tail c.args.end tails w.lines w.tails.capacity c.in-Some.first.now c.loop-first.invariant.window
    c.in-Some.ensures in
    let popped = held_pop c.args.end tails w.lines w.tails.capacity c.in-Some.first.now c.loop-first.invariant.window
    c.in-Some.ensures in
    let size = c.args.self.now.tails.capacity in
    let others = lines_in c.args.end (drop 1 tails) in
    let enough : size ≤ length others + c.args.lines =
    omega (arith, first.counted, c.capacity-size.ensures.capacity, c.if-others-lines.false) in
    let given = gives_first size c.args.lines (lines_held c.args.end c.args.self.now) (lines_in c.args.end tails)
    (tail_lines c.args.end c.in-Some.first.now) others c.loop-first.invariant.gives_up first.apart enough in
    let count = w.lines - c.in-Some.first.now.lines in
    let P : Buffer (Tail g.row.A.Denot) → Type 0 = λ b. AreHeld c.args.end b.items count b.capacity in
    let Q : Buffer (Tail g.row.A.Denot)
    → Type 0 = λ b. GivesUp size c.args.lines (lines_held c.args.end c.args.self.now) (lines_in c.args.end b.items) in
    record {
      size = ap (λ (b : Buffer (Tail g.row.A.Denot)). b.capacity) c.pop_front.ensures.items
          ∙ c.loop-first.invariant.size;
      window = subst P (sym c.pop_front.ensures.items) popped;
      gives_up = subst Q (sym c.pop_front.ensures.items) given;
    }
