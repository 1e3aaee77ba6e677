use Rattle.std.proofs.Common.{◌≡◌, ◌<◌, ◌≤◌, ◌^◌, ◌++◌, List, ℕ, length, drop, subst, sym, ap, ◌∙◌}
use Rattle.std.proofs.Common.{arith, refl, rules, ◌⊎◌}
use Rattle.std.specs.Arc.{arc_value}
use Rattle.circular_buffer.specs.Buffer.{keep_last}
use Rattle.pg_blocks.specs.Blocks.{BlockData}
use Rattle.pg_rows.specs.declared.window.Tail.{Tail}
use Rattle.pg_rows.specs.Window.{lines_from, lines_in, lines_held, IsTail}
use Rattle.pg_rows.proofs.WindowLemmas.{room_small, gives_last, gives_enough, tails_pushed, window_pushed}
use Rattle.pg_rows.proofs.WindowLemmas.{lines_pushed}
use Rattle.pg_blocks.proofs.CountLemmas.{few_lines}
use Rattle.pg_rows.proofs.window.Window.push.Goals as goal

-- the lines of a text are fewer than 2^63
count_small : (end count start : ℕ) (block : BlockData) (text : List ℕ) → count ≡ length (lines_from end block start)
    → text ≡ drop start block.bytes → length text < 2 ^ 63 → count < 2 ^ 63
count_small end count start block text counted value short =
    omega (arith, counted, few_lines end (drop start block.bytes), ap length value, short)

pub make_room-requires-clause-small : goal.make_room-requires-clause-small
make_room-requires-clause-small g c =
    let a = c.args in
    count_small a.end a.lines a.start (arc_value a.block) c.text-text.result.now c.requires.takes.counted
    c.text-text.ensures.value c.text-text.ensures.short

pub overflow_add-self : goal.overflow_add-self
overflow_add-self g c =
    let a = c.args in
    let small = count_small a.end a.lines a.start (arc_value a.block) c.text-text.result.now c.requires.takes.counted
    c.text-text.ensures.value c.text-text.ensures.short in
    let w = c.make_room.new.self in
    let wide : w.tails.capacity < 2 ^ 63 =
    omega (arith, c.capacity.ensures.capacity, c.capacity.ensures.within.1, c.make_room.ensures.size) in
    let sum = room_small a.end a.lines w.tails.items w.lines w.tails.capacity c.make_room.ensures.window
    c.make_room.ensures.room small wide in
    omega (arith, sum)

pub returns-clause-takes : goal.returns-clause-takes
returns-clause-takes g c =
    let a = c.args in
    let t : Tail g.row.A.Denot = record { block = a.block; start = a.start; lines = a.lines } in
    let small = count_small a.end a.lines a.start (arc_value a.block) c.text-text.result.now c.requires.takes.counted
    c.text-text.ensures.value c.text-text.ensures.short in
    let counted = c.requires.takes.counted in
    let tail : IsTail a.end t =
    record { within = c.requires.takes.within; counted = counted; some = c.requires.some; small = small } in
    let w = c.make_room.new.self in
    let room = c.make_room.ensures.room in
    let gives_up = c.make_room.ensures.gives_up in
    let wide : 0 < w.tails.capacity =
    omega (arith, c.if-capacity-eq0.false, c.capacity.ensures.capacity, c.make_room.ensures.size) in
    let same = tails_pushed a.end a.lines w.tails.items w.lines w.tails.capacity t c.push_back.new.self
    c.make_room.ensures.window room c.requires.some wide c.push_back.ensures.items in
    let size = a.self.now.tails.capacity in
    let before = lines_held a.end a.self.now in
    let more = lines_from a.end (arc_value a.block) a.start in
    let all : lines_in a.end c.push_back.new.self.items ≡ lines_held a.end w ++ more =
    lines_pushed a.end w.tails.items w.tails.capacity t c.push_back.new.self same in
    let P : List (List ℕ) → Type 0 = λ ls. (size ≤ length ls) ⊎ (ls ≡ before ++ more) in
    record {
      size = search rules;
      window = window_pushed a.end a.lines w.tails.items w.lines w.tails.capacity t c.push_back.new.self
          c.make_room.ensures.window room tail refl same;
      last = ap (keep_last size) all ∙ gives_last size a.lines before (lines_held a.end w) more counted gives_up;
      enough = subst P (sym all) (gives_enough size a.lines before (lines_held a.end w) more counted gives_up);
    }
