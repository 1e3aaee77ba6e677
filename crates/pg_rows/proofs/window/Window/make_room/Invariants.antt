use Rattle.std.proofs.Common.{◌≡◌, length}
use Rattle.pg_rows.specs.Window.{lines_held, IsWindow, GivesUp}
use Rattle.pg_rows.proofs.window.Window.make_room.Given as goal

abbrev pub invariant-loop-first : goal.invariant-loop-first
invariant-loop-first g l = record {
  size : l.self.tails.capacity ≡ l.fn.self.tails.capacity;
  window : IsWindow l.end l.self;
  gives_up : GivesUp l.fn.self.tails.capacity l.lines (lines_held l.end l.fn.self) (lines_held l.end l.self);
}

abbrev pub decreases-loop-first : goal.decreases-loop-first
decreases-loop-first g l = length l.self.tails.items
