use Rattle.std.proofs.Common.{◌≡◌, ◌≤◌, [], vec_len, vec_capacity, replicate}
use Rattle.crossbeam_queue.specs.SegTies.{IsSegPassOf}
use Rattle.pg_board.specs.Tray.{put_view}
use Rattle.pg_board.proofs.tray.Tray.open.Given as goal

abbrev pub invariant-loop-number : goal.invariant-loop-number
invariant-loop-number g l = record {
  ticket : IsSegPassOf l.queue l.ticket;
  takers : l.ticket.me.view.client.takers ≡ 1;
  passes : l.ticket.me.view.client.passes ≡ [];
  taken : l.ticket.me.view.client.taken ≡ [];
  made : l.ticket.me.view.client.made ≡ vec_len l.passes;
  count : vec_len l.passes ≡ l.number;
  room : l.fn.workers ≤ vec_capacity l.passes;
  items : l.passes.items ≡ replicate (vec_len l.passes) (put_view l.queue []);
}
