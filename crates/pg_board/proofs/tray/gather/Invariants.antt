use Rattle.std.proofs.Common.{◌≡◌, All, ◌++◌, map, vec_len}
use Rattle.crossbeam_queue.specs.SegTies.{IsSegPassOf}
use Rattle.pg_board.specs.Tray.{PutView}
use Rattle.pg_board.specs.TrayRule.{lists_of}
use Rattle.pg_board.proofs.tray.gather.Given as goal

abbrev pub invariant-loop-pass : goal.invariant-loop-pass
invariant-loop-pass g l = record {
  ticket : IsSegPassOf l.queue l.ticket;
  takers : l.ticket.me.view.client.takers ≡ 1;
  made : l.ticket.me.view.client.made ≡ l.initial.ticket.me.view.client.made;
  taken : l.ticket.me.view.client.taken ≡ l.initial.ticket.me.view.client.taken;
  all : All (λ (p : PutView g.row.T.Denot g.row.A.Denot). p.tray ≡ l.queue) l.passes.items;
  lists : map (λ (p : PutView g.row.T.Denot g.row.A.Denot). p.put) l.passes.items ++ lists_of
      l.ticket.me.view.client.passes ≡ map (λ (p : PutView g.row.T.Denot g.row.A.Denot). p.put) l.initial.passes.items;
}

abbrev pub decreases-loop-pass : goal.decreases-loop-pass
decreases-loop-pass g l = vec_len l.passes
