use Rattle.std.proofs.Common.{◌∙◌}
use Rattle.pg_workers.specs.Workers.{task_of}
use Rattle.pg_workers.proofs.GrowLemmas.{grow_none, grow_more, grow_but}
use Rattle.pg_workers.proofs.worker.work.Goals as goal

pub loop-init : goal.loop-init
loop-init g c = (
  tt,
  tt,
  c.requires.same.0,
  c.requires.same.1,
  c.requires.fits,
  grow_none (task_of g.Q.BlockSearch.seen c.args.round) c.args.seat.now.drawn c.args.pass.now.put,
)

pub loop-preserved : goal.loop-preserved
loop-preserved g c =
    let i = c.loop.invariant in
    let drew = c.in-Some-draw.ensures in
    let put = c.in-Ok.ensures.ok in (
      tt,
      tt,
      c.draw.ensures.board,
      c.search_one.ensures.tray,
      c.search_one.ensures.fits,
      grow_more (task_of g.Q.BlockSearch.seen c.args.round) c.args.seat.now.drawn c.loop.seat.drawn
          c.draw.new.seat.drawn c.args.pass.now.put
          c.loop.pass.put c.search_one.new.pass.put c.in-Some-draw.number put.0 i.5 drew.some.2 put.1 put.2,
    )

pub returns-in_default : goal.returns-in_default
returns-in_default g c =
    let i = c.loop.invariant in let none = c.in_default.ensures.none in let grown = i.5 in
    record {
      same = (c.draw.ensures.board, i.3);
      fits = i.4;
      ok = (none.0, (grown.0, grown.1, none.1 ∙ grown.2, grown.3, grown.4));
      err = tt;
    }

pub returns-in_default-search_one : goal.returns-in_default-search_one
returns-in_default-search_one g c =
    let i = c.loop.invariant in
    record {
      same = (c.draw.ensures.board, c.search_one.ensures.tray);
      fits = c.search_one.ensures.fits;
      ok = tt;
      err = (
        c.in-Some-draw.ensures.below,
        grow_but (task_of g.Q.BlockSearch.seen c.args.round) c.args.seat.now.drawn c.loop.seat.drawn
            c.draw.new.seat.drawn
            c.args.pass.now.put c.loop.pass.put c.search_one.new.pass.put c.in-Some-draw.number i.5
            c.in-Some-draw.ensures.some.2 c.in_default-search_one.ensures.err,
      );
    }
