use Rattle.std.proofs.Common.{◌≡◌, List, ap, subst, arith}
use Rattle.pg_selection.specs.Searched.{SearchedBlock}
use Rattle.pg_board.specs.Merge.{IsMerge}
use Rattle.pg_board.specs.Tray.{TrayRestView}
use Rattle.pg_workers.specs.Workers.{task}
use Rattle.pg_workers.proofs.CoverLemmas.{covers, of_board, of_tray, works_length}
use Rattle.pg_workers.proofs.closing.close_round.Goals as goal

pub close-drawn-requires-clause-board : goal.close-drawn-requires-clause-board
close-drawn-requires-clause-board g c = of_board
    (task (g.Q.BlockSearch.seen c.args.query.now) c.args.blocks.now c.args.round.board c.args.round.tray)
    c.in_ok-seats.seats.items c.in_ok-seats.passes.items c.in_ok-seats.ensures.works

pub close-requires-clause-all : goal.close-requires-clause-all
close-requires-clause-all g c =
    let t = task (g.Q.BlockSearch.seen c.args.query.now) c.args.blocks.now c.args.round.board c.args.round.tray in
    let ss = c.in_ok-seats.seats.items in let ps = c.in_ok-seats.passes.items in
    let same = works_length t ss ps c.in_ok-seats.ensures.works in (
      of_tray t ss ps c.in_ok-seats.ensures.works,
      (let l = c.in_ok-seats.ensures.len in let a =
          c.requires.all.1 in omega (arith, c.in_ok-seats.seats.ok.0, c.in_ok-seats.passes.ok.0)),
    )

pub returns-clause-all : goal.returns-clause-all
returns-clause-all g c = λ rs merge n low.
    let t = task (g.Q.BlockSearch.seen c.args.query.now) c.args.blocks.now c.args.round.board c.args.round.tray in
    let ss = c.in_ok-seats.seats.items in let ps = c.in_ok-seats.passes.items in
    let upto : c.close-drawn.result.upto ≡ c.args.round.board.limit =
    c.close-drawn.ensures.spent c.in_ok-seats.ensures.spent in
    covers t n ss ps c.close-drawn.result.upto rs c.in_ok-seats.ensures.works (c.close-drawn.ensures.drawn n)
    (let r = c.requires.spent.1 in omega arith)
    (subst (λ (ls : List (List SearchedBlock)). IsMerge ls rs)
    (ap (λ (d : TrayRestView SearchedBlock). d.lists) c.close.ensures) merge)

pub returns-clause-taken : goal.returns-clause-taken
returns-clause-taken g c = ap (λ (d : TrayRestView SearchedBlock). d.out) c.close.ensures
