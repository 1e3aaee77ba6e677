use Rattle.std.proofs.Common.{◌≡◌, ℕ, Option, IfNone, true, subst, arith}
use Rattle.std.proofs.lemmas.List.Elements.{All-set}
use Rattle.pg_workers.specs.declared.worker.Worker.{Worker}
use Rattle.pg_workers.specs.Workers.{task_of, HasFinished}
use Rattle.pg_workers.proofs.ListLemmas.{any_first}
use Rattle.pg_workers.proofs.finishing.search_rest.Goals as goal

pub returns-in-None-clause-finished : goal.returns-in-None-clause-finished
returns-in-None-clause-finished g c =
    let done = c.in_ok-finish_all.ensures in (
      done.0,
      All-set (HasFinished (task_of g.Q.BlockSearch.seen c.args.round)) c.finish_all.new.workers.items 0
          c.search.new.worker
          (c.search.ensures.worked, c.in-None.is) done.1,
    )

pub returns-in-None-clause-spent : goal.returns-in-None-clause-spent
returns-in-None-clause-spent g c =
    let first = c.search.new.worker in
    let P : Worker g.row.A.Denot g.row.C.Denot → Type 0 = λ w. w.seat.spent ≡ true in
    let n = c.in_ok-finish_all.ensures.0 in let q = c.requires.worked.1 in let l = c.finish_all.new.workers.ok.0 in
    any_first P c.finish_all.new.workers.items first (omega arith)
    (subst (λ (o : Option ℕ). IfNone o (first.seat.spent ≡ true)) c.in-None.is c.search.ensures.spent)
