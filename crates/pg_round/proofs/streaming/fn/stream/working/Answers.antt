use Rattle.std.proofs.Common.{◌∙◌, IfSome, subst, sym}
use Rattle.pg_workers.specs.Workers.{task_of, AreBack}
use Rattle.pg_round.proofs.streaming.fn.stream.working.Goals as goal

pub returns : goal.returns
returns g c =
    let some = sym c.take.ensures.value ∙ c.in-Some.is in let t = task_of g.Q.BlockSearch.seen c.captures.round.now in
    let back = c.run_workers.result.items in
    subst (λ jobs. IfSome jobs (λ workers. AreBack t workers.items back)) (sym some) c.run_workers.ensures
