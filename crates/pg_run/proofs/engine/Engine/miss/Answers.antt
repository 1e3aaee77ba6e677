use Rattle.pg_base.proofs.SinkLemmas.{on_ok}
use Rattle.pg_plan.specs.Plan.{Misses}
use Rattle.pg_run.specs.Holding.{past_of, format_of}
use Rattle.pg_run.proofs.HoldLemmas.{holds_step}
use Rattle.pg_run.proofs.engine.Engine.miss.Goals as goal

pub returns : goal.returns
returns g c = λ aim steps out ready.
    let h = ready.0 in
    on_ok c.miss.result _ _ (λ k. holds_step h _ (Misses c.args.name.now) ready.1 h.same h.set h.count h.blocks k)
    (c.miss.ensures.ok (past_of aim.query (format_of aim) h.events h.written) h.stands)

pub invariant_of-self : goal.invariant_of-self
invariant_of-self g c =
    let s = c.args.self.now in
    record {
      fits = s.fits;
      few_scratches = s.few_scratches;
      all_fit = s.all_fit;
      endless = s.endless;
      at_once = s.at_once;
      few = s.few;
    }
