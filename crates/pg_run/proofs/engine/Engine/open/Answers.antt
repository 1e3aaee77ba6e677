use Rattle.std.proofs.Common.{◌+◌, ap, rules}
use Rattle.pg_plan.specs.Plan.{Opens}
use Rattle.pg_run.specs.Holding.{past_of, format_of}
use Rattle.pg_run.proofs.HoldLemmas.{holds_step}
use Rattle.std.proofs.lemmas.Result.{IfOk-from_err}
use Rattle.pg_run.proofs.engine.Engine.open.Goals as goal

pub returns : goal.returns
returns g c = λ aim steps out ready.
    let h = ready.0 in (
      holds_step h _ (Opens c.args.name.now) ready.1 h.same h.set (ap (λ n. n + 1) h.count) h.blocks
          (c.in_ok-open.ensures.ok (past_of aim.query (format_of aim) h.events h.written) h.stands),
      search rules,
      c.new.ensures.drained,
    )

pub returns-in_err-open : goal.returns-in_err-open
returns-in_err-open g c = λ aim steps out ready. IfOk-from_err c.from_residual.result _ c.from_residual.ensures.0

pub invariant_of-self : goal.invariant_of-self
invariant_of-self g c =
    let s = c.args.self.now in
    record {
      fits = s.fits;
      few_scratches = s.few_scratches;
      all_fit = s.all_fit;
      endless = s.endless;
      at_once = s.at_once;
      few = s.few;
    }

pub invariant_of-self-2 : goal.invariant_of-self-2
invariant_of-self-2 g c =
    let s = c.args.self.now in
    record {
      fits = s.fits;
      few_scratches = s.few_scratches;
      all_fit = s.all_fit;
      endless = s.endless;
      at_once = s.at_once;
      few = s.few;
    }
