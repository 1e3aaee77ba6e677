use Rattle.std.proofs.Common.{ap, map, refl}
use Rattle.std.specs.Arc.{arc_value}
use Rattle.pg_run.specs.Holding.{past_of, format_of}
use Rattle.pg_run.proofs.HoldLemmas.{holds_drained, broke_drained, fails_by}
use Rattle.pg_base.proofs.SinkLemmas.{ok_of_err}
use Rattle.pg_run.proofs.engine.Engine.drain.Goals as goal

pub returns-clause-empties : goal.returns-clause-empties
returns-clause-empties g c = record {
  kept = (refl, refl);
  none = c.requires.none;
  outcome = λ aim steps h.
      let d = c.in_ok-drain.ensures.drained (past_of aim.query (format_of aim) h.events h.written) h.stands in
      let out' = g.W.Sink.stream c.drain.new.out in
      let none = ap (λ xs. map arc_value xs) c.requires.none in
      holds_drained h none _ d.0 out' h.same h.set h.count none d.1 c.in_ok-drain.ensures.no_failure d.2 d.3;
}

pub returns-in_err-drain-clause-empties : goal.returns-in_err-drain-clause-empties
returns-in_err-drain-clause-empties g c = record {
  kept = (refl, refl);
  none = ok_of_err c.from_residual.result _ c.from_residual.ensures.0;
  outcome = λ aim steps h.
      let d = c.in_err-drain.ensures.drained (past_of aim.query (format_of aim) h.events h.written) h.stands in
      let out' = g.W.Sink.stream c.drain.new.out in
      fails_by c.from_residual.result _ _ c.from_residual.ensures.1
      (broke_drained h (ap (λ xs. map arc_value xs) c.requires.none) d.0 out' c.in_err-drain.field-0.0 d.1 d.2
      c.in_err-drain.ensures.cause);
}

pub invariant_of-self : goal.invariant_of-self
invariant_of-self g c =
    let s = c.args.self.now in
    record {
      fits = s.fits;
      few_scratches = s.few_scratches;
      all_fit = s.all_fit;
      endless = s.endless;
      at_once = s.at_once;
      few = s.few;
    }
