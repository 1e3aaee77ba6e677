use Rattle.std.proofs.Common.{◌∙◌, ap, map, not, sym}
use Rattle.std.specs.Arc.{arc_value}
use Rattle.pg_plan.specs.Plan.{entries_of}
use Rattle.pg_run.specs.Endless.{is_endless}
use Rattle.pg_run.specs.Holding.{past_of, format_of}
use Rattle.pg_run.proofs.EndlessLemmas.{never_enough}
use Rattle.pg_run.proofs.HoldLemmas.{enough_is}
use Rattle.pg_run.proofs.engine.Engine.enough.Goals as goal

pub returns-then-not-self : goal.returns-then-not-self
returns-then-not-self g c = λ aim steps out h.
    c.enough.ensures (past_of aim.query (format_of aim) h.events h.written) h.stands
    ∙ enough_is h (ap (λ xs. map arc_value xs) (c.args.self.now.at_once c.if-not-self.true))

pub returns-else-not-self : goal.returns-else-not-self
returns-else-not-self g c = λ aim steps out h.
    let endless = ap (λ setup. is_endless setup.format) (sym h.set) ∙ c.args.self.now.endless c.if-not-self.false in
    ap not c.if-not-self.false ∙ sym (never_enough aim.query (format_of aim) (entries_of steps) endless)
