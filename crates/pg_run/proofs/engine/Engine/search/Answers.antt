use Rattle.std.proofs.Common.{◌∙◌, ◌∷◌, sym}
use Rattle.std.proofs.lemmas.Bool.{false≢true}
use Rattle.pg_plan.specs.Plan.{Announces}
use Rattle.pg_run.proofs.HoldLemmas.{broke_step, fails_by}
use Rattle.pg_run.proofs.engine.Engine.search.Goals as goal

pub returns-in_err-add : goal.returns-in_err-add
returns-in_err-add g c = λ aim steps ready.
    fails_by c.from_residual.result _ _ c.from_residual.ensures.1 (broke_step ready.0 (Announces c.args.block) ready.1)

pub returns-in_err-kept : goal.returns-in_err-kept
returns-in_err-kept g c = λ aim steps ready.
    fails_by c.from_residual-in_err-kept.result _ _ c.from_residual-in_err-kept.ensures.1
    (broke_step ready.0 (Announces c.args.block) ready.1)

pub add-requires-clause-room : goal.add-requires-clause-room
add-requires-clause-room g c = c.requires.room c.if-self.true

pub drain-requires : goal.drain-requires
drain-requires g c = record { none = c.in_ok-kept.ensures.none }

pub returns-then-self : goal.returns-then-self
returns-then-self g c = λ aim steps ready. (
  c.in_ok-add.ensures aim steps (g.W.Sink.stream c.args.out.now) ready,
  λ at_once. absurd (false≢true (sym at_once ∙ c.if-self.true)),
)

pub returns-in_err-drain : goal.returns-in_err-drain
returns-in_err-drain g c = λ aim steps ready.
    let out = g.W.Sink.stream c.args.out.now in
    let next = Announces c.args.block ∷ steps in
    fails_by c.from_residual-in_err-drain.result _ _ c.from_residual-in_err-drain.ensures.1
    (c.in_err-drain.ensures.empties.outcome aim next (c.in_ok-kept.ensures.ok aim steps out ready))

pub returns : goal.returns
returns g c = λ aim steps ready.
    let both = c.in_ok-drain.ensures.empties.outcome aim (Announces c.args.block ∷ steps)
    (c.in_ok-kept.ensures.ok aim steps (g.W.Sink.stream c.args.out.now) ready) in
    let h = both.0 in (
      record {
        same = h.same;
        set = h.set;
        count = h.count;
        events = h.events;
        written = h.written;
        stands = h.stands;
        planned = h.planned;
        taken = h.taken;
        blocks = h.blocks;
        all = h.all;
        safe = h.safe;
        got = h.got;
        calm = h.calm;
      },
      λ at_once. both.1,
    )
