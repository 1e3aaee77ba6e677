use Rattle.std.proofs.Common.{◌≡◌, ◌∙◌, ap, map, subst, Option, ℕ}
use Rattle.std.specs.Arc.{arc_value}
use Rattle.std.specs.Option.{MatchOption}
use Rattle.pg_plan.specs.History.{IsComplete, status_of}
use Rattle.pg_run.specs.Holding.{past_of, format_of}
use Rattle.pg_run.proofs.HoldLemmas.{complete_is, status_is, some_status, fails_by}
use Rattle.pg_run.proofs.engine.Engine.finish.Goals as goal

pub unwrap-requires : goal.unwrap-requires
unwrap-requires g c =
    let aim = c.requires.holds.0 in
    let k = (c.in_ok-flush.ensures.outcome aim c.requires.holds.1 c.requires.holds.2).0 in
    let none = ap (λ xs. map arc_value xs) c.in_ok-flush.ensures.none in
    let past = past_of aim.query (format_of aim) k.events k.written in
    some_status past c.status.result (complete_is k none c.requires.holds.3) (c.status.ensures past k.stands)

pub returns : goal.returns
returns g c = λ aim steps h.
    let both = c.in_ok-flush.ensures.outcome aim steps h in
    let k = both.0 in
    let none = ap (λ xs. map arc_value xs) c.in_ok-flush.ensures.none in
    let past = past_of aim.query (format_of aim) k.events k.written in
    let P : Option ℕ → Type 0 =
    λ r. MatchOption r (IsComplete past → ⊥) (λ s. IsComplete past × (s ≡ status_of past)) in
    record {
      written = both.1;
      answered = (subst P c.unwrap.ensures (c.status.ensures past k.stands)).1 ∙ status_is k none;
      calm = k.calm;
    }

pub returns-in_err-flush : goal.returns-in_err-flush
returns-in_err-flush g c =
    λ aim steps h.
    fails_by c.from_residual.result _ _ c.from_residual.ensures.1 (c.in_err-flush.ensures.outcome aim steps h)

pub flush-requires-clause-holds : goal.flush-requires-clause-holds
flush-requires-clause-holds g c κs within = let h = c.requires.holds in (h.0, h.1, h.2)
