use Rattle.std.proofs.Common.{◌≡◌, ◌∙◌, ◌∷◌, ◌++◌, [], ap, map, subst, sym}
use Rattle.std.specs.Arc.{arc_value}
use Rattle.std.proofs.lemmas.List.{map-append}
use Rattle.pg_selection.specs.Search.{terminator}
use Rattle.pg_blocks.specs.Blocks.{BlockData}
use Rattle.pg_plan.specs.Plan.{Announces, MayFollow}
use Rattle.pg_plan.specs.History.{plan, planned}
use Rattle.pg_seq.specs.Standing.{IsAfter}
use Rattle.pg_run.specs.Holding.{past_of, format_of}
use Rattle.pg_run.proofs.HoldLemmas.{may_past, holds_waiting}
use Rattle.pg_base.proofs.SinkLemmas.{ok_of_err}
use Rattle.pg_run.proofs.engine.Engine.add.Goals as goal

pub returns : goal.returns
returns g c = λ aim steps out ready.
    let h = ready.0 in
    let m = ready.1 in
    let past = past_of aim.query (format_of aim) h.events h.written in
    let b : arc_value c.in_ok-block.block ≡ c.args.block = c.in_ok-block.ensures.ok in
    let same : arc_value c.in_ok-try_clone.field-0 ≡ c.args.block = c.in_ok-try_clone.ensures ∙ b in
    let F : BlockData → Type 0 = λ x. MayFollow (terminator aim.query) (plan past) (Announces x) in
    let M : BlockData → Type 0 = λ x. IsAfter c.announce.new.self (planned past (Announces x)) in
    let may = subst F (sym same) (may_past h (Announces c.args.block) m) in
    let middle = subst M same (c.in_ok-announce.ensures.ok past h.stands may) in
    let old = c.args.self.now.round.items in
    let more = ap (λ xs. map arc_value xs) c.in_ok-push.ensures.items
    ∙ (map-append arc_value old (c.in_ok-block.block ∷ []) ∙ ap (λ x. map arc_value old ++ x ∷ []) b) in
    holds_waiting h _ c.args.block m h.same h.set h.count more middle

pub returns-in_err-block : goal.returns-in_err-block
returns-in_err-block g c = λ aim steps out ready. ok_of_err c.from_residual.result _ c.from_residual.ensures.0

pub returns-in_err-try_clone : goal.returns-in_err-try_clone
returns-in_err-try_clone g c =
    λ aim steps out ready.
    ok_of_err c.from_residual-in_err-try_clone.result _ c.from_residual-in_err-try_clone.ensures.0

pub returns-in_err-announce : goal.returns-in_err-announce
returns-in_err-announce g c =
    λ aim steps out ready.
    ok_of_err c.from_residual-in_err-announce.result _ c.from_residual-in_err-announce.ensures.0

pub returns-in_err-push : goal.returns-in_err-push
returns-in_err-push g c =
    λ aim steps out ready.
    ok_of_err c.from_residual-in_err-push.result _ c.from_residual-in_err-push.ensures.0

pub invariant_of-self : goal.invariant_of-self
invariant_of-self g c =
    let s = c.args.self.now in
    record {
      fits = s.fits;
      few_scratches = s.few_scratches;
      all_fit = s.all_fit;
      endless = s.endless;
      at_once = s.at_once;
      few = s.few;
    }

pub invariant_of-self-in-Break-branch-3 : goal.invariant_of-self-in-Break-branch-3
invariant_of-self-in-Break-branch-3 g c =
    let s = c.args.self.now in
    record {
      fits = s.fits;
      few_scratches = s.few_scratches;
      all_fit = s.all_fit;
      endless = s.endless;
      at_once = s.at_once;
      few = s.few;
    }
