use Rattle.std.proofs.Common.{◌≡◌, ◌∙◌, ap, arith, length, map, refl, subst, sym}
use Rattle.std.specs.Arc.{arc_value}
use Rattle.pg_selection.specs.Search.{SearchText, AreTreesOf, search_of, terminator_of}
use Rattle.pg_rows.specs.declared.format.Format.{Format}
use Rattle.pg_plan.specs.History.{past_at_start}
use Rattle.pg_seq.specs.Standing.{IsAfter}
use Rattle.pg_run.specs.Searches.{FindsLines}
use Rattle.pg_run.proofs.HoldLemmas.{holds_new}
use Rattle.pg_run.proofs.engine.Engine.new.Goals as goal

pub returns-clause-new : goal.returns-clause-new
returns-clause-new g c = λ aim trees text set.
    let view = g.Q.BlockSearch.seen c.args.query.now in
    let same : arc_value c.args.selector ≡ aim.query.text = sym text in
    let T : SearchText → Type 0 = λ t. AreTreesOf t aim.query.trees in
    let S : SearchText → Type 0 =
    λ t. IsAfter c.in_ok-sequencer.sequencer (past_at_start (search_of t aim.query.trees) c.args.setup.format) in
    let F : Format → Type 0 = λ f. IsAfter c.in_ok-sequencer.sequencer (past_at_start aim.query f) in
    let stands = subst S same (c.in_ok-sequencer.ensures aim.query.trees (subst T (sym same) trees)) in
    holds_new _ aim (
      subst (FindsLines view) same c.requires,
      c.terminator-terminator.ensures ∙ ap terminator_of (c.text.ensures.text ∙ (c.deref.ensures ∙ same)),
    ) (sym set) refl (ap (λ xs. map arc_value xs) c.new-3.ensures.items)
    (subst F (ap (λ s. s.format) (sym set)) stands)

pub invariant_of-result-clause-few_scratches : goal.invariant_of-result-clause-few_scratches
invariant_of-result-clause-few_scratches g c = omega (arith, ap length c.new-2.ensures.items)

pub invariant_of-result-clause-all_fit : goal.invariant_of-result-clause-all_fit
invariant_of-result-clause-all_fit g c = λ k d below. absurd (omega (arith, ap length c.new-2.ensures.items, below))

pub invariant_of-result-clause-at_once : goal.invariant_of-result-clause-at_once
invariant_of-result-clause-at_once g c = λ spread. c.new-3.ensures.items
