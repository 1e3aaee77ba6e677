use Rattle.std.proofs.Common.{◌∙◌, inr, refl, subst, sym}
use Rattle.pg_selection.specs.Search.{AreTreesOf, search_of}
use Rattle.pg_run.specs.Searches.{FindsLines}
use Rattle.pg_run.proofs.HoldLemmas.{err_by}
use Rattle.pg_search.specs.Outcome.{SearchBreaksOff}
use Rattle.pg_search.specs.Searches.{seen_of}
use Rattle.pg_search.specs.declared.fault.SearchFault.TheVariants.{Run}
use Rattle.pg_search.proofs.running.run.Goals as goal

pub run-requires-clause-finds : goal.run-requires-clause-finds
run-requires-clause-finds g c κs within =
    let same = c.in_ok-selector.ensures ∙ c.selector.ensures in
    subst (FindsLines (seen_of c.in_ok-query.query)) (sym same)
    (record { may = λ block short. short; finds = λ block found is. is })

pub returns-in_err-status-clause-err : goal.returns-in_err-status-clause-err
returns-in_err-status-clause-err g c =
    let compiled = c.in_ok-query.ensures.compiled in
    let text = c.in_ok-query.ensures.text in
    let own = subst (λ t. AreTreesOf t compiled.0) text compiled.1 in
    let q = search_of c.args.text compiled.0 in
    let same = c.in_ok-selector.ensures ∙ (c.selector.ensures ∙ text) in
    let P =
    SearchBreaksOff c.args.text c.args.setup (g.F.Files.past c.run.new.files) (g.W.Sink.stream c.args.out.now)
    (g.W.Sink.stream c.run.new.out) (g.E.Sink.stream c.args.faults.now) (g.E.Sink.stream c.run.new.faults) in
    err_by c.from_residual-in_err-status.result P (Run c.in_err-status.field-0.0)
    c.from_residual-in_err-status.ensures.1
    (inr (q, (refl, own), c.in_err-status.ensures.outcome q (sym same, own)))

pub returns-clause-ok : goal.returns-clause-ok
returns-clause-ok g c =
    let compiled = c.in_ok-query.ensures.compiled in
    let text = c.in_ok-query.ensures.text in
    let own = subst (λ t. AreTreesOf t compiled.0) text compiled.1 in
    let q = search_of c.args.text compiled.0 in
    let same = c.in_ok-selector.ensures ∙ (c.selector.ensures ∙ text) in
    (q, (refl, own), c.in_ok-status.ensures.outcome q (sym same, own))
