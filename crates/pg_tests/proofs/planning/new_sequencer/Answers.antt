use Rattle.std.proofs.Common.{◌≡◌, cond, refl, ap, sym, subst, ◌∙◌}
use Rattle.std.specs.Arc.{arc_value}
use Rattle.pg_selection.specs.Search.{SearchText, AreTreesOf, search_of}
use Rattle.pg_plan.specs.History.{past_at_start}
use Rattle.pg_tests.proofs.planning.new_sequencer.Goals as goal

pub returns : goal.returns
returns g c =
    let own = c.text-text.ensures.compiled in
    let text = arc_value c.in_ok-try_clone.field-0 in
    let cloned : text ≡ c.args.query.now.text = c.in_ok-try_clone.ensures ∙ c.selector.ensures in
    let P : SearchText → Type 0 = λ t. AreTreesOf t own.0 in
    record {
      past = past_at_start (search_of text own.0) c.args.format;
      stands = c.in_ok-sequencer.ensures own.0 (subst P (sym cloned) own.1);
      closed = refl;
      number = refl;
      ends = ap (λ (t : SearchText). cond t.zero 0 10) cloned ∙ ap (λ v. cond v 0 10) c.requires.zero;
    }
