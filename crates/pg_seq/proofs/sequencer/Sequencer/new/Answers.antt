use Rattle.std.proofs.Common.{subst}
use Rattle.std.specs.Arc.{arc_value}
use Rattle.pg_selection.specs.Search.{SearchText, HasTrees, search_of}
use Rattle.pg_plan.specs.History.{past_at_start}
use Rattle.pg_seq.proofs.sequencer.Sequencer.new.Goals as goal

pub invariant_of-result : goal.invariant_of-result
invariant_of-result g c =
    let text = arc_value c.args.selector in
    let P : SearchText → Type 0 = λ t. HasTrees t in
    let has : HasTrees text = subst P c.deref-selects.ensures c.text-text.ensures.spelled in
    (past_at_start (search_of text has.0) c.args.format, c.in_ok-assembler.ensures has.0 has.1)
