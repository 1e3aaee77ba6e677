use Rattle.std.proofs.Common.{rules, Vec, ℕ, ◌∙◌, sym, subst}
use Rattle.std.specs.List.{All}
use Rattle.pg_prefilter.specs.Enough.{IsOneEnough}
use Rattle.pg_prefilter.proofs.EnoughLemmas.{all_push}
use Rattle.pg_prefilter.proofs.literal_set.copies_of_enough.Goals as goal
use Rattle.pg_prefilter.proofs.literal_set.copies_of_enough.Goals.{then-literal+in_ok-to_vec+in_ok-push, else-literal}

pub loop-literal-preserved : goal.loop-literal-preserved
loop-literal-preserved g c =
    let literals = c.args.literals.now in
    let was = c.loop-literal.invariant in
    let Of : Vec ℕ g.row.A.Denot → Type 0 = λ copy. IsOneEnough literals copy.items in
    let literal = c.literal-item.result in
    elim c.if-literal.branch [
      | then-literal+in_ok-to_vec+in_ok-push w ↦
          subst (λ (v : Vec (Vec ℕ g.row.A.Denot) g.row.A.Denot). All Of v.items) (sym w.texts-is)
          (subst (All Of) (sym w.in_ok-push.ensures.items)
          (all_push Of c.loop-literal.texts.items w.in_ok-to_vec.field-0 was (
            c.loop-literal.literal-index,
            literal,
            c.loop-literal-test.true,
            sym c.literal-item.is,
            (w.if-literal.true, sym (w.in_ok-to_vec.ensures.items_if_clones_equal (λ y h. search rules) ∙ w.deref.ensures.value)),
          )))
      | else-literal w ↦
          subst (λ (v : Vec (Vec ℕ g.row.A.Denot) g.row.A.Denot). All Of v.items) (sym w.texts-is) was
    ]
