use Rattle.std.proofs.Common.{◌∙◌, map, ap, sym, subst, arith}
use Rattle.std.proofs.lemmas.Bool.{eqb-false}
use Rattle.pg_pattern.specs.Trees.{pattern}
use Rattle.pg_literal.specs.Needed.{without, IsEnoughRow, IsNeeded}
use Rattle.pg_literal.specs.Rows.{row_of, row_along}
use Rattle.pg_literal.proofs.FinderLemmas.{enough_row, flag_of_finder, needed_row, of_finder}
use Rattle.pg_literal.proofs.SuffixLemmas.{list_of_one, row_size}
use Rattle.pg_literal.proofs.row_finder.RowFinder.of.Goals as goal

pub returns-clause-needed : goal.returns-clause-needed
returns-clause-needed g c =
    let trees = c.args.trees.now in
    let tree = c.index-trees-0.result in
    let row = c.in_ok-row.row.sets.items in
    let sets = c.in_ok-sets.sets.items in
    let some = eqb-false _ 0 (sym c.is_empty.ensures ∙ c.if-is_empty.false) in
    let one = list_of_one trees tree (omega arith) c.index-trees-0.is in
    of_finder (λ sets. IsNeeded (map pattern trees) c.args.bounds c.args.end (row_along sets)) sets c.over.result
    c.over.ensures.sets
    (subst (λ ts. IsNeeded ts c.args.bounds c.args.end (row_along sets)) (sym (ap (map pattern) one))
    (needed_row (pattern tree) c.args.bounds c.args.end (row_of row) (row_along sets) c.in_ok-row.ensures.row
    (omega (arith, some, row_size row, c.in_ok-row.row.sets.ok.0))
    (c.in_ok-sets.ensures ∙ ap (λ (xs : _). map (without c.args.end) (row_of xs)) c.deref-2.ensures.value)))

pub returns-clause-enough : goal.returns-clause-enough
returns-clause-enough g c =
    let trees = c.args.trees.now in
    let tree = c.index-trees-0.result in
    let row = c.in_ok-row.row.sets.items in
    let sets = c.in_ok-sets.sets.items in
    let one = list_of_one trees tree (omega arith) c.index-trees-0.is in
    flag_of_finder (λ sets. IsEnoughRow (map pattern trees) c.args.bounds (row_along sets)) sets c.over.result _
    c.over.ensures.sets c.over.ensures.enough (λ enough.
    let says = c.is_enough-is_enough.ensures enough in
    subst (λ ts. IsEnoughRow ts c.args.bounds (row_along sets)) (sym (ap (map pattern) one))
    (enough_row (pattern tree) c.args.bounds c.args.end (row_of row) (row_along sets) says.1
    (c.in_ok-row.ensures.sure says.0)
    (c.in_ok-sets.ensures ∙ ap (λ (xs : _). map (without c.args.end) (row_of xs)) c.deref-2.ensures.value)))
