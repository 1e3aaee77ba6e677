use Rattle.std.proofs.Common.{length, map, arith, refl, ap, ◌∙◌}
use Rattle.std.specs.Prelude.{option_map}
use Rattle.std.proofs.lemmas.Option.{slice_get_read, slice_get-map}
use Rattle.pg_pattern.specs.Trees.{pattern}
use Rattle.pg_match.proofs.BuildLemmas.{each_proper, more_size}
use Rattle.pg_match.proofs.size.list_size.Goals as goal
use Rattle.pg_match.proofs.size.list_size.Goals.{then-i-eq0, else-i-eq0}

pub size-one-requires : goal.size-one-requires
size-one-requires g c =
    let trees = c.args.trees.now in
    let read = slice_get_read trees (length trees) c.loop-i.i c.index-trees-i.result refl
    (omega arith) c.index-trees-i.is in
    each_proper (map pattern trees) c.requires c.loop-i.i (pattern c.index-trees-i.result)
    (slice_get-map pattern trees c.loop-i.i ∙ ap (option_map pattern) read)

pub loop-i-preserved : goal.loop-i-preserved
loop-i-preserved g c =
    let trees = c.args.trees.now in
    let read = slice_get_read trees (length trees) c.loop-i.i c.index-trees-i.result refl
    (omega arith) c.index-trees-i.is in
    let more = more_size (map pattern trees) c.loop-i.i (pattern c.index-trees-i.result)
    (slice_get-map pattern trees c.loop-i.i ∙ ap (option_map pattern) read) in
    elim c.if-i-eq0.branch [
      | then-i-eq0 w ↦ omega (arith, more, c.loop-i.invariant)
      | else-i-eq0 w ↦ omega (arith, more, c.loop-i.invariant)
    ]

pub offset_bounds-trees-i : goal.offset_bounds-trees-i
offset_bounds-trees-i g c = omega arith

pub bounds-trees-i : goal.bounds-trees-i
bounds-trees-i g c = omega arith

pub overflow_add-total : goal.overflow_add-total
overflow_add-total g c = omega arith

pub overflow_add-total-in-loop-i : goal.overflow_add-total-in-loop-i
overflow_add-total-in-loop-i g c = omega arith

pub overflow_add-total-2 : goal.overflow_add-total-2
overflow_add-total-2 g c = omega arith

pub loop-i-init : goal.loop-i-init
loop-i-init g c = omega arith
