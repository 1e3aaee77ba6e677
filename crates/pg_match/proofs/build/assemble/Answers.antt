use Rattle.std.proofs.Common.{◌≡◌, length, map, arith, refl, Some, ap, ◌∙◌, subst, sum_by, take, take_all}
use Rattle.std.specs.Prelude.{slice_get, option_map}
use Rattle.std.proofs.lemmas.List.{length-map}
use Rattle.std.proofs.lemmas.Option.{slice_get_read, slice_get-map}
use Rattle.pg_pattern.specs.Trees.{pattern}
use Rattle.pg_match.specs.Sizes.{size_of}
use Rattle.pg_match.specs.Tables.{HasFirst}
use Rattle.pg_match.proofs.BuildLemmas.{any_some, begun, each_proper, room_for, some_any}
use Rattle.pg_match.proofs.build.assemble.Goals as goal

pub add-requires-clause-proper : goal.add-requires-clause-proper
add-requires-clause-proper g c =
    let trees = c.args.trees.now in
    let read = slice_get_read trees (length trees) c.loop-i.i c.index-trees-i.result refl
    (omega arith) c.index-trees-i.is in
    each_proper (map pattern trees) c.requires.proper c.loop-i.i (pattern c.index-trees-i.result)
    (slice_get-map pattern trees c.loop-i.i ∙ ap (option_map pattern) read)

pub add-requires-clause-fits : goal.add-requires-clause-fits
add-requires-clause-fits g c =
    let trees = c.args.trees.now in
    let read = slice_get_read trees (length trees) c.loop-i.i c.index-trees-i.result refl
    (omega arith) c.index-trees-i.is in
    let fits = room_for (map pattern trees) c.loop-i.i (pattern c.index-trees-i.result)
    (slice_get-map pattern trees c.loop-i.i ∙ ap (option_map pattern) read) in
    omega (arith, fits, c.loop-i.invariant.size, c.requires.small)

pub add-requires-clause-next_in : goal.add-requires-clause-next_in
add-requires-clause-next_in g c = omega arith

pub add_choice-requires : goal.add_choice-requires
add_choice-requires g c = λ some.
    let trees = c.args.trees.now in
    let read = slice_get_read trees (length trees) c.loop-i.i c.index-trees-i.result refl
    (omega arith) c.index-trees-i.is in
    let fits = room_for (map pattern trees) c.loop-i.i (pattern c.index-trees-i.result)
    (slice_get-map pattern trees c.loop-i.i ∙ ap (option_map pattern) read) in
    omega (arith, fits, c.loop-i.invariant.size, c.requires.small, c.in_ok-entry.ensures.size, some)

pub loop-i-init : goal.loop-i-init
loop-i-init g c = begun _ _ _ _ c.new-states.ensures.items c.in_ok-push.ensures

pub loop-i-preserved : goal.loop-i-preserved
loop-i-preserved g c =
    let trees = c.args.trees.now in
    let read = slice_get_read trees (length trees) c.loop-i.i c.index-trees-i.result refl
    (omega arith) c.index-trees-i.is in
    let here : slice_get (map pattern trees) c.loop-i.i ≡ Some (pattern c.index-trees-i.result) =
    slice_get-map pattern trees c.loop-i.i ∙ ap (option_map pattern) read in
    c.in_ok-start.ensures _ _ _ c.loop-i.invariant c.in_ok-entry.ensures here

pub push-requires : goal.push-requires
push-requires g c = omega arith

pub automaton_of-requires-clause-few : goal.automaton_of-requires-clause-few
automaton_of-requires-clause-few g c =
    let size = c.loop-i.invariant.size in
    let trees = c.args.trees.now in
    let same = length-map trees pattern in
    let all = take_all c.loop-i.i (map pattern trees) (omega (arith, same, c.loop-i-test.false)) in
    let most : sum_by size_of (take c.loop-i.i (map pattern trees)) ≡ sum_by size_of (map pattern trees) =
    ap (sum_by size_of) all in
    let last = c.loop-i.auto.i-end in
    omega (arith, size, most, same, last, c.loop-i-test.false, c.requires.small)

pub returns : goal.returns
returns g c =
    let trees = c.args.trees.now in
    let patterns = map pattern trees in
    let same = length-map trees pattern in
    let end : c.loop-i.i ≡ length patterns = omega (arith, same) in
    c.automaton_of.ensures patterns c.requires.proper
    (subst (λ i. HasFirst c.loop-i.states.items patterns i c.loop-i.start) end c.loop-i.invariant) (
      λ h. let n = any_some (length trees) _ c.is_empty.ensures h in omega (arith, same, n),
      λ h. some_any (length trees) _ c.is_empty.ensures (omega (arith, same, h)),
    ) c.hit_reach-reach.ensures
