use Rattle.std.proofs.Common.{◌≡◌, ◌+◌, ◌++◌, map, drop, length, sym, ap, ◌∙◌, arith}
use Rattle.std.proofs.lemmas.List.{at_drop_all}
use Rattle.std.specs.String.{string_bytes}
use Rattle.pg_walk.specs.Places.{child}
use Rattle.pg_walk.specs.Answers.{Path}
use Rattle.pg_walk.specs.Left.{Spot, Entry, spots_in}
use Rattle.pg_walk.proofs.Lefts.{pushed}
use Rattle.pg_walk.proofs.walker.push_below.Goals as goal

pub loop-left-init : goal.loop-left-init
loop-left-init g c = (
  sym (at_drop_all (λ l. map (λ n. Entry (child c.args.path.now n) (c.args.depth + 1)) (map string_bytes l)
      ++ spots_in c.args.waiting.now.items) c.args.names.now (length c.args.names.now) (omega arith)),
  omega arith,
)

pub offset_bounds-names-left : goal.offset_bounds-names-left
offset_bounds-names-left g c = omega (arith, c.loop-left.invariant.1)

pub bounds-names-left : goal.bounds-names-left
bounds-names-left g c = omega (arith, c.loop-left.invariant.1, c.loop-left-test.true)

pub loop-left-preserved : goal.loop-left-preserved
loop-left-preserved g c =
    let at : Path → Spot = λ n. Entry (child c.args.path.now n) (c.args.depth + 1) in (
      pushed at string_bytes c.args.names.now _ _ _ c.index-names-left.result _ c.loop-left.left c.loop-left-test.true
          c.loop-left.invariant.1 c.in_ok-push.ensures.items
          (ap (λ p. Entry p (c.args.depth + 1))
          (c.in_ok-below.ensures ∙ ap (child c.args.path.now) c.as_str.ensures.value))
          c.index-names-left.is c.loop-left.invariant.0,
      omega (arith, c.loop-left.invariant.1),
    )

pub returns : goal.returns
returns g c =
    let none : c.loop-left.left ≡ 0 = omega (arith, c.loop-left-test.false) in
    c.loop-left.invariant.0
    ∙ ap (λ k.
    map (λ n. Entry (child c.args.path.now n) (c.args.depth + 1)) (map string_bytes (drop k c.args.names.now))
    ++ spots_in c.args.waiting.now.items) none
