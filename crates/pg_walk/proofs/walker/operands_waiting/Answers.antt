use Rattle.std.proofs.Common.{◌≡◌, [], map, drop, length, sym, ap, ◌∙◌, arith, append-nil}
use Rattle.std.proofs.lemmas.List.{at_drop_all}
use Rattle.std.specs.String.{string_bytes}
use Rattle.pg_walk.specs.Answers.{Path}
use Rattle.pg_walk.specs.Left.{Spot, Operand, spots_in}
use Rattle.pg_walk.proofs.Lefts.{pushed}
use Rattle.pg_walk.proofs.walker.operands_waiting.Goals as goal

pub loop-left-init : goal.loop-left-init
loop-left-init g c = (
  ap spots_in c.new-waiting.ensures.items
      ∙ sym (at_drop_all (λ l. map (λ path. Operand path) (map string_bytes l)) c.args.operands.now
      (length c.args.operands.now) (omega arith)),
  omega arith,
)

pub offset_bounds-operands-left : goal.offset_bounds-operands-left
offset_bounds-operands-left g c = omega (arith, c.loop-left.invariant.1)

pub bounds-operands-left : goal.bounds-operands-left
bounds-operands-left g c = omega (arith, c.loop-left.invariant.1, c.loop-left-test.true)

pub loop-left-preserved : goal.loop-left-preserved
loop-left-preserved g c =
    let at : Path → Spot = λ path. Operand path in (
      pushed at string_bytes c.args.operands.now _ _ _ c.index-operands-left.result [] c.loop-left.left
          c.loop-left-test.true c.loop-left.invariant.1 c.in_ok-push.ensures.items
          (ap (λ p. Operand p) (c.in_ok-path.ensures.ok ∙ c.as_str.ensures.value))
          c.index-operands-left.is (c.loop-left.invariant.0 ∙ sym (append-nil _)) ∙ append-nil _,
      omega (arith, c.loop-left.invariant.1),
    )

pub returns : goal.returns
returns g c =
    let none : c.loop-left.left ≡ 0 = omega (arith, c.loop-left-test.false) in
    c.loop-left.invariant.0
    ∙ ap (λ k. map (λ path. Operand path) (map string_bytes (drop k c.args.operands.now))) none
