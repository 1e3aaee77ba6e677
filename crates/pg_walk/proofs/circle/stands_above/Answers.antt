use Rattle.std.proofs.Common.{ℕ, ◌≡◌, ◌-◌, ◌||◌, List, refl, sym, ap, ◌∙◌, arith}
use Rattle.std.specs.Prelude.{slice_index}
use Rattle.std.proofs.lemmas.Str.{IsCharBoundary-after_ascii}
use Rattle.pg_walk.proofs.CircleLemmas.{is_own, some_above, behind_slash, behind_other, at_head}
use Rattle.pg_walk.proofs.circle.stands_above.Goals as goal

slash_in : (bytes path : List ℕ) (at : ℕ) → bytes ≡ path → slice_index bytes at ≡ 47 → slice_index path at ≡ 47
slash_in bytes path at same e = ap (λ p. slice_index p at) (sym same) ∙ e

-- a slash is ASCII
pub split_at-requires : goal.split_at-requires
split_at-requires g c =
    let path = c.args.path.now in
    let at = c.loop-end.end - 1 in
    let slash = slash_in _ path at c.as_bytes.ensures.value c.if-as_bytes-end-eq47.true in
    let within = c.loop-end.invariant.0 in
    IsCharBoundary-after_ascii path at c.utf8.path (omega arith) (omega (arith, slash))

pub loop-end-init : goal.loop-end-init
loop-end-init g c = (omega arith, λ tells. refl)

pub returns-then-left-eq0 : goal.returns-then-left-eq0
returns-then-left-eq0 g c = λ tells.
    let own = is_own (g.T.FileTree.answers c.args.tree.now) c.args.own in
    sym (c.loop-end.invariant.1 tells
    ∙ ap (λ left. some_above own c.args.path.now left c.loop-end.end) c.if-left-eq0.true)

pub returns-then-branch : goal.returns-then-branch
returns-then-branch g c = λ tells.
    let path = c.args.path.now in
    let at = c.loop-end.end - 1 in
    let own = is_own (g.T.FileTree.answers c.args.tree.now) c.args.own in
    let slash = slash_in _ path at c.as_bytes.ensures.value c.if-as_bytes-end-eq47.true in
    let within = c.loop-end.invariant.0 in
    let looked = c.in_ok-stands_at.ensures tells ∙ ap own c.split_at.ensures.front in
    sym (c.loop-end.invariant.1 tells
    ∙ (behind_slash own path c.loop-end.left c.loop-end.end (omega arith) c.loop-end-test.true within slash _ looked
    ∙ ap (λ b. b || some_above own path (c.loop-end.left - 1) at) c.if-branch.true))

pub loop-end-preserved-then-as_bytes-end-eq47 : goal.loop-end-preserved-then-as_bytes-end-eq47
loop-end-preserved-then-as_bytes-end-eq47 g c =
    let path = c.args.path.now in
    let at = c.loop-end.end - 1 in
    let own = is_own (g.T.FileTree.answers c.args.tree.now) c.args.own in
    let slash = slash_in _ path at c.as_bytes.ensures.value c.if-as_bytes-end-eq47.true in
    let within = c.loop-end.invariant.0 in (
      omega arith,
      λ tells.
          let looked = c.in_ok-stands_at.ensures tells ∙ ap own c.split_at.ensures.front in
          c.loop-end.invariant.1 tells
          ∙ (behind_slash own path c.loop-end.left c.loop-end.end (omega arith) c.loop-end-test.true within slash _
          looked
          ∙ ap (λ b. b || some_above own path (c.loop-end.left - 1) at) c.if-branch.false),
    )

pub loop-end-preserved : goal.loop-end-preserved
loop-end-preserved g c =
    let path = c.args.path.now in
    let at = c.loop-end.end - 1 in
    let own = is_own (g.T.FileTree.answers c.args.tree.now) c.args.own in
    let within = c.loop-end.invariant.0 in
    let other = λ (e : slice_index path at ≡ 47). c.if-as_bytes-end-eq47.false
    (slash_in path _ at (sym c.as_bytes.ensures.value) e) in (
      omega arith,
      λ tells.
          c.loop-end.invariant.1 tells
          ∙ behind_other own path c.loop-end.left c.loop-end.end c.loop-end-test.true within other,
    )

pub returns : goal.returns
returns g c = λ tells.
    let own = is_own (g.T.FileTree.answers c.args.tree.now) c.args.own in
    at_head own c.args.path.now c.loop-end.left c.loop-end.end (omega arith) ∙ sym (c.loop-end.invariant.1 tells)
