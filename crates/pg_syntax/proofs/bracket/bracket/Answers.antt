use Rattle.std.proofs.Common.{◌≡◌, ◌+◌, cond, ◌≤◌, refl, sym, ap, ◌∙◌, arith, drop, Some}
use Rattle.pg_syntax.proofs.BracketAt.{opens_at}
use Rattle.pg_syntax.proofs.BracketWholes.{whole_is, shaped_by}
use Rattle.pg_syntax.proofs.bracket.bracket.Goals as goal
use Rattle.pg_syntax.proofs.bracket.bracket.Goals.{then-negated, else-negated}

pub returns-in-Ok : goal.returns-in-Ok
returns-in-Ok c =
    let at = c.args.at in
    let start : c.if-negated.start ≡ cond c.negates-negated.result (at + 2) (at + 1) =
    elim c.if-negated.branch [
      | then-negated w ↦ rw (w.start-is, w.if-negated.true) refl
      | else-negated w ↦ rw
          (w.start-is, w.if-negated.false) refl
    ] in (
      whole_is c.args.fold c.args.text.now at c.negates-negated.result c.if-negated.start c.requires.stands
          c.negates-negated.ensures start
          ∙ (ap (shaped_by c.negates-negated.result c.args.fold) c.in-Ok.ensures.0
          ∙ ap (λ s. Some (s, drop c.in-Ok.end c.args.text.now)) (sym c.shaped.ensures)),
      (let more : at + 1 ≤ c.if-negated.start =
          elim c.if-negated.branch [
            | then-negated w ↦ omega (arith, w.start-is)
            | else-negated w ↦ omega
                (arith, w.start-is)
          ] in omega (arith, c.in-Ok.ensures.1)),
      c.in-Ok.ensures.2,
    )

pub returns-in-Err : goal.returns-in-Err
returns-in-Err c =
    let at = c.args.at in
    let start : c.if-negated.start ≡ cond c.negates-negated.result (at + 2) (at + 1) =
    elim c.if-negated.branch [
      | then-negated w ↦ rw (w.start-is, w.if-negated.true) refl
      | else-negated w ↦ rw
          (w.start-is, w.if-negated.false) refl
    ] in (
      whole_is c.args.fold c.args.text.now at c.negates-negated.result c.if-negated.start c.requires.stands
          c.negates-negated.ensures start
          ∙ ap (shaped_by c.negates-negated.result c.args.fold) c.in-Err.ensures.0,
      c.in-Err.ensures.1,
    )

pub elements-requires-clause-opens : goal.elements-requires-clause-opens
elements-requires-clause-opens c =
    let at = c.args.at in
    let start : c.if-negated.start ≡ cond c.negates-negated.result (at + 2) (at + 1) =
    elim c.if-negated.branch [
      | then-negated w ↦ rw (w.start-is, w.if-negated.true) refl
      | else-negated w ↦ rw (w.start-is, w.if-negated.false) refl
    ] in
    opens_at c.args.text.now at c.negates-negated.result c.if-negated.start c.requires.stands c.negates-negated.ensures
    start
