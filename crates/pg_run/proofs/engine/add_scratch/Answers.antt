use Rattle.std.proofs.Common.{◌∙◌, length, ap, arith, subst, sym}
use Rattle.std.proofs.lemmas.List.{length_push}
use Rattle.std.proofs.lemmas.List.Elements.{All-push}
use Rattle.pg_run.specs.Searches.{AreScratches}
use Rattle.pg_run.proofs.engine.add_scratch.Goals as goal

pub returns-clause-more : goal.returns-clause-more
returns-clause-more g c =
    ap length c.in_ok-push.ensures.items ∙ length_push c.args.scratches.now.items c.in_ok-scratch.scratch

pub returns-clause-scratches : goal.returns-clause-scratches
returns-clause-scratches g c =
    let view = g.Q.BlockSearch.seen c.args.query.now in
    let scratch = c.in_ok-scratch.scratch in
    let old = c.args.scratches.now.items in
    subst (AreScratches view 65) (sym c.in_ok-push.ensures.items) (
      omega (arith, length_push old scratch, c.requires.0),
      All-push view.fits old scratch c.requires.1 c.in_ok-scratch.ensures.fits,
    )
