use Rattle.std.proofs.Common.{◌∙◌, ◌++◌, [], ◌∷◌, ap, refl}
use Rattle.pg_seq.proofs.reorder_buffer.ReorderBuffer.open_file.Goals as goal

pub returns-clause-ok : goal.returns-clause-ok
returns-clause-ok g c =
    let before = c.args.self.now.starts in
    record {
      starts = c.in_ok-push.ensures.ok ∙ ap (λ n. before ++ n ∷ []) c.announced-start.ensures;
      slots = refl;
      handed = refl;
      selected = refl;
    }
