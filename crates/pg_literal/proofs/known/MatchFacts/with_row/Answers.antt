use Rattle.std.proofs.Common.{◌++◌, ◌∙◌, ap, refl}
use Rattle.pg_literal.proofs.FrontLemmas.{put_front}
use Rattle.pg_literal.proofs.known.MatchFacts.with_row.Goals as goal

pub returns : goal.returns
returns g c =
    let before = c.args.self.head.items in
    let turned = ap (λ sets. before ++ sets) (c.deref.ensures.value ∙ c.reverse.ensures.items) in
    record {
      head = put_front before c.args.row.items c.extend_from_slice.new.self.items
          (c.in_ok-extend_from_slice.ensures.items ∙ turned);
      best = refl;
      unsure = refl;
      best_unsure = refl;
    }
