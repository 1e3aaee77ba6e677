use Rattle.std.proofs.Common.{List, ℕ, subst, ◌∙◌}
use Rattle.pg_base.specs.Sink.{Stream}
use Rattle.pg_report.specs.Told.{TellsText}
use Rattle.pg_report.proofs.ShownLemmas.{lines_are}
use Rattle.pg_report.proofs.telling.tell_shown.Goals as goal

pub returns : goal.returns
returns g c =
    let err : Stream = g.W.Sink.stream c.args.err.now in
    let err' : Stream = g.W.Sink.stream c.tell_parts.new.err in
    subst (λ (lines : List ℕ). TellsText lines err err')
    (c.shown_parts-parts.ensures
    ∙ lines_are c.args.fault c.args.text.now _ _ _ _ _ c.byte_at-next.result c.format.ensures.text c.text.ensures
    c.format-2.ensures.text c.blanks.ensures c.advice.ensures c.byte_at-next.ensures)
    c.tell_parts.ensures
