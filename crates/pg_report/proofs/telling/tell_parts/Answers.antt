use Rattle.pg_base.specs.Sink.{Stream}
use Rattle.std.specs.List.{flat_map}
use Rattle.pg_report.proofs.ToldLemmas.{tells_by}
use Rattle.pg_report.proofs.telling.tell_parts.Goals as goal

pub returns : goal.returns
returns g c =
    let err : Stream = g.W.Sink.stream c.args.err.now in
    let err' : Stream = g.W.Sink.stream c.tell.new.err in
    tells_by c.tell.result (flat_map (λ part. part.now) c.args.parts.now) err err' c.tell.ensures
