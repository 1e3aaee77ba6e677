use Rattle.std.proofs.Common.{ap}
use Rattle.pg_base.specs.Causes.{fault_line}
use Rattle.pg_base.specs.Sink.{Stream}
use Rattle.pg_base.proofs.WriteLemmas.{writes_as}
use Rattle.pg_report.proofs.ToldLemmas.{tells_by}
use Rattle.pg_report.proofs.telling.tell_file.Goals as goal

pub returns : goal.returns
returns g c =
    let err : Stream = g.W.Sink.stream c.args.err.now in
    let err' : Stream = g.W.Sink.stream c.tell_cause.new.err in
    let line = fault_line c.args.name.now c.args.cause in
    tells_by c.tell_cause.result line err err'
    (writes_as _ line err err' c.tell_cause.result
    (ap (λ name. fault_line name c.args.cause) c.as_bytes.ensures.value) c.tell_cause.ensures)
