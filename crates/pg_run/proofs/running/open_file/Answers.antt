use Rattle.std.proofs.Common.{arith}
use Rattle.pg_reader.proofs.ReadLemmas.{stands_by}
use Rattle.pg_run.proofs.ReadingLemmas.{drained_by}
use Rattle.pg_run.proofs.RunLemmas.{file_opened}
use Rattle.pg_base.proofs.SinkLemmas.{ok_of_err}
use Rattle.pg_run.proofs.running.open_file.Goals as goal

pub open-requires-clause-ready : goal.open-requires-clause-ready
open-requires-clause-ready g c =
    let r = c.requires.between in
    let b = r.3 in
    (r.0, b.steps, r.2, (b.holds, (b.closed, omega (arith, b.holds.count, c.requires.few))))

pub returns-clause-ok : goal.returns-clause-ok
returns-clause-ok g c = λ aim given out b.
    let opened = c.in_ok-cutter.ensures aim b.steps out
    (b.holds, (b.closed, omega (arith, b.holds.count, c.requires.few))) in
    file_opened b _ _ c.args.name.now c.open-2.ensures.came (stands_by _ c.open-2.ensures.cutter opened.1) opened.0

pub returns-in_err-cutter-clause-awaits : goal.returns-in_err-cutter-clause-awaits
returns-in_err-cutter-clause-awaits g c = ok_of_err c.from_residual.result _ c.from_residual.ensures.0

pub returns-in_err-cutter-clause-ok : goal.returns-in_err-cutter-clause-ok
returns-in_err-cutter-clause-ok g c =
    λ aim given out between.
    ok_of_err c.from_residual.result _ c.from_residual.ensures.0

pub returns-clause-awaits : goal.returns-clause-awaits
returns-clause-awaits g c =
    let r = c.requires.between in
    let b = r.3 in
    let opened = c.in_ok-cutter.ensures r.0 b.steps r.2
    (b.holds, (b.closed, omega (arith, b.holds.count, c.requires.few))) in
    (c.open-2.ensures.came, drained_by c.open-2.ensures.cutter opened.2)
