use Rattle.std.proofs.Common.{sym}
use Rattle.std.specs.Bool.{one_answer}
use Rattle.pg_pattern.specs.Tests.{has_hit}
use Rattle.pg_pattern.proofs.TestLemmas.{hits_decided}
use Rattle.pg_selection.specs.Search.{bounds_of}
use Rattle.pg_prefilter.proofs.HitLemmas.{hit_found, hit_missed}
use Rattle.pg_lines.proofs.PartLemmas.{machine_of}
use Rattle.pg_lines.proofs.search.has_hit.Goals as goal

pub returns-in-Found-clause-hit : goal.returns-in-Found-clause-hit
returns-in-Found-clause-hit g c = λ trees spelled.
    let next = c.in-Found.ensures trees spelled in
    sym (hit_found trees (bounds_of c.args.query.now.text) c.args.line.now _ _ next.hit)

pub returns-in-Nowhere-clause-hit : goal.returns-in-Nowhere-clause-hit
returns-in-Nowhere-clause-hit g c = λ trees spelled.
    let none = c.in-Nowhere.ensures trees spelled in
    sym (hit_missed trees (bounds_of c.args.query.now.text) c.args.line.now none)

pub returns-in-OnlyEmpty-clause-hit : goal.returns-in-OnlyEmpty-clause-hit
returns-in-OnlyEmpty-clause-hit g c = λ trees spelled.
    let query = c.args.query.now in
    let line = c.args.line.now in
    let m = c.machine.ensures in
    one_answer c.selects.result (has_hit trees (bounds_of query.text) line)
    (c.selects.ensures.exact trees (bounds_of query.text)
    (machine_of query c.machine.result.now m.machine m.compiled trees spelled))
    (hits_decided trees (bounds_of query.text) line).whole_line
