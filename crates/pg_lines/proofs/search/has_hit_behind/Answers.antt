use Rattle.std.proofs.Common.{List, ℕ, ◌∙◌, ◌↔◌, IsTrue, refl, subst}
use Rattle.std.proofs.lemmas.List.{take_rest}
use Rattle.std.specs.Bool.{one_answer}
use Rattle.pg_pattern.specs.Hits.{HasHit}
use Rattle.pg_pattern.specs.Tests.{has_hit}
use Rattle.pg_pattern.proofs.TestLemmas.{hits_decided}
use Rattle.pg_selection.specs.Search.{bounds_of}
use Rattle.pg_prefilter.proofs.NearLemmas.{piece_tells, rest_tells}
use Rattle.pg_lines.proofs.PartLemmas.{machine_of}
use Rattle.pg_lines.proofs.search.has_hit_behind.Goals as goal

pub returns-then-ignores_front-clause-hit : goal.returns-then-ignores_front-clause-hit
returns-then-ignores_front-clause-hit g c = λ trees spelled.
    let query = c.args.query.now in
    let bounds = bounds_of query.text in
    let line = c.args.line.now in
    let place = c.args.place in
    let behind = c.requires.behind trees spelled in
    let m = c.machine-machine.ensures in
    let told = c.selects.ensures.exact trees bounds
    (machine_of query c.machine-machine.result.now m.machine m.compiled trees spelled) in
    let P : List ℕ → Type 0 = λ xs. IsTrue c.selects.result ↔ HasHit trees bounds xs in
    let rest = subst P (take_rest line place) told in
    let front = c.ignores_front.ensures query.text c.prefilter.ensures c.if-ignores_front.true trees spelled in
    let whole = rest_tells trees bounds line place behind.1 front behind.2 in
    one_answer c.selects.result (has_hit trees bounds line) (λ t. whole.0 (rest.0 t), λ h. rest.1 (whole.1 h))
    (hits_decided trees bounds line).whole_line

pub returns-else-ignores_front-clause-hit : goal.returns-else-ignores_front-clause-hit
returns-else-ignores_front-clause-hit g c = λ trees spelled.
    let query = c.args.query.now in
    let m = c.machine-machine.ensures in
    let behind = c.requires.behind trees spelled in
    c.is_some.ensures ∙ piece_tells trees (bounds_of query.text) c.args.line.now 0 c.args.place behind.2
    c.next_part.result refl (c.next_part.ensures.next trees (bounds_of query.text)
    (machine_of query c.machine-machine.result.now m.machine m.compiled trees spelled))
