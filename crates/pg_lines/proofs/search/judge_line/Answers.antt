use Rattle.std.proofs.Common.{ℕ, ◌-◌, List, drop, take, subst}
use Rattle.std.proofs.lemmas.List.{take_rest}
use Rattle.std.specs.Bool.{one_answer}
use Rattle.pg_match.specs.Lines.{IsTextAt, TellsLine}
use Rattle.pg_pattern.specs.Hits.{HasHit}
use Rattle.pg_pattern.specs.Tests.{has_hit}
use Rattle.pg_pattern.proofs.TestLemmas.{hits_decided}
use Rattle.pg_selection.specs.Search.{bounds_of}
use Rattle.pg_lines.proofs.PartLemmas.{machine_of}
use Rattle.pg_lines.proofs.ScanLemmas.{first_text, text_known}
use Rattle.pg_lines.proofs.search.judge_line.Goals as goal

pub returns-in-Some-clause-text : goal.returns-in-Some-clause-text
returns-in-Some-clause-text g c =
    let query = c.args.query.now in
    let bounds = bounds_of query.text in
    let bytes = c.args.bytes.now in
    let start = c.args.start in
    let end = c.terminator-end.result in
    let m = c.machine.ensures in
    let trees = m.compiled.0 in
    let T : List ℕ → Type 0 = λ xs. TellsLine (HasHit trees bounds) end xs c.in-Some.line in
    let told = subst T (take_rest bytes start) (c.in-Some.ensures.known trees bounds
    (machine_of query c.machine.result.now m.machine m.compiled trees m.compiled.1)) in
    let E : ℕ → Type 0 = λ e. IsTextAt e bytes start c.text_end.result in
    subst E c.terminator-end.ensures
    (text_known end bytes start (HasHit trees bounds) c.in-Some.line c.text_end.result told c.text_end.ensures)

pub returns-in-Some-clause-hit : goal.returns-in-Some-clause-hit
returns-in-Some-clause-hit g c = λ trees spelled.
    let query = c.args.query.now in
    let bounds = bounds_of query.text in
    let bytes = c.args.bytes.now in
    let start = c.args.start in
    let end = c.terminator-end.result in
    let stop = c.text_end.result in
    let m = c.machine.ensures in
    let T : List ℕ → Type 0 = λ xs. TellsLine (HasHit trees bounds) end xs c.in-Some.line in
    let told = subst T (take_rest bytes start) (c.in-Some.ensures.known trees bounds
    (machine_of query c.machine.result.now m.machine m.compiled trees spelled)) in
    let line = take (stop - start) (drop start bytes) in
    let text = text_known end bytes start (HasHit trees bounds) c.in-Some.line stop told c.text_end.ensures in
    one_answer c.in-Some.line.has_hit (has_hit trees bounds line)
    (told.told (stop - start) (first_text end bytes start stop text)) (hits_decided trees bounds line).whole_line
