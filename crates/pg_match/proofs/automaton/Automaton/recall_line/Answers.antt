use Rattle.std.proofs.Common.{◌∙◌, inl, inr, arith, length, sym}
use Rattle.std.proofs.lemmas.Bool.{eqb-false}
use Rattle.pg_match.specs.Views.{nfa, dfa}
use Rattle.pg_match.proofs.LineLemmas.{line_begins, line_finished, line_settled}
use Rattle.pg_match.proofs.automaton.Automaton.recall_line.Goals.{then-read-bytes-via-then-read-bytes}
use Rattle.pg_match.proofs.automaton.Automaton.recall_line.Goals.{then-read-bytes-via-else-read-bytes+then-bytes-read}
use Rattle.pg_match.proofs.automaton.Automaton.recall_line.Goals as goal

pub walk_line-state-requires-clause-begins : goal.walk_line-state-requires-clause-begins
walk_line-state-requires-clause-begins g c =
    let a = c.args in
    let some = eqb-false (length a.bytes.now) 0 (sym c.is_empty.ensures ∙ c.if-is_empty.false) in
    line_begins (nfa a.self.now) (dfa a.cache.now) a.end a.bytes.now c.requires.built.runs c.requires.cache
    (omega (arith, c.if-cache-eq0.false)) (omega (arith, some)) c.if-bytes-end.false

pub returns-then-read-bytes : goal.returns-then-read-bytes
returns-then-read-bytes g c =
    let a = c.args in
    let w = c.walk_line-state in
    line_finished (nfa a.self.now) (dfa a.cache.now) a.end a.bytes.now c.requires.built.runs c.requires.cache
    w.result.0 w.result.1 w.ensures c.in_ok-has_hit.has_hit
    (elim c.then-read-bytes.branch [
      | then-read-bytes-via-then-read-bytes w ↦ inl w.if-read-bytes.true
      | then-read-bytes-via-else-read-bytes+then-bytes-read w ↦ inr w.if-bytes-read.true
    ])
    c.in_ok-has_hit.ensures

pub returns-in-Some : goal.returns-in-Some
returns-in-Some g c =
    let a = c.args in
    let w = c.walk_line-state in
    line_settled (nfa a.self.now) (dfa a.cache.now) a.end a.bytes.now c.requires.built.runs c.requires.cache
    w.result.0 w.result.1 w.ensures c.in-Some.has_hit c.in-Some.ensures
