use Rattle.std.proofs.Common.{◌∙◌, [], inl, inr, ap, length, subst, sym}
use Rattle.std.proofs.lemmas.Bool.{eqb-true}
use Rattle.std.specs.Arc.{arc_value}
use Rattle.std.specs.Prelude.{IfSome}
use Rattle.pg_match.specs.Automata.{Nfa}
use Rattle.pg_match.specs.Lines.{TellsLine}
use Rattle.pg_match.specs.Machines.{Agrees, TellsEmpty}
use Rattle.pg_match.specs.Views.{nfa}
use Rattle.pg_match.proofs.LineLemmas.{exact_for, line_empty, tells_hits}
use Rattle.pg_pattern.specs.Hits.{HasHit}
use Rattle.pg_pattern.specs.declared.bounds.Bounds.{Bounds}
use Rattle.pg_match.proofs.machine.Machine.recall_line.Goals.{then-is_empty-via-then-is_empty}
use Rattle.pg_match.proofs.machine.Machine.recall_line.Goals.{then-is_empty-via-else-is_empty+then-bytes-end}
use Rattle.pg_match.proofs.machine.Machine.recall_line.Goals as goal

pub returns-then-is_empty-clause-known : goal.returns-then-is_empty-clause-known
returns-then-is_empty-clause-known g c = λ patterns bounds is.
    let bytes = c.args.bytes.now in
    let answer = c.in_ok-has_hit.has_hit in
    let m = nfa (arc_value c.scratch.inside.automaton) in
    let told = subst (TellsEmpty m) c.in_ok-has_hit.was c.scratch.invariant.3 in
    line_empty (HasHit patterns bounds) c.args.end bytes answer
    (elim c.then-is_empty.branch [
      | then-is_empty-via-then-is_empty w ↦
          inl (eqb-true (length bytes) 0 (sym c.is_empty.ensures ∙ w.if-is_empty.true))
      | then-is_empty-via-else-is_empty+then-bytes-end w ↦ inr w.if-bytes-end.true
    ])
    (exact_for m c.args.self.now (ap (λ r. r.machine) c.scratch.view_is ∙ c.requires.fits) patterns bounds [] answer is
    told)

pub returns-in-Some-clause-known : goal.returns-in-Some-clause-known
returns-in-Some-clause-known g c = λ patterns bounds is.
    let m = nfa c.deref-automaton.result.now in
    let same = ap nfa c.deref-automaton.ensures ∙ c.self.view_is in
    let A : Nfa → Type 0 = λ n. Agrees n patterns in
    let B : Bounds → Type 0 =
    λ b. IfSome c.recall_line.result (TellsLine (HasHit patterns b) c.args.end c.args.bytes.now) in
    subst B (ap (λ n. n.bounds) same ∙ is.same_bounds)
    (tells_hits m patterns c.args.end c.args.bytes.now c.recall_line.result (subst A (sym same) is.agrees)
    c.if-automaton.true c.recall_line.ensures)
