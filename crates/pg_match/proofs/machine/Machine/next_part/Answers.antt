use Rattle.std.proofs.Common.{ap, ◌∙◌, subst}
use Rattle.std.specs.Prelude.{MatchOption}
use Rattle.pg_match.specs.Automata.{Nfa}
use Rattle.pg_pattern.specs.Hits.{HasNoNext, IsNext}
use Rattle.pg_match.specs.Machines.{Agrees}
use Rattle.pg_match.specs.Views.{nfa}
use Rattle.pg_pattern.specs.declared.bounds.Bounds.{Bounds}
use Rattle.pg_match.proofs.machine.Machine.next_part.Goals as goal

pub returns-clause-next : goal.returns-clause-next
returns-clause-next g c =
    λ patterns bounds is.
    let b = c.next_part.result in
    let line = c.args.line.now in
    let from = c.args.from in
    let Next : Bounds → Type 0 =
    λ k. MatchOption b (HasNoNext patterns k line from) (λ s. IsNext patterns k line from s.0 s.1) in
    let P : Nfa → Type 0 = λ m. Agrees m patterns → Next m.bounds in
    let same = ap nfa c.deref-automaton.ensures ∙ c.self.view_is in
    subst Next is.same_bounds (subst P same (c.next_part.ensures.next patterns) is.agrees)
