use Rattle.std.proofs.Common.{sym, ap, ◌∙◌, option_map}
use Rattle.pg_bytes.specs.ByteSets.{bytes}
use Rattle.pg_syntax.specs.BracketPlaces.{FaultPlaced}
use Rattle.pg_syntax.proofs.bracket.Reading.finish.Goals as goal
use Rattle.pg_syntax.proofs.bracket.Reading.finish.Goals.{in-Fresh, in-Ranged, in-Held, in-Dashed, in-Barred}

pub returns-in-Some-clause-placed : goal.returns-in-Some-clause-placed
returns-in-Some-clause-placed c = λ text bracket rest p.
    let q : FaultPlaced text bracket c.match-self.self.fault = elim c.match-self.branch [
      | in-Fresh w ↦ rw w.self-is p.0
      | in-Ranged w ↦ rw w.self-is p.0
      | in-Held w ↦ rw w.self-is (w.add.ensures.placed text bracket p.0
          (λ none. w.fault.ensures text bracket rest (sym w.member.ensures ∙ ap (option_map bytes) none)
          (rw w.in-Held.is at p.1)))
      | in-Dashed w ↦ rw w.self-is (w.add-in-Dashed.ensures.placed text bracket p.0
          (λ none. w.fault-in-Dashed.ensures text bracket _
          (sym w.member-in-Dashed.ensures ∙ ap (option_map bytes) none) (rw w.in-Dashed.is at p.1)))
      | in-Barred w ↦ rw w.self-is p.0
    ] in
    rw c.in-Some.is at q
