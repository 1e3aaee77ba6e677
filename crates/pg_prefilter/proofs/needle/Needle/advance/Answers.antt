use Rattle.std.proofs.Common.{ℕ, List, None, Some, sym, subst}
use Rattle.std.proofs.lemmas.List.{take_rest}
use Rattle.memchr.specs.Find.{FindsNeedle}
use Rattle.pg_prefilter.proofs.NeedleLemmas.{IsNext, next_none, next_some}
use Rattle.pg_prefilter.proofs.needle.Needle.advance.Goals as goal
use Rattle.pg_prefilter.proofs.needle.Needle.advance.Goals.{in-Some-find, in-None-find}

pub returns-clause-ahead : goal.returns-clause-ahead
returns-clause-ahead c =
    let searched = c.args.searched.now in
    let at = c.args.at in
    let p = c.args.self.now.finder in
    elim c.match-find.branch [
      | in-Some-find w ↦
          let found = w.in-Some-find.found in
          let P : List ℕ → Type 0 = λ xs. FindsNeedle xs p 0 (Some found) in
          let first = subst P (take_rest searched at) w.in-Some-find.ensures in
          let next = subst (IsNext searched at p) (sym w.self-is) (next_some searched p at found c.requires.at first) in
          record { stands = λ sought. next.0; first = next.1 }
      | in-None-find w ↦
          let P : List ℕ → Type 0 = λ xs. FindsNeedle xs p 0 None in
          let none = subst P (take_rest searched at) w.in-None-find.ensures in
          let next = subst (IsNext searched at p) (sym w.self-is) (next_none searched p at c.requires.at none) in
          record { stands = λ sought. next.0; first = next.1 }
    ]
