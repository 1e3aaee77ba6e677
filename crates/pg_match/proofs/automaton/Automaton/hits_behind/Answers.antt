use Rattle.pg_match.specs.Steps.{Has}
use Rattle.pg_match.specs.Views.{nfa, members}
use Rattle.pg_match.proofs.StartLemmas.{answers_whole, answers_plainly}
use Rattle.pg_match.proofs.automaton.Automaton.hits_behind.Goals as goal
use Rattle.pg_match.proofs.automaton.Automaton.hits_behind.Goals.{then-begins, else-begins}

pub returns-clause-answer : goal.returns-clause-answer
returns-clause-answer g c =
    let m = nfa c.args.self.now in
    let seeds = c.args.self.now.seeds.items in
    let s = members c.args.sets.now.current in
    elim c.if-begins.branch [
      | then-begins w ↦
          answers_whole m seeds c.requires.built.seeds c.args.begins c.hits_at_end.result s _ w.insert.ensures.inserted
          w.if-begins.true (rw w.sets-is at c.hits_at_end.ensures.answer)
      | else-begins w ↦
          answers_plainly m seeds c.requires.built.seeds c.args.begins c.hits_at_end.result (Has s) w.if-begins.false
          (rw w.sets-is at c.hits_at_end.ensures.answer)
    ]
