use Rattle.std.proofs.Common.{arith, refl}
use Rattle.pg_match.specs.Views.{nfa, members}
use Rattle.pg_match.proofs.StepLemmas.{started}
use Rattle.pg_match.proofs.automaton.Automaton.begin.Goals as goal

pub overflow_add-sets : goal.overflow_add-sets
overflow_add-sets g c = omega arith

pub insert-requires-clause-within : goal.insert-requires-clause-within
insert-requires-clause-within g c = omega arith

pub insert-requires-clause-some : goal.insert-requires-clause-some
insert-requires-clause-some g c = omega arith

pub close-requires-clause-size : goal.close-requires-clause-size
close-requires-clause-size g c = omega arith

pub close-requires-clause-tidy : goal.close-requires-clause-tidy
close-requires-clause-tidy g c = rw c.deref.ensures.value c.requires.built.runs.tidy

pub returns-clause-visits : goal.returns-clause-visits
returns-clause-visits g c = refl

pub returns-clause-told : goal.returns-clause-told
returns-clause-told g c =
    omega (arith, c.clear.ensures.added, c.clear.ensures.empty.0, c.insert.ensures.counted, c.close.ensures.counted)

pub returns-clause-starts : goal.returns-clause-starts
returns-clause-starts g c =
    started (nfa c.args.self.now) c.args.first (members c.clear.new.self) (members c.insert.new.self)
    (members c.close.new.set) c.clear.ensures.empty c.insert.ensures.inserted
    (rw c.deref.ensures.value at c.close.ensures)
