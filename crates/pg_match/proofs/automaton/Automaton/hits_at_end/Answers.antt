use Rattle.std.proofs.Common.{◌<◌, length, arith}
use Rattle.std.proofs.lemmas.List.{get_or_read}
use Rattle.pg_match.specs.Views.{nfa, members}
use Rattle.pg_match.proofs.StandsLemmas.{answered_end}
use Rattle.pg_match.proofs.automaton.Automaton.hits_at_end.Goals as goal

pub returns-clause-answer : goal.returns-clause-answer
returns-clause-answer g c =
    let m = nfa c.args.self.now in
    let u = members c.close.new.set in
    let closed = rw c.deref.ensures.value at c.close.ensures in
    let some = c.requires.built.runs.start in
    let size = c.requires.room.now_size in
    let size2 = c.close.ensures.size in
    let inside : 0 < length u.marks = omega arith in
    answered_end m c.args.is_empty (members c.args.sets.now.current) u c.requires.built.runs closed c.index.result.now
    (get_or_read u.marks 0 c.index.result.now inside c.index.ensures 0)

pub close-requires-clause-tidy : goal.close-requires-clause-tidy
close-requires-clause-tidy g c = rw c.deref.ensures.value c.requires.built.runs.tidy

pub returns-clause-told : goal.returns-clause-told
returns-clause-told g c = omega (arith, c.close.ensures.counted, c.close.ensures.longer)
