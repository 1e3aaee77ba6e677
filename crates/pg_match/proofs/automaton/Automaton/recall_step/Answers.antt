use Rattle.std.proofs.Common.{◌+◌, ◌/◌, ◌<◌, arith}
use Rattle.std.proofs.lemmas.List.{get_or_read}
use Rattle.pg_match.specs.Dfas.{In}
use Rattle.pg_match.specs.Views.{nfa, dfa}
use Rattle.pg_match.proofs.CacheLemmas.{in_table, settles_dead, settles_hit, told_dead, told_hit}
use Rattle.pg_match.proofs.automaton.Automaton.recall_step.Goals as goal

pub returns-in-1 : goal.returns-in-1
returns-in-1 g c =
    let m = nfa c.args.self.now in
    let table = dfa c.args.cache.now in
    let b = c.args.byte in
    let s = c.args.state in
    let small : b < 256 = omega arith in
    let inside = in_table m table s b c.requires.cache c.requires.row small in
    let read = get_or_read table.steps (s + b) c.index.result.now inside c.index.ensures 0 in
    settles_hit m b (In table (s / 256)) c.requires.built.runs
    (told_hit m table s c.index.result.now b c.requires.cache c.requires.row small read c.in-1.is)

pub returns-in-2 : goal.returns-in-2
returns-in-2 g c =
    let m = nfa c.args.self.now in
    let table = dfa c.args.cache.now in
    let b = c.args.byte in
    let s = c.args.state in
    let small : b < 256 = omega arith in
    let inside = in_table m table s b c.requires.cache c.requires.row small in
    let read = get_or_read table.steps (s + b) c.index.result.now inside c.index.ensures 0 in
    settles_dead m b (In table (s / 256))
    (told_dead m table s c.index.result.now b c.requires.cache c.requires.row small read c.in-2.is)
