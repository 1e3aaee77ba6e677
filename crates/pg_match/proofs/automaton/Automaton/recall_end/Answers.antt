use Rattle.std.proofs.Common.{◌+◌, ◌/◌, ◌<◌, length, arith, None}
use Rattle.std.proofs.lemmas.List.{get_or_read}
use Rattle.pg_match.specs.Dfas.{In}
use Rattle.pg_match.specs.Views.{nfa, dfa}
use Rattle.pg_match.proofs.CacheLemmas.{finishes_if, in_table, row_next, settled_finishes}
use Rattle.pg_match.proofs.automaton.Automaton.recall_end.Goals as goal

pub returns-in-Some : goal.returns-in-Some
returns-in-Some g c =
    settled_finishes (nfa c.args.self.now) c.args.byte (In (dfa c.args.cache.now) (c.args.state / 256))
    c.in-Some.answer c.in-Some.ensures

pub index-requires : goal.index-requires
index-requires g c =
    let m = nfa c.args.self.now in
    let table = dfa c.args.cache.now in
    let b = c.args.byte in
    let lt : b < 256 = omega arith in
    let inside = in_table m table c.args.state b c.requires.cache c.requires.row lt in
    let read = get_or_read table.steps (c.args.state + b) c.index-next.result.now inside c.index-next.ensures 0 in
    let next = row_next m table c.args.state c.index-next.result.now b c.requires.cache c.requires.row lt read
    (omega (arith, c.if-next-lt-STRIDE.false)) in
    let size = c.args.cache.now.ends.ok.0 in
    omega (arith, next.0.known, c.requires.cache.shape.few, c.requires.cache.shape.ends_size)

pub returns : goal.returns
returns g c =
    let m = nfa c.args.self.now in
    let table = dfa c.args.cache.now in
    let b = c.args.byte in
    let lt : b < 256 = omega arith in
    let v = c.index-next.result.now in
    let inside = in_table m table c.args.state b c.requires.cache c.requires.row lt in
    let read = get_or_read table.steps (c.args.state + b) v inside c.index-next.ensures 0 in
    let next = row_next m table c.args.state v b c.requires.cache c.requires.row lt read
    (omega (arith, c.if-next-lt-STRIDE.false)) in
    let there : v / 256 < length table.ends =
    omega (arith, next.0.known, c.requires.cache.shape.few, c.requires.cache.shape.ends_size) in
    let at_end = get_or_read table.ends (v / 256) c.index.result.now there c.index.ensures None in
    finishes_if m table b (In table (c.args.state / 256))
    (v / 256) c.index.result.now c.requires.built.runs c.requires.cache next.1 (next.2, next.3) at_end
