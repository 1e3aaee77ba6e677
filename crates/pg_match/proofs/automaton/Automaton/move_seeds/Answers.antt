use Rattle.std.proofs.Common.{◌<◌, length, arith, subst}
use Rattle.std.proofs.lemmas.List.{get_or_read}
use Rattle.pg_match.specs.StateSets.{Inserted}
use Rattle.pg_match.specs.Views.{members}
use Rattle.pg_match.proofs.StartLemmas.{seeds_moving_next, seeds_moved, read_inside}
use Rattle.pg_match.proofs.automaton.Automaton.move_seeds.Goals as goal

pub insert-requires-clause-within : goal.insert-requires-clause-within
insert-requires-clause-within g c =
    let m = c.args.self.now in
    let b = c.args.byte in
    let byte : b < 256 = omega arith in
    let up = c.requires.built.starts.below.upto b byte in
    let lt : c.loop-k.k < length m.starts.targets.items = omega (arith, c.row-first.ensures.last) in
    let read = get_or_read m.starts.targets.items c.loop-k.k _ lt c.index-target.ensures 0 in
    let w = c.requires.built.starts.below.from b c.loop-k.k byte
    (omega (arith, c.row-first.ensures.first, c.loop-k.auto.k))
    (omega (arith, c.row-first.ensures.last)) in
    let inside = read_inside m.states.items _ b _ c.requires.built.runs.tidy (c.requires.built.seeds.inside w.0 w.1)
    w.2 in
    omega (arith, read, inside, c.loop-k.invariant.size, c.requires.size)

pub loop-k-preserved : goal.loop-k-preserved
loop-k-preserved g c =
    let m = c.args.self.now in
    let b = c.args.byte in
    let k = c.loop-k.k in
    let targets = m.starts.targets.items in
    let byte : b < 256 = omega arith in
    let up = c.requires.built.starts.below.upto b byte in
    let lt : k < length targets = omega (arith, c.row-first.ensures.last) in
    let read = get_or_read targets k _ lt c.index-target.ensures 0 in
    let w = c.requires.built.starts.below.from b k byte (omega (arith, c.row-first.ensures.first, c.loop-k.auto.k))
    (omega (arith, c.row-first.ensures.last)) in
    let u = members c.loop-k.next in
    let v = members c.insert.new.self in
    seeds_moving_next m.states.items m.seeds.items targets b (members c.args.next.now) c.row-first.result.0 u v k
    c.loop-k.invariant (subst (λ q. Inserted u v q 1) read c.insert.ensures.inserted) c.insert.ensures.counted w

pub returns : goal.returns
returns g c =
    let m = c.args.self.now in
    seeds_moved m.states.items m.seeds.items m.starts.targets.items c.args.byte (members c.args.next.now)
    c.row-first.result.0 (members c.loop-k.next) c.loop-k.k m.starts.cuts.items c.loop-k.invariant
    c.requires.built.starts.below (omega arith) c.row-first.ensures.first
    (omega (arith, c.row-first.ensures.last, c.loop-k-test.false))
