use Rattle.std.proofs.Common.{◌<◌, ◌+◌, length, arith, subst}
use Rattle.std.proofs.lemmas.List.{get_or_read}
use Rattle.std.proofs.lemmas.Option.{slice_get-get_or}
use Rattle.std.specs.Prelude.{slice_get, slice_index}
use Rattle.pg_match.specs.Closures.{Reached}
use Rattle.pg_match.specs.Views.{members}
use Rattle.pg_match.proofs.StartLemmas.{seeds_stepping_next, seeds_stepped, read_inside}
use Rattle.pg_match.proofs.StandsLemmas.{reads_edge}
use Rattle.pg_match.proofs.automaton.Automaton.step_seeds.Goals as goal

pub reach-requires-clause-within : goal.reach-requires-clause-within
reach-requires-clause-within g c =
    let m = c.args.self.now in
    let b = slice_index c.args.line.now c.args.place in
    let byte : b < 256 = omega (arith, c.type_inv.line c.args.place) in
    let up = c.requires.built.starts.below.upto b byte in
    let lt : c.loop-k.k < length m.starts.targets.items = omega (arith, c.row-first.ensures.last) in
    let read = get_or_read m.starts.targets.items c.loop-k.k _ lt c.index-target.ensures 0 in
    let w = c.requires.built.starts.below.from b c.loop-k.k byte
    (omega (arith, c.row-first.ensures.first, c.loop-k.auto.k))
    (omega (arith, c.row-first.ensures.last)) in
    let inside = read_inside m.states.items _ b _ c.requires.built.runs.tidy (c.requires.built.seeds.inside w.0 w.1)
    w.2 in
    omega (arith, read, inside, c.deref.ensures.len)

pub loop-k-preserved : goal.loop-k-preserved
loop-k-preserved g c =
    let m = c.args.self.now in
    let l = c.args.line.now in
    let p = c.args.place in
    let b = slice_index l p in
    let k = c.loop-k.k in
    let t = m.states.items in
    let targets = m.starts.targets.items in
    let byte : b < 256 = omega (arith, c.type_inv.line p) in
    let up = c.requires.built.starts.below.upto b byte in
    let lt : k < length targets = omega (arith, c.row-first.ensures.last) in
    let read = get_or_read targets k _ lt c.index-target.ensures 0 in
    let w = c.requires.built.starts.below.from b k byte (omega (arith, c.row-first.ensures.first, c.loop-k.auto.k))
    (omega (arith, c.row-first.ensures.last)) in
    let is = slice_get-get_or l p 0 c.requires.place in
    let u = members c.loop-k.next in
    let v = members c.reach.new.set in
    let reached = rw c.deref.ensures.value at c.reach.ensures.reached in
    seeds_stepping_next t l p m.seeds.items targets (members c.args.next.now) (p + 1) c.row-first.result.0 u v k
    c.loop-k.invariant (subst (λ q. Reached t l (p + 1) u v q (p + 1)) read reached) w.0 w.1
    (reads_edge (slice_get t (slice_index m.seeds.items w.0)) l p b (slice_index targets k) is w.2)

pub returns : goal.returns
returns g c =
    let m = c.args.self.now in
    let l = c.args.line.now in
    let p = c.args.place in
    let b = slice_index l p in
    let byte : b < 256 = omega (arith, c.type_inv.line p) in
    let is = slice_get-get_or l p 0 c.requires.place in
    seeds_stepped m.states.items l p m.seeds.items m.starts.targets.items (members c.args.next.now) (p + 1)
    c.row-first.result.0 (members c.loop-k.next) c.loop-k.k b m.starts.cuts.items c.loop-k.invariant
    c.requires.built.starts.below byte is c.row-first.ensures.first
    (omega (arith, c.row-first.ensures.last, c.loop-k-test.false))
