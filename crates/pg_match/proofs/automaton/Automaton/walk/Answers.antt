use Rattle.std.proofs.Common.{◌+◌, get_or, arith}
use Rattle.pg_match.specs.Views.{nfa, dfa}
use Rattle.pg_match.proofs.CacheLemmas.{Walking, in_table, walking_read}
use Rattle.pg_match.proofs.automaton.Automaton.walk.Given.{Over}
use Rattle.pg_match.proofs.automaton.Automaton.walk.Goals as goal
use Rattle.pg_match.proofs.automaton.Automaton.walk.Goals.{Else-one-lt-STRIDE, Else-two-lt-STRIDE}
use Rattle.pg_match.proofs.automaton.Automaton.walk.Goals.{Else-three-lt-STRIDE}

-- where the walk is behind the first byte, and behind the next ones
first : (g : Over) (c : Else-one-lt-STRIDE g)
    → Walking (nfa c.args.self.now) (dfa c.args.cache.now) c.args.line.now c.args.from c.args.state
    (c.loop-place.place + 1) c.index-one.result.now
first g c = walking_read _ _ _ _ _ c.loop-place.place _ _ _ (omega arith) c.requires.built.runs c.requires.cache
    (omega (arith, c.type_inv.line c.loop-place.place)) (omega (arith, c.loop-place-test.true)) c.index-one.ensures
    c.if-one-lt-STRIDE.false c.loop-place.invariant

second : (g : Over) (c : Else-two-lt-STRIDE g)
    → Walking (nfa c.args.self.now) (dfa c.args.cache.now) c.args.line.now c.args.from c.args.state
    (c.loop-place.place + 1) c.index-one.result.now
    → Walking (nfa c.args.self.now) (dfa c.args.cache.now) c.args.line.now c.args.from c.args.state
    (c.loop-place.place + 2) c.index-two.result.now
second g c = walking_read _ _ _ _ _ (c.loop-place.place + 1) _ _ _ (omega arith) c.requires.built.runs
    c.requires.cache (omega (arith, c.type_inv.line (c.loop-place.place + 1))) (omega (arith, c.loop-place-test.true))
    c.index-two.ensures c.if-two-lt-STRIDE.false

third : (g : Over) (c : Else-three-lt-STRIDE g)
    → Walking (nfa c.args.self.now) (dfa c.args.cache.now) c.args.line.now c.args.from c.args.state
    (c.loop-place.place + 2) c.index-two.result.now
    → Walking (nfa c.args.self.now) (dfa c.args.cache.now) c.args.line.now c.args.from c.args.state
    (c.loop-place.place + 3) c.index-three.result.now
third g c = walking_read _ _ _ _ _ (c.loop-place.place + 2) _ _ _ (omega arith) c.requires.built.runs
    c.requires.cache (omega (arith, c.type_inv.line (c.loop-place.place + 2))) (omega (arith, c.loop-place-test.true))
    c.index-three.ensures c.if-three-lt-STRIDE.false

pub index-one-requires : goal.index-one-requires
index-one-requires g c =
    let size = c.args.cache.now.steps.ok.0 in
    let inside = in_table _ _ _ (get_or c.args.line.now c.loop-place.place 0) c.requires.cache
    c.loop-place.invariant.row (omega (arith, c.type_inv.line c.loop-place.place)) in
    omega arith

pub index-two-requires : goal.index-two-requires
index-two-requires g c =
    let size = c.args.cache.now.steps.ok.0 in
    let w = first g (goal.at.index-two-requires g c).Else-one-lt-STRIDE in
    let inside = in_table _ _ _ (get_or c.args.line.now (c.loop-place.place + 1) 0) c.requires.cache w.row
    (omega (arith, c.type_inv.line (c.loop-place.place + 1))) in
    omega arith

pub index-three-requires : goal.index-three-requires
index-three-requires g c =
    let at = goal.at.index-three-requires g c in
    let size = c.args.cache.now.steps.ok.0 in
    let w = second g at.Else-two-lt-STRIDE (first g at.Else-one-lt-STRIDE) in
    let inside = in_table _ _ _ (get_or c.args.line.now (c.loop-place.place + 2) 0) c.requires.cache w.row
    (omega (arith, c.type_inv.line (c.loop-place.place + 2))) in
    omega arith

pub index-four-requires : goal.index-four-requires
index-four-requires g c =
    let at = goal.at.index-four-requires g c in
    let size = c.args.cache.now.steps.ok.0 in
    let w = third g at.Else-three-lt-STRIDE (second g at.Else-two-lt-STRIDE (first g at.Else-one-lt-STRIDE)) in
    let inside = in_table _ _ _ (get_or c.args.line.now (c.loop-place.place + 3) 0) c.requires.cache w.row
    (omega (arith, c.type_inv.line (c.loop-place.place + 3))) in
    omega arith

pub loop-place-preserved : goal.loop-place-preserved
loop-place-preserved g c =
    let at = goal.at.loop-place-preserved g c in
    walking_read _ _ _ _ _ (c.loop-place.place + 3) _ _ _ (omega arith) c.requires.built.runs c.requires.cache
    (omega (arith, c.type_inv.line (c.loop-place.place + 3))) (omega (arith, c.loop-place-test.true))
    c.index-four.ensures c.if-four-lt-STRIDE.false
    (third g at.Else-three-lt-STRIDE (second g at.Else-two-lt-STRIDE (first g at.Else-one-lt-STRIDE)))

pub loop-place-2-preserved : goal.loop-place-2-preserved
loop-place-2-preserved g c = walking_read _ _ _ _ _ c.loop-place-2.place _ _ _ (omega arith) c.requires.built.runs
    c.requires.cache (omega (arith, c.type_inv.line c.loop-place-2.place)) (omega (arith, c.loop-place-2-test.true))
    c.index-next.ensures c.if-next-lt-STRIDE.false c.loop-place-2.invariant

pub loop-place-init : goal.loop-place-init
loop-place-init g c =
    record { within = c.requires.from_in; onward = omega arith; row = c.requires.row; stands = λ start le s. s }
