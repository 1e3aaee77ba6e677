use Rattle.std.proofs.Common.{◌≤◌, arith, refl, inl, inr, subst}
use Rattle.pg_match.specs.Dfas.{In}
use Rattle.pg_match.specs.Steps.{Has}
use Rattle.pg_match.specs.Views.{nfa, members, dfa}
use Rattle.pg_match.proofs.StateSetLemmas.{few}
use Rattle.pg_match.proofs.AnchoredLemmas.{alone_known, alone_marked, told_alone, gone_alone, read_by_none, none_same}
use Rattle.pg_match.proofs.CacheLemmas.{keeps_on, mark_keeps, same_back}
use Rattle.pg_match.proofs.VisitLemmas.{visited}
use Rattle.pg_match.proofs.automaton.Automaton.learn_alone.Goals as goal

pub returns-then-sets-eq0-clause-cache : goal.returns-then-sets-eq0-clause-cache
returns-then-sets-eq0-clause-cache g c =
    let m = nfa c.args.self.now in
    let old = dfa c.args.cache.now in
    let r = c.args.row in
    let b = c.args.byte in
    let S = Has (members c.load.new.set) in
    let u = members c.go_on.new.sets.current in
    let goes = gone_alone m.states c.args.self.now.seeds.items b S (Has u) c.go_on.ensures.goes in
    let none = read_by_none m b S u goes c.go_on.ensures.room.now c.if-sets-eq0.true in
    alone_marked m old (dfa c.mark.new.self) r b 2 c.requires.cache c.mark.ensures.marked c.requires.known
    (omega arith)
    (inr (inl (refl, none_same m b S (In old r) (same_back (In old r) S c.load.ensures.same) none)))

pub returns-in_default-clause-cache : goal.returns-in_default-clause-cache
returns-in_default-clause-cache g c =
    let mid = dfa c.keep_alone.new.cache in
    let more = c.keep_alone.ensures.keeps.more in
    let known = c.requires.known in
    alone_marked (nfa c.args.self.now) mid (dfa c.mark-in_default.new.self) c.args.row c.args.byte 3
    c.keep_alone.ensures.cache c.mark-in_default.ensures.marked (omega arith) (omega arith)
    (inl (omega arith, λ one. omega arith, λ two. omega arith))

pub returns-clause-cache : goal.returns-clause-cache
returns-clause-cache g c =
    let m = nfa c.args.self.now in
    let old = dfa c.args.cache.now in
    let mid = dfa c.keep_alone.new.cache in
    let kept = c.in-Some.ensures in
    let s = members c.load.new.set in
    let u = members c.go_on.new.sets.current in
    let more = c.keep_alone.ensures.keeps.more in
    let known = c.requires.known in
    let goes = gone_alone m.states c.args.self.now.seeds.items c.args.byte (Has s) (Has u) c.go_on.ensures.goes in
    alone_marked m mid (dfa c.mark-2.new.self) c.args.row c.args.byte _ c.keep_alone.ensures.cache
    c.mark-2.ensures.marked (omega arith) (omega arith)
    (told_alone m old mid c.args.row c.args.byte c.in-Some.to _ s u refl kept.known.0 kept.known.1 c.requires.known
    c.keep_alone.ensures.keeps c.load.ensures.same goes kept.same)

pub returns-in_default-clause-keeps : goal.returns-in_default-clause-keeps
returns-in_default-clause-keeps g c =
    let mid = dfa c.keep_alone.new.cache in
    let new = dfa c.mark-in_default.new.self in
    keeps_on (dfa c.args.cache.now) mid new c.keep_alone.ensures.keeps
    (mark_keeps mid new _ _ c.mark-in_default.ensures.marked)

pub returns-clause-keeps : goal.returns-clause-keeps
returns-clause-keeps g c =
    let mid = dfa c.keep_alone.new.cache in
    let new = dfa c.mark-2.new.self in
    keeps_on (dfa c.args.cache.now) mid new c.keep_alone.ensures.keeps
    (mark_keeps mid new _ _ c.mark-2.ensures.marked)

pub returns-then-step-ge-STRIDE-clause-known : goal.returns-then-step-ge-STRIDE-clause-known
returns-then-step-ge-STRIDE-clause-known g c =
    alone_known (nfa c.args.self.now) (dfa c.args.cache.now) c.args.row c.args.byte c.index-step.result.now
    c.requires.cache c.requires.known c.ranges.byte.fits c.index-step.ensures (omega (arith, c.if-step-ge-STRIDE.true))

pub returns-in_default-clause-visits : goal.returns-in_default-clause-visits
returns-in_default-clause-visits g c =
    let u = members c.go_on.new.sets.current in
    let room = c.go_on.ensures.room in
    visited _ _ u.len _ c.go_on.ensures.visits (subst (λ n. u.len ≤ n) room.now_size (few u room.now))

pub returns-clause-visits : goal.returns-clause-visits
returns-clause-visits g c =
    let u = members c.go_on.new.sets.current in
    let room = c.go_on.ensures.room in
    visited _ _ u.len _ c.go_on.ensures.visits (subst (λ n. u.len ≤ n) room.now_size (few u room.now))
