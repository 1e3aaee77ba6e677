use Rattle.std.proofs.Common.{◌∙◌, ◌<◌, arith, refl, sym, subst}
use Rattle.std.specs.Prelude.{None}
use Rattle.pg_pattern.specs.Bounds.{MayBegin, MayEnd}
use Rattle.pg_match.specs.Searches.{Alive, start_bound}
use Rattle.pg_match.specs.Views.{nfa, members}
use Rattle.pg_match.proofs.SearchLemmas.{alive_first, alive_begun, start_later}
use Rattle.pg_match.proofs.StandsLemmas.{begins_first}
use Rattle.pg_match.proofs.StateSetLemmas.{few}
use Rattle.pg_match.proofs.automaton.Automaton.enter.Goals as goal

pub returns-then-from-eq0-clause-alive : goal.returns-then-from-eq0-clause-alive
returns-then-from-eq0-clause-alive g c =
    let m = nfa c.args.self.now in
    let l = c.args.line.now in
    let size = c.clear.ensures.size ∙ c.requires.room.now_size in
    let reached = rw c.deref.ensures.value at c.reach.ensures.reached in
    subst (λ p. Alive m.states l m.start (MayBegin m.bounds l) p (start_bound p) p (members c.reach.new.set) None)
    (sym c.if-from-eq0.true)
    (alive_begun m.states l m.start (MayBegin m.bounds l) (MayEnd m.bounds l) 0 (members c.clear.new.self)
    (members c.reach.new.set) None refl (begins_first m.bounds l) c.clear.ensures.empty size reached)

pub returns-else-from-eq0-clause-alive : goal.returns-else-from-eq0-clause-alive
returns-else-from-eq0-clause-alive g c =
    let m = nfa c.args.self.now in
    let l = c.args.line.now in
    let from = c.args.from in
    let clear = c.clear.ensures in
    let size = clear.size ∙ c.requires.room.now_size in
    let some : 0 < from = omega (arith, c.if-from-eq0.false) in
    subst (λ u. Alive m.states l m.start (MayBegin m.bounds l) from u from (members c.clear.new.self) None)
    (sym (start_later from some))
    (alive_first m.states l m.start (MayBegin m.bounds l) (MayEnd m.bounds l) from (members c.clear.new.self) None
    clear.good clear.empty size)

pub returns-then-from-eq0-clause-visits : goal.returns-then-from-eq0-clause-visits
returns-then-from-eq0-clause-visits g c =
    let reached = rw c.deref.ensures.value at c.reach.ensures.reached in
    let fewer = few (members c.reach.new.set) reached.good in
    omega (arith, fewer, reached.size, c.clear.ensures.size, c.requires.room.now_size)

pub returns-then-from-eq0-clause-told : goal.returns-then-from-eq0-clause-told
returns-then-from-eq0-clause-told g c =
    let reached = rw c.deref.ensures.value at c.reach.ensures.reached in
    omega (arith, reached.counted, c.clear.ensures.empty.0, c.clear.ensures.added)
