use Rattle.std.proofs.Common.{◌≡◌, ◌<◌, ◌≤◌, ◌+◌, ◌-◌, ◌*◌, ◌^◌, ◌∙◌, ℕ, length, arith, refl, sym, subst, ap}
use Rattle.pg_match.specs.Searches.{judged}
use Rattle.pg_match.specs.Views.{nfa, buffers, members}
use Rattle.pg_match.proofs.StateSetLemmas.{few}
use Rattle.pg_pattern.specs.Bounds.{MayBegin}
use Rattle.pg_match.proofs.SearchLemmas.{Searching, settled, searched, search_over}
use Rattle.pg_match.proofs.SingleStartLemmas.{alive_below, left_alone, visits_less, visits_step}
use Rattle.pg_match.proofs.VisitLemmas.{told_on, visits_until}
use Rattle.pg_match.proofs.automaton.Automaton.find_until.Goals as goal

pub loop-place-init : goal.loop-place-init
loop-place-init g c =
    let room = c.requires.room in
    record {
      search = record {
        alive = c.requires.alive;
        next = room.next;
        next_size = room.next_size;
        so_far = λ s j ge lt past run. absurd (omega (arith, c.requires.place));
      };
      visits = omega arith;
      told = refl;
    }

pub advance-requires-clause-visits : goal.advance-requires-clause-visits
advance-requires-clause-visits g c =
    let size = c.args.self.now.states.ok.0 in
    let small = visits_until c.args.at c.loop-place.place (length c.args.self.now.states.items) _ _ c.requires.visits
    c.loop-place.invariant.visits (omega arith) (omega (arith, c.requires.short)) (omega arith) in
    omega (arith, small)

pub is_alone-requires-clause-visits : goal.is_alone-requires-clause-visits
is_alone-requires-clause-visits g c =
    let size = c.args.self.now.states.ok.0 in
    let small = visits_until c.args.at c.loop-place.place (length c.args.self.now.states.items) _ _ c.requires.visits
    c.loop-place.invariant.visits (omega arith) (omega (arith, c.requires.short)) (omega arith) in
    omega (arith, small)

pub returns-then-is_over-clause-visits : goal.returns-then-is_over-clause-visits
returns-then-is_over-clause-visits g c =
    visits_less (c.loop-place.place - c.args.at) (length c.args.line.now - c.args.at) _ _ _
    c.loop-place.invariant.visits (omega arith)

pub returns-then-is_alone-clause-visits : goal.returns-then-is_alone-clause-visits
returns-then-is_alone-clause-visits g c =
    visits_less (c.loop-place.place - c.args.at) (length c.args.line.now - c.args.at) _ _ _
    c.loop-place.invariant.visits (omega arith)

pub returns-clause-visits : goal.returns-clause-visits
returns-clause-visits g c =
    visits_less (c.loop-place.place - c.args.at) (length c.args.line.now - c.args.at) _ _ _
    c.loop-place.invariant.visits (omega arith)

pub loop-place-preserved : goal.loop-place-preserved
loop-place-preserved g c =
    let m = nfa c.args.self.now in
    let l = c.args.line.now in
    let p = c.loop-place.place in
    let s = buffers c.loop-place.sets in
    let v = buffers c.advance.new.sets in
    let best = c.judge-best.result in
    let short : p < 2 ^ 31 = omega arith in
    let n : ℕ = length m.states in
    let both = settled m l c.args.from p s c.loop-place.best c.requires.built.runs c.loop-place.invariant.search best
    (c.judge-best.ensures ∙ ap (λ k. judged p k c.loop-place.best) c.ending.ensures) in
    let room = c.advance.ensures.room in
    let fewer = few v.current room.now in
    let turns : p + 1 - c.args.at ≡ p - c.args.at + 1 = omega arith in
    let more : c.advance.new.sets.visits ≤ c.loop-place.sets.visits + n =
    omega (arith, c.advance.ensures.visits, fewer, room.now_size) in
    record {
      search = searched m l c.args.from p s v best short (omega arith) both.0 both.1 c.advance.ensures.advanced room;
      visits = subst (λ d. c.advance.new.sets.visits ≤ c.args.sets.now.visits + d * n) (sym turns)
          (visits_step (p - c.args.at) n _ _ _ c.loop-place.invariant.visits more);
      told = told_on _ _ _ _ _ _ c.loop-place.invariant.told c.advance.ensures.told;
    }

pub returns-then-is_over-clause-best : goal.returns-then-is_over-clause-best
returns-then-is_over-clause-best g c =
    let m = nfa c.args.self.now in
    let l = c.args.line.now in
    let p = c.loop-place.place in
    let s = buffers c.loop-place.sets in
    let best = c.judge-best.result in
    let both = settled m l c.args.from p s c.loop-place.best c.requires.built.runs c.loop-place.invariant.search best
    (c.judge-best.ensures ∙ ap (λ k. judged p k c.loop-place.best) c.ending.ensures) in
    search_over m l c.args.from p s.current best c.requires.built.runs both.0 both.1 (c.is_over.ensures (cc))
    (omega arith) (cc)

pub returns-clause-best : goal.returns-clause-best
returns-clause-best g c =
    let m = nfa c.args.self.now in
    let l = c.args.line.now in
    let end : c.loop-place.place ≡ length l = omega arith in
    let search = subst (λ p. Searching m l c.args.from p (buffers c.loop-place.sets) c.loop-place.best) end
    c.loop-place.invariant.search in
    (settled m l c.args.from (length l) (buffers c.loop-place.sets) c.loop-place.best c.requires.built.runs search
    c.judge-last.result (c.judge-last.ensures ∙ ap (λ k. judged (length l) k c.loop-place.best) c.ending-2.ensures)).1

pub advance-requires-clause-below : goal.advance-requires-clause-below
advance-requires-clause-below g c =
    let m = nfa c.args.self.now in
    alive_below m c.args.line.now (MayBegin m.bounds c.args.line.now) c.args.from c.loop-place.place
    (members c.loop-place.sets.current) c.loop-place.best c.loop-place.invariant.search.alive

pub returns-then-is_alone-clause-left : goal.returns-then-is_alone-clause-left
returns-then-is_alone-clause-left g c =
    let m = nfa c.args.self.now in
    let l = c.args.line.now in
    let p = c.loop-place.place in
    let s = buffers c.loop-place.sets in
    let best = c.judge-best.result in
    let both = settled m l c.args.from p s c.loop-place.best c.requires.built.runs c.loop-place.invariant.search best
    (c.judge-best.ensures ∙ ap (λ k. judged p k c.loop-place.best) c.ending.ensures) in
    let is = c.is_alone.ensures.alone c.if-is_alone.true in
    (c.if-place-far.true, left_alone m l c.args.from p s.current best both.0 both.1 (omega arith) is.0 is.1)
