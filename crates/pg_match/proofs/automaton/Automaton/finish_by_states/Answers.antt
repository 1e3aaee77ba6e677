use Rattle.pg_match.proofs.automaton.Automaton.finish_by_states.Goals.{then-ending-ne0, else-ending-ne0}
use Rattle.std.proofs.Common.{◌≡◌, ◌-◌, ◌+◌, ◌*◌, ◌<◌, ◌≤◌, arith, length, Some, subst, sym}
use Rattle.std.proofs.lemmas.Option.{slice_get-get_or}
use Rattle.pg_match.specs.Anchored.{IsLongestFrom, IsAnchoredRun}
use Rattle.pg_match.specs.Steps.{Has}
use Rattle.pg_match.specs.Views.{nfa, members}
use Rattle.pg_match.proofs.AnchoredLemmas.{begun_no_more, best_at_end, none_left}
use Rattle.pg_match.proofs.VisitLemmas.{told_on}
use Rattle.pg_match.proofs.StateSetLemmas.{few}
use Rattle.pg_match.proofs.SingleStartLemmas.{ending_none, ending_some, stands_on, anchored_end, anchored_on}
use Rattle.pg_match.proofs.SingleStartLemmas.{visits_small_on, visits_step}
use Rattle.pg_match.proofs.automaton.Automaton.finish_by_states.Goals as goal

pub go_on-requires-clause-visits : goal.go_on-requires-clause-visits
go_on-requires-clause-visits g c =
    let size = c.args.self.now.states.ok.0 in
    let small = visits_small_on (c.loop-place.place - c.args.run.place) (length c.args.self.now.states.items) _ _
    c.loop-place.invariant.visits (omega (arith, c.requires.short)) (omega arith) c.requires.visits in
    omega (arith, small)

pub returns-then-sets-eq0-clause-longest : goal.returns-then-sets-eq0-clause-longest
returns-then-sets-eq0-clause-longest g c =
    let m = nfa c.args.self.now in
    let l = c.args.line.now in
    let s = c.args.run.start in
    let p = c.loop-place.place in
    let lt : p < length l = omega arith in
    let t = c.loop-place.invariant.run in
    let U = Has (members c.go_on.new.sets.current) in
    let stands = stands_on m l s p c.loop-place.last _ c.args.self.now.seeds.items
    (Has (members c.loop-place.sets.current)) U c.requires.built.runs t (slice_get-get_or l p 0 lt) lt
    c.go_on.ensures.goes in
    none_left m l s c.requires.built.runs p (Some c.loop-place.last) U stands
    (λ q h. let f = c.go_on.ensures.room.now.found q h in omega (arith, f.1, c.if-sets-eq0.true)) t.found lt t.begins

pub loop-place-preserved : goal.loop-place-preserved
loop-place-preserved g c =
    let m = nfa c.args.self.now in
    let l = c.args.line.now in
    let s = c.args.run.start in
    let p = c.loop-place.place in
    let n = length c.args.self.now.states.items in
    let lt : p < length l = omega arith in
    let i = c.loop-place.invariant in
    let S = Has (members c.loop-place.sets.current) in
    let u = members c.go_on.new.sets.current in
    let byte = slice_get-get_or l p 0 lt in
    let seeds = c.args.self.now.seeds.items in
    let room = c.go_on.ensures.room in
    let fewer = few u room.now in
    let turns : p + 1 - c.args.run.place ≡ p - c.args.run.place + 1 = omega arith in
    let more : c.go_on.new.sets.visits ≤ c.loop-place.sets.visits + n =
    omega (arith, c.go_on.ensures.visits, fewer, room.now_size) in
    record {
      room = room;
      run = elim c.if-ending-ne0.branch [
        | then-ending-ne0 w ↦
            let ends = ending_some m l (p + 1) c.ending.result u c.ending.ensures
            (omega (arith, w.if-ending-ne0.true)) in
            subst (λ e. IsAnchoredRun m l s (p + 1) e (Has u)) (sym w.last-is)
            (anchored_end m l s p c.loop-place.last _ seeds S (Has u) c.requires.built.runs i.run byte lt
            c.go_on.ensures.goes ends.0 ends.1)
        | else-ending-ne0 w ↦
            subst (λ e. IsAnchoredRun m l s (p + 1) e (Has u)) (sym w.last-is)
            (anchored_on m l s p c.loop-place.last _ seeds S (Has u) c.requires.built.runs i.run byte lt
            c.go_on.ensures.goes
            (λ h may. ending_none m l (p + 1) c.ending.result u c.ending.ensures
            (omega (arith, w.if-ending-ne0.false)) h may))
      ];
      visits = subst (λ d. c.go_on.new.sets.visits ≤ c.args.sets.now.visits + d * n) (sym turns)
          (visits_step (p - c.args.run.place) n _ _ _ i.visits more);
      told = told_on _ _ _ _ _ _ i.told c.go_on.ensures.told;
    }

pub returns-then-hits_at_end-clause-longest : goal.returns-then-hits_at_end-clause-longest
returns-then-hits_at_end-clause-longest g c =
    let m = nfa c.args.self.now in
    let l = c.args.line.now in
    let s = c.args.run.start in
    let t = c.loop-place.invariant.run in
    let end : c.loop-place.place ≡ length l = omega (arith, t.within, c.loop-place-test.false) in
    subst (IsLongestFrom m l s) end
    (best_at_end m l s c.requires.built.runs c.loop-place.place (Has (members c.loop-place.sets.current)) t.stands end
    t.begins (omega (arith, t.found.0, t.found.1, t.within)) c.if-hits_at_end.ensures.answer)

pub returns-else-hits_at_end-clause-longest : goal.returns-else-hits_at_end-clause-longest
returns-else-hits_at_end-clause-longest g c =
    let m = nfa c.args.self.now in
    let l = c.args.line.now in
    let s = c.args.run.start in
    let t = c.loop-place.invariant.run in
    let end : c.loop-place.place ≡ length l = omega (arith, t.within, c.loop-place-test.false) in
    begun_no_more m l s c.requires.built.runs c.loop-place.place (Some c.loop-place.last)
    (Has (members c.loop-place.sets.current)) t.stands t.found end t.begins
    (omega (arith, t.found.0, t.found.1, t.within)) c.if-hits_at_end.ensures.answer
