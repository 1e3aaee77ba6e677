use Rattle.std.proofs.Common.{◌≡◌, ◌-◌, ◌+◌, ◌*◌, ◌<◌, ◌≤◌, arith, length, refl, subst, sym}
use Rattle.std.proofs.lemmas.Option.{slice_get-get_or}
use Rattle.pg_match.specs.Steps.{Has}
use Rattle.pg_match.specs.Views.{nfa, members}
use Rattle.pg_match.proofs.StateSetLemmas.{few}
use Rattle.pg_match.proofs.SingleStartLemmas.{ending_none, ending_some, first_on, none_on, visits_step}
use Rattle.pg_match.proofs.VisitLemmas.{told_on}
use Rattle.pg_match.proofs.automaton.Automaton.follow_until_end.Goals as goal

pub returns-then-ending-ne0-clause-run : goal.returns-then-ending-ne0-clause-run
returns-then-ending-ne0-clause-run g c =
    let m = nfa c.args.self.now in
    let l = c.args.line.now in
    let p = c.loop-at.at in
    let lt : p < length l = omega arith in
    let i = c.loop-at.invariant in
    let u = members c.go_on.new.sets.current in
    let ends = ending_some m l (p + 1) c.ending.result u c.ending.ensures (omega (arith, c.if-ending-ne0.true)) in (
      refl,
      omega arith,
      first_on m l c.args.start p _ c.args.self.now.seeds.items (Has (members c.loop-at.sets.current)) (Has u)
          c.requires.built.runs i.stands i.none (omega (arith, c.requires.place)) (slice_get-get_or l p 0 lt) lt
          c.go_on.ensures.goes c.requires.begins ends.0 ends.1,
    )

pub loop-at-preserved : goal.loop-at-preserved
loop-at-preserved g c =
    let m = nfa c.args.self.now in
    let l = c.args.line.now in
    let p = c.loop-at.at in
    let n = length c.args.self.now.states.items in
    let lt : p < length l = omega arith in
    let i = c.loop-at.invariant in
    let u = members c.go_on.new.sets.current in
    let room = c.go_on.ensures.room in
    let fewer = few u room.now in
    let turns : p + 1 - c.args.place ≡ p - c.args.place + 1 = omega arith in
    let more : c.go_on.new.sets.visits ≤ c.loop-at.sets.visits + n =
    omega (arith, c.go_on.ensures.visits, fewer, room.now_size) in
    let on = none_on m l c.args.start p _ c.args.self.now.seeds.items (Has (members c.loop-at.sets.current)) (Has u)
    c.requires.built.runs i.stands i.none (omega (arith, c.requires.place)) (slice_get-get_or l p 0 lt) lt
    c.go_on.ensures.goes (λ h may. ending_none m l (p + 1) c.ending.result u c.ending.ensures
    (omega (arith, c.if-ending-ne0.false)) h may) in
    record {
      room = room;
      stands = on.0;
      none = on.1;
      visits = subst (λ d. c.go_on.new.sets.visits ≤ c.args.sets.now.visits + d * n) (sym turns)
          (visits_step (p - c.args.place) n _ _ _ i.visits more);
      most = omega (arith, more, c.if-sets-size.false);
      told = told_on _ _ _ _ _ _ i.told c.go_on.ensures.told;
    }
